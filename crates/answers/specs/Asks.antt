-- What is asked of a text, and what answers it.
use Rattle.std.specs.Prelude.{◌≡◌, ℕ, ◌-◌, ◌<◌, ◌≤◌, List, [], ◌∷◌, length, map, string_bytes, Option, ⊤}
use Rattle.points.specs.declared.range.Range.{Range}
use Rattle.points.specs.Text.{mended, IsWellFormed}
use Rattle.points.specs.Place.{extent, span}
use Rattle.machine.specs.declared.reads.Encoding.{Encoding}
use Rattle.machine.specs.Machine.{shown, between}
use Rattle.machine.specs.Encodings.{encode}
use Rattle.outer.specs.Count.{Rose}
use Rattle.outer.specs.Sink.{Appends, AppendsPrefix}
use Rattle.outer.specs.Matcher.{ToldHits}
use Rattle.search.specs.Answer.{answer_of, literal_answer, FindsIn}
use Rattle.answers.specs.declared.read.Read.{Read}
use Rattle.answers.specs.declared.read.Read.TheVariants as read
use Rattle.answers.specs.declared.answer.Answer.{Answer}
use Rattle.answers.specs.declared.answer.Answer.TheVariants as answer

-- What a read asks, as plain data. Of a pattern it has the hits that its matcher tells, and of a save what its sink told and how many faults it had
pub data Ask : Type 0 where
  size : Ask
  text : Range → ℕ → Ask
  find : List ℕ → ℕ → Ask
  pattern : Option ToldHits → ℕ → Ask
  save : Encoding → Option (List ℕ) → ℕ → Ask

-- what may be asked of a text: a needle isn't empty, and what is saved is well-formed
abbrev pub CanAsk : List ℕ → Ask → Type 0
CanAsk t size = ⊤
CanAsk t (text range limit) = ⊤
CanAsk t (find needle limit) = 0 < length needle
CanAsk t (pattern told limit) = ⊤
CanAsk t (save encoding had faults) = IsWellFormed t

abbrev pub CanAskAll : List ℕ → List Ask → Type 0
CanAskAll t [] = ⊤
CanAskAll t (a ∷ more) = CanAsk t a × CanAskAll t more

module _ {M K : Type 0} (tells : M → Option ToldHits) (taken : K → Option (List ℕ)) (faults : K → ℕ) where
  abbrev pub ask : Read M K → Ask
  ask read.Size = size
  ask (read.Text range limit) = text range limit
  ask (read.Find needle limit) = find (string_bytes needle) limit
  ask (read.Pattern matcher limit) = pattern (tells matcher) limit
  ask (read.Save encoding sink) = save encoding (taken sink) (faults sink)

module _ {K : Type 0} (taken : K → Option (List ℕ)) (faults : K → ℕ) where
  -- the size of the text t, or that there was no memory, which never comes here
  abbrev pub IsSize : List ℕ → Answer K → Type 0
  IsSize t (answer.Size units end) = (units ≡ length t) × (end ≡ extent t)
  IsSize t _ = ⊥

  -- the number of units between two offsets, and the first of them
  abbrev pub IsText : List ℕ → ℕ × ℕ → ℕ → Answer K → Type 0
  IsText t ends limit (answer.Text units first) = (units ≡ ends.1 - ends.0) × (first ≡ shown limit (between t ends.0 ends.1))
  IsText t ends limit answer.NoMemory = ⊤
  IsText t ends limit _ = ⊥

  -- the hits of a literal in the mended text
  abbrev pub IsFound : List ℕ → List ℕ → ℕ → Answer K → Type 0
  IsFound t needle limit (answer.Found f) = answer_of f ≡ literal_answer (mended t) limit needle
  IsFound t needle limit answer.NoMemory = ⊤
  IsFound t needle limit _ = ⊥

  -- the hits of a pattern; where its matcher tells them, just these
  abbrev pub IsMatched : List ℕ → Option ToldHits → ℕ → Answer K → Type 0
  IsMatched t told limit (answer.Found f) = FindsIn told t limit f
  IsMatched t told limit answer.NoMemory = ⊤
  IsMatched t told limit _ = ⊥

  -- The whole encoding was put to the sink, and that many bytes are told; or the sink had a fault since the read was asked, and a part from the front was put
  abbrev pub IsSaved : List ℕ → Encoding → Option (List ℕ) → ℕ → Answer K → Type 0
  IsSaved t encoding had before (answer.Saved bytes sink) = (bytes ≡ length (encode encoding t)) × Appends (encode encoding t) had (taken sink) × (before ≤ faults sink)
  IsSaved t encoding had before (answer.SaveFailed sink) = Rose before (faults sink) × AppendsPrefix (encode encoding t) had (taken sink)
  IsSaved t encoding had before _ = ⊥

  -- the right answer on the text t; for want of memory a search or a part of the text may have none
  abbrev pub IsAnswer : List ℕ → Ask → Answer K → Type 0
  IsAnswer t size a = IsSize t a
  IsAnswer t (text range limit) a = IsText t (span t range.start range.end) limit a
  IsAnswer t (find needle limit) a = IsFound t needle limit a
  IsAnswer t (pattern told limit) a = IsMatched t told limit a
  IsAnswer t (save encoding had before) a = IsSaved t encoding had before a

  -- one right answer for each read, in their order
  abbrev pub AreAnswers : List ℕ → List Ask → List (Answer K) → Type 0
  AreAnswers t [] [] = ⊤
  AreAnswers t (r ∷ rs) (a ∷ more) = IsAnswer t r a × AreAnswers t rs more
  AreAnswers t _ _ = ⊥

-- no memory, for each read
abbrev pub all_refused : {K : Type 0} → List Ask → List (Answer K)
all_refused = map (λ _. answer.NoMemory)
