-- The matchers of a session's patterns, made one after another.
use Rattle.std.proofs.Common.{◌≡◌, ℕ, zero, suc, ◌+◌, ◌-◌, ◌<◌, ◌≤◌, List, [], ◌∷◌, ◌++◌, length, length-append, map, drop, get_or, cond, Option, refl, sym, subst, ap, ◌∙◌, arith, append_assoc, append-nil, add-one, drop-cons}
use Rattle.std.specs.Prelude.{count_by, Contains}
use Rattle.std.proofs.Math.ListN.{drop_of_length-le}
use Rattle.std.proofs.lemmas.List.{map-append}
use Rattle.std.proofs.lemmas.List.Sums.{sum_by-cons}
use Rattle.std.proofs.lemmas.List.Elements.{Contains-append_left, Contains-append_right}
use Rattle.std.proofs.lemmas.Option.{slice_get_read}
use Rattle.machine.specs.declared.command.Command.{Command}
use Rattle.machine.specs.declared.command.Script.{Script}
use Rattle.machine.specs.declared.reads.Read.{Read}
use Rattle.machine.specs.declared.reads.Read.TheVariants as read
use Rattle.machine.specs.Answers.{Matches}
use Rattle.machine.specs.Lawful.{is_pattern, reads_in, patterns_in, patterns_of}
use Rattle.buffer_cli.specs.Patterns.{pattern_in, patterns_among, session_patterns, script_patterns, IsPatternAt}
use Rattle.buffer_cli.specs.Making.{IsRefusedAmong, IsRefusedAt}
use Rattle.buffer_cli.proofs.HitLemmas.{patterns_more}

-- ---- one more

-- what was made, what the next gives, and what those behind it give
module _ {X : Type 0} (tells : List ℕ → Option Matches) (patterns : X → List (List ℕ)) (all : List X → List (List ℕ)) (cons : (x : X) (xs : List X) → all (x ∷ xs) ≡ patterns x ++ all xs) where
  pub made_more : (made more first : List (Option Matches)) (xs : List X) (i : ℕ) (x : X) → i < length xs → x ≡ get_or xs i x → more ≡ made ++ map tells (patterns x) → made ++ map tells (all (drop i xs)) ≡ first
      → more ++ map tells (all (drop (i + 1) xs)) ≡ first
  made_more made more first xs i x within at is so_far =
      let rest : drop i xs ≡ x ∷ drop (i + 1) xs = rw add-one (drop-cons xs i x within ∙ ap (λ (y : X). y ∷ drop (suc i) xs) (sym at)) in
      let next : map tells (all (drop i xs)) ≡ map tells (patterns x) ++ map tells (all (drop (i + 1) xs)) =
      ap (λ (ys : List X). map tells (all ys)) rest ∙ (ap (map tells) (cons x (drop (i + 1) xs)) ∙ map-append tells (patterns x) (all (drop (i + 1) xs))) in
      ap (λ (ms : List (Option Matches)). ms ++ map tells (all (drop (i + 1) xs))) is ∙ (append_assoc made (map tells (patterns x)) (map tells (all (drop (i + 1) xs))) ∙ (ap (λ (ms : List (Option Matches)). made ++ ms) (sym next) ∙ so_far))

pub reads_more : (tells : List ℕ → Option Matches) (made more first : List (Option Matches)) (rs : List Read) (i : ℕ) (r : Read) → i < length rs → r ≡ get_or rs i r → more ≡ made ++ map tells (pattern_in r)
    → made ++ map tells (patterns_among (drop i rs)) ≡ first → more ++ map tells (patterns_among (drop (i + 1) rs)) ≡ first
reads_more tells = made_more tells pattern_in patterns_among (λ r rs. refl)

pub commands_more : (tells : List ℕ → Option Matches) (made more first : List (Option Matches)) (cs : List Command) (i : ℕ) (c : Command) → i < length cs → c ≡ get_or cs i c → more ≡ made ++ map tells (patterns_among (reads_in c))
    → made ++ map tells (session_patterns (drop i cs)) ≡ first → more ++ map tells (session_patterns (drop (i + 1) cs)) ≡ first
commands_more tells = made_more tells (λ c. patterns_among (reads_in c)) session_patterns (λ c cs. refl)

-- what was made by a maker that tells what it told at first
pub made_by : (tells first : List ℕ → Option Matches) (made more : List (Option Matches)) (patterns : List (List ℕ)) → tells ≡ first → more ≡ made ++ map tells patterns → more ≡ made ++ map first patterns
made_by tells first made more patterns same is = is ∙ ap (λ (f : List ℕ → Option Matches). made ++ map f patterns) same

-- the last was made
pub all_made : (tells : List ℕ → Option Matches) (made first : List (Option Matches)) (rs : List Read) (i : ℕ) → length rs ≤ i → made ++ map tells (patterns_among (drop i rs)) ≡ first → made ≡ first
all_made tells made first rs i past h = sym (append-nil made) ∙ (ap (λ (xs : List Read). made ++ map tells (patterns_among xs)) (sym (drop_of_length-le rs {i = i} past)) ∙ h)

pub session_made : (tells : List ℕ → Option Matches) (made first : List (Option Matches)) (cs : List Command) (i : ℕ) → length cs ≤ i → made ++ map tells (session_patterns (drop i cs)) ≡ first → made ≡ first
session_made tells made first cs i past h = sym (append-nil made) ∙ (ap (λ (xs : List Command). made ++ map tells (session_patterns xs)) (sym (drop_of_length-le cs {i = i} past)) ∙ h)

-- ---- a pattern that was refused

has_later : (rs : List Read) (i : ℕ) (r : Read) (p : List ℕ) → i < length rs → r ≡ get_or rs i r → Contains (patterns_among (r ∷ [])) p → Contains (patterns_among rs) p
has_later [] i r p within at has = absurd (omega (arith, within))
has_later (s ∷ ss) zero r p within at has =
    let same : r ≡ s = at in
    Contains-append_left (pattern_in s) (patterns_among ss) p (subst (λ (ps : List (List ℕ)). Contains ps p) (append-nil (pattern_in r) ∙ ap pattern_in same) has)
has_later (s ∷ ss) (suc i) r p within at has = Contains-append_right (pattern_in s) (patterns_among ss) p (has_later ss i r p (omega (arith, within)) at has)

pub refused_later : (rs : List Read) (i : ℕ) (r : Read) (last : Option (List ℕ)) → i < length rs → r ≡ get_or rs i r → IsRefusedAmong (r ∷ []) last → IsRefusedAmong rs last
refused_later rs i r last within at h = record { pattern = h.pattern; has = has_later rs i r h.pattern within at h.has; refused = h.refused }

pub refused_at : (cs : List Command) (i : ℕ) (c : Command) (last : Option (List ℕ)) → i < length cs → c ≡ get_or cs i c → IsRefusedAmong (reads_in c) last → IsRefusedAt cs last (i + 1)
refused_at cs i c last within at h = record { before = i; number_is = refl; at = c; stands = slice_get_read cs (length cs) i c refl within at; among = h }

pub place_refused : (script : Script) (cs : List Command) (last : Option (List ℕ)) (number : ℕ) → script.sessions ≡ cs ∷ [] → IsRefusedAt cs last number → IsPatternAt script last 1 number
place_refused script cs last number one h =
    let n : number - 1 ≡ h.before = omega (arith, h.number_is) in
    record {
      counted = (omega arith, omega (arith, h.number_is));
      at = h.at;
      stands = rw (one, n) h.stands;
      pattern = h.among.pattern;
      has = h.among.has;
      refused = h.among.refused;
    }

-- ---- as many matchers as patterns

one_pattern : (r : Read) → length (pattern_in r) ≡ cond (is_pattern r) 1 0
one_pattern (read.Pattern pattern limit) = refl
one_pattern read.Size = refl
one_pattern (read.Text range limit) = refl
one_pattern (read.Find needle limit) = refl
one_pattern (read.Save name encoding) = refl

among_many : (rs : List Read) → length (patterns_among rs) ≡ count_by is_pattern rs
among_many [] = refl
among_many (r ∷ rs) = omega (arith, length-append (pattern_in r) (patterns_among rs), one_pattern r, among_many rs, patterns_more r rs)

pub session_many : (cs : List Command) → length (session_patterns cs) ≡ patterns_of cs
session_many [] = refl
session_many (c ∷ cs) = omega (arith, length-append (patterns_among (reads_in c)) (session_patterns cs), among_many (reads_in c), session_many cs, sum_by-cons patterns_in c cs)

pub script_is : (script : Script) (cs : List Command) → script.sessions ≡ cs ∷ [] → script_patterns script.sessions ≡ session_patterns cs
script_is script cs one = ap script_patterns one ∙ append-nil (session_patterns cs)
