-- What reads of a text answer, where each read of a pattern takes the next matcher.
use Rattle.std.specs.Prelude.{◌≡◌, ℕ, List, [], ◌∷◌, ◌++◌, true, Option, None}
use Rattle.machine.specs.declared.reads.Read.{Read}
use Rattle.machine.specs.declared.reads.ReadAnswer.{ReadAnswer}
use Rattle.machine.specs.Answers.{Matches, read_answer}
use Rattle.machine.specs.Lawful.{answer_has_form, next_told, told_after, IsAsked}
use Rattle.machine.specs.Plain.{plain_answer}

-- the plain machine's answer to a read of the text t that takes no matcher
abbrev pub answer_in : List ℕ → Read → ReadAnswer
answer_in t r = plain_answer (read_answer t None r)

-- The answer to a read of the text t is right, and has its form. What was told of the next matchers is `told` before it and `left` behind it; whatever is told of those
-- behind them plays no part
pub record IsRight (t : List ℕ) (told left : List (Option Matches)) (r : Read) (a : ReadAnswer) : Type 0 where
  pub form : answer_has_form r a ≡ true
  pub right : (more : List (Option Matches)) → IsAsked t (record { told = next_told (told ++ more); read = r; answer = a })
  pub behind : (more : List (Option Matches)) → told_after r (told ++ more) ≡ left ++ more

-- so of each read in turn
abbrev pub AreRight : List ℕ → List (Option Matches) → List (Option Matches) → List Read → List ReadAnswer → Type 0
AreRight t told left [] [] = told ≡ left
AreRight t told left [] (a ∷ more) = ⊥
AreRight t told left (r ∷ rs) [] = ⊥
AreRight t told left (r ∷ rs) (a ∷ more) = (next : List (Option Matches)) × IsRight t told next r a × AreRight t next left rs more
