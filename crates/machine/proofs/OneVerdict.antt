-- A transcript has one verdict: it is lawful, or it has one first fault.
use Rattle.std.proofs.Common.{◌≡◌, ℕ, ◌+◌, ◌<◌, List, [], ◌∷◌, ◌++◌, refl, sym, ◌∙◌, ap, subst, arith, inl, inr}
use Rattle.std.specs.Prelude.{Option}
use Rattle.std.specs.List.{AllByRecursion}
use Rattle.std.proofs.lemmas.Bool.{cases_lt}
use Rattle.machine.specs.declared.command.Script.{Script}
use Rattle.machine.specs.declared.reply.Transcript.{Transcript}
use Rattle.machine.specs.declared.verdict.Place.{Place}
use Rattle.machine.specs.declared.verdict.Place.TheVariants as place
use Rattle.machine.specs.declared.verdict.Verdict.{Verdict}
use Rattle.machine.specs.declared.verdict.Verdict.TheVariants as verdict
use Rattle.machine.specs.Machine.{State, opened}
use Rattle.machine.specs.Answers.{Matches}
use Rattle.machine.specs.Lawful.{Entry, entries, Taking, IsTakingLawful, IsLawful, CallsAgree}
use Rattle.machine.specs.FirstFault.{IsFirstCall, IsFirstTaking, IsFirstFault, IsVerdict}
use Rattle.machine.specs.Laws.{VerdictIsOne}
use Rattle.machine.proofs.OnlyPlain.{all-right}

-- the first call that fails is no other one
no_lesser : (version : ℕ) (s : State) (es : List Entry) (m n : ℕ) (a : IsFirstCall version s es m) (b : IsFirstCall version s es n) → a.before < b.before → ⊥
no_lesser version s es m n a b less = a.fault (b.agree a.before less)

one_call : (version : ℕ) (s : State) (es : List Entry) (m n : ℕ) → IsFirstCall version s es m → IsFirstCall version s es n → m ≡ n
one_call version s es m n a b = elim (cases_lt a.before b.before) [
  | inl less ↦ absurd (no_lesser version s es m n a b less)
  | inr over ↦ elim (cases_lt b.before a.before) [
    | inl less ↦ absurd (no_lesser version s es n m b a less)
    | inr same ↦ omega (arith, over, same, a.number, b.number)
  ]
]

no_call : (version : ℕ) (s : State) (es : List Entry) (n : ℕ) → CallsAgree version s es → IsFirstCall version s es n → ⊥
no_call version s es n agree a = a.fault (agree a.before a.within)

-- the first item of a list that fails is no other one
one_failing : {X : Type 0} (P : X → Type 0) (front others : List X) (x y : X) (behind rest : List X) → front ++ x ∷ behind ≡ others ++ y ∷ rest
    → AllByRecursion P front → AllByRecursion P others → (P x → ⊥) → (P y → ⊥) → x ≡ y
one_failing P [] [] x y behind rest same p q no_x no_y = cc
one_failing P [] (z ∷ others) x y behind rest same p q no_x no_y = let first : z ≡ x = cc in absurd (no_x (subst P first q.0))
one_failing P (z ∷ front) [] x y behind rest same p q no_x no_y = let first : z ≡ y = cc in absurd (no_y (subst P first p.0))
one_failing P (w ∷ front) (z ∷ others) x y behind rest same p q no_x no_y =
    let tail : front ++ x ∷ behind ≡ others ++ y ∷ rest = cc in one_failing P front others x y behind rest tail p.1 q.1 no_x no_y

abbrev IsGood : State → List Entry → ℕ × Taking → Type 0
IsGood s es x = IsTakingLawful s es x.1

one_taking : (s : State) (es : List Entry) (takings : List (ℕ × Taking)) (j k m n : ℕ) → IsFirstTaking s es takings j k → IsFirstTaking s es takings m n → place.Snapshot j k ≡ place.Snapshot m n
one_taking s es takings j k m n a b =
    let same : (j, a.taking) ≡ (m, b.taking) = one_failing (IsGood s es) a.before b.before (j, a.taking) (m, b.taking) a.behind b.behind (sym a.split ∙ b.split) a.lawful b.lawful a.fault b.fault in
    let sessions : j ≡ m = ap (λ (x : ℕ × Taking). x.0) same in
    let commands : k ≡ n = sym a.at ∙ ap (λ (x : ℕ × Taking). x.1.command) same ∙ b.at in
    ap (λ i. place.Snapshot i k) sessions ∙ ap (λ i. place.Snapshot m i) commands

no_taking : (s : State) (es : List Entry) (takings : List (ℕ × Taking)) (j k : ℕ) → AllByRecursion (λ x. IsTakingLawful s es x.1) takings → IsFirstTaking s es takings j k → ⊥
no_taking s es takings j k all a = a.fault (all-right (IsGood s es) a.before ((j, a.taking) ∷ a.behind) (subst (AllByRecursion (IsGood s es)) a.split all)).0

-- a first fault excludes a lawful transcript
no_fault : (script : Script) (opening : List ℕ) (told : List (Option Matches)) (t : Transcript) (p : Place) → IsLawful script opening told t → IsFirstFault script opening told t p → ⊥
no_fault script opening told t place.Form lawful f = f lawful.form
no_fault script opening told t (place.Call n) lawful f = no_call _ _ _ n lawful.call f.1
no_fault script opening told t (place.Snapshot j k) lawful f = no_taking _ _ _ j k lawful.snapshot f.2
no_fault script opening told t place.End lawful f = f.3 lawful.end

-- of two first faults the earlier kind excludes the later one
one_fault : (script : Script) (opening : List ℕ) (told : List (Option Matches)) (t : Transcript) (p q : Place) → IsFirstFault script opening told t p → IsFirstFault script opening told t q → p ≡ q
one_fault script opening told t place.Form place.Form a b = refl
one_fault script opening told t place.Form (place.Call n) a b = absurd (a b.0)
one_fault script opening told t place.Form (place.Snapshot m n) a b = absurd (a b.0)
one_fault script opening told t place.Form place.End a b = absurd (a b.0)
one_fault script opening told t (place.Call k) place.Form a b = absurd (b a.0)
one_fault script opening told t (place.Call k) (place.Call n) a b = ap (λ i. place.Call i) (one_call _ _ _ k n a.1 b.1)
one_fault script opening told t (place.Call k) (place.Snapshot m n) a b = absurd (no_call _ _ _ k b.1 a.1)
one_fault script opening told t (place.Call k) place.End a b = absurd (no_call _ _ _ k b.1 a.1)
one_fault script opening told t (place.Snapshot j k) place.Form a b = absurd (b a.0)
one_fault script opening told t (place.Snapshot j k) (place.Call n) a b = absurd (no_call _ _ _ n a.1 b.1)
one_fault script opening told t (place.Snapshot j k) (place.Snapshot m n) a b = one_taking _ _ _ j k m n a.2 b.2
one_fault script opening told t (place.Snapshot j k) place.End a b = absurd (no_taking _ _ _ j k b.2 a.2)
one_fault script opening told t place.End place.Form a b = absurd (b a.0)
one_fault script opening told t place.End (place.Call n) a b = absurd (no_call _ _ _ n a.1 b.1)
one_fault script opening told t place.End (place.Snapshot m n) a b = absurd (no_taking _ _ _ m n a.2 b.2)
one_fault script opening told t place.End place.End a b = refl

pub verdict_is_one : VerdictIsOne
verdict_is_one script opening told t verdict.Lawful verdict.Lawful a b = refl
verdict_is_one script opening told t verdict.Lawful (verdict.Unlawful q) a b = absurd (no_fault script opening told t q a b)
verdict_is_one script opening told t (verdict.Unlawful p) verdict.Lawful a b = absurd (no_fault script opening told t p b a)
verdict_is_one script opening told t (verdict.Unlawful p) (verdict.Unlawful q) a b = ap (λ i. verdict.Unlawful i) (one_fault script opening told t p q a b)
