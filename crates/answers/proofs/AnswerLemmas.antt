-- Answers put together in turn.
use Rattle.std.proofs.Common.{◌≡◌, ℕ, ◌-◌, List, [], ◌∷◌, ◌++◌, length, drop, true, sym, ap, ◌∙◌, subst, append_assoc, append-nil, arith}
use Rattle.std.specs.Prelude.{Option}
use Rattle.std.proofs.lemmas.List.{length-take, length-drop}
use Rattle.points.specs.declared.point.Point.{Point}
use Rattle.points.specs.Point.{point_le}
use Rattle.points.specs.Place.{clipped_offset}
use Rattle.points.proofs.ClipLemmas.{clipped_offset_mono, clipped_at}
use Rattle.machine.specs.Machine.{between}
use Rattle.answers.specs.declared.answer.Answer.{Answer}
use Rattle.answers.specs.declared.answer.Answer.TheVariants as answer
use Rattle.answers.specs.Asks.{Ask, CanAsk, CanAskAll, IsAnswer, AreAnswers, all_refused}

-- the units of a clipped range are as many as its ends are apart
pub span_long : (t : List ℕ) (p q : Point) → point_le p q ≡ true → length (between t (clipped_offset t p) (clipped_offset t q)) ≡ clipped_offset t q - clipped_offset t p
span_long t p q order =
    let i : ℕ = clipped_offset t p in
    let j : ℕ = clipped_offset t q in
    omega (arith, length-take (j - i) (drop i t), length-drop i t, clipped_offset_mono t p q order, (clipped_at t q).within)

-- what may be asked of the first, and of the rest
pub first_asked : (t : List ℕ) (left rest : List Ask) (a : Ask) → left ≡ a ∷ rest → CanAskAll t left → CanAsk t a × CanAskAll t rest
first_asked t left rest a is asked = subst (CanAskAll t) is asked

module _ {K : Type 0} (taken : K → Option (List ℕ)) (faults : K → ℕ) (t : List ℕ) where
  -- right answers to what is left to be asked make these right answers to all
  abbrev pub Ahead : List Ask → List Ask → List (Answer K) → Type 0
  Ahead asks left answers = (tail : List (Answer K)) → AreAnswers taken faults t left tail → AreAnswers taken faults t asks (answers ++ tail)

  pub ahead_start : (asks left : List Ask) (answers : List (Answer K)) → left ≡ asks → answers ≡ [] → Ahead asks left answers
  ahead_start asks left answers same none tail right =
      subst (λ (x : List Ask × List (Answer K)). AreAnswers taken faults t x.0 (x.1 ++ tail)) (λ i. (same i, sym none i)) right

  pub ahead_more : (asks left rest : List Ask) (a : Ask) (x : Answer K) (answers new : List (Answer K)) → left ≡ a ∷ rest → Ahead asks left answers → IsAnswer taken faults t a x
      → new ≡ answers ++ x ∷ [] → Ahead asks rest new
  ahead_more asks left rest a x answers new is so_far one new_is tail right =
      let h : AreAnswers taken faults t asks (answers ++ x ∷ tail) = so_far (x ∷ tail) (subst (λ (l : List Ask). AreAnswers taken faults t l (x ∷ tail)) (sym is) (one, right)) in
      subst (λ (l : List (Answer K)). AreAnswers taken faults t asks l) (sym (append_assoc answers (x ∷ []) tail) ∙ ap (λ (l : List (Answer K)). l ++ tail) (sym new_is)) h

  pub ahead_end : (asks left : List Ask) (answers : List (Answer K)) → left ≡ [] → Ahead asks left answers → AreAnswers taken faults t asks answers
  ahead_end asks left answers none so_far =
      subst (λ (l : List (Answer K)). AreAnswers taken faults t asks l) (append-nil answers) (so_far [] (subst (λ (l : List Ask). AreAnswers taken faults t l []) (sym none) tt))

-- the refusals so far and those that are left are all of them
module _ {K : Type 0} where
  abbrev pub Refused : List Ask → List Ask → List (Answer K) → Type 0
  Refused asks left answers = answers ++ all_refused left ≡ all_refused asks

  pub refused_start : (asks left : List Ask) (answers : List (Answer K)) → left ≡ asks → answers ≡ [] → Refused asks left answers
  refused_start asks left answers same none = ap (λ (l : List (Answer K)). l ++ all_refused left) none ∙ ap all_refused same

  pub refused_more : (asks left rest : List Ask) (a : Ask) (answers new : List (Answer K)) → left ≡ a ∷ rest → Refused asks left answers → new ≡ answers ++ answer.NoMemory ∷ [] → Refused asks rest new
  refused_more asks left rest a answers new is so_far new_is =
      ap (λ (l : List (Answer K)). l ++ all_refused rest) new_is ∙ (append_assoc answers (answer.NoMemory ∷ []) (all_refused rest)
      ∙ (ap (λ (l : List Ask). answers ++ all_refused l) (sym is) ∙ so_far))

  pub refused_end : (asks left : List Ask) (answers : List (Answer K)) → left ≡ [] → Refused asks left answers → answers ≡ all_refused asks
  refused_end asks left answers none so_far = sym (append-nil answers) ∙ (ap (λ (l : List Ask). answers ++ all_refused l) (sym none) ∙ so_far)
