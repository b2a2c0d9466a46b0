-- The offset at a point, found by counting unit by unit.
use Rattle.std.proofs.Common.{◌≡◌, ℕ, ◌+◌, ◌<◌, ◌≤◌, List, [], ◌∷◌, length, take, get_or, eqb, true, false, Some, None, sym, ap, ◌∙◌, inl, inr, arith}
use Rattle.std.proofs.lemmas.Bool.{eq-eqb, ne_eqb, cases_lt, cases_Bool}
use Rattle.std.proofs.lemmas.List.{take_all, take_more}
use Rattle.points.specs.declared.point.Point.{Point}
use Rattle.points.specs.Point.{traverse}
use Rattle.points.specs.Place.{extent, point_at, offset_of, same_point}
use Rattle.points.proofs.PointLemmas.{same_point-true, same_point-false, traverse_assoc}
use Rattle.points.proofs.ExtentLemmas.{extent-append}
use Rattle.points.proofs.OffsetLemmas.{offset_of-at, offset_of-nowhere, offset_of-some}

pub point_at_more : (t : List ℕ) (i : ℕ) → i < length t → point_at t (i + 1) ≡ traverse (point_at t i) (extent (get_or t i 0 ∷ []))
point_at_more t i within = ap extent (take_more t i 0 within) ∙ extent-append (take i t) (get_or t i 0 ∷ [])

pub led_more : (p : Point) (t : List ℕ) (i : ℕ) → i < length t → traverse (traverse p (extent (take i t))) (extent (get_or t i 0 ∷ [])) ≡ traverse p (extent (take (i + 1) t))
led_more p t i within = traverse_assoc p (extent (take i t)) (extent (get_or t i 0 ∷ [])) ∙ ap (traverse p) (sym (point_at_more t i within))

pub found_at : (t : List ℕ) (reach r : Point) (i : ℕ) → r ≡ point_at t i → i ≤ length t → same_point r reach ≡ true → Some i ≡ offset_of t reach
found_at t reach r i r_is within found = sym (offset_of-at t reach i within (sym r_is ∙ same_point-true r reach found))

pub found_nowhere : (t : List ℕ) (reach r : Point) (i : ℕ) → r ≡ point_at t i → length t ≤ i → ((k : ℕ) → k < i → point_at t k ≡ reach → ⊥) → same_point r reach ≡ false → None ≡ offset_of t reach
found_nowhere t reach r i r_is end none_before apart = sym (offset_of-nowhere t reach (λ k within e. elim (cases_lt k i) [
  | inl lt ↦ none_before k lt e
  | inr ge ↦ same_point-false r reach apart (r_is ∙ (ap (point_at t) (same k within ge) ∙ e))
]))
  where
    same : (k : ℕ) → k ≤ length t → i ≤ k → i ≡ k
    same k within ge = omega arith

-- the whole text reaches just as far where the point is found at its end
pub whole_some : (t : List ℕ) (reach : Point) (at : ℕ) → Some at ≡ offset_of t reach → eqb at (length t) ≡ same_point (extent t) reach
whole_some t reach at found = elim (cases_Bool (same_point (extent t) reach)) [
  | inl yes_at ↦ let e : at ≡ length t = same at (length t) (found ∙ offset_of-at t reach (length t) (omega arith) (ap extent (take_all (length t) t (omega arith)) ∙ same_point-true (extent t) reach yes_at)) in eq-eqb at (length t) e ∙ sym yes_at
  | inr no_at ↦ ne_eqb at (length t) (λ e. absurd (same_point-false (extent t) reach no_at (ap extent (sym (take_all (length t) t (omega arith))) ∙ (ap (point_at t) (sym e) ∙ (offset_of-some t reach at (sym found)).1)))) ∙ sym no_at
]
  where
    same : (x y : ℕ) → Some x ≡ Some y → x ≡ y
    same x y e = cc

pub whole_none : (t : List ℕ) (reach : Point) → None ≡ offset_of t reach → false ≡ same_point (extent t) reach
whole_none t reach nowhere = elim (cases_Bool (same_point (extent t) reach)) [
  | inl yes_at ↦ absurd (never (nowhere ∙ offset_of-at t reach (length t) (omega arith) (ap extent (take_all (length t) t (omega arith)) ∙ same_point-true (extent t) reach yes_at)))
  | inr no_at ↦ sym no_at
]
  where
    never : None ≡ Some (length t) → ⊥
    never e = cc
