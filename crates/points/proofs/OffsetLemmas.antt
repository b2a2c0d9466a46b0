-- Points and offsets of one text: each offset has its own point, and `offset_of` finds it.
use Rattle.std.proofs.Common.{◌≡◌, ℕ, suc, zero, ◌+◌, ◌<◌, ◌≤◌, List, length, take, drop, find, Some, None, Bool, true, false, refl, sym, ap, ◌∙◌, inl, inr, subst, arith, length-take, length-drop, take-append-drop}
use Rattle.std.specs.List.{range_with_len}
use Rattle.std.proofs.lemmas.List.{take-take, take-append-drop}
use Rattle.std.proofs.lemmas.Bool.{cases_order, cases_eq, cases_Bool}
use Rattle.points.specs.declared.point.Point.{Point}
use Rattle.points.specs.Point.{point_le, point_lt, traverse}
use Rattle.points.specs.Place.{extent, point_at, offset_of, same_point}
use Rattle.points.proofs.ExtentLemmas.{feeds, behind, extent-append, behind_whole}
use Rattle.points.proofs.PointLemmas.{point_lt-traverse, point_lt_irrefl, point_le_from_lt, point_le-refl, same_point-true, same_point-refl}

-- a text that isn't empty has an extent that isn't the origin
some_extent : (t : List ℕ) → 0 < length t → 0 < feeds t + behind t
some_extent t some_units = grind (arith, behind_whole t)

-- the point of a later offset is the earlier one's, led on by the units between them
pub point_at_later : (t : List ℕ) (i j : ℕ) → i ≤ j → point_at t j ≡ traverse (point_at t i) (extent (drop i (take j t)))
point_at_later t i j le = ap extent (sym (take-append-drop i (take j t))) ∙ (extent-append (take i (take j t)) (drop i (take j t)) ∙ ap (λ s. traverse (extent s) (extent (drop i (take j t)))) (take-take i j t le))

pub point_at_lt : (t : List ℕ) (i j : ℕ) → i < j → j ≤ length t → point_lt (point_at t i) (point_at t j) ≡ true
point_at_lt t i j lt within = subst (λ (x : Point). point_lt (point_at t i) x ≡ true) (sym (point_at_later t i j (omega arith))) (point_lt-traverse (point_at t i) (extent (drop i (take j t))) (some_extent (drop i (take j t)) (omega (arith, length-drop i (take j t), length-take j t))))

pub point_at_le : (t : List ℕ) (i j : ℕ) → i ≤ j → j ≤ length t → point_le (point_at t i) (point_at t j) ≡ true
point_at_le t i j le within = elim (cases_order i j) [ inl e ↦ subst (λ (k : ℕ). point_le (point_at t i) (point_at t k) ≡ true) e (point_le-refl (point_at t i)) | inr h ↦ elim h [ inl lt ↦ point_le_from_lt (point_at t i) (point_at t j) (point_at_lt t i j lt within) | inr gt ↦ absurd (omega arith) ] ]

-- each offset has its own point
pub point_at_same : (t : List ℕ) (i j : ℕ) → i ≤ length t → j ≤ length t → point_at t i ≡ point_at t j → i ≡ j
point_at_same t i j i_in j_in e = elim (cases_order i j) [ inl same ↦ same | inr h ↦ elim h [ inl lt ↦ absurd (point_lt_irrefl (point_at t j) (subst (λ (x : Point). point_lt x (point_at t j) ≡ true) e (point_at_lt t i j lt j_in))) | inr gt ↦ absurd (point_lt_irrefl (point_at t j) (subst (λ (x : Point). point_lt (point_at t j) x ≡ true) e (point_at_lt t j i gt i_in))) ] ]

-- the first number from a on that passes, among n
find_range : (q : ℕ → Bool) (a n i : ℕ) → a ≤ i → i < a + n → q i ≡ true → ((k : ℕ) → a ≤ k → k < i → q k ≡ false) → find q (range_with_len a n) ≡ Some i
find_range q a zero i low high yes_at no_below = absurd (omega arith)
find_range q a (suc n) i low high yes_at no_below = elim (cases_eq a i) [
  | inl e ↦ rw (subst (λ (k : ℕ). q k ≡ true) (sym e) yes_at) (ap Some e)
  | inr ne ↦ rw (no_below a (omega arith) (omega arith)) (find_range q (a + 1) n i (omega arith) (omega arith) yes_at (λ k l h. no_below k (omega arith) h))
]

find_range_none : (q : ℕ → Bool) (a n : ℕ) → ((k : ℕ) → a ≤ k → k < a + n → q k ≡ false) → find q (range_with_len a n) ≡ None
find_range_none q a zero no_at = refl
find_range_none q a (suc n) no_at = rw (no_at a (omega arith) (omega arith)) (find_range_none q (a + 1) n (λ k l h. no_at k (omega arith) (omega arith)))

find_range_some : (q : ℕ → Bool) (a n i : ℕ) → find q (range_with_len a n) ≡ Some i → (a ≤ i) × (i < a + n) × (q i ≡ true)
find_range_some q a zero i found = cc
find_range_some q a (suc n) i found = elim (cases_Bool (q a)) [
  | inl y ↦ let e : a ≡ i = some_same a i (rw y at found) in (omega arith, omega arith, subst (λ (k : ℕ). q k ≡ true) e y)
  | inr f ↦ let h = find_range_some q (a + 1) n i (rw f at found) in (omega arith, omega arith, h.2)
]
  where
    some_same : (x y : ℕ) → Some x ≡ Some y → x ≡ y
    some_same x y e = cc

-- `offset_of` gives the one offset with that point, and None where no offset has it
pub offset_of-at : (t : List ℕ) (p : Point) (i : ℕ) → i ≤ length t → point_at t i ≡ p → offset_of t p ≡ Some i
offset_of-at t p i within e = find_range (λ k. same_point (point_at t k) p) 0 (length t + 1) i (omega arith) (omega arith) (subst (λ (x : Point). same_point (point_at t i) x ≡ true) e (same_point-refl (point_at t i)))
    (λ k low lt. elim (cases_Bool (same_point (point_at t k) p)) [ inr f ↦ f | inl y ↦ absurd (apart k lt (same_point-true (point_at t k) p y)) ])
  where
    apart : (k : ℕ) → k < i → point_at t k ≡ p → ⊥
    apart k lt same = let k_is : k ≡ i = point_at_same t k i (omega arith) within (same ∙ sym e) in omega arith

pub offset_of-nowhere : (t : List ℕ) (p : Point) → ((i : ℕ) → i ≤ length t → point_at t i ≡ p → ⊥) → offset_of t p ≡ None
offset_of-nowhere t p nowhere = find_range_none (λ k. same_point (point_at t k) p) 0 (length t + 1)
    (λ k low lt. elim (cases_Bool (same_point (point_at t k) p)) [ inr f ↦ f | inl y ↦ absurd (nowhere k (omega arith) (same_point-true (point_at t k) p y)) ])

pub offset_of-some : (t : List ℕ) (p : Point) (i : ℕ) → offset_of t p ≡ Some i → (i ≤ length t) × (point_at t i ≡ p)
offset_of-some t p i found = let h = find_range_some (λ k. same_point (point_at t k) p) 0 (length t + 1) i found in (omega arith, same_point-true (point_at t i) p h.2)
