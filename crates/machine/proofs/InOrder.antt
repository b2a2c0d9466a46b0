-- A list that rises strictly and has each of the numbers 1 to N once has them in this order.
use Rattle.std.proofs.Common.{◌≡◌, ℕ, zero, suc, ◌+◌, ◌-◌, ◌<◌, ◌≤◌, List, [], ◌∷◌, length, get_or, Bool, true, false, cond, eqb, refl, sym, subst, arith, zero-add, inl, inr}
use Rattle.std.specs.Prelude.{count_by, ◌==◌}
use Rattle.std.specs.List.Sorted.{IsStrictlyIncreasing}
use Rattle.std.proofs.lemmas.Bool.{cases_lt, eqb-true}
use Rattle.std.proofs.lemmas.List.Sums.{sum_by-cons}

-- where the number m stands in a list
pub record Place (ns : List ℕ) (m : ℕ) : Type 0 where
  pub at : ℕ
  pub within : at < length ns
  pub is : get_or ns at 0 ≡ m

abbrev pub count_of : List ℕ → ℕ → ℕ
count_of ns m = count_by (λ n. n == m) ns

placed_by : (n : ℕ) (ns : List ℕ) (m : ℕ) (b : Bool) → eqb n m ≡ b → (0 < count_of ns m → Place ns m) → 0 < cond b 1 0 + count_of ns m → Place (n ∷ ns) m
placed_by n ns m true same later h = record { at = 0; within = omega arith; is = eqb-true n m same }
placed_by n ns m false same later h = let p : Place ns m = later (omega (arith, h)) in record { at = suc p.at; within = omega (arith, p.within); is = p.is }

pub placed : (ns : List ℕ) (m : ℕ) → 0 < count_of ns m → Place ns m
placed [] m h = absurd (omega (arith, h))
placed (n ∷ ns) m h = placed_by n ns m (eqb n m) refl (placed ns m) (subst (λ k. 0 < k) (sum_by-cons (λ x. cond (eqb x m) 1 0) n ns) h)

-- along a list that rises strictly, d places further stands a number that is greater by d at least
climbs : (ns : List ℕ) → IsStrictlyIncreasing ns → (i d j : ℕ) → j ≡ i + d → j < length ns → get_or ns i 0 + d ≤ get_or ns j 0
climbs ns rises i zero j e h = let same : i ≡ j = omega (arith, e) in subst (λ k. get_or ns i 0 + 0 ≤ get_or ns k 0) same (omega arith)
climbs ns rises i (suc d) j e h =
    let before : get_or ns i 0 + d ≤ get_or ns (i + d) 0 = climbs ns rises i d (i + d) refl (omega (arith, e, h)) in
    let last : get_or ns (i + d) 0 < get_or ns (i + d + 1) 0 = rises (i + d) (omega (arith, e, h)) in
    let same : i + d + 1 ≡ j = omega (arith, e) in
    subst (λ k. get_or ns i 0 + suc d ≤ get_or ns k 0) same (omega (arith, before, last))

-- the places of the numbers 1 to N
abbrev pub Each : List ℕ → Type 0
Each ns = (n : ℕ) → n < length ns → Place ns (n + 1)

-- no number stands behind a greater one
ahead_of : (ns : List ℕ) → IsStrictlyIncreasing ns → (a b : ℕ) → a < length ns → b < length ns → get_or ns a 0 < get_or ns b 0 → a < b
ahead_of ns rises a b within within' less = elim (cases_lt a b) [
  | inl before ↦ before
  | inr behind ↦ absurd (omega (arith, less, climbs ns rises b (a - b) a (omega (arith, behind)) within))
]

-- the places climb as the numbers do
places_climb : (ns : List ℕ) → IsStrictlyIncreasing ns → (each : Each ns) → (n m k : ℕ) → k ≡ n + m → (h : n < length ns) → (g : k < length ns) → (each n h).at + m ≤ (each k g).at
places_climb ns rises each n zero k e h g = elim (cases_lt (each k g).at (each n h).at) [
  | inl before ↦ absurd (omega (arith, e, (each n h).is, (each k g).is, climbs ns rises (each k g).at ((each n h).at - (each k g).at) (each n h).at (omega (arith, before)) (each n h).within))
  | inr behind ↦ omega (arith, behind)
]
places_climb ns rises each n (suc m) k e h g =
    let within : n + m < length ns = omega (arith, e, g) in
    let before : (each n h).at + m ≤ (each (n + m) within).at = places_climb ns rises each n m (n + m) refl h within in
    let step : (each (n + m) within).at < (each k g).at = ahead_of ns rises _ _ (each (n + m) within).within (each k g).within (omega (arith, e, (each (n + m) within).is, (each k g).is)) in
    omega (arith, before, step)

pub in_order : (ns : List ℕ) → IsStrictlyIncreasing ns → Each ns → (n : ℕ) → n < length ns → get_or ns n 0 ≡ n + 1
in_order ns rises each n h =
    let first : 0 < length ns = omega (arith, h) in
    let last : length ns - 1 < length ns = omega (arith, h) in
    let low : (each 0 first).at + n ≤ (each n h).at = places_climb ns rises each 0 n n (sym (zero-add n)) first h in
    let high : (each n h).at + (length ns - 1 - n) ≤ (each (length ns - 1) last).at = places_climb ns rises each n (length ns - 1 - n) (length ns - 1) (omega (arith, h)) h last in
    let here : (each n h).at ≡ n = omega (arith, low, high, (each (length ns - 1) last).within, h) in
    subst (λ k. get_or ns k 0 ≡ n + 1) here (each n h).is
