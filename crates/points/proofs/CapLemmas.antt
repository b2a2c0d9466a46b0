-- Points that count no further than a greatest number, led on over extents.
use Rattle.std.proofs.Common.{◌≡◌, ℕ, ◌-◌, ◌^◌, ◌<◌, ◌≤◌, ◌||◌, List, length, cond, ltb, min, true, false, arith}
use Rattle.std.proofs.lemmas.Bool.Decides.{nat_tests}
use Rattle.points.specs.declared.point.Point.{Point}
use Rattle.points.specs.declared.limits.TheConstants.{MAX_COORD}
use Rattle.points.specs.Point.{IsWithin, point_le, traverse}
use Rattle.points.specs.Place.{extent}
use Rattle.points.specs.Distance.{is_far, capped, traverse_capped}
use Rattle.points.proofs.PointLemmas.{same_coordinates, at_row_column}
use Rattle.points.proofs.ExtentParts.{extent_within}

-- no further than the farthest point whose coordinates are at most m
abbrev cap : ℕ → Point → Point
cap m p = cond (ltb m p.row) (at_row_column m m) (at_row_column p.row (min p.column m))

cap_over : (m : ℕ) (a e : Point) → 0 < m → cap m (traverse a (cap m e)) ≡ cap m (traverse a e)
cap_over m a e some = same_coordinates (cap m (traverse a (cap m e))) (cap m (traverse a e)) (grind (arith, nat_tests)) (grind (arith, nat_tests))

cap_behind : (m : ℕ) (a e : Point) → 0 < m → cap m (traverse (cap m a) e) ≡ cap m (traverse a e)
cap_behind m a e some = same_coordinates (cap m (traverse (cap m a) e)) (cap m (traverse a e)) (grind (arith, nat_tests)) (grind (arith, nat_tests))

cap_le : (m : ℕ) (a e : Point) → a.row ≤ m → a.column ≤ m → point_le a (cap m (traverse a e)) ≡ true
cap_le m a e rows columns = grind (arith, nat_tests)

cap_far : (m n : ℕ) (p : Point) → n < m → (ltb n (cap m p).row || ltb n (cap m p).column) ≡ (ltb n p.row || ltb n p.column)
cap_far m n p below = grind (arith, nat_tests)

cap_near : (m n : ℕ) (p : Point) → n < m → (ltb n p.row || ltb n p.column) ≡ false → cap m p ≡ p
cap_near m n p below near = same_coordinates (cap m p) p (grind (arith, nat_tests)) (grind (arith, nat_tests))

-- what is led on over an extent may be cut down before
pub capped_over : (a e : Point) → traverse_capped a (capped e) ≡ traverse_capped a e
capped_over a e = cap_over (2 ^ 32 - 1) a e (omega arith)

pub capped_behind : (a e : Point) → traverse_capped (capped a) e ≡ capped (traverse a e)
capped_behind a e = cap_behind (2 ^ 32 - 1) a e (omega arith)

pub point_le-capped : (a e : Point) → a.row ≤ 2 ^ 32 - 1 → a.column ≤ 2 ^ 32 - 1 → point_le a (traverse_capped a e) ≡ true
point_le-capped a e rows columns = cap_le (2 ^ 32 - 1) a e rows columns

-- what passes the greatest coordinate still does so, and what doesn't is as it was
pub far_capped : (p : Point) → is_far (capped p) ≡ is_far p
far_capped p = cap_far (2 ^ 32 - 1) MAX_COORD p (omega arith)

pub near_capped : (p : Point) → is_far p ≡ false → capped p ≡ p
near_capped p near = cap_near (2 ^ 32 - 1) MAX_COORD p (omega arith) near

near_within : (m : ℕ) (p : Point) → IsWithin m p → (ltb m p.row || ltb m p.column) ≡ false
near_within m p within = grind (arith, nat_tests, within.row, within.column)

-- points and extents within the greatest coordinate aren't far
pub is_far-within : (p : Point) → IsWithin MAX_COORD p → is_far p ≡ false
is_far-within p within = near_within MAX_COORD p within

pub capped_extent : (t : List ℕ) → length t ≤ MAX_COORD → capped (extent t) ≡ extent t
capped_extent t short = near_capped (extent t) (is_far-within (extent t) (extent_within t MAX_COORD short))
