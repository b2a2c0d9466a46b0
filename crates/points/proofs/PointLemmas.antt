-- The order of points, and how traverse and traversal keep it and undo each other.
use Rattle.std.proofs.Common.{◌≡◌, ℕ, ◌+◌, ◌<◌, ◌≤◌, ◌⊎◌, true, false, ap, ◌∙◌, arith}
use Rattle.std.proofs.lemmas.Bool.Decides.{nat_tests}
use Rattle.points.specs.declared.point.Point.{Point}
use Rattle.points.specs.Point.{origin, point_le, point_lt, traverse, traversal}
use Rattle.points.specs.Place.{same_point}

abbrev pub at_row_column : ℕ → ℕ → Point
at_row_column r c = record { row = r; column = c }

-- points with equal coordinates are equal
pub same_coordinates : (p q : Point) → p.row ≡ q.row → p.column ≡ q.column → p ≡ q
same_coordinates p q rows columns = ap (λ (r : ℕ). at_row_column r p.column) rows ∙ ap (λ (c : ℕ). at_row_column q.row c) columns

pub same_point-true : (p q : Point) → same_point p q ≡ true → p ≡ q
same_point-true p q h = same_coordinates p q (grind (arith, nat_tests)) (grind (arith, nat_tests))

pub same_point-refl : (p : Point) → same_point p p ≡ true
same_point-refl p = grind (arith, nat_tests)

pub same_point-false : (p q : Point) → same_point p q ≡ false → p ≡ q → ⊥
same_point-false p q h e = grind (arith, nat_tests)

-- the order, in coordinates
pub point_le_rows : (p q : Point) → p.row < q.row → point_le p q ≡ true
point_le_rows p q h = grind (arith, nat_tests)

pub point_le_columns : (p q : Point) → p.row ≡ q.row → p.column ≤ q.column → point_le p q ≡ true
point_le_columns p q e h = grind (arith, nat_tests)

pub point_le_cases : (p q : Point) → point_le p q ≡ true → (p.row < q.row) ⊎ ((p.row ≡ q.row) × (p.column ≤ q.column))
point_le_cases p q h = grind (arith, nat_tests)

pub point_le-refl : (p : Point) → point_le p p ≡ true
point_le-refl p = grind (arith, nat_tests)

pub point_le_trans : (p q r : Point) → point_le p q ≡ true → point_le q r ≡ true → point_le p r ≡ true
point_le_trans p q r a b = grind (arith, nat_tests)

pub point_le_antisym : (p q : Point) → point_le p q ≡ true → point_le q p ≡ true → p ≡ q
point_le_antisym p q a b = same_coordinates p q (grind (arith, nat_tests)) (grind (arith, nat_tests))

pub point_lt_le_trans : (p q r : Point) → point_lt p q ≡ true → point_le q r ≡ true → point_lt p r ≡ true
point_lt_le_trans p q r a b = grind (arith, nat_tests)

pub point_le_lt_trans : (p q r : Point) → point_le p q ≡ true → point_lt q r ≡ true → point_lt p r ≡ true
point_le_lt_trans p q r a b = grind (arith, nat_tests)

pub point_lt_not_le : (p q : Point) → point_lt p q ≡ true → point_le q p ≡ false
point_lt_not_le p q h = grind (arith, nat_tests)

pub point_le-false : (p q : Point) → point_le p q ≡ false → point_lt q p ≡ true
point_le-false p q h = grind (arith, nat_tests)

pub point_lt-false : (p q : Point) → point_lt p q ≡ false → point_le q p ≡ true
point_lt-false p q h = grind (arith, nat_tests)

pub point_le_from_lt : (p q : Point) → point_lt p q ≡ true → point_le p q ≡ true
point_le_from_lt p q h = grind (arith, nat_tests)

pub point_lt_irrefl : (p : Point) → point_lt p p ≡ true → ⊥
point_lt_irrefl p h = grind (arith, nat_tests)

-- an extent leads forward
pub point_lt-traverse : (a b : Point) → 0 < b.row + b.column → point_lt a (traverse a b) ≡ true
point_lt-traverse a b some_extent = grind (arith, nat_tests)

pub point_le-traverse : (a b : Point) → point_le a (traverse a b) ≡ true
point_le-traverse a b = grind (arith, nat_tests)

pub traverse_origin : (a : Point) → traverse a origin ≡ a
traverse_origin a = same_coordinates (traverse a origin) a (grind arith) (grind arith)

pub traverse-origin : (a : Point) → traverse origin a ≡ a
traverse-origin a = same_coordinates (traverse origin a) a (grind (arith, nat_tests)) (grind (arith, nat_tests))

pub traverse_assoc : (a b c : Point) → traverse (traverse a b) c ≡ traverse a (traverse b c)
traverse_assoc a b c = same_coordinates (traverse (traverse a b) c) (traverse a (traverse b c)) (grind (arith, nat_tests)) (grind (arith, nat_tests))

-- traversal and traverse undo each other
pub traverse-traversal : (a b : Point) → point_le b a ≡ true → traverse b (traversal a b) ≡ a
traverse-traversal a b h = same_coordinates (traverse b (traversal a b)) a (grind (arith, nat_tests)) (grind (arith, nat_tests))

pub traversal-traverse : (a b : Point) → traversal (traverse a b) a ≡ b
traversal-traverse a b = same_coordinates (traversal (traverse a b) a) b (grind (arith, nat_tests)) (grind (arith, nat_tests))

-- both keep order
pub traverse_mono : (a b c : Point) → point_le b c ≡ true → point_le (traverse a b) (traverse a c) ≡ true
traverse_mono a b c h = grind (arith, nat_tests)

pub traversal_mono : (a b c : Point) → point_le c a ≡ true → point_le a b ≡ true → point_le (traversal a c) (traversal b c) ≡ true
traversal_mono a b c low high = grind (arith, nat_tests)
