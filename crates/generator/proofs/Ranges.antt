-- A range is its two ends.
use Rattle.std.proofs.Common.{◌≡◌, ℕ, ◌+◌, true, ap, subst, refl}
use Rattle.std.proofs.Math.Bool.{Bool-set}
use Rattle.std.proofs.Math.Nat.{le-add_right}
use Rattle.points.specs.declared.point.Point.{Point}
use Rattle.points.specs.declared.range.Range.{Range}
use Rattle.points.specs.Point.{point_le}
use Rattle.points.proofs.PointLemmas.{point_le_columns}
use Rattle.generator.specs.Generator.{in_row}

own_ends : (r : Range) (h : point_le r.start r.end ≡ true) → r ≡ record { start = r.start; end = r.end; ordered = h }
own_ends r h = ap (λ (g : point_le r.start r.end ≡ true). record r { ordered = g }) (Bool-set (point_le r.start r.end) true r.ordered h)

both_ends : (r : Range) (start end : Point) → r.start ≡ start → r.end ≡ end → (h : point_le start end ≡ true) → r ≡ record { start = start; end = end; ordered = h }
both_ends r start end first last =
    let P : Point → Type 0 = λ s. (h : point_le s r.end ≡ true) → r ≡ record { start = s; end = r.end; ordered = h } in
    let Q : Point → Type 0 = λ e. (h : point_le start e ≡ true) → r ≡ record { start = start; end = e; ordered = h } in
    subst Q last (subst P first (own_ends r))

pub is_in_row : (r : Range) (row column k : ℕ) → r.start ≡ record { row = row; column = column } → r.end ≡ record { row = row; column = column + k } → r ≡ in_row row column k
is_in_row r row column k first last =
    both_ends r (record { row = row; column = column }) (record { row = row; column = column + k }) first last
    (point_le_columns (record { row = row; column = column }) (record { row = row; column = column + k }) refl (le-add_right column k))
