use Rattle.std.proofs.Common.{◌≡◌, ◌≤◌, ◌-◌, ◌∙◌, ℕ, List, length, ap, arith}
use Rattle.points.specs.Place.{point_at, row_start}
use Rattle.points.proofs.PointLemmas.{same_coordinates, at_row_column}
use Rattle.points.proofs.RowLemmas.{in_row}
use Rattle.line_text.proofs.text.LineText.point_at.Goals as goal

within : (c : goal.After-start) → c.args.offset ≤ length c.rows_kept-rows.result.units.now
within c = omega (arith, ap length c.rows_kept-rows.ensures, c.requires)

start_is : (c : goal.After-start) → c.start.result ≡ row_start c.rows_kept-rows.result.units.now (point_at c.rows_kept-rows.result.units.now c.args.offset).row
start_is c = c.start.ensures ∙ ap (row_start c.rows_kept-rows.result.units.now) c.row_at-row.ensures

pub overflow_sub-column : goal.overflow_sub-column
overflow_sub-column c = let at = in_row c.rows_kept-rows.result.units.now c.args.offset (within c) in omega (arith, at.offset, start_is c)

pub returns : goal.returns
returns c = let t = c.rows_kept-rows.result.units.now in let at = in_row t c.args.offset (within c) in
    same_coordinates (at_row_column c.row_at-row.result (c.args.offset - c.start.result)) (point_at t c.args.offset)
    c.row_at-row.ensures (omega (arith, at.offset, start_is c)) ∙ ap (λ (t : List ℕ). point_at t c.args.offset) c.rows_kept-rows.ensures
