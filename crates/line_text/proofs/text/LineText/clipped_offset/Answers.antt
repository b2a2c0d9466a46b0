use Rattle.std.proofs.Common.{◌≡◌, ◌+◌, ◌∙◌, ℕ, List, sym, ap, arith}
use Rattle.points.specs.Place.{row_start, line_of, clipped_column, clipped_offset}
use Rattle.points.proofs.ClipLemmas.{clipped_offset_past, clipped_offset_in, clipped_at}
use Rattle.line_text.proofs.text.LineText.clipped_offset.Goals as goal

sum_is : (c : goal.After-clipped_column) → c.start.result + c.clipped_column.result ≡ row_start c.rows_kept-rows.result.units.now c.args.point.row + clipped_column (line_of c.rows_kept-rows.result.units.now c.args.point.row) c.args.point.column
sum_is c = let column = c.clipped_column.ensures ∙ ap (λ (line : List ℕ). clipped_column line c.args.point.column) c.line.ensures in omega (arith, column)

pub returns-then-row-last : goal.returns-then-row-last
returns-then-row-last c = sym (clipped_offset_past c.rows_kept-rows.result.units.now c.args.point (omega arith)) ∙ ap (λ (t : List ℕ). clipped_offset t c.args.point) c.rows_kept-rows.ensures

pub overflow_add-result : goal.overflow_add-result
overflow_add-result c = let rows = c.rows_kept-rows.result in omega (arith, sum_is c, clipped_offset_in rows.units.now c.args.point (omega arith), (clipped_at rows.units.now c.args.point).within, rows.short)

pub returns : goal.returns
returns c = sum_is c ∙ sym (clipped_offset_in c.rows_kept-rows.result.units.now c.args.point (omega arith)) ∙ ap (λ (t : List ℕ). clipped_offset t c.args.point) c.rows_kept-rows.ensures
