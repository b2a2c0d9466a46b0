use Rattle.std.proofs.Common.{◌+◌, ◌∙◌, ℕ, List, Some, sym, ap, arith}
use Rattle.points.specs.Place.{offset_of}
use Rattle.points.proofs.ClipLemmas.{offset_of_row, offset_of_past_rows, offset_of_past_row}
use Rattle.line_text.proofs.text.LineText.offset_of.Goals as goal

pub returns-then-row-last : goal.returns-then-row-last
returns-then-row-last c = sym (offset_of_past_rows c.rows_kept-rows.result.units.now c.args.point (omega arith)) ∙ ap (λ (t : List ℕ). offset_of t c.args.point) c.rows_kept-rows.ensures

pub returns-then-column-end : goal.returns-then-column-end
returns-then-column-end c = sym (offset_of_past_row c.rows_kept-rows.result.units.now c.args.point (omega arith)) ∙ ap (λ (t : List ℕ). offset_of t c.args.point) c.rows_kept-rows.ensures

pub returns : goal.returns
returns c = ap (λ (s : ℕ). Some (s + c.args.point.column)) c.start-start.ensures ∙ sym (offset_of_row c.rows_kept-rows.result.units.now c.args.point.row c.args.point.column (omega arith) (omega arith)) ∙ ap (λ (t : List ℕ). offset_of t c.args.point) c.rows_kept-rows.ensures
