use Rattle.std.proofs.Common.{◌≡◌, ℕ, ◌-◌, length, take, drop, sym, subst, arith}
use Rattle.points.specs.Place.{row_of}
use Rattle.points.proofs.RowLemmas.{row_is}
use Rattle.line_text.proofs.rows.Rows.row.Goals as goal

pub offset_bounds-units-start : goal.offset_bounds-units-start
offset_bounds-units-start c = let s = c.args.self in let row = row_is s.units.now c.args.row c.requires in omega (arith, row.within, s.short)

pub slice_bounds-result-end : goal.slice_bounds-result-end
slice_bounds-result-end c = let s = c.args.self in let row = row_is s.units.now c.args.row c.requires in omega (arith, row.within)

pub returns : goal.returns
returns c = let s = c.args.self in let row = row_is s.units.now c.args.row c.requires in
    let len : length (row_of s.units.now c.args.row) ≡ c.end.result - c.start.result = omega arith in
    subst (λ (n : ℕ). take n (drop c.start.result s.units.now) ≡ row_of s.units.now c.args.row) len
    (subst (λ (n : ℕ). take (length (row_of s.units.now c.args.row)) (drop n s.units.now) ≡ row_of s.units.now c.args.row) (sym c.start.ensures) row.units)
