use Rattle.std.proofs.Common.{◌≡◌, ℕ, ◌+◌, length, arith, sym, subst}
use Rattle.points.specs.Place.{row_of, row_start}
use Rattle.points.proofs.ExtentLemmas.{feeds}
use Rattle.points.proofs.RowLemmas.{row_end_last}
use Rattle.line_text.proofs.SearchLemmas.{count_kept, end_kept}
use Rattle.line_text.proofs.rows.Rows.end.Goals as goal

pub bounds-self-row : goal.bounds-self-row
bounds-self-row c = let s = c.args.self in omega (arith, count_kept s.units.now s.starts.now s.kept)

pub overflow_sub-result : goal.overflow_sub-result
overflow_sub-result c = let s = c.args.self in omega (arith, end_kept s.units.now s.starts.now s.kept c.args.row (omega arith))

pub returns-then-row-last : goal.returns-then-row-last
returns-then-row-last c = let s = c.args.self in omega (arith, end_kept s.units.now s.starts.now s.kept c.args.row (omega arith))

pub returns-else-row-last : goal.returns-else-row-last
returns-else-row-last c = let s = c.args.self in
    let last : feeds s.units.now ≡ c.args.row = omega arith in
    sym (subst (λ (r : ℕ). row_start s.units.now r + length (row_of s.units.now r) ≡ length s.units.now) last (row_end_last s.units.now))
