use Rattle.std.proofs.Common.{arith}
use Rattle.line_text.proofs.SearchLemmas.{count_kept, start_behind_first}
use Rattle.line_text.proofs.rows.Rows.start.Goals as goal

pub bounds-self-row : goal.bounds-self-row
bounds-self-row c = let s = c.args.self in omega (arith, count_kept s.units.now s.starts.now s.kept)

pub returns-else-row-eq0 : goal.returns-else-row-eq0
returns-else-row-eq0 c = let s = c.args.self in start_behind_first s.units.now s.starts.now s.kept c.args.row (omega arith) c.requires
