use Rattle.std.proofs.Common.{arith}
use Rattle.std.proofs.lemmas.List.Sums.{count_by-le-length}
use Rattle.points.specs.Text.{is_lf}
use Rattle.line_text.proofs.SearchLemmas.{count_kept}
use Rattle.line_text.proofs.rows.Rows.last.Goals as goal

pub returns-clause-value : goal.returns-clause-value
returns-clause-value c = let s = c.args.self in count_kept s.units.now s.starts.now s.kept

pub returns-clause-within : goal.returns-clause-within
returns-clause-within c = let s = c.args.self in omega (arith, count_kept s.units.now s.starts.now s.kept, count_by-le-length is_lf s.units.now)
