use Rattle.std.proofs.Common.{leb, rules, tests}
use Rattle.std.proofs.lemmas.List.Sorted.{IsPartitionPoint-from_clause}
use Rattle.line_text.proofs.SearchLemmas.{row_found, starts_partitioned}
use Rattle.line_text.proofs.rows.Rows.row_at.Goals as goal

pub returns : goal.returns
returns c = let s = c.args.self in row_found s.units.now s.starts.now s.kept c.args.offset _ c.requires c.partition_point.ensures.bound
    (IsPartitionPoint-from_clause (λ start. leb start c.args.offset) s.starts.now _ c.partition_point.ensures.partitioned (starts_partitioned s.units.now s.starts.now s.kept c.args.offset) (λ a r f k. search (rules, tests)))
