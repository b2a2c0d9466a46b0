use Rattle.std.proofs.Common.{rules, tests, not, arith}
use Rattle.std.proofs.lemmas.Bool.{not-true, not-false}
use Rattle.std.proofs.lemmas.List.Sorted.{IsPartitionPoint-from_clause}
use Rattle.points.specs.Point.{origin, point_le}
use Rattle.patch.proofs.SortLemmas.{ends_partitioned, new_start_of, new_end_of, new_chain}
use Rattle.patch.proofs.JointLemmas.{spliced_past}
use Rattle.patch.proofs.joint.first_reaching.Goals as goal

pub returns-clause-value : goal.returns-clause-value
returns-clause-value c = λ deleted inserted. let cs = c.args.changes.now in
    let found = IsPartitionPoint-from_clause (λ change. not (point_le c.args.start (new_end_of change))) cs _ c.partition_point.ensures.partitioned (ends_partitioned new_start_of new_end_of origin c.args.start cs (new_chain cs c.requires)) (λ a r f k. search (rules, tests)) in
    spliced_past origin origin c.args.start deleted inserted c.partition_point.result cs c.partition_point.ensures.bound (λ k d lt. not-true (point_le c.args.start (new_end_of (Rattle.std.proofs.Common.get_or cs k d))) (found.0 k d (omega arith) lt))

pub returns-clause-reaches : goal.returns-clause-reaches
returns-clause-reaches c = λ within d. let cs = c.args.changes.now in
    let found = IsPartitionPoint-from_clause (λ change. not (point_le c.args.start (new_end_of change))) cs _ c.partition_point.ensures.partitioned (ends_partitioned new_start_of new_end_of origin c.args.start cs (new_chain cs c.requires)) (λ a r f k. search (rules, tests)) in
    not-false (point_le c.args.start (new_end_of (Rattle.std.proofs.Common.get_or cs c.partition_point.result d))) (found.1 c.partition_point.result d (omega arith) within)
