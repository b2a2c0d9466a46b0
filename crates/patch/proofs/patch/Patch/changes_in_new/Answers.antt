use Rattle.std.proofs.Common.{◌∙◌, List, ap, sym, subst, rules, tests, not, ◌&&◌}
use Rattle.std.proofs.lemmas.List.Sorted.{IsPartitionPoint-from_clause}
use Rattle.points.specs.Point.{origin, point_le}
use Rattle.patch.specs.Hunk.{Hunk, hunk_of}
use Rattle.patch.specs.ChangeList.{IsPatch}
use Rattle.patch.specs.LookUp.{changes_in_new}
use Rattle.patch.proofs.SortLemmas.{starts_partitioned, ends_partitioned, touching_between, new_start_of, new_end_of, new_chain}
use Rattle.patch.proofs.SearchLemmas.{run_found_in}
use Rattle.patch.proofs.patch.Patch.changes_in_new.Goals as goal

pub returns : goal.returns
returns c = let cs = c.as_slice-changes.result.now in let seen = c.as_slice-changes.ensures.changes in let chain = new_chain cs (subst IsPatch (sym seen) c.as_slice-changes.ensures.kept) in
    run_found_in hunk_of (λ h. point_le h.new_start c.args.range.end && point_le c.args.range.start h.new_end) cs c.partition_point-first.result c.partition_point-stop.result c.run_between.result
    (touching_between new_start_of new_end_of c.args.range.start c.args.range.end cs c.partition_point-first.result c.partition_point-stop.result c.partition_point-first.ensures.bound c.partition_point-stop.ensures.bound
    (IsPartitionPoint-from_clause (λ change. not (point_le c.args.range.start (new_end_of change))) cs _ c.partition_point-first.ensures.partitioned (ends_partitioned new_start_of new_end_of origin c.args.range.start cs chain) (λ a r f k. search (rules, tests)))
    (IsPartitionPoint-from_clause (λ change. point_le (new_start_of change) c.args.range.end) cs _ c.partition_point-stop.ensures.partitioned (starts_partitioned new_start_of new_end_of origin c.args.range.end cs chain) (λ a r f k. search (rules, tests))))
    c.run_between.ensures.first c.run_between.ensures.count ∙ ap (λ (hs : List Hunk). changes_in_new hs c.args.range.start c.args.range.end) seen
