use Rattle.std.proofs.Common.{◌∙◌, List, ap, sym, subst, rules, tests}
use Rattle.std.proofs.lemmas.List.Sorted.{IsPartitionPoint-from_clause}
use Rattle.points.specs.Point.{origin, point_le}
use Rattle.patch.specs.Hunk.{Hunk, hunk_of}
use Rattle.patch.specs.ChangeList.{IsPatch}
use Rattle.patch.specs.LookUp.{change_for_new}
use Rattle.patch.proofs.SortLemmas.{starts_partitioned, new_start_of, new_end_of, new_chain}
use Rattle.patch.proofs.SearchLemmas.{last_before}
use Rattle.patch.proofs.patch.Patch.change_for_new.Goals as goal

pub returns : goal.returns
returns c = let cs = c.as_slice-changes.result.now in let seen = c.as_slice-changes.ensures.changes in
    (last_before hunk_of (λ h. point_le h.new_start c.args.point) cs c.partition_point-behind.result c.checked_sub.result c.partition_point-behind.ensures.bound
    (IsPartitionPoint-from_clause (λ change. point_le (new_start_of change) c.args.point) cs _ c.partition_point-behind.ensures.partitioned
    (starts_partitioned new_start_of new_end_of origin c.args.point cs (new_chain cs (subst IsPatch (sym seen) c.as_slice-changes.ensures.kept))) (λ a r f k. search (rules, tests)))
    c.checked_sub.ensures).value ∙ ap (λ (hs : List Hunk). change_for_new hs c.args.point) seen
