use Rattle.std.proofs.Common.{◌∙◌, List, ap, sym, subst, rules, tests}
use Rattle.std.proofs.lemmas.List.Sorted.{IsPartitionPoint-from_clause}
use Rattle.points.specs.Point.{origin, point_le}
use Rattle.patch.specs.Hunk.{Hunk, hunk_of}
use Rattle.patch.specs.ChangeList.{IsPatch}
use Rattle.patch.specs.LookUp.{change_for_old}
use Rattle.patch.proofs.SortLemmas.{starts_partitioned, old_start_of, old_end_of, old_chain}
use Rattle.patch.proofs.SearchLemmas.{last_before}
use Rattle.patch.proofs.patch.Patch.change_for_old.Goals as goal

pub returns : goal.returns
returns c = let cs = c.as_slice-changes.result.now in let seen = c.as_slice-changes.ensures.changes in
    (last_before hunk_of (λ h. point_le h.old_start c.args.point) cs c.partition_point-behind.result c.checked_sub.result c.partition_point-behind.ensures.bound
    (IsPartitionPoint-from_clause (λ change. point_le (old_start_of change) c.args.point) cs _ c.partition_point-behind.ensures.partitioned
    (starts_partitioned old_start_of old_end_of origin c.args.point cs (old_chain cs (subst IsPatch (sym seen) c.as_slice-changes.ensures.kept))) (λ a r f k. search (rules, tests)))
    c.checked_sub.ensures).value ∙ ap (λ (hs : List Hunk). change_for_old hs c.args.point) seen
