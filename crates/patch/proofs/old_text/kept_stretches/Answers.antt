use Rattle.std.proofs.Common.{◌∙◌, ◌++◌, List, sym, ap, arith}
use Rattle.points.specs.Point.{origin, traversal}
use Rattle.patch.specs.Hunk.{Hunk, hunks_of}
use Rattle.patch.specs.Stretches.{parts_seen, parts_of}
use Rattle.patch.specs.MovedOld.{kept_of}
use Rattle.patch.specs.declared.stretch.Stretch.{Stretch}
use Rattle.patch.proofs.MovedLemmas.{good_at, goes, stays, stretch_more, part_with}
use Rattle.patch.proofs.old_text.kept_stretches.Goals as goal

pub loop-change-init : goal.loop-change-init
loop-change-init c = ap (λ (xs : List Stretch). parts_seen xs ++ parts_of origin (kept_of c.args.start c.args.old_end c.args.new_end (hunks_of c.args.changes.now))) c.in_ok-kept.ensures.items

pub kept_range-requires-clause-near_start : goal.kept_range-requires-clause-near_start
kept_range-requires-clause-near_start c = (good_at c.args.changes.now c.loop-change.change-index c.change-item.result c.requires.patch (omega arith) c.change-item.is).near_start

pub kept_range-requires-clause-near_end : goal.kept_range-requires-clause-near_end
kept_range-requires-clause-near_end c = (good_at c.args.changes.now c.loop-change.change-index c.change-item.result c.requires.patch (omega arith) c.change-item.is).near_end

pub loop-change-preserved-in_default : goal.loop-change-preserved-in_default
loop-change-preserved-in_default c =
    let same = goes c.args.start c.args.old_end c.args.new_end c.args.changes.now c.loop-change.change-index c.change-item.result (omega arith) c.change-item.is c.in_default.ensures.start in
    ap (λ (hs : List Hunk). parts_seen c.loop-change.kept.items ++ parts_of c.loop-change.end hs) (sym same) ∙ c.loop-change.invariant

pub loop-change-preserved : goal.loop-change-preserved
loop-change-preserved c =
    let same = stays c.args.start c.args.old_end c.args.new_end c.args.changes.now c.loop-change.change-index c.change-item.result (omega arith) c.change-item.is c.in-Some.range.start c.in-Some.range.end c.in-Some.ensures.start c.in-Some.range.ordered c.in-Some.ensures.reach c.requires.patch in
    stretch_more c.loop-change.kept.items c.push.new.self.items _ c.loop-change.end c.in-Some.range.end
    (record { kept = traversal c.in-Some.range.start c.loop-change.end; old_text = c.change-item.result.old_text; new_text = c.change-item.result.new_text }) _ _ _
    c.loop-change.invariant (ap (parts_of c.loop-change.end) same)
    (part_with c.traversal.result (traversal c.in-Some.range.start c.loop-change.end) _ _ _ _ c.traversal.ensures c.as_slice.ensures c.as_slice-in-loop-change.ensures) c.in_ok-push.ensures.items
