use Rattle.std.proofs.Common.{◌∙◌, ap, sym, subst, List, slice_set, arith}
use Rattle.std.proofs.lemmas.List.Edits.{map_over_more}
use Rattle.points.specs.declared.mark.Mark.{Mark}
use Rattle.points.specs.Marks.{moved}
use Rattle.points.specs.MarkList.{MarkIsWithin}
use Rattle.markers.specs.Index.{IsIndex}
use Rattle.markers.proofs.MoveLemmas.{moved_within, moved_whole}
use Rattle.markers.proofs.IndexLemmas.{index-moved}
use Rattle.markers.proofs.movement.move_all.Goals as goal

pub moved-requires : goal.moved-requires
moved-requires c = subst (λ (m : Mark). MarkIsWithin 1073741824 (moved c.args.splice m)) (sym c.index.ensures)
    (moved_within 1073741824 c.args.splice c.args.marks.now.items c.loop-at.marks.items c.loop-at.at c.index.result.now
    (grind (arith, c.loop-at-test.true, c.len-at-end.ensures, c.args.marks.now.ok)) c.loop-at.invariant c.requires.within)

pub loop-at-preserved : goal.loop-at-preserved
loop-at-preserved c = ap (λ (m : Mark). slice_set c.loop-at.marks.items c.loop-at.at m) c.moved.ensures
    ∙ map_over_more (moved c.args.splice) c.args.marks.now.items c.loop-at.marks.items c.loop-at.at c.index.result.now
    (grind (arith, c.loop-at-test.true, c.len-at-end.ensures, c.args.marks.now.ok)) c.loop-at.invariant c.index.ensures

pub returns-clause-index : goal.returns-clause-index
returns-clause-index c = subst (λ (l : List Mark). IsIndex l)
    (sym (moved_whole c.args.splice c.args.marks.now.items c.loop-at.marks.items c.loop-at.at
    (grind (arith, c.loop-at-test.false, c.len-at-end.ensures, c.args.marks.now.ok)) c.loop-at.invariant))
    (index-moved c.args.splice c.args.marks.now.items c.requires.old_end c.requires.new_end c.requires.index)
