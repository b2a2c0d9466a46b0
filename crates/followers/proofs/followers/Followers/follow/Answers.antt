use Rattle.std.proofs.Common.{◌≡◌, true, sym, subst, ap, ◌∙◌}
use Rattle.points.specs.declared.limits.TheConstants.{MAX_COORD}
use Rattle.points.specs.declared.mark.Splice.{Splice}
use Rattle.points.specs.declared.mark.Mark.{Mark}
use Rattle.points.specs.Point.{point_le}
use Rattle.points.specs.Marks.{splice_of}
use Rattle.points.specs.MarkList.{SpliceIsWithin, all_moved, hit_counts}
use Rattle.followers.specs.Following.{splice_by}
use Rattle.followers.proofs.SpliceLemmas.{splice_of_change}
use Rattle.followers.proofs.WatchLemmas.{told_watchings}
use Rattle.followers.proofs.followers.Followers.follow.Goals as goal

pub splice_counts-requires : goal.splice_counts-requires
splice_counts-requires g c = subst (λ (s : Splice). SpliceIsWithin MAX_COORD s c.args.self.now.marks) (sym (splice_of_change c.args.change.now _ _ c.requires.start c.traversal.ensures c.traversal-2.ensures)) c.requires.within

pub returns-clause-hits : goal.returns-clause-hits
returns-clause-hits g c = c.splice_counts.ensures.counts ∙ ap (λ (s : Splice). hit_counts s c.args.self.now.marks) (splice_of_change c.args.change.now _ _ c.requires.start c.traversal.ensures c.traversal-2.ensures)

pub returns-clause-marks : goal.returns-clause-marks
returns-clause-marks g c = c.splice_counts.ensures.moved ∙ ap (λ (s : Splice). all_moved s c.args.self.now.marks) (splice_of_change c.args.change.now _ _ c.requires.start c.traversal.ensures c.traversal-2.ensures)

pub returns-clause-watchers : goal.returns-clause-watchers
returns-clause-watchers g c = told_watchings c.args.change.now c.args.self.now.watchers.seats.items c.tell.new.self.seats.items c.tell.ensures.told
