use Rattle.std.proofs.Common.{sym, ◌∙◌}
use Rattle.points.specs.Marks.{touches, is_inside, overlaps, surrounds}
use Rattle.points.proofs.MarkListLemmas.{length-ids_where}
use Rattle.plain_replay.proofs.MoveLemmas.{same_counts}
use Rattle.plain_replay.proofs.movement.hit_counts.Goals as goal

pub returns : goal.returns
returns c = let ms = c.args.marks.now in let s = c.args.splice in same_counts _ _ _ _ _ _ _ _
    (c.touched.ensures ∙ sym (length-ids_where (touches s) ms)) (c.inside.ensures ∙ sym (length-ids_where (is_inside s) ms))
    (c.overlapped.ensures ∙ sym (length-ids_where (overlaps s) ms)) (c.surrounded.ensures ∙ sym (length-ids_where (surrounds s) ms))
