use Rattle.std.proofs.Common.{arith, ◌∙◌}
use Rattle.std.specs.Prelude.{◌==◌}
use Rattle.std.proofs.Math.Seq.{drop-length}
use Rattle.places.proofs.ListLemmas.{unmarked, marked_alone}
use Rattle.places.proofs.marks.kept_places.Goals as goal

pub loop-at-init : goal.loop-at-init
loop-at-init g c = record { within = omega arith; marks = λ p h. rw (drop-length c.args.entries.now) (c.mark.ensures p h ∙ marked_alone (c.args.top == p) _ (unmarked 272 p)) }
