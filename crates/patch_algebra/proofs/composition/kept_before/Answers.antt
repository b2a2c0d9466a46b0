use Rattle.std.proofs.Common.{◌∙◌, get_or, ap, arith}
use Rattle.points.specs.Place.{offset_of}
use Rattle.patch_algebra.proofs.MergeSteps.{reaches, no_middle, read_at}
use Rattle.patch_algebra.proofs.composition.kept_before.Goals as goal

pub returns : goal.returns
returns c = reaches c.args.middles.now c.args.at c.args.place c.args.units.now c.offset_of.result (get_or c.args.middles.now c.args.at no_middle) (omega arith) (read_at c.args.middles.now c.args.at (omega arith)) (c.offset_of.ensures ∙ ap (offset_of c.args.units.now) c.traversal.ensures)
