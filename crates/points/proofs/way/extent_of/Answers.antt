use Rattle.std.proofs.Common.{◌∙◌}
use Rattle.points.proofs.CapLemmas.{capped_extent}
use Rattle.points.proofs.way.extent_of.Goals as goal

pub returns : goal.returns
returns c = c.extent_capped.ensures ∙ capped_extent c.args.units.now c.requires
