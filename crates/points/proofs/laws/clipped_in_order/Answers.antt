use Rattle.points.proofs.ClipLemmas.{clip_mono, clipped_offset_mono}
use Rattle.points.proofs.laws.clipped_in_order.Goals as goal

pub returns-clause-points : goal.returns-clause-points
returns-clause-points c = clip_mono c.args.units.now c.args.a c.args.b

pub returns-clause-offsets : goal.returns-clause-offsets
returns-clause-offsets c = clipped_offset_mono c.args.units.now c.args.a c.args.b
