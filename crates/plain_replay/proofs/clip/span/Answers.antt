use Rattle.std.proofs.Common.{arith}
use Rattle.points.proofs.ClipLemmas.{clipped_offset_mono, clipped_at}
use Rattle.plain_replay.proofs.clip.span.Goals as goal

pub returns-clause-order : goal.returns-clause-order
returns-clause-order c = let t = c.args.units.now in
    omega (arith, c.clipped_offset-from.ensures, c.clipped_offset-to.ensures, clipped_offset_mono t c.args.range.start c.args.range.end c.args.range.ordered)

pub returns-clause-within : goal.returns-clause-within
returns-clause-within c = omega (arith, c.clipped_offset-to.ensures, (clipped_at c.args.units.now c.args.range.end).within)
