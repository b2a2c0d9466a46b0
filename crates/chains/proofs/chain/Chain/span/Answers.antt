use Rattle.std.proofs.Common.{ap, arith}
use Rattle.points.proofs.ClipLemmas.{clipped_offset_mono, clipped_at}
use Rattle.chains.specs.declared.spot.Spot.{Spot}
use Rattle.chains.specs.Layered.{whole_text}
use Rattle.chains.proofs.chain.Chain.span.Goals as goal

pub returns-clause-order : goal.returns-clause-order
returns-clause-order c = let t = whole_text c.args.self.now in
    omega (arith, ap (λ (x : Spot). x.offset) c.clipped_on.ensures, ap (λ (x : Spot). x.offset) c.clipped_on-2.ensures, clipped_offset_mono t c.args.range.start c.args.range.end c.args.range.ordered)

pub returns-clause-within : goal.returns-clause-within
returns-clause-within c = omega (arith, ap (λ (x : Spot). x.offset) c.clipped_on-2.ensures, (clipped_at (whole_text c.args.self.now) c.args.range.end).within)
