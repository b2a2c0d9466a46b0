use Rattle.std.proofs.Common.{ap, ◌∙◌}
use Rattle.points.proofs.ClipLemmas.{clipped_at}
use Rattle.chains.specs.declared.spot.Spot.{Spot}
use Rattle.chains.specs.Layered.{whole_text}
use Rattle.chains.proofs.chain.Chain.clip.Goals as goal

pub returns : goal.returns
returns c = ap (λ (x : Spot). x.point) c.clipped.ensures ∙ (clipped_at (whole_text c.args.self.now) c.args.point).point
