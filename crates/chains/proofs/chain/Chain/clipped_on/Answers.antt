use Rattle.std.proofs.Common.{◌<◌, subst, ◌∙◌}
use Rattle.points.specs.Place.{extent}
use Rattle.chains.specs.Layered.{whole_text}
use Rattle.chains.specs.Lines.{IsLineAt}
use Rattle.chains.proofs.LineLemmas.{clipped_behind}
use Rattle.chains.proofs.chain.Chain.clipped_on.Goals as goal

pub returns-in-None : goal.returns-in-None
returns-in-None c =
    let past : (extent (whole_text c.args.self.now)).row < c.args.point.row = subst (IsLineAt (whole_text c.args.self.now) c.args.point.row) c.in-None.is c.requires in
    c.end.ensures.value ∙ clipped_behind (whole_text c.args.self.now) c.args.point past
