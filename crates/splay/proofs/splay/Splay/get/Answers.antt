use Rattle.std.proofs.Common.{◌≡◌, ap, ◌∙◌, slice_get}
use Rattle.splay.specs.Items.{Items}
use Rattle.splay.specs.Splay.{items_of}
use Rattle.splay.proofs.SplayLemmas.{sound_item}
use Rattle.splay.proofs.splay.Splay.get.Goals as goal

pub returns : goal.returns
returns g c =
    let v : items_of c.self.inside.store c.self.inside.root ≡ c.args.self.now.items = ap (λ (k : Items g.row.M.Denot g.row.V.Denot). k.items) c.self.view_is in
    sound_item g.M.Measure.unit g.M.Measure.add g.M.Measure.weight c.self.inside.store c.self.inside.root c.self.inside.free c.self.inside.spare c.args.at _ c.self.invariant c.item.ensures ∙ ap (λ xs. slice_get xs c.args.at) v
