use Rattle.std.proofs.Common.{◌≡◌, ◌≤◌, ◌^◌, ap, ◌∙◌, subst, length}
use Rattle.splay.specs.Items.{Items, load}
use Rattle.splay.specs.Splay.{items_of}
use Rattle.splay.proofs.SplayLemmas.{sound_count, sound_light}
use Rattle.splay.proofs.splay.Splay.len.Goals as goal

pub returns-clause-value : goal.returns-clause-value
returns-clause-value g c =
    let v : items_of c.self.inside.store c.self.inside.root ≡ c.args.self.now.items = ap (λ (k : Items g.row.M.Denot g.row.V.Denot). k.items) c.self.view_is in
    sound_count g.M.Measure.unit g.M.Measure.add g.M.Measure.weight c.self.inside.store c.self.inside.root c.self.inside.free c.self.inside.spare c.count.result c.self.invariant c.count.ensures ∙ ap length v

pub returns-clause-light : goal.returns-clause-light
returns-clause-light g c =
    let v : items_of c.self.inside.store c.self.inside.root ≡ c.args.self.now.items = ap (λ (k : Items g.row.M.Denot g.row.V.Denot). k.items) c.self.view_is in
    subst (λ xs. load g.M.Measure.weight xs ≤ 2 ^ 62) v (sound_light g.M.Measure.unit g.M.Measure.add g.M.Measure.weight c.self.inside.store c.self.inside.root c.self.inside.free c.self.inside.spare c.self.invariant)
