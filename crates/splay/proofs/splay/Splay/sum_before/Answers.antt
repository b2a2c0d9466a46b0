use Rattle.std.proofs.Common.{◌≡◌, ◌≤◌, ap, sym, ◌∙◌, subst, take, length}
use Rattle.splay.specs.Items.{Items, total}
use Rattle.splay.specs.Splay.{items_of}
use Rattle.splay.proofs.SplayLemmas.{sound_place, sound_sum}
use Rattle.splay.proofs.splay.Splay.sum_before.Goals as goal

pub sum-requires-clause-tree : goal.sum-requires-clause-tree
sum-requires-clause-tree g c =
    let v : items_of c.self.inside.store c.self.inside.root ≡ c.args.self.now.items = ap (λ (k : Items g.row.M.Denot g.row.V.Denot). k.items) c.self.view_is in
    sound_place g.M.Measure.unit g.M.Measure.add g.M.Measure.weight c.self.inside.store c.self.inside.root c.self.inside.free c.self.inside.spare c.args.at c.self.invariant (subst (λ xs. c.args.at ≤ length xs) (sym v) c.requires)

pub returns : goal.returns
returns g c =
    let v : items_of c.self.inside.store c.self.inside.root ≡ c.args.self.now.items = ap (λ (k : Items g.row.M.Denot g.row.V.Denot). k.items) c.self.view_is in
    sound_sum g.M.Measure.unit g.M.Measure.add g.M.Measure.weight c.self.inside.store c.self.inside.root c.self.inside.free c.self.inside.spare c.args.at c.sum.result c.self.invariant (subst (λ xs. c.args.at ≤ length xs) (sym v) c.requires) c.sum.ensures ∙ ap (λ xs. total g.M.Measure.unit g.M.Measure.add (take c.args.at xs)) v
