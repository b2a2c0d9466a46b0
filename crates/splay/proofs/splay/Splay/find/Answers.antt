use Rattle.std.proofs.Common.{◌≡◌, ap, ◌∙◌, subst}
use Rattle.splay.specs.Items.{Items, PassesUpTo}
use Rattle.splay.specs.Splay.{items_of}
use Rattle.splay.proofs.SplayLemmas.{looked}
use Rattle.splay.proofs.splay.Splay.find.Goals as goal

pub invariant_of-self : goal.invariant_of-self
invariant_of-self g c =
    (looked g.M.Measure.unit g.M.Measure.add g.M.Measure.weight c.self.inside.store c.look-found.new.store c.self.inside.root c.self.inside.free c.self.inside.spare c.look-found.result.count c.look-found.result.last (g.S.Seek.passes c.args.seek.now) c.self.invariant c.look-found.ensures).1

pub returns-clause-passes : goal.returns-clause-passes
returns-clause-passes g c =
    let v : items_of c.self.inside.store c.self.inside.root ≡ c.args.self.now.items = ap (λ (k : Items g.row.M.Denot g.row.V.Denot). k.items) c.self.view_is in
    subst (λ xs. PassesUpTo g.M.Measure.unit g.M.Measure.add (g.S.Seek.passes c.args.seek.now) xs c.look-found.result.count) v
    (looked g.M.Measure.unit g.M.Measure.add g.M.Measure.weight c.self.inside.store c.look-found.new.store c.self.inside.root c.self.inside.free c.self.inside.spare c.look-found.result.count c.look-found.result.last (g.S.Seek.passes c.args.seek.now) c.self.invariant c.look-found.ensures).0

pub returns-clause-items : goal.returns-clause-items
returns-clause-items g c =
    (looked g.M.Measure.unit g.M.Measure.add g.M.Measure.weight c.self.inside.store c.look-found.new.store c.self.inside.root c.self.inside.free c.self.inside.spare c.look-found.result.count c.look-found.result.last (g.S.Seek.passes c.args.seek.now) c.self.invariant c.look-found.ensures).2
    ∙ ap (λ (k : Items g.row.M.Denot g.row.V.Denot). k.items) c.self.view_is

pub returns-clause-spare : goal.returns-clause-spare
returns-clause-spare g c = ap (λ (k : Items g.row.M.Denot g.row.V.Denot). k.spare) c.self.view_is
