use Rattle.std.proofs.Common.{◌≡◌, ◌<◌, ◌+◌, ◌++◌, Some, ap, sym, ◌∙◌, subst, take, drop, length, slice_get, is_some}
use Rattle.std.proofs.lemmas.Option.{same_Some}
use Rattle.splay.specs.Items.{Items}
use Rattle.splay.specs.Splay.{items_of, IsSound}
use Rattle.splay.proofs.SplayLemmas.{sound_has, removed_by}
use Rattle.splay.specs.declared.change.Removed.{Removed}
use Rattle.splay.proofs.splay.Splay.remove_at.Goals as goal

pub remove-requires : goal.remove-requires
remove-requires g c =
    let v : items_of c.self.inside.store c.self.inside.root ≡ c.args.self.now.items = ap (λ (k : Items g.row.M.Denot g.row.V.Denot). k.items) c.self.view_is in
    sound_has g.M.Measure.unit g.M.Measure.add g.M.Measure.weight c.self.inside.store c.self.inside.root c.self.inside.free c.self.inside.spare c.args.at c.self.invariant (subst (λ xs. c.args.at < length xs) (sym v) c.requires)

pub unwrap-removed-requires : goal.unwrap-removed-requires
unwrap-removed-requires g c =
    let v : items_of c.self.inside.store c.self.inside.root ≡ c.args.self.now.items = ap (λ (k : Items g.row.M.Denot g.row.V.Denot). k.items) c.self.view_is in
    let r = removed_by g.M.Measure.unit g.M.Measure.add g.M.Measure.weight c.self.inside.store c.remove.new.store c.self.inside.root c.self.inside.free c.self.inside.spare c.args.at c.remove.result c.self.invariant (subst (λ xs. c.args.at < length xs) (sym v) c.requires) c.remove.ensures in
    ap is_some r.result_is

pub invariant_of-self : goal.invariant_of-self
invariant_of-self g c =
    let v : items_of c.self.inside.store c.self.inside.root ≡ c.args.self.now.items = ap (λ (k : Items g.row.M.Denot g.row.V.Denot). k.items) c.self.view_is in
    let r = removed_by g.M.Measure.unit g.M.Measure.add g.M.Measure.weight c.self.inside.store c.remove.new.store c.self.inside.root c.self.inside.free c.self.inside.spare c.args.at c.remove.result c.self.invariant (subst (λ xs. c.args.at < length xs) (sym v) c.requires) c.remove.ensures in
    let e = same_Some r.removed c.unwrap-removed.result (sym r.result_is ∙ c.unwrap-removed.ensures) in
    subst (λ (k : Removed g.row.M.Denot g.row.V.Denot). IsSound g.M.Measure.unit g.M.Measure.add g.M.Measure.weight c.remove.new.store k.root k.node (c.self.inside.spare + 1)) e r.sound

pub returns-clause-item : goal.returns-clause-item
returns-clause-item g c =
    let v : items_of c.self.inside.store c.self.inside.root ≡ c.args.self.now.items = ap (λ (k : Items g.row.M.Denot g.row.V.Denot). k.items) c.self.view_is in
    let r = removed_by g.M.Measure.unit g.M.Measure.add g.M.Measure.weight c.self.inside.store c.remove.new.store c.self.inside.root c.self.inside.free c.self.inside.spare c.args.at c.remove.result c.self.invariant (subst (λ xs. c.args.at < length xs) (sym v) c.requires) c.remove.ensures in
    let e = same_Some r.removed c.unwrap-removed.result (sym r.result_is ∙ c.unwrap-removed.ensures) in
    ap (λ xs. slice_get xs c.args.at) (sym v) ∙ r.item_is ∙ ap (λ (k : Removed g.row.M.Denot g.row.V.Denot). Some (k.measure, k.value)) e

pub returns-clause-items : goal.returns-clause-items
returns-clause-items g c =
    let v : items_of c.self.inside.store c.self.inside.root ≡ c.args.self.now.items = ap (λ (k : Items g.row.M.Denot g.row.V.Denot). k.items) c.self.view_is in
    let r = removed_by g.M.Measure.unit g.M.Measure.add g.M.Measure.weight c.self.inside.store c.remove.new.store c.self.inside.root c.self.inside.free c.self.inside.spare c.args.at c.remove.result c.self.invariant (subst (λ xs. c.args.at < length xs) (sym v) c.requires) c.remove.ensures in
    let e = same_Some r.removed c.unwrap-removed.result (sym r.result_is ∙ c.unwrap-removed.ensures) in
    ap (λ (k : Removed g.row.M.Denot g.row.V.Denot). items_of c.remove.new.store k.root) (sym e) ∙ r.items_are ∙ ap (λ xs. take c.args.at xs ++ drop (c.args.at + 1) xs) v
