use Rattle.std.proofs.Common.{◌≡◌, ◌<◌, ◌≤◌, ◌+◌, ◌^◌, ◌++◌, ◌∷◌, ap, sym, ◌∙◌, subst, take, drop, length}
use Rattle.splay.specs.Items.{Items, load}
use Rattle.splay.specs.Splay.{items_of, IsSound}
use Rattle.splay.proofs.SplayLemmas.{single_beside, inserted_by, spare_found}
use Rattle.splay.proofs.splay.Splay.insert_at.Goals as goal

pub insert-requires : goal.insert-requires
insert-requires g c =
    let v : items_of c.self.inside.store c.self.inside.root ≡ c.args.self.now.items = ap (λ (k : Items g.row.M.Denot g.row.V.Denot). k.items) c.self.view_is in
    single_beside g.M.Measure.unit g.M.Measure.add g.M.Measure.weight c.self.inside.store c.occupy.new.store c.self.inside.root c.self.inside.free c.self.inside.spare c.in-Ok.slot.at c.in-Ok.slot.free c.args.measure c.args.value c.self.invariant (subst (λ xs. length xs < 16777216) (sym v) c.requires.few) (subst (λ xs. load g.M.Measure.weight xs + g.M.Measure.weight c.args.measure ≤ 2 ^ 62) (sym v) c.requires.light) c.in-Ok.ensures.ok

pub invariant_of-self : goal.invariant_of-self
invariant_of-self g c =
    let v : items_of c.self.inside.store c.self.inside.root ≡ c.args.self.now.items = ap (λ (k : Items g.row.M.Denot g.row.V.Denot). k.items) c.self.view_is in
    subst (λ n. IsSound g.M.Measure.unit g.M.Measure.add g.M.Measure.weight c.insert.new.store c.in-Ok.slot.at c.in-Ok.slot.free n) (sym c.saturating_sub-self-inside.ensures)
    (inserted_by g.M.Measure.unit g.M.Measure.add g.M.Measure.weight c.self.inside.store c.occupy.new.store c.insert.new.store c.self.inside.root c.self.inside.free c.self.inside.spare c.in-Ok.slot.at c.in-Ok.slot.free c.args.at c.args.measure c.args.value c.self.invariant (subst (λ xs. c.args.at ≤ length xs) (sym v) c.requires.place) (subst (λ xs. length xs < 16777216) (sym v) c.requires.few) (subst (λ xs. load g.M.Measure.weight xs + g.M.Measure.weight c.args.measure ≤ 2 ^ 62) (sym v) c.requires.light) c.in-Ok.ensures.ok c.insert.ensures).sound

pub returns-in-Ok-clause-ok : goal.returns-in-Ok-clause-ok
returns-in-Ok-clause-ok g c =
    let v : items_of c.self.inside.store c.self.inside.root ≡ c.args.self.now.items = ap (λ (k : Items g.row.M.Denot g.row.V.Denot). k.items) c.self.view_is in
    (inserted_by g.M.Measure.unit g.M.Measure.add g.M.Measure.weight c.self.inside.store c.occupy.new.store c.insert.new.store c.self.inside.root c.self.inside.free c.self.inside.spare c.in-Ok.slot.at c.in-Ok.slot.free c.args.at c.args.measure c.args.value c.self.invariant (subst (λ xs. c.args.at ≤ length xs) (sym v) c.requires.place) (subst (λ xs. length xs < 16777216) (sym v) c.requires.few) (subst (λ xs. load g.M.Measure.weight xs + g.M.Measure.weight c.args.measure ≤ 2 ^ 62) (sym v) c.requires.light) c.in-Ok.ensures.ok c.insert.ensures).items_are ∙ ap (λ xs. take c.args.at xs ++ (c.args.measure, c.args.value) ∷ drop c.args.at xs) v

pub returns-in-Err-clause-spared : goal.returns-in-Err-clause-spared
returns-in-Err-clause-spared g c =
    λ some.
    let n : c.self.inside.spare ≡ c.args.self.now.spare = ap (λ (k : Items g.row.M.Denot g.row.V.Denot). k.spare) c.self.view_is in
    absurd (spare_found g.M.Measure.unit g.M.Measure.add g.M.Measure.weight c.self.inside.store c.self.inside.root c.self.inside.free c.self.inside.spare c.self.invariant (subst (λ k. 1 ≤ k) (sym n) some) c.in-Err.ensures.none_spare)
