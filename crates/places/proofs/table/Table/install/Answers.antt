use Rattle.std.proofs.Common.{arith, ◌≡◌, ◌∙◌, ◌++◌, ◌∷◌, ◌+◌, [], List, length, sym, ap, subst}
use Rattle.std.specs.Prelude.{vec_len, vec_capacity}
use Rattle.places.specs.declared.placed.Placed.{Placed}
use Rattle.places.specs.Table.{IsTable, IsLowestFree}
use Rattle.places.proofs.CallLemmas.{built, had_room}
use Rattle.places.proofs.TableLemmas.{topped}
use Rattle.places.proofs.table.Table.install.Goals as goal

pub invariant_of-self : goal.invariant_of-self
invariant_of-self g c =
    let t = c.args.self.now in
    let is = subst IsTable c.self.view_is c.self.invariant.0 in
    let room = c.requires.room in
    let long : vec_len c.self.inside.entries ≡ length t = sym c.deref.ensures.len ∙ ap length (c.deref.ensures.value ∙ c.self.view_is) in
    let got = had_room c.push.result c.push.new.self.items _ _ (vec_len c.self.inside.entries) (vec_capacity c.self.inside.entries) c.push.ensures.items c.push.ensures.full (omega (arith, room, long, c.self.invariant.1)) in
    let new = built t c.push.new.self.items c.deref-3.result.now c.deref-2.result.now c.newest-age.result c.lowest_free-place.result c.deeper-depth.result c.args.parent c.args.held
    (c.deref-3.ensures.value ∙ c.self.view_is) (c.deref-2.ensures.value ∙ c.self.view_is) c.newest-age.ensures c.deeper-depth.ensures
    (got ∙ ap (λ l. l ++ record { place = c.lowest_free-place.result; age = c.newest-age.result.age + 1; parent = c.args.parent; depth = c.deeper-depth.result; mask = 0; held = c.args.held } ∷ []) c.self.view_is) in
    let P : List (Placed g.row.X.Denot) → Type 0 = λ u. IsLowestFree u c.lowest_free-place.result in
    let free = subst P (c.deref.ensures.value ∙ c.self.view_is) c.lowest_free-place.ensures in
    (subst IsTable (sym new) (topped t is c.lowest_free-place.result c.args.parent c.args.held free c.requires.live c.requires.shallow), omega (arith, c.push.ensures.capacity, c.self.invariant.1))
