use Rattle.std.proofs.Common.{arith, ◌≡◌, ◌∙◌, ◌≤◌, List, false, sym, subst, rules, get_or}
use Rattle.std.specs.Prelude.{filter}
use Rattle.std.proofs.lemmas.Fn.{filter_same}
use Rattle.places.specs.declared.placed.Placed.{Placed}
use Rattle.places.specs.Placed.{is_kept, free_of}
use Rattle.places.specs.Table.{IsTable}
use Rattle.places.proofs.CallLemmas.{pass_keeps}
use Rattle.places.proofs.FindLemmas.{filters_agree}
use Rattle.places.proofs.RoomLemmas.{room}
use Rattle.places.proofs.TableLemmas.{collected}
use Rattle.places.proofs.table.Table.collect.Goals as goal

pub returns-clause-kept : goal.returns-clause-kept
returns-clause-kept g c =
    let t = c.self.inside.entries.items in
    let same = filter_same _ (λ e. get_or c.kept_places-kept.result e.place false) _ (λ x b f k. search rules) _ _ c.retain.ensures.filtered in
    let agree = filters_agree (λ (e : Placed g.row.X.Denot). get_or c.kept_places-kept.result e.place false) (is_kept t) t
    (pass_keeps t c.deref.result.now c.deref-2.result.now c.newest.result c.kept_places-kept.result c.self.invariant.0 c.deref.ensures.value c.deref-2.ensures.value c.newest.ensures c.kept_places-kept.ensures) in
    let P : List (Placed g.row.X.Denot) → Type 0 = λ u. c.retain.new.self.items ≡ filter (is_kept u) u in
    subst P c.self.view_is (same ∙ agree)

pub invariant_of-self : goal.invariant_of-self
invariant_of-self g c =
    let is = subst IsTable c.self.view_is c.self.invariant.0 in
    (subst IsTable (sym (returns-clause-kept g c)) (collected c.args.self.now is), omega (arith, c.retain.ensures.capacity, c.self.invariant.1))

pub returns-clause-room : goal.returns-clause-room
returns-clause-room g c = λ narrow.
    let is = subst IsTable c.self.view_is c.self.invariant.0 in
    let P : List (Placed g.row.X.Denot) → Type 0 = λ u. 8 ≤ free_of u in
    subst P (sym (returns-clause-kept g c)) (room c.args.self.now is narrow)
