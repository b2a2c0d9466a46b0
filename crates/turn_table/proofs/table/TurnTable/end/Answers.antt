use Rattle.std.proofs.Common.{rules, ◌≡◌, Some, [], ◌∷◌, refl, sym, ap, ◌∙◌, subst}
use Rattle.turn_table.specs.declared.view.View.{View}
use Rattle.turn_table.specs.Meaning.{MayFollow}
use Rattle.turn_table.specs.Tokens.{IsDesk}
use Rattle.turn_table.specs.Steps.{joined, Saw}
use Rattle.turn_table.specs.Calls.{Turned, Joined}
use Rattle.turn_table.proofs.JoinLemmas.{joins}
use Rattle.turn_table.proofs.CallLemmas.{ended}
use Rattle.turn_table.proofs.DeskLemmas.{one_head, turned, had}
use Rattle.turn_table.proofs.table.TurnTable.end.Goals as goal

pub join_seat-requires : goal.join_seat-requires
join_seat-requires g c =
    let ev : c.args.into.now.views ≡ c.into_seat-seat.result.me.0 ∷ [] = search rules in
    let dv : IsDesk c.into_seat-seat.result.me.0 = had IsDesk c.args.into.now.views c.into_seat-seat.result.me.0 ev c.requires.desks.1 in
    let dw : IsDesk c.into_seat.result.me.0 = had IsDesk c.args.desk.views c.into_seat.result.me.0 c.into_seat.ensures.2 c.requires.desks.0 in
    (search rules, search rules, search rules, search rules, joins _ _ _ _ _ _ _ _ _ (dv.first ∷ dv.others) (dw.first ∷ dw.others) dv.role dw.role dv.rests dw.rests)

pub see-requires-clause-begun : goal.see-requires-clause-begun
see-requires-clause-begun g c κs within = (refl, refl)

pub returns-clause-joined : goal.returns-clause-joined
returns-clause-joined g c =
    let V = View g.row.O-Told.Denot g.row.O-State.Denot in
    let m = g.O.Object.meaning in
    let legal = MayFollow m g.O.Object.Meets in
    let start = g.O.Object.state c.args.self.now.table.shared.key.object.value in
    let desks = c.args.self.now.table.shared.key.desks in
    let v = c.into_seat-seat.result.me.0 in
    let o = c.into_seat.result.me.0 in
    let w = c.see.new.seat.me.0 in
    let ev : c.args.into.now.views ≡ v ∷ [] = search rules in
    let dv : IsDesk v = had IsDesk c.args.into.now.views v ev c.requires.desks.1 in
    let saw : Saw m legal (Some start) desks (joined v o) w = subst (λ (z : V). Saw m legal (Some start) desks z w) (ap (λ me. me.0) c.join_seat.ensures.2) c.see.ensures.saw in
    let all : Turned (λ (a b : V). Joined m legal start desks a o b) c.args.into.now.views c.into_badge.result.views =
    turned (λ (a b : V). Joined m legal start desks a o b) c.args.into.now.views c.into_badge.result.views v w ev c.into_badge.ensures.2 (ended m legal start desks (Some start) v o w refl dv.rests saw) in
    λ other e. subst (λ (z : V). Turned (λ (a b : V). Joined m legal start desks a z b) c.args.into.now.views c.into_badge.result.views) (one_head o other (sym c.into_seat.ensures.2 ∙ e)) all
