use Rattle.std.proofs.Common.{refl, sym, ap, ◌∙◌, subst, Some}
use Rattle.turn_table.specs.Meaning.{MayFollow}
use Rattle.turn_table.specs.Turns.{IsDecidable}
use Rattle.turn_table.specs.Steps.{decided}
use Rattle.turn_table.proofs.HoldLemmas.{Holds, holds_of, hand_of, table_of, decidable, played, lets}
use Rattle.turn_table.proofs.table.TurnTable.play.Goals as goal

pub decide-requires-clause-entry : goal.decide-requires-clause-entry
decide-requires-clause-entry g c κs within = refl

pub decide-requires-clause-may : goal.decide-requires-clause-may
decide-requires-clause-may g c κs within =
    let m = g.O.Object.meaning in
    let h = c.play-result.new.turn.seat.me.0 in
    let v = c.args.seat.me.0 in
    let x = g.O.Object.state c.args.object.now in
    let held : Holds m x v h = holds_of m c.args.self.now.table.shared.table_id x (g.O.Object.given c.in-Ok.reply) v h c.requires.held c.in-Ok.ensures.hand in
    subst (λ (q : g.row.O-Call.Denot). IsDecidable m (MayFollow m g.O.Object.Meets) (Some (g.O.Object.told q c.in-Ok.reply)) (g.O.Object.back q) h) (sym c.of-asked.ensures)
    (decidable m (MayFollow m g.O.Object.Meets) (g.O.Object.told c.args.call) c.in-Ok.reply (g.O.Object.back c.args.call) x (g.O.Object.state c.play-result.new.self) v h c.requires.may held c.in-Ok.ensures.ok.0 c.in-Ok.ensures.ok.1 c.in-Ok.ensures.outs)

pub returns-in-Ok-clause-lets : goal.returns-in-Ok-clause-lets
returns-in-Ok-clause-lets g c =
    let m = g.O.Object.meaning in
    let h = c.play-result.new.turn.seat.me.0 in
    let v = c.args.seat.me.0 in
    let x = g.O.Object.state c.args.object.now in
    let held : Holds m x v h = holds_of m c.args.self.now.table.shared.table_id x (g.O.Object.given c.in-Ok.reply) v h c.requires.held c.in-Ok.ensures.hand in
    lets m (g.O.Object.back c.args.call) (g.O.Object.told c.args.call c.in-Ok.reply) x (g.O.Object.state c.play-result.new.self) v h c.decide.new.seat.me.0 held c.in-Ok.ensures.ok.1 c.in-Ok.ensures.outs
    (ap (λ me. me.0) c.decide.ensures.entry ∙ ap (λ (q : g.row.O-Call.Denot). decided m (g.O.Object.back q) (g.O.Object.told q c.in-Ok.reply) h) c.of-asked.ensures)

pub returns-in-Ok-clause-ok : goal.returns-in-Ok-clause-ok
returns-in-Ok-clause-ok g c =
    let m = g.O.Object.meaning in
    let h = c.play-result.new.turn.seat.me.0 in
    let v = c.args.seat.me.0 in
    let x = g.O.Object.state c.args.object.now in
    let table = c.args.self.now.table.shared.table_id in
    let given = g.O.Object.given c.in-Ok.reply in
    let held : Holds m x v h = holds_of m table x given v h c.requires.held c.in-Ok.ensures.hand in
    played m (MayFollow m g.O.Object.Meets) (g.O.Object.back c.args.call) _ (g.O.Object.told c.args.call c.in-Ok.reply) x v h c.decide.new.seat.me.0 held c.in-Ok.ensures.ok.0
    (ap (λ me. me.0) c.decide.ensures.entry ∙ ap (λ (q : g.row.O-Call.Denot). decided m (g.O.Object.back q) (g.O.Object.told q c.in-Ok.reply) h) c.of-asked.ensures)
    (hand_of m table x given v h c.in-Ok.ensures.hand)

pub returns-in-Ok-clause-given : goal.returns-in-Ok-clause-given
returns-in-Ok-clause-given g c =
    table_of g.O.Object.meaning c.args.self.now.table.shared.table_id (g.O.Object.state c.args.object.now) (g.O.Object.given c.in-Ok.reply) c.args.seat.me.0 c.play-result.new.turn.seat.me.0 c.in-Ok.ensures.hand
