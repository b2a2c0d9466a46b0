use Rattle.std.proofs.Common.{ap, ◌∙◌, ◌≡◌}
use Rattle.turn_table.specs.Meaning.{MayFollow}
use Rattle.turn_table.specs.Steps.{let_go}
use Rattle.turn_table.proofs.HoldLemmas.{if_ok, if_err}
use Rattle.turn_table.proofs.CallLemmas.{took_played, looked}
use Rattle.turn_table.proofs.table.TurnTable.turn.Goals as goal

pub returns-clause-ok : goal.returns-clause-ok
returns-clause-ok g c =
    let m = g.O.Object.meaning in
    if_ok _ _ c.play-seat.result.1 c.play-seat.ensures.ok (λ r p. took_played m (MayFollow m g.O.Object.Meets) _ _ (g.O.Object.told c.args.call) r (g.O.Object.back c.args.call) _ _ c.args.seat.me.0 c.begin-object.new.seat.me.0 c.play-seat.result.0.me.0 c.finish.new.seat.me.0
    c.begin-object.ensures.began c.requires.may p (ap (λ me. me.0) c.finish.ensures.rests))

pub returns-clause-err : goal.returns-clause-err
returns-clause-err g c =
    let m = g.O.Object.meaning in
    let w : c.finish.new.seat.me.0 ≡ let_go c.play-seat.result.0.me.0 = ap (λ me. me.0) c.finish.ensures.rests in
    if_err _ _ c.play-seat.result.1 c.play-seat.ensures.err (λ e p. (
      p.0,
      looked m (MayFollow m g.O.Object.Meets) _ _ _ c.args.seat.me.0 c.begin-object.new.seat.me.0 c.finish.new.seat.me.0 c.begin-object.ensures.began
          (ap (λ z. z.seen) w ∙ ap (λ z. z.seen) p.1) (ap (λ z. z.role) w ∙ ap (λ z. z.role) p.1) (ap (λ z. z.holds) w),
    ))
