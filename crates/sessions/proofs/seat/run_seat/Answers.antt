use Rattle.std.proofs.Common.{subst, List, map, ap}
use Rattle.std.specs.Prelude.{IfOk}
use Rattle.machine.specs.declared.command.Command.{Command}
use Rattle.turn_table.specs.Calls.{Turned}
use Rattle.sessions.specs.Running.{IsRun}
use Rattle.sessions.proofs.SeatLemmas.{err_only, ok_only}
use Rattle.sessions.proofs.seat.run_seat.Goals as goal

pub returns : goal.returns
returns g c = record {
  ran = record {
    ended = record { desk = c.run_session-ended.ensures.desk; ended = err_only _ c.run_session-ended.result c.run_session-ended.ensures.spent };
    run = ok_only _ c.run_session-ended.result (
        subst (λ (cs : List Command). IfOk c.run_session-ended.result (λ rs. Turned (IsRun c.args.buffer.now (map g.M.Matcher.tells c.args.seat.now.matchers.items) cs rs.items) c.args.seat.now.desk.views c.run_session-ended.new.desk.views)) (cc (c.replace-commands.ensures.value))
        (subst (λ ms. IfOk c.run_session-ended.result (λ rs. Turned (IsRun c.args.buffer.now (map g.M.Matcher.tells ms) c.replace-commands.result.items rs.items) c.args.seat.now.desk.views c.run_session-ended.new.desk.views)) (ap (λ v. v.items) c.replace-matchers.ensures.value) c.run_session-ended.ensures.replies)
        );
  };
}
