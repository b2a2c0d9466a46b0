use Rattle.std.proofs.Common.{rules, sym, subst, arith, false}
use Rattle.std.proofs.lemmas.Bool.Decides.{nat_tests}
use mir.Syntax.{of_param}
use denote.Exit.{unseen}
use denote.Param.Send.{Quiet-if}
use Rattle.pool.specs.Stages.{CanRun, IsStage, WasRun, WasPlayed}
use Rattle.pool.proofs.Crossing.{stage_send}
use Rattle.pool.proofs.StageLemmas.{as_both, all_at, all_played, none_played}
use Rattle.pool.proofs.stage.run_stages.Goals as goal

pub returns-then-is_empty-clause-run : goal.returns-then-is_empty-clause-run
returns-then-is_empty-clause-run g c = λ ss are. none_played _ ss c.args.stages.now (grind (arith, nat_tests, c.if-is_empty.true, c.is_empty.ensures)) are

pub for_each_mut-requires-send-T : goal.for_each_mut-requires-send-T
for_each_mut-requires-send-T g c κs within =
    let b = c.type_bounds in
    let all = stage_send _ _ g.M.Matcher g.K.Sink b.send-M b.send-K _ _ b.send-S b.send-S-Out in
    record { owned = λ x vs. all.owned x vs; leaving = λ k. Quiet-if (k (of_param 1)) _ unseen (all.leaving (λ p. false)) (λ x w. tt) }

pub for_each_mut-requires-clause-accepts : goal.for_each_mut-requires-clause-accepts
for_each_mut-requires-clause-accepts g c κs within = λ i p low is. (
  subst (IsStage (CanRun g.S.Session.limit g.S.Session.IsOf c.args.pool.now.queue.now.ring c.args.pool.now.buffer.now)) (sym is) (all_at _ c.args.stages.now c.requires.can i p.now low),
  let b = c.type_bounds in (
    record { owned = b.send-S.owned; leaving = λ k. Quiet-if (k (of_param 0)) _ unseen (λ x w. tt) (λ x w. tt) },
    record { owned = b.send-B.owned; leaving = λ k. Quiet-if (k (of_param 1)) _ unseen (λ x w. tt) (λ x w. tt) },
    record { owned = b.send-M.owned; leaving = λ k. Quiet-if (k (of_param 2)) _ unseen (λ x w. tt) (λ x w. tt) },
    record { owned = b.send-K.owned; leaving = λ k. Quiet-if (k (of_param 3)) _ unseen (λ x w. tt) (λ x w. tt) },
    record { owned = b.send-S-Out.owned; leaving = λ k. Quiet-if (k (of_param 6)) _ unseen (λ x w. tt) (λ x w. tt) },
    record { shared = b.sync-G.shared },
    record { shared = b.sync-R.shared },
  ),
)

pub returns-clause-run : goal.returns-clause-run
returns-clause-run g c = λ ss are. all_played _ ss c.args.stages.now c.for_each_mut.new.s (search rules)
    (λ k d low. let at = (c.for_each_mut.ensures k d low).1 in as_both (WasPlayed (WasRun g.M.Matcher.tells g.K.Sink.taken g.K.Sink.faults g.S.Session.number g.S.Session.limit g.S.Session.Leaves g.S.Session.sent c.args.pool.now.queue.now.ring c.args.pool.now.buffer.now)) _ _ _ _ at.argument_is at.left at.call) are
