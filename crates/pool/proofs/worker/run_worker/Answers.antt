use Rattle.std.proofs.Common.{rules, ap, ◌∙◌, arith}
use Rattle.pool.specs.Sendings.{queued}
use Rattle.pool.proofs.Steps.{took, stays}
use Rattle.pool.proofs.worker.run_worker.Goals as goal

pub wait-requires-clause-queue : goal.wait-requires-clause-queue
wait-requires-clause-queue g c = c.loop.invariant.2.queue

pub wait-requires-clause-parts : goal.wait-requires-clause-parts
wait-requires-clause-parts g c = omega (arith, c.loop.invariant.2.part)

pub loop-preserved : goal.loop-preserved
loop-preserved g c =
    let taken = c.in-Some-wait.ensures.taken in (
      search rules,
      search rules,
      record { queue = c.wait.ensures.queue; part = ap (λ v. v.parts) taken ∙ c.loop.invariant.2.part },
      took g.M.Matcher.tells g.K.Sink.taken g.K.Sink.faults _ _ _ _ _ _ taken c.push_reserved.ensures.items (c.run_for_another-done.ensures.task ∙ ap queued c.open.ensures) c.run_for_another-done.ensures.ended c.loop.invariant.3,
      ap (λ v. v.put) taken ∙ c.loop.invariant.4,
    )

pub returns-in-None-wait-clause-account : goal.returns-in-None-wait-clause-account
returns-in-None-wait-clause-account g c = record { queue = c.wait.ensures.queue; part = ap (λ v. v.parts) c.in-None-wait.ensures.taken ∙ c.loop.invariant.2.part }

pub returns-in-None-wait-clause-helped : goal.returns-in-None-wait-clause-helped
returns-in-None-wait-clause-helped g c = stays g.M.Matcher.tells g.K.Sink.taken g.K.Sink.faults _ _ _ c.in-None-wait.ensures.taken c.loop.invariant.3

pub returns-in-None-wait-clause-put : goal.returns-in-None-wait-clause-put
returns-in-None-wait-clause-put g c = ap (λ v. v.put) c.in-None-wait.ensures.taken ∙ c.loop.invariant.4
