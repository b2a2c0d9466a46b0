use Rattle.std.specs.Prelude.{◌≡◌}
use Rattle.crossbeam_queue.specs.Passes.{view}
use Rattle.pool.specs.Shifts.{IsAccountOf, HasHelped}
use Rattle.pool.proofs.worker.run_worker.Given as goal

abbrev pub invariant-loop : goal.invariant-loop
invariant-loop g l =
    (goal.iterator-loop g).can_next l.iterator' × (goal.iterator-loop g).is_finite l.iterator'
    × IsAccountOf l.fn.queue.ring l.account
    × HasHelped g.M.Matcher.tells g.K.Sink.taken g.K.Sink.faults (view l.account) l.dones.items
    × ((view l.account).put ≡ (view l.fn.account).put)
