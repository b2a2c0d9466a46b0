use Rattle.std.specs.Prelude.{◌≡◌, ◌≤◌, length, vec_capacity}
use Rattle.crossbeam_queue.specs.Passes.{view, IsPassOf}
use Rattle.handover.specs.Accounts.{ALL_PARTS}
use Rattle.pool.specs.Shifts.{HasHelped}
use Rattle.pool.proofs.worker.drain.Given as goal

abbrev pub invariant-loop : goal.invariant-loop
invariant-loop g l =
    (goal.iterator-loop g).can_next l.iterator' × (goal.iterator-loop g).is_finite l.iterator'
    × IsPassOf l.fn.queue.ring l.account
    × ((view l.account).parts ≡ ALL_PARTS)
    × HasHelped g.M.Matcher.tells g.K.Sink.taken g.K.Sink.faults (view l.account) l.dones.items
    × (length (view l.account).put ≤ vec_capacity l.dones)
    × ((view l.account).put ≡ (view l.fn.account).put)
