use Rattle.std.specs.Prelude.{◌≡◌}
use Rattle.crossbeam_queue.specs.Passes.{view, IsPassOf}
use Rattle.handover.proofs.queue.Handover.wait.Given as goal

abbrev pub invariant-loop : goal.invariant-loop
invariant-loop g l =
    (goal.iterator-loop g).can_next l.iterator' × (goal.iterator-loop g).is_finite l.iterator'
    × IsPassOf l.fn.self.ring l.account
    × (view l.account ≡ view l.fn.account)
