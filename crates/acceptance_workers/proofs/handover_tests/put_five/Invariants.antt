use Rattle.std.specs.Prelude.{◌<◌}
use Rattle.crossbeam_queue.specs.Passes.{view, IsPassOf}
use Rattle.acceptance_workers.proofs.handover_tests.put_five.Given as goal

abbrev pub invariant-loop-item : goal.invariant-loop-item
invariant-loop-item g l = IsPassOf l.queue.ring l.account × (0 < (view l.account).parts)
