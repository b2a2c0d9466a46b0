use Rattle.shared_buffer.specs.Tokens.{IsDeskOf}
use Rattle.acceptance_shared.proofs.shared_buffer_tests.keeping.Given as goal

abbrev pub invariant-loop : goal.invariant-loop
invariant-loop g l = IsDeskOf l.buffer l.desk
