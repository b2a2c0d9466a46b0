use Rattle.hand_register.specs.Tests.{IsAt}
use Rattle.hand_register.proofs.tests.work.Given as goal

abbrev pub invariant-loop : goal.invariant-loop
invariant-loop g l = IsAt l.table.table.shared.table_id l.session.desk
