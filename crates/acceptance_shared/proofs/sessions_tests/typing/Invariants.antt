use Rattle.std.proofs.Common.{◌≡◌, [], true}
use Rattle.machine.specs.Lawful.{patterns_of}
use Rattle.sessions.specs.Rules.{can_answer_all}
use Rattle.acceptance_shared.proofs.sessions_tests.typing.Given as goal

abbrev pub invariant-loop : goal.invariant-loop
invariant-loop l = record {
  can : can_answer_all 0 [] l.commands.items ≡ true;
  none : patterns_of l.commands.items ≡ 0;
}
