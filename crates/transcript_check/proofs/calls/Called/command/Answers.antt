use Rattle.std.proofs.Common.{◌∙◌, ap}
use Rattle.std.specs.Prelude.{Some}
use Rattle.machine.specs.Answers.{call_of}
use Rattle.machine.specs.Lawful.{Entry}
use Rattle.transcript_check.proofs.Gather.{call_there}
use Rattle.transcript_check.proofs.calls.Called.command.Goals as goal

pub returns : goal.returns
returns c = call_there (call_of c.self.inside.command.now) c.self.invariant ∙ ap (λ (e : Entry). Some e.call) c.self.view_is
