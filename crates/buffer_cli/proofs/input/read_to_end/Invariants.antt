use Rattle.std.proofs.Common.{◌+◌, ◌-◌, vec_len}
use Rattle.buffer_cli.specs.Input.{max_input}
use Rattle.buffer_cli.proofs.ReadingLemmas.{ReadsSoFar}
use Rattle.buffer_cli.proofs.input.read_to_end.Given as goal

abbrev pub invariant-loop-bytes : goal.invariant-loop-bytes
invariant-loop-bytes g l =
    ReadsSoFar l.bytes.items (vec_len l.chunk) (g.I.Source.left l.initial.input) (g.I.Source.left l.input) (g.I.Source.faults l.initial.input) (g.I.Source.faults l.input)

abbrev pub decreases-loop-bytes : goal.decreases-loop-bytes
decreases-loop-bytes g l = max_input + 1 - vec_len l.bytes
