use Rattle.std.proofs.Common.{◌+◌, ◌≤◌, length, take, arith}
use Rattle.std.proofs.lemmas.List.{length-take}
use Rattle.buffer_cli.specs.Input.{max_input}
use Rattle.buffer_cli.proofs.ReadingLemmas.{reads_stopped}
use Rattle.buffer_cli.proofs.input.read_to_end.Goals as goal

pub returns-in-Err-clause-read : goal.returns-in-Err-clause-read
returns-in-Err-clause-read g c =
    let fits : length c.loop-bytes.bytes.items + length (take c.min-room.result c.deref_mut.result.now) ≤ max_input + 1 = omega (arith, length-take c.min-room.result c.deref_mut.result.now) in
    let r = c.in-Err.ensures.read in
    reads_stopped _ _ _ c.read_more.new.bytes r.0 _ _ _ (omega arith) fits c.loop-bytes.invariant.gives r.1 r.2
