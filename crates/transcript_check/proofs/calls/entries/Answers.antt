use Rattle.std.proofs.Common.{◌≤◌, drop, length, min, arith}
use Rattle.machine.specs.Lawful.{entries}
use Rattle.transcript_check.proofs.Gather.{gathered_all, entries_end}
use Rattle.transcript_check.proofs.calls.entries.Goals as goal

pub returns : goal.returns
returns c =
    let over : min (length c.args.sessions.now) (length c.args.replies.now) ≤ c.loop-i.i = omega (arith, c.lesser-count.ensures, c.loop-i-test.false) in
    gathered_all c.loop-i.all.items (entries (drop c.loop-i.i c.args.sessions.now) (drop c.loop-i.i c.args.replies.now)) _
    (entries_end c.args.sessions.now c.args.replies.now c.loop-i.i over) c.loop-i.invariant
