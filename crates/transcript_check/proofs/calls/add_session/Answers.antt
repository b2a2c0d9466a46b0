use Rattle.std.proofs.Common.{◌≤◌, drop, length, min, arith}
use Rattle.machine.specs.Lawful.{session_entries}
use Rattle.transcript_check.proofs.Gather.{gathered_all, session_end}
use Rattle.transcript_check.proofs.calls.add_session.Goals as goal

pub returns : goal.returns
returns c =
    let over : min (length c.args.commands.now) (length c.args.replies.now) ≤ c.loop-i.i = omega (arith, c.lesser-count.ensures, c.loop-i-test.false) in
    gathered_all c.loop-i.all.items (session_entries (drop c.loop-i.i c.args.commands.now) (drop c.loop-i.i c.args.replies.now)) _
    (session_end c.args.commands.now c.args.replies.now c.loop-i.i over) c.loop-i.invariant
