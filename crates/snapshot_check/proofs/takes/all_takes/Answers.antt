use Rattle.std.proofs.Common.{◌≡◌, ◌+◌, ◌<◌, ◌≤◌, List, [], length, min, ap, subst, ◌∙◌, arith}
use Rattle.machine.specs.declared.command.Command.{Command}
use Rattle.machine.specs.declared.reply.Reply.{Reply}
use Rattle.machine.specs.Lawful.{patterns_of}
use Rattle.snapshot_check.specs.Gathered.{left_in, gathered, AreSame}
use Rattle.snapshot_check.proofs.GatherLemmas.{sessions_more, sessions_end, sum_at}
use Rattle.snapshot_check.proofs.takes.all_takes.Goals as goal

pub loop-i-preserved : goal.loop-i-preserved
loop-i-preserved c =
    let h : c.loop-i.i < length c.args.sessions.now = omega (arith, c.loop-i-test.true, c.lesser-count.ensures) in
    let k : c.loop-i.i < length c.args.replies.now = omega (arith, c.loop-i-test.true, c.lesser-count.ensures) in
    let counted : c.behind_session-patterns.result ≡ min (c.loop-i.patterns + patterns_of c.index-sessions-i.result) c.args.all =
    c.behind_session-patterns.ensures ∙ ap (λ (cs : List Command). min (c.loop-i.patterns + patterns_of cs) c.args.all) c.as_slice-commands.ensures in
    record {
      counted = omega (arith, c.behind_session-patterns.ensures);
      listed = sessions_more c.args.all c.args.sessions.now c.args.replies.now c.loop-i.i c.loop-i.patterns c.behind_session-patterns.result c.index-sessions-i.result c.index-replies-i.result c.loop-i.takes.items c.add_takes.new.takes.items _ h k
          c.index-sessions-i.is c.index-replies-i.is counted
          (subst (λ (cs : List Command). AreSame c.args.all (gathered c.add_takes.new.takes.items (λ _. [])) (gathered c.loop-i.takes.items (left_in (c.loop-i.i + 1) cs c.index-replies-i.result 0 c.loop-i.patterns))) c.as_slice-commands.ensures
          (subst (λ (rs : List Reply). AreSame c.args.all (gathered c.add_takes.new.takes.items (λ _. [])) (gathered c.loop-i.takes.items (left_in (c.loop-i.i + 1) c.as_slice-commands.result.now rs 0 c.loop-i.patterns))) c.as_slice.ensures c.in_ok-add_takes.ensures))
          c.loop-i.invariant.listed;
    }

pub returns : goal.returns
returns c =
    let over : min (length c.args.sessions.now) (length c.args.replies.now) ≤ c.loop-i.i = omega (arith, c.loop-i-test.false, c.lesser-count.ensures) in
    sessions_end c.args.all c.args.sessions.now c.args.replies.now c.loop-i.i c.loop-i.patterns c.loop-i.takes.items _ over c.loop-i.invariant.listed

pub add_takes-requires-clause-small : goal.add_takes-requires-clause-small
add_takes-requires-clause-small c =
    let h : c.loop-i.i < length c.args.sessions.now = omega (arith, c.loop-i-test.true, c.lesser-count.ensures) in
    omega (arith, ap length c.as_slice-commands.ensures, sum_at c.args.sessions.now c.loop-i.i c.index-sessions-i.result h c.index-sessions-i.is, c.requires.commands)
