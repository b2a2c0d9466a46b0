use Rattle.std.proofs.Common.{◌≡◌, ◌+◌, subst}
use Rattle.std.specs.Bool.{Decides}
use Rattle.machine.specs.declared.reply.Reply.{Reply}
use Rattle.machine.specs.Machine.{step}
use Rattle.machine.specs.Answers.{call_of, reply_of}
use Rattle.transcript_check.proofs.ReplayLemmas.{replied_as}
use Rattle.transcript_check.proofs.replay.agrees.Goals as goal

pub returns-clause-agrees : goal.returns-clause-agrees
returns-clause-agrees c =
    let shown : c.in_version-reply.result ≡ reply_of c.args.version (c.args.plain.now.count + 1) (step c.args.plain.now c.args.call.now.call).1 =
    replied_as c.args.version c.args.plain.now c.step.new.self c.in_ok-reply.reply c.in_version-reply.result (call_of c.command.result.now) c.args.call.now.call
    c.command.ensures c.in_ok-reply.ensures.ok c.in_version-reply.ensures in
    subst (λ (r : Reply). Decides c.same_reply.result (r ≡ reply_of c.args.version (c.args.plain.now.count + 1) (step c.args.plain.now c.args.call.now.call).1)) c.reply.ensures
    (subst (λ (r : Reply). Decides c.same_reply.result (c.reply.result.now ≡ r)) shown c.same_reply.ensures)
