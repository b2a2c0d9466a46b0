use Rattle.machine.specs.Lawful.{have_forms, sessions_have_forms}
use Rattle.transcript_check.proofs.Pairs.{pairs_other, sessions_pairs}
use Rattle.transcript_check.proofs.forms.sessions_have_forms.Goals as goal

pub returns-then-sessions-replies : goal.returns-then-sessions-replies
returns-then-sessions-replies c = pairs_other (have_forms c.args.version) (sessions_have_forms c.args.version) (sessions_pairs c.args.version) c.args.sessions.now c.args.replies.now c.if-sessions-replies.true
