use Rattle.machine.specs.Lawful.{has_form, have_forms}
use Rattle.transcript_check.proofs.Pairs.{pairs_other, replies_pairs}
use Rattle.transcript_check.proofs.forms.have_forms.Goals as goal

pub returns-then-commands-replies : goal.returns-then-commands-replies
returns-then-commands-replies c = pairs_other (has_form c.args.version) (have_forms c.args.version) (replies_pairs c.args.version) c.args.commands.now c.args.replies.now c.if-commands-replies.true
