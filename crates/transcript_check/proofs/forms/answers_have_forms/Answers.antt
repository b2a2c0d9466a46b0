use Rattle.machine.specs.Lawful.{answer_has_form, answers_have_forms}
use Rattle.transcript_check.proofs.Pairs.{pairs_other, answers_pairs}
use Rattle.transcript_check.proofs.forms.answers_have_forms.Goals as goal

pub returns-then-reads-answers : goal.returns-then-reads-answers
returns-then-reads-answers c = pairs_other answer_has_form answers_have_forms answers_pairs c.args.reads.now c.args.answers.now c.if-reads-answers.true
