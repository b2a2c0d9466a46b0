use Rattle.std.proofs.Common.{sym, ◌∙◌, ap}
use Rattle.machine.specs.declared.reads.Read.{Read}
use Rattle.machine.specs.Lawful.{answer_has_form}
use Rattle.transcript_check.proofs.forms.answer_has_form.Goals as goal

pub returns-in-Text : goal.returns-in-Text
returns-in-Text c = c.is_shown.ensures c.in-Text.range c.in-Text.limit ∙ ap (λ (r : Read). answer_has_form r c.args.answer.now) (sym c.in-Text.is)

pub returns-in-Save : goal.returns-in-Save
returns-in-Save c = c.is_saved.ensures c.in-Save.name c.in-Save.encoding ∙ ap (λ (r : Read). answer_has_form r c.args.answer.now) (sym c.in-Save.is)

pub returns-in-Find : goal.returns-in-Find
returns-in-Find c = c.is_found.ensures.find c.in-Find.needle c.in-Find.limit ∙ ap (λ (r : Read). answer_has_form r c.args.answer.now) (sym c.in-Find.is)

pub returns-in-Pattern : goal.returns-in-Pattern
returns-in-Pattern c = c.is_found-in-Pattern.ensures.pattern c.in-Pattern.pattern c.in-Pattern.limit ∙ ap (λ (r : Read). answer_has_form r c.args.answer.now) (sym c.in-Pattern.is)
