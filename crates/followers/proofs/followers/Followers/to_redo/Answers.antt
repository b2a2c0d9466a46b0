use Rattle.std.proofs.Common.{Some, sym, ap, ◌∙◌}
use Rattle.followers.proofs.StepLemmas.{first_step, no_step}
use Rattle.followers.proofs.followers.Followers.to_redo.Goals as goal

pub returns-in_ok-copy_of-in-Some : goal.returns-in_ok-copy_of-in-Some
returns-in_ok-copy_of-in-Some g c = ap (λ s. Some s) c.in_ok-copy_of-in-Some.ensures ∙ sym (first_step c.args.self.now.steps.future c.in-Some.step.now (sym c.in-Some.ensures))

pub returns-in-None : goal.returns-in-None
returns-in-None g c = sym (no_step c.args.self.now.steps.future (sym c.in-None.ensures))
