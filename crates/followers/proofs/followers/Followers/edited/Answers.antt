use Rattle.std.proofs.Common.{[], ◌∷◌, ◌++◌, ap, ◌∙◌}
use Rattle.patch.specs.declared.change.Change as code
use Rattle.edit_history.specs.History.{History, latest}
use Rattle.followers.specs.Following.{steps_of}
use Rattle.followers.proofs.StepLemmas.{steps_pushed}
use Rattle.followers.proofs.followers.Followers.edited.Goals as goal

pub returns-clause-past : goal.returns-clause-past
returns-clause-past g c = ap (λ (h : History code.Change). steps_of h.past) c.push.ensures.steps
    ∙ (ap (λ (h : History code.Change). steps_of (latest 1000 (h.past ++ c.args.change ∷ []))) c.follow-hits.ensures.steps
    ∙ steps_pushed 1000 c.args.self.now.steps.past c.args.change)
