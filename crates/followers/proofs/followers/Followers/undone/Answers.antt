use Rattle.std.proofs.Common.{◌≡◌, ap, ◌∙◌}
use Rattle.patch.specs.declared.change.Change as code
use Rattle.edit_history.specs.History.{History, undone}
use Rattle.followers.specs.Following.{steps_of}
use Rattle.followers.proofs.StepLemmas.{steps_left, steps_moved}
use Rattle.followers.proofs.followers.Followers.undone.Goals as goal

pub returns-clause-past : goal.returns-clause-past
returns-clause-past g c =
    let h : History code.Change = c.args.self.now.steps in
    let is : c.undo.follows.lender-at-none ≡ undone h = c.undo.follows.holds-at-none ∙ ap (λ (k : History code.Change). undone k) c.follow-hits.ensures.steps in
    ap (λ (k : History code.Change). steps_of k.past) is ∙ steps_left h.past

pub returns-clause-future : goal.returns-clause-future
returns-clause-future g c =
    let h : History code.Change = c.args.self.now.steps in
    let is : c.undo.follows.lender-at-none ≡ undone h = c.undo.follows.holds-at-none ∙ ap (λ (k : History code.Change). undone k) c.follow-hits.ensures.steps in
    ap (λ (k : History code.Change). steps_of k.future) is ∙ steps_moved h.past h.future
