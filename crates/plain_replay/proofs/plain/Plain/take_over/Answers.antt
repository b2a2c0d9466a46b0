use Rattle.std.proofs.Common.{◌≡◌, ◌<◌, ◌∙◌, ap, sym, subst, List, ◌∷◌, take, length, arith}
use Rattle.machine.specs.Machine.{State, Step, counted, with_step}
use Rattle.points.specs.declared.limits.TheConstants.{MAX_STEPS}
use Rattle.plain_replay.specs.Standing.{HasSteps, Leads, whole}
use Rattle.plain_replay.proofs.StandingLemmas.{steps_made}
use Rattle.plain_replay.proofs.CallLemmas.{taken_over, some_by}
use Rattle.plain_replay.proofs.plain.Plain.take_over.Goals as goal

pub invariant_of-self-2 : goal.invariant_of-self-2
invariant_of-self-2 c =
    let past : c.truncate.new.self.items ≡ take MAX_STEPS (c.args.made.items ∷ c.self.inside.past.items) = c.truncate.ensures.items ∙ ap (take MAX_STEPS) c.in_ok-insert.ensures.items in
    subst (λ (q : List Step). HasSteps c.number.new.self.text q c.clear.new.self.items) (sym past)
    (subst (λ (g : List Step). HasSteps c.number.new.self.text (take MAX_STEPS (c.args.made.items ∷ c.self.inside.past.items)) g) (sym c.clear.ensures.items)
    (steps_made c.self.inside.body.text c.number.new.self.text c.self.inside.past.items c.self.inside.future.items c.args.made.items
    (subst (λ (s : State). Leads c.self.inside.body.text c.args.made.items s.text) (sym c.number.ensures.body)
    (subst (λ (s : State). Leads s.text c.args.made.items c.args.body.text) (sym c.self.view_is) c.requires.leads)) c.self.invariant))

pub returns-clause-ok : goal.returns-clause-ok
returns-clause-ok c =
    let some : 0 < length c.args.made.items = some_by _ (length c.args.made.items) c.is_empty.result c.is_empty.ensures c.if-is_empty.false (omega (arith, c.args.made.ok)) in
    taken_over c.args.body c.number.new.self c.self.inside.past.items c.self.inside.future.items c.truncate.new.self.items c.clear.new.self.items c.args.made.items some
    c.number.ensures.body (c.truncate.ensures.items ∙ ap (take MAX_STEPS) c.in_ok-insert.ensures.items) c.clear.ensures.items
    ∙ ap (λ (s : State). counted (with_step c.args.made.items (whole c.args.body s.past s.future))) c.self.view_is
