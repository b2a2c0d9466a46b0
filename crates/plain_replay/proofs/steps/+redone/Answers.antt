use Rattle.std.proofs.Common.{◌≡◌, ◌-◌, ◌∙◌, ap, sym, subst, ℕ, List, take, drop, length, length-drop, length-take, arith, rules, tests}
use Rattle.std.proofs.lemmas.List.{take_all}
use Rattle.machine.specs.Machine.{State, Change, put}
use Rattle.plain_replay.specs.Standing.{CanPut, Leads}
use Rattle.plain_replay.proofs.StandingLemmas.{can_redo_at, leads_behind_at}
use Rattle.plain_replay.proofs.steps.+redone.Goals as goal

pub put-requires-clause-can : goal.put-requires-clause-can
put-requires-clause-can t c =
    let text : List ℕ = c.args.body.now.text in
    let can : CanPut text c.change.inside.start c.change.inside.old c.change.inside.new = subst (λ (x : Change). CanPut text x.start x.old x.new) (sym c.change.view_is)
    (can_redo_at c.args.changes.now c.change-item.result text c.requires.leads.0 (omega (arith, c.in-len1-up.len_at_least)) c.change-item.is c.requires.leads.1) in
    subst (λ (o : List ℕ). CanPut text c.change.inside.start o c.as_slice-2.result.now) (sym c.as_slice.ensures)
    (subst (λ (n : List ℕ). CanPut text c.change.inside.start c.change.inside.old n) (sym c.as_slice-2.ensures) can)

pub redone-requires : goal.redone-requires
redone-requires t c =
    let later : List Change = take (length c.args.changes.now - 1) (drop 1 c.args.changes.now) in
    let body : c.in_ok-body.body ≡ (put c.args.body.now c.change-item.result.start c.change-item.result.old c.change-item.result.new).0 = c.in_ok-body.ensures.body
    ∙ ap (λ (o : List ℕ). (put c.args.body.now c.change.inside.start o c.as_slice-2.result.now).0) c.as_slice.ensures
    ∙ ap (λ (n : List ℕ). (put c.args.body.now c.change.inside.start c.change.inside.old n).0) c.as_slice-2.ensures
    ∙ ap (λ (x : Change). (put c.args.body.now x.start x.old x.new).0) c.change.view_is in
    let leads : Leads c.in_ok-body.body.text later c.requires.leads.0 = subst (λ (s : State). Leads s.text later c.requires.leads.0) (sym body)
    (leads_behind_at c.args.changes.now later c.change-item.result c.args.body.now c.requires.leads.0 (omega (arith, c.in-len1-up.len_at_least)) c.change-item.is
    (take_all (length c.args.changes.now - 1) (drop 1 c.args.changes.now) (omega (arith, length-drop 1 c.args.changes.now))) c.requires.leads.1) in
    let count : c.in_ok-body.body.count ≡ c.args.body.now.count = ap (λ (s : State). s.count) body in
    (first_of (search rules, search (rules, tests), grind (arith, length-drop, length-take)), ((c.requires.leads.0, leads), omega (arith, count, c.requires.count)))
