use Rattle.std.proofs.Common.{◌≡◌, ◌-◌, ◌∙◌, ap, sym, subst, ℕ, List, take, drop, length, length-drop, arith}
use Rattle.std.proofs.lemmas.List.{take_all}
use Rattle.machine.specs.Machine.{State, Change}
use Rattle.plain_replay.specs.Standing.{CanPut}
use Rattle.plain_replay.proofs.StandingLemmas.{can_undo_at}
use Rattle.plain_replay.proofs.FollowLemmas.{undone_count}
use Rattle.plain_replay.proofs.steps.+undone.Goals as goal

pub put-requires-clause-can : goal.put-requires-clause-can
put-requires-clause-can t c =
    let later : List Change = take (length c.args.changes.now - 1) (drop 1 c.args.changes.now) in
    let text : List ℕ = c.in_ok-body.body.text in
    let can : CanPut text c.change.inside.start c.change.inside.new c.change.inside.old = subst (λ (x : Change). CanPut text x.start x.new x.old) (sym c.change.view_is)
    (subst (λ (s : State). CanPut s.text c.change-item.result.start c.change-item.result.new c.change-item.result.old) (sym c.in_ok-body.ensures.body)
    (can_undo_at c.args.changes.now later c.change-item.result c.args.body.now c.requires.leads.0 (omega (arith, c.in-len1-up.len_at_least)) c.change-item.is
    (take_all (length c.args.changes.now - 1) (drop 1 c.args.changes.now) (omega (arith, length-drop 1 c.args.changes.now))) c.requires.leads.1)) in
    subst (λ (n : List ℕ). CanPut text c.change.inside.start n c.as_slice-2.result.now) (sym c.as_slice.ensures)
    (subst (λ (o : List ℕ). CanPut text c.change.inside.start c.change.inside.new o) (sym c.as_slice-2.ensures) can)

pub put-requires-clause-count : goal.put-requires-clause-count
put-requires-clause-count t c =
    let later : List Change = take (length c.args.changes.now - 1) (drop 1 c.args.changes.now) in
    let count : c.in_ok-body.body.count ≡ c.args.body.now.count = ap (λ (s : State). s.count) c.in_ok-body.ensures.body ∙ undone_count later c.args.body.now in
    omega (arith, count, c.requires.count)
