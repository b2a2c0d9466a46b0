use Rattle.std.proofs.Common.{◌≡◌, ◌<◌, ◌∙◌, ap, sym, subst, List, drop, length, slice_index_or, arith}
use Rattle.machine.specs.Machine.{State, Step, Part, Batched, undone}
use Rattle.machine.specs.Answers.{reply_of}
use Rattle.plain_replay.specs.Standing.{HasSteps}
use Rattle.plain_replay.proofs.StandingLemmas.{steps_undone}
use Rattle.plain_replay.proofs.FollowLemmas.{undone_count}
use Rattle.plain_replay.proofs.CallLemmas.{same_pair, some_by, none_by, undo_refused_at, undo_done_at}
use Rattle.plain_replay.proofs.plain.Plain.undo.Goals as goal

pub returns-then-is_empty-clause-ok : goal.returns-then-is_empty-clause-ok
returns-then-is_empty-clause-ok c = same_pair _ _ _ _ c.refused.ensures.state c.refused.ensures.reply
    ∙ undo_refused_at c.self.inside.body c.args.self.now c.self.inside.past.items c.self.inside.future.items c.self.view_is
    (none_by _ (length c.self.inside.past.items) c.is_empty.result c.is_empty.ensures c.if-is_empty.true (omega (arith, c.self.inside.past.ok)))

pub number-at-requires : goal.number-at-requires
number-at-requires c =
    let e : c.in_ok-body.body.count ≡ c.self.inside.body.count = ap (λ (s : State). s.count) c.in_ok-body.ensures.body ∙ undone_count c.first.result.now c.self.inside.body in
    omega (arith, e, ap (λ (s : State). s.count) c.self.view_is, c.requires)

pub invariant_of-self-2 : goal.invariant_of-self-2
invariant_of-self-2 c =
    let some : 0 < length c.self.inside.past.items = some_by _ (length c.self.inside.past.items) c.is_empty.result c.is_empty.ensures c.if-is_empty.false (omega (arith, c.self.inside.past.ok)) in
    let at : c.first.result.now ≡ slice_index_or c.self.inside.past.items 0 c.first.result.now = c.first.ensures ∙ ap (λ (xs : List Step). slice_index_or xs 0 c.first.result.now) c.as_slice.ensures.value in
    let text : c.number-at.new.self.text ≡ (undone c.self.inside.body c.first.result.now).0.text = ap (λ (s : State). s.text) c.number-at.ensures.body ∙ ap (λ (s : State). s.text) c.in_ok-body.ensures.body in
    subst (λ (q : List Step). HasSteps c.number-at.new.self.text q c.cross.new.to.items) (sym c.in_ok-cross.ensures.from)
    (subst (λ (q : List Step). HasSteps c.number-at.new.self.text (drop 1 c.self.inside.past.items) q) (sym c.in_ok-cross.ensures.to)
    (steps_undone c.self.inside.body c.self.inside.past.items c.self.inside.future.items c.first.result.now c.number-at.new.self.text some at text c.self.invariant))

pub returns-clause-ok : goal.returns-clause-ok
returns-clause-ok c =
    let some : 0 < length c.self.inside.past.items = some_by _ (length c.self.inside.past.items) c.is_empty.result c.is_empty.ensures c.if-is_empty.false (omega (arith, c.self.inside.past.ok)) in
    let at : c.first.result.now ≡ slice_index_or c.self.inside.past.items 0 c.first.result.now = c.first.ensures ∙ ap (λ (xs : List Step). slice_index_or xs 0 c.first.result.now) c.as_slice.ensures.value in
    undo_done_at c.self.inside.body c.args.self.now c.self.inside.past.items c.self.inside.future.items c.cross.new.from.items c.cross.new.to.items c.first.result.now c.in_ok-body.body c.number-at.new.self
    c.in_ok-body.parts.items c.in_ok-reply.reply c.number-at.result c.self.view_is some at c.in_ok-body.ensures.body c.in_ok-body.ensures.parts c.number-at.ensures.body c.number-at.ensures.number
    c.in_ok-cross.ensures.from c.in_ok-cross.ensures.to (c.in_ok-reply.ensures ∙ ap (λ (ps : List Part). reply_of 2 c.number-at.result (Batched ps)) c.as_slice-2.ensures.value)
