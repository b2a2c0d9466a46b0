use Rattle.std.proofs.Common.{◌≡◌, ◌∙◌, ap, ℕ, List, length, arith}
use Rattle.std.specs.Prelude.{option_map}
use Rattle.machine.specs.Machine.{State, Watching, watcher_with, with_watcher}
use Rattle.machine.specs.declared.reply.Reply.TheVariants as reply
use Rattle.points.specs.declared.limits.TheConstants.{MAX_WATCHERS}
use Rattle.plain_replay.proofs.CallLemmas.{same_pair, watch_taken, watch_full, watched, full_by, room_by}
use Rattle.plain_replay.proofs.plain.Plain.watch.Goals as goal

pub returns-in-Some-clause-ok : goal.returns-in-Some-clause-ok
returns-in-Some-clause-ok c = same_pair _ _ _ _ c.refused.ensures.state c.refused.ensures.reply
    ∙ watch_taken c.args.self.now c.args.id c.in-Some.field-0
    (c.in-Some.ensures ∙ ap (λ (ws : List Watching). option_map (λ w. length w.heard) (watcher_with c.args.id ws)) (c.watchers-known.ensures ∙ ap (λ (s : State). s.watchers) c.self.view_is))

pub returns-then-len-ge-MAX_WATCHERS-clause-ok : goal.returns-then-len-ge-MAX_WATCHERS-clause-ok
returns-then-len-ge-MAX_WATCHERS-clause-ok c =
    let same : c.watchers-known.result.now ≡ c.args.self.now.watchers = c.watchers-known.ensures ∙ ap (λ (s : State). s.watchers) c.self.view_is in
    same_pair _ _ _ _ c.refused-then-len-ge-MAX_WATCHERS.ensures.state c.refused-then-len-ge-MAX_WATCHERS.ensures.reply
    ∙ watch_full c.args.self.now c.args.id
    (c.in-None.ensures ∙ ap (λ (ws : List Watching). option_map (λ w. length w.heard) (watcher_with c.args.id ws)) same)
    (full_by (length c.args.self.now.watchers) MAX_WATCHERS (omega (arith, ap length same, c.len.ensures, c.if-len-ge-MAX_WATCHERS.true)))

pub returns-clause-ok : goal.returns-clause-ok
returns-clause-ok c =
    let same : c.watchers-known.result.now ≡ c.args.self.now.watchers = c.watchers-known.ensures ∙ ap (λ (s : State). s.watchers) c.self.view_is in
    same_pair _ _ _ _ c.put_watchers-at.ensures.state (ap (λ (k : ℕ). reply.Numbered k) c.put_watchers-at.ensures.number)
    ∙ watched c.args.self.now c.args.id c.in_ok-all.all
    (c.in-None.ensures ∙ ap (λ (ws : List Watching). option_map (λ w. length w.heard) (watcher_with c.args.id ws)) same)
    (room_by (length c.args.self.now.watchers) MAX_WATCHERS (omega (arith, ap length same, c.len.ensures, c.if-len-ge-MAX_WATCHERS.false)))
    (c.in_ok-all.ensures ∙ ap (with_watcher c.args.id) same)
