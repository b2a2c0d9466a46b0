use Rattle.std.proofs.Common.{◌∙◌, ◌==◌, ap, ℕ, List, length, not}
use Rattle.std.specs.Prelude.{option_map}
use Rattle.std.specs.List.{filter}
use Rattle.machine.specs.Machine.{State, Watching, watcher_with}
use Rattle.machine.specs.declared.reply.Reply.TheVariants as reply
use Rattle.plain_replay.proofs.CallLemmas.{same_pair, unwatch_unknown, unwatched}
use Rattle.plain_replay.proofs.plain.Plain.unwatch.Goals as goal

pub returns-in-None-clause-ok : goal.returns-in-None-clause-ok
returns-in-None-clause-ok c = same_pair _ _ _ _ c.refused.ensures.state c.refused.ensures.reply
    ∙ unwatch_unknown c.args.self.now c.args.id
    (c.in-None.ensures ∙ ap (λ (ws : List Watching). option_map (λ w. length w.heard) (watcher_with c.args.id ws)) (c.watchers.ensures ∙ ap (λ (s : State). s.watchers) c.self.view_is))

pub returns-clause-ok : goal.returns-clause-ok
returns-clause-ok c = same_pair _ _ _ _ c.put_watchers-at.ensures.state (ap (λ (k : ℕ). reply.Heard k c.in-Some.heard) c.put_watchers-at.ensures.number)
    ∙ unwatched c.args.self.now c.args.id c.in-Some.heard c.in_ok-others.others
    (c.in-Some.ensures ∙ ap (λ (ws : List Watching). option_map (λ w. length w.heard) (watcher_with c.args.id ws)) (c.watchers.ensures ∙ ap (λ (s : State). s.watchers) c.self.view_is))
    (c.in_ok-others.ensures ∙ ap (filter (λ (v : Watching). not (v.id == c.args.id))) (c.watchers-2.ensures ∙ ap (λ (s : State). s.watchers) c.self.view_is))
