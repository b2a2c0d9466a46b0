use Rattle.std.proofs.Common.{◌≡◌, ℕ, ◌+◌, ◌<◌, ◌≤◌, List, [], ◌∷◌, length, Bool, true, false, Option, Some, None, refl, sym, subst, ap, ◌∙◌, inl, inr, arith}
use Rattle.std.specs.Prelude.{Result, Ok, Err, ◌↔◌}
use Rattle.machine.specs.Machine.{State, Watching, counted, with_watcher}
use Rattle.watch.specs.Seats.{is_there, count_below}
use Rattle.followers.specs.Following.{watchings}
use Rattle.buffer.specs.Seen.{state_of}
use Rattle.buffer.proofs.EditLemmas.{same_answer}
use Rattle.buffer.proofs.MarkCalls.{not_refused}
use Rattle.std.specs.Prelude.{MatchOption, IsErr}
use Rattle.machine.specs.Machine.{unwatch}
use Rattle.watch.proofs.SlotLemmas.{found}
use Rattle.followers.proofs.WatchLemmas.{cut_watching, found_watching}
use Rattle.buffer.proofs.WatchCalls.{taken_off, watch_unknown, not_there, of_found, heard_all, there_where_ok, told_is}
use Rattle.buffer.proofs.buffer.Buffer.unwatch.Goals as goal

pub returns-in-Ok-clause-ok : goal.returns-in-Ok-clause-ok
returns-in-Ok-clause-ok g c =
    let s : State = state_of c.args.self.now in
    let os = c.args.self.now.followers.watchers.seats.items in
    let is : is_there c.args.id os ≡ true = there_where_ok (is_there c.args.id os) c.in-Ok.ensures.unknown in
    let f = found c.args.id 0 os c.requires.stands.order is in
    let told = told_is _ f.seat (λ x. x.watcher) (c.in-Ok.watcher, c.in-Ok.heard) _ f.first refl c.in-Ok.ensures.answer in
    let kept = of_found _ c.args.id os f.seat c.requires.stands.kept f.first in
    same_answer s (unwatch c.args.id) _ _ _ (taken_off s c.args.id _ (found_watching c.args.id 0 os f.seat c.requires.stands.order f.first))
    (ap (λ b. state_of b) c.numbered.ensures.new ∙ ap (λ (ws : List Watching). counted (record s { watchers = ws })) (ap (λ l. watchings l) c.in-Ok.ensures.ok ∙ cut_watching c.args.id 0 os c.requires.stands.order is))
    (rw (c.numbered.ensures.number, heard_all f.seat c.in-Ok.heard told kept.long) refl)

pub returns-in-Ok-clause-stands : goal.returns-in-Ok-clause-stands
returns-in-Ok-clause-stands g c = rw c.numbered.ensures.new c.in-Ok.ensures.stands

pub returns-in-Err-clause-ok : goal.returns-in-Err-clause-ok
returns-in-Err-clause-ok g c =
    let s : State = state_of c.args.self.now in
    let os = c.args.self.now.followers.watchers.seats.items in
    same_answer s (unwatch c.args.id) _ _ _ (watch_unknown s c.args.id (not_there s c.args.id os refl c.requires.stands.order (c.in-Err.ensures.unknown.0 refl)))
    (ap (λ b. state_of b) c.refused.ensures.new ∙ ap (λ l. counted (record s { watchers = watchings l })) c.in-Err.ensures.err) c.refused.ensures.reply
