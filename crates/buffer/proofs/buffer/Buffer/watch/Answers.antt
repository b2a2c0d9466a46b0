use Rattle.std.proofs.Common.{◌≡◌, ℕ, ◌+◌, ◌<◌, ◌≤◌, List, [], ◌∷◌, length, Bool, true, false, Option, Some, None, refl, sym, subst, ap, ◌∙◌, inl, inr, arith}
use Rattle.std.specs.Prelude.{Result, Ok, Err, ◌↔◌}
use Rattle.machine.specs.Machine.{State, Watching, counted, with_watcher}
use Rattle.watch.specs.Seats.{is_there, count_below}
use Rattle.followers.specs.Following.{watchings}
use Rattle.buffer.specs.Seen.{state_of}
use Rattle.buffer.proofs.EditLemmas.{same_answer}
use Rattle.buffer.proofs.MarkCalls.{not_refused}
use Rattle.machine.specs.Machine.{watch}
use Rattle.followers.proofs.WatchLemmas.{put_watching}
use Rattle.buffer.proofs.WatchCalls.{watch_taken, watch_full, attached, not_there, there, as_long, one_of_two, turned}
use Rattle.buffer.proofs.buffer.Buffer.watch.Goals as goal

pub returns-in-Ok-clause-ok : goal.returns-in-Ok-clause-ok
returns-in-Ok-clause-ok g c =
    let s : State = state_of c.args.self.now in
    let os = c.args.self.now.followers.watchers.seats.items in
    let none : is_there c.args.id os ≡ false = not_refused (is_there c.args.id os) c.in-Ok.field-0 _ c.in-Ok.ensures.taken in
    let long = as_long s os refl c.requires.stands.order in
    let few = c.in-Ok.ensures.few in
    let put = c.in-Ok.ensures.ok in
    same_answer s (watch c.args.id) _ _ _ (attached s c.args.id (not_there s c.args.id os refl c.requires.stands.order none) (omega (arith, long, few)))
    (ap (λ b. state_of b) c.done.ensures.new ∙ ap (λ (ws : List Watching). counted (record s { watchers = ws })) (ap (λ l. watchings l) put.slots ∙ put_watching c.args.id 0 put.seat os c.requires.stands.order put.holds.0 put.holds.4 none))
    c.done.ensures.reply

pub returns-in-Ok-clause-stands : goal.returns-in-Ok-clause-stands
returns-in-Ok-clause-stands g c = rw c.done.ensures.new c.in-Ok.ensures.stands

pub returns-in-Err-WatchTaken-clause-ok : goal.returns-in-Err-WatchTaken-clause-ok
returns-in-Err-WatchTaken-clause-ok g c =
    let s : State = state_of c.args.self.now in
    let os = c.args.self.now.followers.watchers.seats.items in
    let is : is_there c.args.id os ≡ true = one_of_two _ _ _ c.in-Err-WatchTaken.ensures.back (λ h. let e = c.in-Err-WatchTaken.field-0-is in cc) (λ h. c.in-Err-WatchTaken.ensures.taken.0 (ap (λ x. Err x) h)) in
    same_answer s (watch c.args.id) _ _ _ (watch_taken s c.args.id (there s c.args.id os refl c.requires.stands.order is))
    (ap (λ b. state_of b) c.refused.ensures.new ∙ ap (λ l. counted (record s { watchers = watchings l })) c.in-Err-WatchTaken.ensures.err) c.refused.ensures.reply

pub returns-in-Err-WatchFull-clause-ok : goal.returns-in-Err-WatchFull-clause-ok
returns-in-Err-WatchFull-clause-ok g c =
    let s : State = state_of c.args.self.now in
    let os = c.args.self.now.followers.watchers.seats.items in
    let full = one_of_two _ _ _ (turned c.in-Err-WatchFull.ensures.back) (λ h. let e = c.in-Err-WatchFull.field-0-is in cc) (λ h. c.in-Err-WatchFull.ensures.full.0 (ap (λ x. Err x) h)) in
    let long = as_long s os refl c.requires.stands.order in
    let many = full.1 in
    same_answer s (watch c.args.id) _ _ _ (watch_full s c.args.id (not_there s c.args.id os refl c.requires.stands.order full.0) (omega (arith, long, many)))
    (ap (λ b. state_of b) c.refused-in-Err-WatchFull.ensures.new ∙ ap (λ l. counted (record s { watchers = watchings l })) c.in-Err-WatchFull.ensures.err) c.refused-in-Err-WatchFull.ensures.reply
