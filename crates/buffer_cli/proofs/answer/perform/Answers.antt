use Rattle.std.proofs.Common.{◌≡◌, ℕ, List, [], length, map, refl, sym, subst, ap, ◌∙◌, arith}
use Rattle.points.specs.Text.{utf16_of, text_of}
use Rattle.points.proofs.WellFormedLemmas.{well_formed-utf16_of}
use Rattle.machine.specs.declared.command.Command.{Command}
use Rattle.machine.specs.Machine.{State, opened, after}
use Rattle.machine.specs.Plain.{calls_of}
use Rattle.buffer.specs.Seen.{state_of}
use Rattle.buffer.specs.Sound.{IsSound}
use Rattle.buffer.proofs.SoundLemmas.{sound_opened}
use Rattle.buffer_cli.specs.Hits.{AreReplies}
use Rattle.buffer_cli.proofs.LimitLemmas.{answerable}
use Rattle.buffer_cli.proofs.PatternLemmas.{script_is, session_many}
use Rattle.buffer_cli.proofs.RunLemmas.{AreWhole, lawful_run}
use Rattle.machine.specs.Plain.{Kept}
use Rattle.buffer_cli.specs.Saved.{TakeInTurn, saved_files}
use Rattle.buffer_cli.proofs.SavedLemmas.{of_one}
use Rattle.buffer_cli.proofs.answer.perform.Goals as goal

pub answer_all-requires-clause-answered : goal.answer_all-requires-clause-answered
answer_all-requires-clause-answered g c = λ κs lives. (answerable _ c.args.script.now c.commands_of.result.now c.commands_of.ensures c.requires.sinks c.requires.limits).answered

pub answer_all-requires-clause-live : goal.answer_all-requires-clause-live
answer_all-requires-clause-live g c = λ κs lives. (answerable _ c.args.script.now c.commands_of.result.now c.commands_of.ensures c.requires.sinks c.requires.limits).live

pub answer_all-requires-clause-watches : goal.answer_all-requires-clause-watches
answer_all-requires-clause-watches g c = λ κs lives.
    let few = (answerable _ c.args.script.now c.commands_of.result.now c.commands_of.ensures c.requires.sinks c.requires.limits).watches in
    let many = c.requires.watchers in
    omega (arith, few, many)

pub answer_all-requires-clause-matchers : goal.answer_all-requires-clause-matchers
answer_all-requires-clause-matchers g c = λ κs lives.
    c.requires.matchers ∙ (ap length (script_is c.args.script.now c.commands_of.result.now c.commands_of.ensures) ∙ session_many c.commands_of.result.now)

pub answer_all-requires-clause-whole : goal.answer_all-requires-clause-whole
answer_all-requires-clause-whole g c = λ κs lives. subst AreWhole (sym c.new.ensures) tt

pub answer_all-requires-clause-sound : goal.answer_all-requires-clause-sound
answer_all-requires-clause-sound g c = λ κs lives.
    subst IsSound (sym c.in_ok-open.ensures.state) (sound_opened (utf16_of c.args.text.now) c.requires.short (well_formed-utf16_of c.args.text.now c.utf8.text))

pub returns-clause-lawful : goal.returns-clause-lawful
returns-clause-lawful g c =
    let opening : List ℕ = utf16_of c.args.text.now in
    let commands : List Command = c.commands_of.result.now in
    let reached : state_of c.answer_all.new.session.buffer ≡ after (opened opening) (calls_of commands) =
    c.in_ok-replies.ensures.after ∙ ap (λ (s : State). after s (calls_of commands)) c.in_ok-open.ensures.state in
    lawful_run c.args.script.now opening (map g.M.Matcher.tells c.args.matchers.items) commands _ _ _ _ _ c.commands_of.ensures c.requires.limits.version
    (ap (λ (s : State). s.count) reached)
    (c.in_ok-to_text.ensures ∙ ap (λ (s : State). text_of s.text) reached)
    (subst (λ (s : State). AreReplies s (map g.M.Matcher.tells c.args.matchers.items) commands c.in_ok-replies.replies.items) c.in_ok-open.ensures.state c.in_ok-replies.ensures.replies)
    (rw (c.new-3.ensures, c.in_ok-push.ensures.items, c.new-sessions.ensures.items, c.new-2.ensures) refl)
    refl

pub returns-clause-saved : goal.returns-clause-saved
returns-clause-saved g c =
    let before = map g.K.Sink.taken c.args.sinks.now.items in
    let after = map g.K.Sink.taken c.answer_all.new.sinks.items in
    let commands : List Command = c.commands_of.result.now in
    let turns = subst (λ (s : State). TakeInTurn (saved_files s c.new.result commands) before after) c.in_ok-open.ensures.state c.in_ok-replies.ensures.saved in
    of_one (λ cs. TakeInTurn (saved_files (opened (utf16_of c.args.text.now)) [] cs) before after) c.args.script.now.sessions commands c.commands_of.ensures
    (subst (λ (held : List Kept). TakeInTurn (saved_files (opened (utf16_of c.args.text.now)) held commands) before after) c.new.ensures turns)
