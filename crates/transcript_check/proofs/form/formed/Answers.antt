use Rattle.std.proofs.Common.{◌≡◌, ◌∙◌, List, sym, ap, subst}
use Rattle.std.specs.List.{AllByRecursion}
use Rattle.std.specs.List.Sorted.{IsStrictlyIncreasing}
use Rattle.std.proofs.lemmas.Option.{MatchOption-at_some, MatchOption-at_none}
use Rattle.machine.specs.declared.command.Command.{Command}
use Rattle.machine.specs.declared.reply.Reply.{Reply}
use Rattle.machine.specs.Lawful.{HasForm, entries, numbers, sessions_have_forms}
use Rattle.transcript_check.specs.Order.{IsOnce}
use Rattle.transcript_check.proofs.form.formed.Goals as goal

pub returns-in-None-clause-form : goal.returns-in-None-clause-form
returns-in-None-clause-form c =
    let calls : c.as_slice.result.now ≡ entries c.args.script.now.sessions c.args.transcript.now.sessions = c.as_slice.ensures.value ∙ c.in_ok-calls.ensures
    ∙ ap (λ (ss : List (List Command)). entries ss c.as_slice-replies.result.now) c.as_slice-sessions.ensures ∙ ap (entries c.args.script.now.sessions) c.as_slice-replies.ensures in
    let fails : IsOnce c.as_slice.result.now → ⊥ = MatchOption-at_none _ _ c.in-None.is c.in_ok-in_order.ensures.once in
    let no : HasForm c.args.script.now c.args.transcript.now → ⊥ = λ (f : HasForm c.args.script.now c.args.transcript.now). fails (subst IsOnce (sym calls) f.once) in no

pub returns-clause-form : goal.returns-clause-form
returns-clause-form c =
    let calls : c.as_slice.result.now ≡ entries c.args.script.now.sessions c.args.transcript.now.sessions = c.as_slice.ensures.value ∙ c.in_ok-calls.ensures
    ∙ ap (λ (ss : List (List Command)). entries ss c.as_slice-replies.result.now) c.as_slice-sessions.ensures ∙ ap (entries c.args.script.now.sessions) c.as_slice-replies.ensures in
    let holds : IsOnce c.as_slice.result.now = MatchOption-at_some _ _ c.in-Some.order c.in-Some.is c.in_ok-in_order.ensures.once in
    record {
      version = c.if-transcript-script.false;
      forms = ap (λ (ss : List (List Command)). sessions_have_forms c.args.script.now.version ss c.args.transcript.now.sessions) (sym c.as_slice-sessions.ensures)
          ∙ ap (sessions_have_forms c.args.script.now.version c.as_slice-sessions.result.now) (sym c.as_slice-replies.ensures)
          ∙ sym c.sessions_have_forms.ensures ∙ c.if-not-sessions_have_forms.false;
      once = subst IsOnce calls holds;
      rising = subst (AllByRecursion (λ (rs : List Reply). IsStrictlyIncreasing (numbers rs))) c.as_slice-replies.ensures (c.all_rise.ensures.0 c.if-not-all_rise.false);
    }
