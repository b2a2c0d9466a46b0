use Rattle.std.proofs.Common.{◌≡◌, List, length, map, refl, sym, ◌∙◌, ap, subst, arith}
use Rattle.std.specs.Prelude.{Option}
use Rattle.std.specs.Bool.{Decides}
use Rattle.std.proofs.lemmas.Bool.{false≢true}
use Rattle.std.proofs.lemmas.List.{length-map}
use Rattle.std.proofs.lemmas.Option.{MatchOption-at_none}
use Rattle.points.specs.Text.{utf16_of}
use Rattle.machine.specs.Machine.{State, opened}
use Rattle.machine.specs.Answers.{Matches}
use Rattle.machine.specs.Lawful.{state_after}
use Rattle.machine.specs.FirstFault.{TakesAreLawful, EndIsLawful}
use Rattle.snapshot_check.specs.Gathered.{AreAllTakes}
use Rattle.transcript_check.proofs.CheckLemmas.{few_calls, end_decides}
use Rattle.transcript_check.proofs.JudgedLemmas.{IsReady, ready}
use Rattle.transcript_check.proofs.FoundLemmas.{doubt_found, takes_found, lawful_found, end_found}
use Rattle.transcript_check.proofs.check.judged.Goals as goal

pub linked_takes-requires : goal.linked_takes-requires
linked_takes-requires g c =
    omega (arith, ap length (c.as_slice-calls.ensures.value ∙ c.requires.calls.calls), few_calls c.args.script.now.sessions c.args.transcript.now.sessions, c.requires.commands)

pub pass-requires-clause-few : goal.pass-requires-clause-few
pass-requires-clause-few g c κs within =
    omega (arith, ap length (c.as_slice-calls.ensures.value ∙ c.requires.calls.calls), few_calls c.args.script.now.sessions c.args.transcript.now.sessions, c.requires.commands)

pub returns-in-Some-first_doubt-clause-found : goal.returns-in-Some-first_doubt-clause-found
returns-in-Some-first_doubt-clause-found g c =
    let told : List (Option Matches) = map g.M.Matcher.tells c.args.matchers.now.items in
    let r : IsReady c.args.script.now (utf16_of c.args.opening.now) told c.args.transcript.now c.as_slice-calls.result.now c.as_slice-3.result.now c.as_slice-versions.result.now c.as_slice-4.result.now =
    ready c.args.script.now (utf16_of c.args.opening.now) told c.args.transcript.now c.as_slice-calls.result.now c.in_ok-plain.plain
    c.in_ok-linked.linked.takes.items c.as_slice-3.result.now c.pass.new.seen.versions.items c.as_slice-versions.result.now c.pass.new.seen.right.items c.as_slice-4.result.now
    (length c.as_slice-patterns.result.now) c.as_slice.result.now c.as_slice-replies.result.now
    c.requires.form (c.as_slice-calls.ensures.value ∙ c.requires.calls.calls) c.in_ok-plain.ensures
    (MatchOption-at_none _ _ c.in-None.is c.in_ok-number.ensures.calls) (MatchOption-at_none _ _ c.in-None.is c.in_ok-number.ensures.seen)
    c.as_slice-3.ensures.value c.as_slice-versions.ensures.value c.as_slice-4.ensures.value c.as_slice.ensures c.as_slice-replies.ensures
    (subst (AreAllTakes (length c.as_slice-patterns.result.now) c.as_slice.result.now c.as_slice-replies.result.now) (sym c.in_ok-linked.ensures.takes) c.in_ok-takes.ensures)
    (length-map c.args.matchers.now.items g.M.Matcher.tells ∙ sym (ap length c.as_slice-patterns.ensures.value)) in
    doubt_found c.args.script.now (utf16_of c.args.opening.now) told c.args.transcript.now c.as_slice-calls.result.now c.as_slice-3.result.now c.as_slice-versions.result.now c.as_slice-4.result.now
    c.in-Some-first_doubt.place r.form r.is r.agree r.passed r.listed c.in-Some-first_doubt.ensures

pub returns-then-branch-clause-found : goal.returns-then-branch-clause-found
returns-then-branch-clause-found g c =
    let told : List (Option Matches) = map g.M.Matcher.tells c.args.matchers.now.items in
    let r : IsReady c.args.script.now (utf16_of c.args.opening.now) told c.args.transcript.now c.as_slice-calls.result.now c.as_slice-3.result.now c.as_slice-versions.result.now c.as_slice-4.result.now =
    ready c.args.script.now (utf16_of c.args.opening.now) told c.args.transcript.now c.as_slice-calls.result.now c.in_ok-plain.plain
    c.in_ok-linked.linked.takes.items c.as_slice-3.result.now c.pass.new.seen.versions.items c.as_slice-versions.result.now c.pass.new.seen.right.items c.as_slice-4.result.now
    (length c.as_slice-patterns.result.now) c.as_slice.result.now c.as_slice-replies.result.now
    c.requires.form (c.as_slice-calls.ensures.value ∙ c.requires.calls.calls) c.in_ok-plain.ensures
    (MatchOption-at_none _ _ c.in-None.is c.in_ok-number.ensures.calls) (MatchOption-at_none _ _ c.in-None.is c.in_ok-number.ensures.seen)
    c.as_slice-3.ensures.value c.as_slice-versions.ensures.value c.as_slice-4.ensures.value c.as_slice.ensures c.as_slice-replies.ensures
    (subst (AreAllTakes (length c.as_slice-patterns.result.now) c.as_slice.result.now c.as_slice-replies.result.now) (sym c.in_ok-linked.ensures.takes) c.in_ok-takes.ensures)
    (length-map c.args.matchers.now.items g.M.Matcher.tells ∙ sym (ap length c.as_slice-patterns.ensures.value)) in
    let takes : TakesAreLawful c.args.script.now (utf16_of c.args.opening.now) told c.args.transcript.now =
    takes_found c.args.script.now (utf16_of c.args.opening.now) told c.args.transcript.now c.as_slice-calls.result.now c.as_slice-3.result.now c.as_slice-versions.result.now c.as_slice-4.result.now
    r.is r.agree r.passed r.listed c.in-None-first_doubt.ensures in
    let text : c.text.result.now ≡ (state_after (opened (utf16_of c.args.opening.now)) c.as_slice-calls.result.now (length c.as_slice-calls.result.now)).text =
    c.text.ensures.value ∙ (ap (λ (s : State). s.text) (MatchOption-at_none _ _ c.in-None.is c.in_ok-number.ensures.state)
    ∙ ap (λ (s : State). (state_after s c.as_slice-calls.result.now (length c.as_slice-calls.result.now)).text) c.in_ok-plain.ensures) in
    let end : Decides c.in_ok-ends_as.field-0 (EndIsLawful c.args.script.now (utf16_of c.args.opening.now) c.args.transcript.now) =
    end_decides c.args.script.now (utf16_of c.args.opening.now) c.args.transcript.now c.as_slice-calls.result.now (length c.as_slice-calls.result.now) c.text.result.now c.in_ok-ends_as.field-0
    r.is refl text c.in_ok-ends_as.ensures in
    lawful_found c.args.script.now (utf16_of c.args.opening.now) told c.args.transcript.now c.as_slice-calls.result.now r.form r.is r.agree takes (end.0 c.if-branch.true)

pub returns-clause-found : goal.returns-clause-found
returns-clause-found g c =
    let told : List (Option Matches) = map g.M.Matcher.tells c.args.matchers.now.items in
    let r : IsReady c.args.script.now (utf16_of c.args.opening.now) told c.args.transcript.now c.as_slice-calls.result.now c.as_slice-3.result.now c.as_slice-versions.result.now c.as_slice-4.result.now =
    ready c.args.script.now (utf16_of c.args.opening.now) told c.args.transcript.now c.as_slice-calls.result.now c.in_ok-plain.plain
    c.in_ok-linked.linked.takes.items c.as_slice-3.result.now c.pass.new.seen.versions.items c.as_slice-versions.result.now c.pass.new.seen.right.items c.as_slice-4.result.now
    (length c.as_slice-patterns.result.now) c.as_slice.result.now c.as_slice-replies.result.now
    c.requires.form (c.as_slice-calls.ensures.value ∙ c.requires.calls.calls) c.in_ok-plain.ensures
    (MatchOption-at_none _ _ c.in-None.is c.in_ok-number.ensures.calls) (MatchOption-at_none _ _ c.in-None.is c.in_ok-number.ensures.seen)
    c.as_slice-3.ensures.value c.as_slice-versions.ensures.value c.as_slice-4.ensures.value c.as_slice.ensures c.as_slice-replies.ensures
    (subst (AreAllTakes (length c.as_slice-patterns.result.now) c.as_slice.result.now c.as_slice-replies.result.now) (sym c.in_ok-linked.ensures.takes) c.in_ok-takes.ensures)
    (length-map c.args.matchers.now.items g.M.Matcher.tells ∙ sym (ap length c.as_slice-patterns.ensures.value)) in
    let takes : TakesAreLawful c.args.script.now (utf16_of c.args.opening.now) told c.args.transcript.now =
    takes_found c.args.script.now (utf16_of c.args.opening.now) told c.args.transcript.now c.as_slice-calls.result.now c.as_slice-3.result.now c.as_slice-versions.result.now c.as_slice-4.result.now
    r.is r.agree r.passed r.listed c.in-None-first_doubt.ensures in
    let text : c.text.result.now ≡ (state_after (opened (utf16_of c.args.opening.now)) c.as_slice-calls.result.now (length c.as_slice-calls.result.now)).text =
    c.text.ensures.value ∙ (ap (λ (s : State). s.text) (MatchOption-at_none _ _ c.in-None.is c.in_ok-number.ensures.state)
    ∙ ap (λ (s : State). (state_after s c.as_slice-calls.result.now (length c.as_slice-calls.result.now)).text) c.in_ok-plain.ensures) in
    let end : Decides c.in_ok-ends_as.field-0 (EndIsLawful c.args.script.now (utf16_of c.args.opening.now) c.args.transcript.now) =
    end_decides c.args.script.now (utf16_of c.args.opening.now) c.args.transcript.now c.as_slice-calls.result.now (length c.as_slice-calls.result.now) c.text.result.now c.in_ok-ends_as.field-0
    r.is refl text c.in_ok-ends_as.ensures in
    end_found c.args.script.now (utf16_of c.args.opening.now) told c.args.transcript.now c.as_slice-calls.result.now r.form r.is r.agree takes
    (λ (lawful : EndIsLawful c.args.script.now (utf16_of c.args.opening.now) c.args.transcript.now). false≢true (sym c.if-branch.false ∙ end.1 lawful))
