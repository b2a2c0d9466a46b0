use Rattle.std.proofs.Common.{◌≡◌, ◌+◌, ◌∙◌, ap, sym, subst, Some, ℕ, List, arith}
use Rattle.points.specs.Text.{utf16_of}
use Rattle.machine.specs.Machine.{State, Part, Progress, edited_one, member}
use Rattle.machine.specs.Answers.{reply_of}
use Rattle.plain_replay.specs.Standing.{Leads, Follows}
use Rattle.plain_replay.proofs.FollowLemmas.{member_leads}
use Rattle.plain_replay.proofs.CallLemmas.{same_pair, edit_refused_at, edit_done_at}
use Rattle.plain_replay.proofs.plain.Plain.edit.Goals as goal

pub returns-in-None-clause-ok : goal.returns-in-None-clause-ok
returns-in-None-clause-ok c = same_pair _ _ _ _ c.refused.ensures.state c.refused.ensures.reply
    ∙ edit_refused_at c.self.inside.body c.args.self.now c.self.inside.past.items c.self.inside.future.items (c.args.range, utf16_of c.args.text.now) c.self.view_is (sym c.in-None.is ∙ c.in_ok-member.ensures)

pub take_over-requires-clause-leads : goal.take_over-requires-clause-leads
take_over-requires-clause-leads c =
    let some : Some c.in-Some.done ≡ member c.self.inside.body (c.args.range, utf16_of c.args.text.now) = sym c.in-Some.is ∙ c.in_ok-member.ensures in
    let follows : Follows c.self.inside.body c.done.inside.made.items c.done.inside.body = subst (λ (g : Progress). Follows c.self.inside.body g.made g.state) (sym c.done.view_is)
    (member_leads c.self.inside.body (c.args.range, utf16_of c.args.text.now) c.in-Some.done c.count.ensures.sound.short some) in
    subst (λ (s : State). Leads s.text c.done.inside.made.items c.done.inside.body.text) c.self.view_is follows.leads

pub take_over-requires-clause-count : goal.take_over-requires-clause-count
take_over-requires-clause-count c =
    let some : Some c.in-Some.done ≡ member c.self.inside.body (c.args.range, utf16_of c.args.text.now) = sym c.in-Some.is ∙ c.in_ok-member.ensures in
    let follows : Follows c.self.inside.body c.done.inside.made.items c.done.inside.body = subst (λ (g : Progress). Follows c.self.inside.body g.made g.state) (sym c.done.view_is)
    (member_leads c.self.inside.body (c.args.range, utf16_of c.args.text.now) c.in-Some.done c.count.ensures.sound.short some) in
    omega (arith, follows.count, ap (λ (s : State). s.count) c.self.view_is, c.requires)

pub returns-clause-ok : goal.returns-clause-ok
returns-clause-ok c = edit_done_at c.self.inside.body c.args.self.now c.self.inside.past.items c.self.inside.future.items (c.args.range, utf16_of c.args.text.now)
    (record { state = c.done.inside.body; made = c.done.inside.made.items; parts = c.done.inside.parts.items }) c.take_over.new.self c.in_ok-reply.reply c.self.view_is
    (ap (λ (g : Progress). Some g) c.done.view_is ∙ sym c.in-Some.is ∙ c.in_ok-member.ensures) c.in_ok-take_over.ensures.ok
    (c.in_ok-reply.ensures ∙ ap (λ (k : ℕ). reply_of 2 (k + 1) (edited_one c.as_slice.result.now)) c.count.ensures.number
    ∙ ap (λ (ps : List Part). reply_of 2 (c.self.inside.body.count + 1) (edited_one ps)) c.as_slice.ensures.value)
