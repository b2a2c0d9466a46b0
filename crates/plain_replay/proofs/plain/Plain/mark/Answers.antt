use Rattle.std.proofs.Common.{◌≡◌, ◌∙◌, ap, sym, subst, List, length, arith}
use Rattle.machine.specs.Machine.{State}
use Rattle.points.specs.declared.mark.Mark.{Mark}
use Rattle.points.specs.declared.limits.TheConstants.{MAX_MARKS}
use Rattle.points.specs.MarkList.{mark_with}
use Rattle.plain_replay.specs.Standing.{IsSound}
use Rattle.plain_replay.proofs.SoundLemmas.{sound_with}
use Rattle.plain_replay.proofs.CallLemmas.{same_pair, mark_taken, marks_full, mark_added, mark_is, full_by, room_by}
use Rattle.plain_replay.proofs.plain.Plain.mark.Goals as goal

pub returns-in-Some-clause-ok : goal.returns-in-Some-clause-ok
returns-in-Some-clause-ok c = same_pair _ _ _ _ c.refused.ensures.state c.refused.ensures.reply
    ∙ mark_taken c.args.self.now c.args.id c.args.range c.args.exclusive c.in-Some.field-0
    (c.in-Some.ensures ∙ ap (mark_with c.args.id) (c.marks-known.ensures.value ∙ ap (λ (s : State). s.marks) c.self.view_is))

pub returns-then-known-ge-MAX_MARKS-clause-ok : goal.returns-then-known-ge-MAX_MARKS-clause-ok
returns-then-known-ge-MAX_MARKS-clause-ok c =
    let same : c.marks-known.result.now ≡ c.args.self.now.marks = c.marks-known.ensures.value ∙ ap (λ (s : State). s.marks) c.self.view_is in
    same_pair _ _ _ _ c.refused-then-known-ge-MAX_MARKS.ensures.state c.refused-then-known-ge-MAX_MARKS.ensures.reply
    ∙ marks_full c.args.self.now c.args.id c.args.range c.args.exclusive (c.in-None.ensures ∙ ap (mark_with c.args.id) same)
    (full_by (length c.args.self.now.marks) MAX_MARKS (omega (arith, ap length same, c.if-known-ge-MAX_MARKS.true)))

pub put_marks-requires-clause-sound : goal.put_marks-requires-clause-sound
put_marks-requires-clause-sound c =
    let same : c.marks-known.result.now ≡ c.args.self.now.marks = c.marks-known.ensures.value ∙ ap (λ (s : State). s.marks) c.self.view_is in
    let text : c.text.result.now ≡ c.args.self.now.text = c.text.ensures.value ∙ ap (λ (s : State). s.text) c.self.view_is in
    let text-2 : c.text-2.result.now ≡ c.args.self.now.text = c.text-2.ensures.value ∙ ap (λ (s : State). s.text) c.self.view_is in
    subst (λ (ms : List Mark). IsSound c.args.self.now.text ms)
    (sym (mark_is c.args.self.now.text c.text.result.now c.text-2.result.now c.args.self.now.marks c.marks-known.result.now c.in_ok-all.all.items c.args.id c.args.range.start c.args.range.end c.clip.result c.clip-2.result c.args.exclusive
    c.clip.ensures text c.clip-2.ensures text-2 same c.in_ok-all.ensures))
    (sound_with c.args.self.now.text c.args.self.now.marks c.args.id c.args.range.start c.args.range.end c.args.exclusive (omega (arith, ap length same, c.if-known-ge-MAX_MARKS.false))
    (subst (λ (s : State). IsSound s.text s.marks) c.self.view_is c.marks-known.ensures.sound))

pub returns-clause-ok : goal.returns-clause-ok
returns-clause-ok c =
    let same : c.marks-known.result.now ≡ c.args.self.now.marks = c.marks-known.ensures.value ∙ ap (λ (s : State). s.marks) c.self.view_is in
    let text : c.text.result.now ≡ c.args.self.now.text = c.text.ensures.value ∙ ap (λ (s : State). s.text) c.self.view_is in
    let text-2 : c.text-2.result.now ≡ c.args.self.now.text = c.text-2.ensures.value ∙ ap (λ (s : State). s.text) c.self.view_is in
    same_pair _ _ _ _ c.put_marks.ensures.state c.put_marks.ensures.reply
    ∙ mark_added c.args.self.now c.args.id c.args.range c.args.exclusive c.in_ok-all.all.items (c.in-None.ensures ∙ ap (mark_with c.args.id) same)
    (room_by (length c.args.self.now.marks) MAX_MARKS (omega (arith, ap length same, c.if-known-ge-MAX_MARKS.false)))
    (mark_is c.args.self.now.text c.text.result.now c.text-2.result.now c.args.self.now.marks c.marks-known.result.now c.in_ok-all.all.items c.args.id c.args.range.start c.args.range.end c.clip.result c.clip-2.result c.args.exclusive
    c.clip.ensures text c.clip-2.ensures text-2 same c.in_ok-all.ensures)
