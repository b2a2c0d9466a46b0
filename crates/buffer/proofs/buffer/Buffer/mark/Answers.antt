use Rattle.std.proofs.Common.{◌≡◌, ℕ, List, Some, None, refl, sym, ap, ◌∙◌, arith}
use Rattle.points.specs.declared.mark.Mark.{Mark}
use Rattle.machine.specs.Machine.{State, counted}
use Rattle.buffer.specs.Seen.{state_of}
use Rattle.buffer.proofs.EditLemmas.{same_answer}
use Rattle.std.specs.Prelude.{Ok, Err, is_some}
use Rattle.points.specs.declared.point.Point.{Point}
use Rattle.points.specs.Place.{clip}
use Rattle.std.proofs.Common.{ap₂}
use Rattle.points.specs.declared.limits.TheConstants.{MAX_MARKS}
use Rattle.points.specs.MarkList.{mark_with, with_mark}
use Rattle.points.proofs.ClipLemmas.{clip_mono}
use Rattle.markers.specs.declared.refusal.MarkerRefusal.TheVariants.{MarkTaken, MarksFull}
use Rattle.machine.specs.Machine.{add_mark}
use Rattle.buffer.proofs.MarkCalls.{mark_taken, mark_full, mark_added, not_refused, not_full}
use Rattle.buffer.proofs.buffer.Buffer.mark.Goals as goal

pub new-clipped-requires : goal.new-clipped-requires
new-clipped-requires g c = rw (c.clip.ensures, c.clip-2.ensures) (clip_mono c.args.self.now.text c.args.range.start c.args.range.end c.args.range.ordered)

pub returns-in-Ok-clause-ok : goal.returns-in-Ok-clause-ok
returns-in-Ok-clause-ok g c =
    let s : State = state_of c.args.self.now in
    let new = not_refused (is_some (mark_with c.args.id s.marks)) c.in-Ok.field-0 MarkTaken c.in-Ok.ensures.taken in
    let room = not_full (is_some (mark_with c.args.id s.marks)) _ MAX_MARKS c.in-Ok.field-0 MarksFull c.in-Ok.ensures.full new c.requires.sound.few_marks in
    let start : c.new-clipped.result.start ≡ clip s.text c.args.range.start = c.new-clipped.ensures.start ∙ c.clip.ensures in
    let end : c.new-clipped.result.end ≡ clip s.text c.args.range.end = c.new-clipped.ensures.end ∙ c.clip-2.ensures in
    let marks_with = ap₂ (λ (p q : Point). with_mark (record { id = c.args.id; start = p; end = q; exclusive = c.args.exclusive }) s.marks) start end in
    same_answer s (add_mark c.args.id c.args.range c.args.exclusive) _ _ _ (mark_added s c.args.id c.args.range c.args.exclusive new room)
    (ap (λ b. state_of b) c.done.ensures.new ∙ ap (λ (ms : List Mark). counted (record s { marks = ms })) (c.in-Ok.ensures.ok ∙ marks_with)) c.done.ensures.reply

pub returns-in-Err-MarkTaken-clause-ok : goal.returns-in-Err-MarkTaken-clause-ok
returns-in-Err-MarkTaken-clause-ok g c =
    let s : State = state_of c.args.self.now in
    same_answer s (add_mark c.args.id c.args.range c.args.exclusive) _ _ _ (mark_taken s c.args.id c.args.range c.args.exclusive (c.in-Err-MarkTaken.ensures.taken.0 (ap Err c.in-Err-MarkTaken.field-0-is)))
    (ap (λ b. state_of b) c.refused.ensures.new ∙ ap (λ (ms : List Mark). counted (record s { marks = ms })) c.in-Err-MarkTaken.ensures.err) c.refused.ensures.reply

pub returns-in-Err-MarksFull-clause-ok : goal.returns-in-Err-MarksFull-clause-ok
returns-in-Err-MarksFull-clause-ok g c =
    let s : State = state_of c.args.self.now in
    let full = c.in-Err-MarksFull.ensures.full.0 (ap Err c.in-Err-MarksFull.field-0-is) in
    same_answer s (add_mark c.args.id c.args.range c.args.exclusive) _ _ _ (mark_full s c.args.id c.args.range c.args.exclusive full.0 full.1)
    (ap (λ b. state_of b) c.refused-in-Err-MarksFull.ensures.new ∙ ap (λ (ms : List Mark). counted (record s { marks = ms })) c.in-Err-MarksFull.ensures.err) c.refused-in-Err-MarksFull.ensures.reply
