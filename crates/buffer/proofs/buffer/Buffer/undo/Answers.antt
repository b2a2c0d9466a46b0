use Rattle.std.proofs.Common.{◌≡◌, ℕ, ◌+◌, ◌≤◌, List, [], ◌∷◌, ◌++◌, length, take, drop, map, Option, Some, None, refl, sym, ap, ◌∙◌, arith, unwrap_or}
use Rattle.std.specs.Prelude.{slice_get, option_map}
use Rattle.points.specs.declared.mark.Splice.{Splice}
use Rattle.points.specs.Place.{offset_of}
use Rattle.points.specs.MarkList.{all_moved, hit_counts}
use Rattle.followers.specs.declared.replacement.Replacement.{Replacement}
use Rattle.followers.specs.Following.{step_back}
use Rattle.machine.specs.Machine.{State, Step, undo, splice_at, heard_more}
use Rattle.buffer.specs.Seen.{state_of}
use Rattle.buffer.specs.Sound.{LeadsBack}
use Rattle.buffer.proofs.TextLemmas.{marks_may_move}
use Rattle.buffer.proofs.EditLemmas.{same_answer, same_state, reply_made}
use Rattle.buffer.proofs.UndoLemmas.{undo_nothing, undo_makes, moved_over, next_leads, leads_at}
use Rattle.buffer.proofs.buffer.Buffer.undo.Goals as goal

pub returns-in-None-clause-ok : goal.returns-in-None-clause-ok
returns-in-None-clause-ok g c =
    let s : State = state_of c.args.self.now in
    let none : slice_get s.past 0 ≡ None = sym c.in_ok-back.ensures ∙ ap (λ (o : Option Replacement). option_map step_back o) c.in-None.is in
    same_answer s undo _ _ _ (undo_nothing s none) (ap (λ b. state_of b) c.refused.ensures.new) c.refused.ensures.reply

pub put_in-requires-clause-stands : goal.put_in-requires-clause-stands
put_in-requires-clause-stands g c =
    let s : State = state_of c.args.self.now in
    let first : slice_get s.past 0 ≡ Some (step_back c.in-Some.back) = sym c.in_ok-back.ensures ∙ ap (λ (o : Option Replacement). option_map step_back o) c.in-Some.is in
    next_leads LeadsBack s.text s.past (step_back c.in-Some.back) first c.requires.sound.past

pub put_in-requires-clause-short : goal.put_in-requires-clause-short
put_in-requires-clause-short g c = c.requires.sound.short

pub undone-hits-requires-after_bounds : goal.undone-hits-requires-after_bounds
undone-hits-requires-after_bounds g c = λ κs lives.
    let s : State = state_of c.args.self.now in
    let r : Replacement = c.in-Some.back in
    let first : slice_get s.past 0 ≡ Some (step_back r) = sym c.in_ok-back.ensures ∙ ap (λ (o : Option Replacement). option_map step_back o) c.in-Some.is in
    let leads = next_leads LeadsBack s.text s.past (step_back r) first c.requires.sound.past in
    let at = leads_at r.start r.old_text r.new_text s.text leads.0 leads.1 in
    let i : ℕ = unwrap_or (offset_of s.text r.start) 0 in
    let told = c.requires.told in
    let count = c.requires.count in (
      omega arith,
      (
        c.in_ok-change.ensures.start,
        (
          marks_may_move s.text i (i + length r.old_text) r.new_text s.marks _ (omega arith) at.within c.requires.sound.short at.fits c.requires.sound.marks c.in_ok-change.ensures.splice,
          (omega (arith, told, count), c.requires.stands),
        ),
      ),
    )

pub returns-clause-ok : goal.returns-clause-ok
returns-clause-ok g c =
    let s : State = state_of c.args.self.now in
    let r : Replacement = c.in-Some.back in
    let first : slice_get s.past 0 ≡ Some (step_back r) = sym c.in_ok-back.ensures ∙ ap (λ (o : Option Replacement). option_map step_back o) c.in-Some.is in
    let i : ℕ = unwrap_or (offset_of s.text r.start) 0 in
    let u : State = (moved_over s i r.old_text r.new_text (drop 1 s.past) (take 1 s.past ++ s.future)).0 in
    same_answer s undo _ _ _ (undo_makes s r.start r.old_text r.new_text i first refl)
    (ap (λ b. state_of (record b { version = c.numbered-self.result })) c.numbered-self.ensures.new ∙ same_state _ u c.in_ok-change.ensures.ok
    (c.undone-hits.ensures.marks ∙ ap (λ (p : Splice). all_moved p s.marks) c.in_ok-change.ensures.splice)
    c.undone-hits.ensures.past c.undone-hits.ensures.future
    (c.undone-hits.ensures.watchers ∙ ap (λ (p : Splice). map (heard_more p) s.watchers) c.in_ok-change.ensures.splice)
    refl c.numbered-self.ensures.number)
    (c.edited_reply.ensures ∙ reply_made _ (s.count + 1) _ (splice_at s.text i (i + length r.old_text) r.new_text) _ s.marks c.numbered-self.ensures.number
    (c.splice_by.ensures ∙ c.in_ok-change.ensures.splice) (c.undone-hits.ensures.hits ∙ ap (λ (p : Splice). hit_counts p s.marks) c.in_ok-change.ensures.splice))

pub returns-clause-stands : goal.returns-clause-stands
returns-clause-stands g c = rw c.numbered-self.ensures.new c.undone-hits.ensures.stands
