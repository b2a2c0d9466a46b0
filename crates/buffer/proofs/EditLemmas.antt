-- What an edit does and answers, case by case.
use Rattle.std.proofs.Common.{◌≡◌, ℕ, ◌+◌, ◌-◌, ◌<◌, ◌≤◌, List, [], ◌∷◌, length, Bool, true, false, cond, Option, Some, None, refl, sym, ap, ◌∙◌, arith}
use Rattle.std.specs.Prelude.{◌==◌, ◌&&◌, nat_lt, Result, Ok, Err, IfOk, OnOk}
use Rattle.points.specs.declared.range.Range.{Range}
use Rattle.points.specs.declared.mark.Mark.{Mark}
use Rattle.points.specs.declared.mark.Splice.{Splice}
use Rattle.points.specs.declared.mark.HitCounts.{HitCounts}
use Rattle.points.specs.MarkList.{hit_counts}
use Rattle.points.specs.Text.{replaced}
use Rattle.points.specs.Place.{point_at, clipped_offset}
use Rattle.points.specs.declared.memory.NoMemory.{NoMemory}
use Rattle.points.proofs.TextLemmas.{length-replaced}
use Rattle.points.specs.declared.limits.TheConstants.{MAX_UNITS}
use Rattle.machine.specs.declared.reply.CallRefusal.TheVariants.{TooLong}
use Rattle.machine.specs.declared.reply.Reply.{Reply}
use Rattle.machine.specs.Machine.{State, Call, Answer, Edited, Refused, Shown, edit, look, step, no_hits, nothing_made, one_made, edited, edited_one, counted, with_step, changed, change_of, part_of, shown, between}
use Rattle.machine.specs.Answers.{reply_of, edited_reply}
use Rattle.buffer.specs.Seen.{answered}

-- a reply by the answer that it gives
pub answered_as : (s : State) (call : Call) (r : State × Answer) → step s call ≡ r → answered s call ≡ (r.0, reply_of 1 (s.count + 1) r.1)
answered_as s call r is = ap (λ (x : State × Answer). (x.0, reply_of 1 (s.count + 1) x.1)) is

-- the state and the reply are those of a call that is known
pub same_answer : (s : State) (call : Call) (r : State × Answer) (state : State) (reply : Reply) → step s call ≡ r → state ≡ r.0 → reply ≡ reply_of 1 (s.count + 1) r.1
    → (state, reply) ≡ answered s call
same_answer s call r state reply is state_is reply_is = rw (state_is, reply_is) (sym (answered_as s call r is))

-- the edit from offset i to offset j, by the two tests
abbrev by_tests : State → ℕ → ℕ → List ℕ → Bool → Bool → State × Answer
by_tests s i j new nothing long = edited s edited_one (cond nothing (Some (nothing_made s i)) (cond long None (Some (one_made s i j new))))

abbrev pub is_nothing : ℕ → ℕ → List ℕ → Bool
is_nothing i j new = (i == j) && (length new == 0)

edit_at : (s : State) (range : Range) (new : List ℕ) (i j : ℕ) → i ≡ clipped_offset s.text range.start → j ≡ clipped_offset s.text range.end
    → step s (edit (range, new)) ≡ by_tests s i j new (is_nothing i j new) (nat_lt MAX_UNITS (length (replaced s.text i j new)))
unfolding step
edit_at s range new i j start end = rw (start, end) refl

nothing_by : (s : State) (i j : ℕ) (new : List ℕ) (nothing long : Bool) → nothing ≡ true
    → by_tests s i j new nothing long ≡ (counted s, let p = point_at s.text i in Edited (record { from = p; to = p; end = p; hits = no_hits }))
nothing_by s i j new nothing long is = rw is refl

long_by : (s : State) (i j : ℕ) (new : List ℕ) (nothing long : Bool) → nothing ≡ false → long ≡ true → by_tests s i j new nothing long ≡ (counted s, Refused TooLong)
long_by s i j new nothing long some is = rw (some, is) refl

makes_by : (s : State) (i j : ℕ) (new : List ℕ) (nothing long : Bool) → nothing ≡ false → long ≡ false
    → by_tests s i j new nothing long ≡ (counted (with_step (change_of s i j new ∷ []) (changed s i j new)), Edited (part_of s i j new))
makes_by s i j new nothing long some fits = rw (some, fits) refl

pub edit_nothing : (s : State) (range : Range) (new : List ℕ) (i j : ℕ) → i ≡ clipped_offset s.text range.start → j ≡ clipped_offset s.text range.end → is_nothing i j new ≡ true
    → step s (edit (range, new)) ≡ (counted s, let p = point_at s.text i in Edited (record { from = p; to = p; end = p; hits = no_hits }))
edit_nothing s range new i j start end is = edit_at s range new i j start end ∙ nothing_by s i j new _ _ is

pub edit_too_long : (s : State) (range : Range) (new : List ℕ) (i j : ℕ) → i ≡ clipped_offset s.text range.start → j ≡ clipped_offset s.text range.end → is_nothing i j new ≡ false
    → nat_lt MAX_UNITS (length (replaced s.text i j new)) ≡ true → step s (edit (range, new)) ≡ (counted s, Refused TooLong)
edit_too_long s range new i j start end some long = edit_at s range new i j start end ∙ long_by s i j new _ _ some long

pub edit_makes : (s : State) (range : Range) (new : List ℕ) (i j : ℕ) → i ≡ clipped_offset s.text range.start → j ≡ clipped_offset s.text range.end → is_nothing i j new ≡ false
    → nat_lt MAX_UNITS (length (replaced s.text i j new)) ≡ false
    → step s (edit (range, new)) ≡ (counted (with_step (change_of s i j new ∷ []) (changed s i j new)), Edited (part_of s i j new))
edit_makes s range new i j start end some fits = edit_at s range new i j start end ∙ makes_by s i j new _ _ some fits

pub look_shows : (s : State) (range : Range) (limit i j n : ℕ) (units : List ℕ) → i ≡ clipped_offset s.text range.start → j ≡ clipped_offset s.text range.end → units ≡ shown limit (between s.text i j) → n ≡ j - i
    → step s (look range limit) ≡ (counted s, Shown units n)
unfolding step
look_shows s range limit i j n units start end shows is = rw (shows, is, start, end) refl

-- the text is too long by what is kept and what is put in
pub too_long_is : (t : List ℕ) (i j : ℕ) (s : List ℕ) (kept n : ℕ) → i ≤ j → j ≤ length t → kept ≡ length t - (j - i) → n ≡ length s → length (replaced t i j s) ≡ kept + n
too_long_is t i j s kept n order within is many = omega (arith, length-replaced t i j s order within, is, many)

-- a call that may want memory: its state and its reply where it was done
pub done_answer : (s : State) (call : Call) (x : State × Answer) (r : Result Reply NoMemory) (state : State) → step s call ≡ x → OnOk r (state ≡ x.0) → IfOk r (λ reply. reply ≡ reply_of 1 (s.count + 1) x.1)
    → IfOk r (λ reply. (state, reply) ≡ answered s call)
done_answer s call x (Ok reply) state is state_is reply_is = same_answer s call x state reply is state_is reply_is
done_answer s call x (Err e) state is state_is reply_is = state_is

-- states with equal parts
pub same_state : (t u : State) → t.text ≡ u.text → t.marks ≡ u.marks → t.past ≡ u.past → t.future ≡ u.future → t.watchers ≡ u.watchers → t.count ≡ u.count → t.version ≡ u.version → t ≡ u
same_state t u text marks past future watchers count version =
    ap (λ x. record { text = x; marks = t.marks; past = t.past; future = t.future; watchers = t.watchers; count = t.count; version = t.version }) text
    ∙ (ap (λ x. record { text = u.text; marks = x; past = t.past; future = t.future; watchers = t.watchers; count = t.count; version = t.version }) marks
    ∙ (ap (λ x. record { text = u.text; marks = u.marks; past = x; future = t.future; watchers = t.watchers; count = t.count; version = t.version }) past
    ∙ (ap (λ x. record { text = u.text; marks = u.marks; past = u.past; future = x; watchers = t.watchers; count = t.count; version = t.version }) future
    ∙ (ap (λ x. record { text = u.text; marks = u.marks; past = u.past; future = u.future; watchers = x; count = t.count; version = t.version }) watchers
    ∙ (ap (λ x. record { text = u.text; marks = u.marks; past = u.past; future = u.future; watchers = u.watchers; count = x; version = t.version }) count
    ∙ ap (λ x. record { text = u.text; marks = u.marks; past = u.past; future = u.future; watchers = u.watchers; count = u.count; version = x }) version)))))

-- the reply to a change
pub reply_made : (at n : ℕ) (place c : Splice) (hits : HitCounts) (ms : List Mark) → at ≡ n → place ≡ c → hits ≡ hit_counts c ms
    → edited_reply at (record { from = place.start; to = place.old_end; end = place.new_end; hits = hits }) ≡ edited_reply n (record { from = c.start; to = c.old_end; end = c.new_end; hits = hit_counts c ms })
reply_made at n place c hits ms number is many = rw (number, is, many) refl
