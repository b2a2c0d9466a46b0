-- Each call leaves a sound state sound.
use Rattle.std.proofs.Common.{◌≡◌, ℕ, zero, suc, ◌+◌, ◌-◌, ◌<◌, ◌≤◌, List, [], ◌∷◌, ◌++◌, length, take, drop, map, Bool, true, false, cond, Option, Some, None, refl, sym, subst, ap, ◌∙◌, unwrap_or, inl, inr, arith, append_assoc, take-append-drop, length-append}
use Rattle.std.specs.Prelude.{nat_lt, nat_le, ◌==◌, not, is_some, slice_get, Result, Ok, Err, IfOk, OnErr}
use Rattle.std.specs.List.{All, filter}
use Rattle.std.proofs.lemmas.Bool.{cases_lt, cases_Bool, lt-ltb, le-ltb, false≢true, ltb-false}
use Rattle.std.proofs.lemmas.Bool.Decides.{nat_tests}
use Rattle.std.proofs.lemmas.List.{length-map, length-take-le, take_at, drop_at, take-take, drop-take}
use Rattle.std.proofs.lemmas.List.Elements.{All-nil, All-cons, All-append, All-filter, All-map, All-weaker}
use Rattle.std.proofs.lemmas.List.Sums.{length-filter, count_by-le-length}
use Rattle.points.specs.declared.point.Point.{Point}
use Rattle.points.specs.declared.mark.Mark.{Mark}
use Rattle.points.specs.declared.range.Range.{Range}
use Rattle.points.specs.declared.limits.TheConstants.{MAX_UNITS, MAX_MARKS, MAX_STEPS}
use Rattle.points.specs.Text.{replaced, IsWellFormed}
use Rattle.points.specs.Place.{point_at, offset_of, clip, clipped_offset}
use Rattle.points.specs.MarkList.{mark_with, with_mark, without_mark, with_exclusive, made_exclusive, all_moved}
use Rattle.points.specs.Marks.{moved}
use Rattle.points.specs.MarkText.{IsMarkOf, IsPointOf, splice_in}
use Rattle.points.proofs.ClipLemmas.{clipped_at, clipped_offset_mono}
use Rattle.points.proofs.EndingLemmas.{well_formed_edit}
use Rattle.points.proofs.ExtentParts.{point_at-replaced_before}
use Rattle.points.proofs.MarkTextLemmas.{marks_moved}
use Rattle.points.proofs.OffsetLemmas.{offset_of-at}
use Rattle.points.proofs.TextLemmas.{length-replaced}
use Rattle.points.specs.declared.memory.NoMemory.{NoMemory}
use Rattle.machine.specs.declared.reply.Reply.{Reply}
use Rattle.buffer.specs.Seen.{answered}
use Rattle.machine.specs.declared.reply.CallRefusal.TheVariants as no
use Rattle.machine.specs.Machine.{State, Change, Step, Call, Answer, Watching, Refused, Done, between, changed, change_of, splice_at, put, counted, edited, edited_one, nothing_made, one_made, undo_step, redo_step, tells, with_marks, on_mark, with_watchers, with_watcher, watcher_with, unwatch_step, step, opened, edit, batch, undo, redo, look, add_mark, remove_mark, set_exclusive, mark_range, find_marks, compare_marks, watch, unwatch}
use Rattle.buffer.specs.Sound.{Leads, LeadsOn, LeadsBack, LeadInTurn, IsSound, IsSingle}
use Rattle.buffer.proofs.TextLemmas.{splice_is}
use Rattle.buffer.proofs.UndoLemmas.{leads_at, gives_at}

-- ---- texts with units replaced, and replaced back

front : (t : List ℕ) (i j : ℕ) (s : List ℕ) → i ≤ length t → take i (replaced t i j s) ≡ take i t
front t i j s within = ap (take i) (append_assoc (take i t) s (drop j t)) ∙ take_at (take i t) (s ++ drop j t) i (length-take-le i t within)

middle : (t : List ℕ) (i j : ℕ) (s : List ℕ) → i ≤ length t → between (replaced t i j s) i (i + length s) ≡ s
middle t i j s within = ap (λ (xs : List ℕ). take (i + length s - i) (drop i xs)) (append_assoc (take i t) s (drop j t))
    ∙ (ap (take (i + length s - i)) (drop_at (take i t) (s ++ drop j t) i (length-take-le i t within)) ∙ take_at s (drop j t) (i + length s - i) (omega arith))

back : (t : List ℕ) (i j : ℕ) (s : List ℕ) → i ≤ length t → drop (i + length s) (replaced t i j s) ≡ drop j t
back t i j s within = drop_at (take i t ++ s) (drop j t) (i + length s) (omega (arith, length-append (take i t) s, length-take-le i t within))

joined_again : (t : List ℕ) (i j : ℕ) → i ≤ j → take i t ++ between t i j ≡ take j t
joined_again t i j order =
    let k : ℕ = j - i in
    let e : i + k ≡ j = omega arith in
    subst (λ (n : ℕ). take i t ++ take k (drop i t) ≡ take n t) e
    (ap (λ (xs : List ℕ). xs ++ take k (drop i t)) (sym (take-take i (i + k) t (omega arith))) ∙ (ap (λ (xs : List ℕ). take i (take (i + k) t) ++ xs) (sym (drop-take i k t)) ∙ take-append-drop i (take (i + k) t)))

-- the units back in their place
pub put_back : (t : List ℕ) (i j : ℕ) (s : List ℕ) → i ≤ j → j ≤ length t → replaced (replaced t i j s) i (i + length s) (between t i j) ≡ t
put_back t i j s order within =
    ap (λ (xs : List ℕ). xs ++ between t i j ++ drop (i + length s) (replaced t i j s)) (front t i j s (omega arith))
    ∙ (ap (λ (xs : List ℕ). take i t ++ between t i j ++ xs) (back t i j s (omega arith))
    ∙ (ap (λ (xs : List ℕ). xs ++ drop j t) (joined_again t i j order) ∙ take-append-drop j t))

-- a change leads back
pub turned : (t u : List ℕ) (i j : ℕ) (s : List ℕ) → i ≤ j → j ≤ length t → length t ≤ MAX_UNITS → IsWellFormed t → u ≡ replaced t i j s → Leads (point_at t i) s (between t i j) u t
turned t u i j s order within short whole is = rw is (record {
  offset = i;
  here = point_at-replaced_before t i j i s (omega arith) (omega arith);
  within = omega (arith, length-replaced t i j s order within);
  stands = middle t i j s (omega arith);
  gives = sym (put_back t i j s order within);
  short = short;
  whole = whole;
})

pub leads_back : (start : Point) (old new t u : List ℕ) → length t ≤ MAX_UNITS → IsWellFormed t → Leads start old new t u → Leads start new old u t
leads_back start old new t u short whole h =
    subst (λ (p : Point). Leads p new old u t) h.here (subst (λ (xs : List ℕ). Leads (point_at t h.offset) new xs u t) h.stands
    (turned t u h.offset (h.offset + length old) new (omega arith) h.within short whole h.gives))

lead_take : (R : Step → List ℕ → List ℕ → Type 0) (n : ℕ) (t : List ℕ) (steps : List Step) → LeadInTurn R t steps → LeadInTurn R t (take n steps)
lead_take R zero t [] all = all
lead_take R (suc n) t [] all = all
lead_take R zero t (x ∷ xs) all = record {}
lead_take R (suc n) t (x ∷ xs) (u, here, rest) = (u, here, lead_take R n u xs rest)

-- ---- the state after a change

marks_after : (s : State) (i j : ℕ) (new : List ℕ) → i ≤ j → j ≤ length s.text → All (IsMarkOf s.text) s.marks → All (IsMarkOf (replaced s.text i j new)) (all_moved (splice_at s.text i j new) s.marks)
marks_after s i j new order within marks = rw (splice_is s.text i j new order within) (marks_moved s.text new i j order within s.marks marks)

pub sound_edit : (s : State) (i j : ℕ) (new : List ℕ) → i ≤ j → j ≤ length s.text → length (replaced s.text i j new) ≤ MAX_UNITS → IsWellFormed (replaced s.text i j new) → IsSound s
    → IsSound (record (changed s i j new) { past = take MAX_STEPS ((change_of s i j new ∷ []) ∷ s.past); future = [] })
sound_edit s i j new order within short whole h = record {
  short = short;
  whole = whole;
  few_marks = omega (arith, h.few_marks, length-map s.marks (moved (splice_at s.text i j new)));
  marks = marks_after s i j new order within h.marks;
  past = lead_take LeadsBack MAX_STEPS (replaced s.text i j new) ((change_of s i j new ∷ []) ∷ s.past) (s.text, turned s.text (replaced s.text i j new) i j new order within h.short h.whole refl, h.past);
  future = record {};
}

-- ---- the state after a call

sound_counted : (s : State) → IsSound s → IsSound (counted s)
sound_counted s h = record { short = h.short; whole = h.whole; few_marks = h.few_marks; marks = h.marks; past = h.past; future = h.future }

sound_member : (s : State) (i j : ℕ) (new : List ℕ) (nothing long : Bool) → i ≤ j → j ≤ length s.text → nat_lt MAX_UNITS (length (replaced s.text i j new)) ≡ long → IsWellFormed (replaced s.text i j new) → IsSound s
    → IsSound (edited s edited_one (cond nothing (Some (nothing_made s i)) (cond long None (Some (one_made s i j new))))).0
sound_member s i j new true long order within is whole h = sound_counted s h
sound_member s i j new false true order within is whole h = sound_counted s h
sound_member s i j new false false order within is whole h = let e = sound_edit s i j new order within (ltb-false MAX_UNITS (length (replaced s.text i j new)) is) whole h in
    record { short = e.short; whole = e.whole; few_marks = e.few_marks; marks = e.marks; past = e.past; future = e.future }

sound_undo : (s : State) (past : List Step) → LeadInTurn LeadsBack s.text past → IsSound s → IsSound (undo_step s past).0
sound_undo s [] leads h = sound_counted s h
sound_undo s ([] ∷ rest) (u, here, more) h = absurd here
sound_undo s ((c ∷ d ∷ ds) ∷ rest) (u, here, more) h = absurd here
sound_undo s ((c ∷ []) ∷ rest) (u, here, more) h =
    let at = leads_at c.start c.new c.old s.text u here in
    let is : replaced s.text (unwrap_or (offset_of s.text c.start) 0) (unwrap_or (offset_of s.text c.start) 0 + length c.new) c.old ≡ u = gives_at c.start c.new c.old s.text u here in
    record {
      short = rw is here.short;
      whole = rw is here.whole;
      few_marks = omega (arith, h.few_marks, length-map s.marks (moved (splice_at s.text (unwrap_or (offset_of s.text c.start) 0) (unwrap_or (offset_of s.text c.start) 0 + length c.new) c.old)));
      marks = marks_after s _ _ c.old (omega arith) at.within h.marks;
      past = rw is more;
      future = rw is (s.text, leads_back c.start c.new c.old s.text u h.short h.whole here, h.future);
    }

sound_redo : (s : State) (future : List Step) → LeadInTurn LeadsOn s.text future → IsSound s → IsSound (redo_step s future).0
sound_redo s [] leads h = sound_counted s h
sound_redo s ([] ∷ rest) (u, here, more) h = absurd here
sound_redo s ((c ∷ d ∷ ds) ∷ rest) (u, here, more) h = absurd here
sound_redo s ((c ∷ []) ∷ rest) (u, here, more) h =
    let at = leads_at c.start c.old c.new s.text u here in
    let is : replaced s.text (unwrap_or (offset_of s.text c.start) 0) (unwrap_or (offset_of s.text c.start) 0 + length c.old) c.new ≡ u = gives_at c.start c.old c.new s.text u here in
    record {
      short = rw is here.short;
      whole = rw is here.whole;
      few_marks = omega (arith, h.few_marks, length-map s.marks (moved (splice_at s.text (unwrap_or (offset_of s.text c.start) 0) (unwrap_or (offset_of s.text c.start) 0 + length c.old) c.new)));
      marks = marks_after s _ _ c.new (omega arith) at.within h.marks;
      past = rw is (s.text, leads_back c.start c.old c.new s.text u h.short h.whole here, h.past);
      future = rw is more;
    }

-- other marks
sound_marks : (s : State) (ms : List Mark) → length ms ≤ MAX_MARKS → All (IsMarkOf s.text) ms → IsSound s → IsSound (with_marks s ms).0
sound_marks s ms few all h = record { short = h.short; whole = h.whole; few_marks = few; marks = all; past = h.past; future = h.future }

clipped_point : (t : List ℕ) (p : Point) → IsPointOf t (clip t p)
clipped_point t p = let at = clipped_at t p in record { offset = clipped_offset t p; within = at.within; is = at.point }

apart : (id : ℕ) (ms : List Mark) → length (filter (λ m. nat_lt m.id id) ms) + length (filter (λ m. nat_lt id m.id) ms) ≤ length ms
apart id [] = omega arith
apart id (m ∷ ms) = let rest = apart id ms in elim (cases_lt m.id id) [
  | inl low ↦ rw (lt-ltb m.id id low, le-ltb id m.id (omega (arith, low))) (omega (arith, rest))
  | inr high ↦ rw (le-ltb m.id id high) (more_or_not (nat_lt id m.id) m (filter (λ x. nat_lt x.id id) ms) (filter (λ x. nat_lt id x.id) ms) (length ms) rest)
]
  where
    more_or_not : (b : Bool) (m : Mark) (xs ys : List Mark) (n : ℕ) → length xs + length ys ≤ n → length xs + length (cond b (m ∷ ys) ys) ≤ suc n
    more_or_not true m xs ys n le = omega (arith, le)
    more_or_not false m xs ys n le = omega (arith, le)

sound_add : (s : State) (m : Mark) (taken full : Bool) → IsMarkOf s.text m → nat_le MAX_MARKS (length s.marks) ≡ full → IsSound s
    → IsSound (cond taken (tells s (Refused no.MarkTaken)) (cond full (tells s (Refused no.MarksFull)) (with_marks s (with_mark m s.marks)))).0
sound_add s m true full mark is h = sound_counted s h
sound_add s m false true mark is h = sound_counted s h
sound_add s m false false mark is h =
    let low = filter (λ x. nat_lt x.id m.id) s.marks in
    let high = filter (λ x. nat_lt m.id x.id) s.marks in
    let room : length s.marks < MAX_MARKS = grind (arith, nat_tests, is) in
    sound_marks s (with_mark m s.marks) (omega (arith, room, apart m.id s.marks, length-append low (m ∷ high)))
    (All-append (IsMarkOf s.text) low (m ∷ high) (All-filter _ (IsMarkOf s.text) s.marks h.marks) (All-cons (IsMarkOf s.text) m high mark (All-filter _ (IsMarkOf s.text) s.marks h.marks))) h

sound_on : (s : State) (call : Mark → State × Answer) (o : Option Mark) → ((m : Mark) → IsSound (call m).0) → IsSound s → IsSound (on_mark s call o).0
sound_on s call None each h = sound_counted s h
sound_on s call (Some m) each h = each m

exclusive_of : (t : List ℕ) (exclusive b : Bool) (m : Mark) → IsMarkOf t m → IsMarkOf t (cond b (record m { exclusive = exclusive }) m)
exclusive_of t exclusive true m mark = mark
exclusive_of t exclusive false m mark = mark

sound_watch : (s : State) (ws : List Watching) (taken full : Bool) → IsSound s
    → IsSound (cond taken (tells s (Refused no.WatchTaken)) (cond full (tells s (Refused no.WatchFull)) (with_watchers s ws Done))).0
sound_watch s ws true full h = sound_counted s h
sound_watch s ws false true h = sound_counted s h
sound_watch s ws false false h = record { short = h.short; whole = h.whole; few_marks = h.few_marks; marks = h.marks; past = h.past; future = h.future }

sound_unwatch : (s : State) (id : ℕ) (o : Option Watching) → IsSound s → IsSound (unwatch_step s id o).0
sound_unwatch s id None h = sound_counted s h
sound_unwatch s id (Some w) h = record { short = h.short; whole = h.whole; few_marks = h.few_marks; marks = h.marks; past = h.past; future = h.future }

pub sound_step : (s : State) (call : Call) → IsSingle call → IsSound s → IsSound (step s call).0
unfolding step
sound_step s (edit e) single h = sound_member s (clipped_offset s.text e.0.start) (clipped_offset s.text e.0.end) e.1 _ _ (clipped_offset_mono s.text e.0.start e.0.end e.0.ordered) (clipped_at s.text e.0.end).within refl
    (well_formed_edit s.text e.0.start e.0.end e.1 h.whole single) h
sound_step s (batch edits) single h = absurd single
sound_step s undo single h = sound_undo s s.past h.past h
sound_step s redo single h = sound_redo s s.future h.future h
sound_step s (look range limit) single h = sound_counted s h
sound_step s (add_mark id range exclusive) single h =
    sound_add s (record { id = id; start = clip s.text range.start; end = clip s.text range.end; exclusive = exclusive }) _ _ (clipped_point s.text range.start, clipped_point s.text range.end) refl h
sound_step s (remove_mark id) single h = sound_on s _ (mark_with id s.marks) (λ m. sound_marks s (without_mark id s.marks)
    (omega (arith, h.few_marks, length-filter (λ x. not (x.id == id)) s.marks, count_by-le-length (λ x. not (x.id == id)) s.marks)) (All-filter _ (IsMarkOf s.text) s.marks h.marks) h) h
sound_step s (set_exclusive id exclusive) single h = sound_on s _ (mark_with id s.marks) (λ m. sound_marks s (with_exclusive id exclusive s.marks)
    (omega (arith, h.few_marks, length-map s.marks (made_exclusive id exclusive)))
    (All-map (IsMarkOf s.text) (made_exclusive id exclusive) s.marks (All-weaker (IsMarkOf s.text) (λ x. IsMarkOf s.text (made_exclusive id exclusive x)) (λ x mark. exclusive_of s.text exclusive (x.id == id) x mark) s.marks h.marks)) h) h
sound_step s (mark_range id) single h = sound_on s _ (mark_with id s.marks) (λ m. sound_counted s h) h
sound_step s (find_marks how range) single h = sound_counted s h
sound_step s (compare_marks a b) single h = sound_on s _ (mark_with a s.marks) (λ m. sound_on s _ (mark_with b s.marks) (λ n. sound_counted s h) h) h
sound_step s (watch id) single h = sound_watch s (with_watcher id s.watchers) _ _ h
sound_step s (unwatch id) single h = sound_unwatch s id (watcher_with id s.watchers) h

-- the state in which a text is opened
pub sound_opened : (t : List ℕ) → length t ≤ MAX_UNITS → IsWellFormed t → IsSound (opened t)
sound_opened t short whole = record { short = short; whole = whole; few_marks = omega arith; marks = All-nil (IsMarkOf t); past = record {}; future = record {} }

-- ---- what a call answers, and the state after it

pub sound_after : (s : State) (call : Call) (state : State) (reply : Reply) → IsSingle call → (state, reply) ≡ answered s call → IsSound s → IsSound state
sound_after s call state reply single is h = let e : state ≡ (step s call).0 = ap (λ (p : State × Reply). p.0) is in rw e (sound_step s call single h)

pub sound_done : (s : State) (call : Call) (state : State) (r : Result Reply NoMemory) → IsSingle call → IfOk r (λ reply. (state, reply) ≡ answered s call) → OnErr r (state ≡ s) → IsSound s → IsSound state
sound_done s call state (Ok reply) single is err h = sound_after s call state reply single is h
sound_done s call state (Err e) single is err h = rw err h
