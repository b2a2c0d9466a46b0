-- What the plain machine answers to each call, case by case, in the form of a reply.
use Rattle.std.proofs.Common.{◌≡◌, ℕ, ◌+◌, ◌-◌, ◌<◌, ◌≤◌, Bool, true, false, List, [], ◌∷◌, ◌++◌, length, take, drop, slice_index_or, Option, Some, None, refl, sym, ap, ◌∙◌, subst, arith}
use Rattle.std.specs.Prelude.{option_map, is_some, nat_le, ◌==◌, not}
use Rattle.std.specs.List.{filter}
use Rattle.std.proofs.lemmas.Bool.Decides.{nat_tests}
use Rattle.points.specs.declared.point.Point.{Point}
use Rattle.points.specs.declared.range.Range.{Range}
use Rattle.points.specs.declared.mark.Mark.{Mark}
use Rattle.points.specs.declared.limits.TheConstants.{MAX_MARKS, MAX_STEPS, MAX_WATCHERS}
use Rattle.points.specs.Place.{span, clip}
use Rattle.points.specs.Marks.{mark_order}
use Rattle.points.specs.MarkList.{ids_where, mark_with, with_mark, without_mark, with_exclusive}
use Rattle.machine.specs.declared.command.How.{How}
use Rattle.machine.specs.declared.reply.Reply.{Reply}
use Rattle.machine.specs.declared.reply.CallRefusal.{CallRefusal}
use Rattle.machine.specs.declared.reply.CallRefusal.TheVariants as no
use Rattle.machine.specs.Machine.{State, Step, Change, Part, Progress, Edit, Watching, Answer, Batched, Refused, Shown, Done, Ranged, Found, Compared, Heard, edit, batch, undo, redo, look, add_mark, remove_mark, set_exclusive, mark_range, find_marks, compare_marks, watch, unwatch, step, edited, edited_one, counted, with_step, member, members, undone, redone, shown, between, tells, with_marks, on_mark, finds, watcher_with, with_watcher, with_watchers, unwatch_step}
use Rattle.machine.specs.Answers.{reply_of}
use Rattle.plain_replay.specs.Standing.{whole}
use Rattle.plain_replay.specs.Replayed.{told, replayed}
use Rattle.plain_replay.proofs.WholeLemmas.{with_steps, member-whole, members-whole, steps_beside, undone-whole, redone-whole}
use Rattle.plain_replay.proofs.FollowLemmas.{undone_count, redone_count}

-- a refusal counts the call alone
abbrev pub refusal : State → CallRefusal → State × Reply
refusal s why = (counted s, reply_of 2 (s.count + 1) (Refused why))

-- edits
pub edit_refused : (s : State) (p f : List Step) (e : Edit) → None ≡ member s e → refusal (whole s p f) no.TooLong ≡ replayed (whole s p f) (edit e)
unfolding step
edit_refused s p f e none = ap (λ (o : Option Progress). told (whole s p f) (edited (whole s p f) edited_one o)) (ap (option_map (with_steps p f)) none ∙ sym (member-whole s p f e))

pub edit_done : (s : State) (p f : List Step) (e : Edit) (g : Progress) → Some g ≡ member s e
    → told (whole s p f) (counted (with_step g.made (whole g.state p f)), edited_one g.parts) ≡ replayed (whole s p f) (edit e)
unfolding step
edit_done s p f e g some = ap (λ (o : Option Progress). told (whole s p f) (edited (whole s p f) edited_one o)) (ap (option_map (with_steps p f)) some ∙ sym (member-whole s p f e))

pub batch_refused : (s : State) (p f : List Step) (es : List Edit) → None ≡ members s es → refusal (whole s p f) no.TooLong ≡ replayed (whole s p f) (batch es)
unfolding step
batch_refused s p f es none = ap (λ (o : Option Progress). told (whole s p f) (edited (whole s p f) Batched o)) (ap (option_map (with_steps p f)) none ∙ sym (members-whole es s p f))

pub batch_done : (s : State) (p f : List Step) (es : List Edit) (g : Progress) → Some g ≡ members s es
    → told (whole s p f) (counted (with_step g.made (whole g.state p f)), Batched g.parts) ≡ replayed (whole s p f) (batch es)
unfolding step
batch_done s p f es g some = ap (λ (o : Option Progress). told (whole s p f) (edited (whole s p f) Batched o)) (ap (option_map (with_steps p f)) some ∙ sym (members-whole es s p f))

-- undo and redo
pub undo_refused : (s : State) (p f : List Step) → length p ≡ 0 → refusal (whole s p f) no.Nothing ≡ replayed (whole s p f) undo
unfolding step
undo_refused s [] f none = refl
undo_refused s (x ∷ xs) f none = absurd (omega arith)

pub redo_refused : (s : State) (p f : List Step) → length f ≡ 0 → refusal (whole s p f) no.Nothing ≡ replayed (whole s p f) redo
unfolding step
redo_refused s p [] none = refl
redo_refused s p (x ∷ xs) none = absurd (omega arith)

undone_is : (s : State) (p f : List Step) (first x : Step) (n : State) (parts : List Part) → first ≡ x → n ≡ (undone s first).0 → parts ≡ (undone s first).1
    → steps_beside p f (n, parts) ≡ undone (whole s p f) x
undone_is s p f first x n parts at body answered = ap (λ (m : State). steps_beside p f (m, parts)) body ∙ ap (λ (ps : List Part). steps_beside p f ((undone s first).0, ps)) answered
    ∙ ap (λ (y : Step). steps_beside p f (undone s y)) at ∙ sym (undone-whole x s p f)

pub undo_done : (s : State) (p f : List Step) (first : Step) (n : State) (parts : List Part) → 0 < length p → first ≡ slice_index_or p 0 first → n ≡ (undone s first).0 → parts ≡ (undone s first).1
    → told (whole s p f) (counted (whole n (drop 1 p) (take 1 p ++ f)), Batched parts) ≡ replayed (whole s p f) undo
unfolding step
undo_done s [] f first n parts some at body answered = absurd (omega arith)
undo_done s (x ∷ xs) f first n parts some at body answered =
    ap (λ (r : State × List Part). told (whole s (x ∷ xs) f) (counted (whole r.0 xs (x ∷ f)), Batched r.1)) (undone_is s (x ∷ xs) f first x n parts at body answered)

redone_is : (s : State) (p f : List Step) (first x : Step) (n : State) (parts : List Part) → first ≡ x → n ≡ (redone s first).0 → parts ≡ (redone s first).1
    → steps_beside p f (n, parts) ≡ redone (whole s p f) x
redone_is s p f first x n parts at body answered = ap (λ (m : State). steps_beside p f (m, parts)) body ∙ ap (λ (ps : List Part). steps_beside p f ((redone s first).0, ps)) answered
    ∙ ap (λ (y : Step). steps_beside p f (redone s y)) at ∙ sym (redone-whole x s p f)

pub redo_done : (s : State) (p f : List Step) (first : Step) (n : State) (parts : List Part) → 0 < length f → first ≡ slice_index_or f 0 first → n ≡ (redone s first).0 → parts ≡ (redone s first).1
    → told (whole s p f) (counted (whole n (take 1 f ++ p) (drop 1 f)), Batched parts) ≡ replayed (whole s p f) redo
unfolding step
redo_done s p [] first n parts some at body answered = absurd (omega arith)
redo_done s p (x ∷ xs) first n parts some at body answered =
    ap (λ (r : State × List Part). told (whole s p (x ∷ xs)) (counted (whole r.0 (x ∷ p) xs), Batched r.1)) (redone_is s p (x ∷ xs) first x n parts at body answered)

-- the look
pub look_shows : (s : State) (range : Range) (limit : ℕ) (units : List ℕ) (n : ℕ) → units ≡ shown limit (between s.text (span s.text range.start range.end).0 (span s.text range.start range.end).1)
    → n ≡ (span s.text range.start range.end).1 - (span s.text range.start range.end).0 → told s (counted s, Shown units n) ≡ replayed s (look range limit)
unfolding step
look_shows s range limit units n shows is = rw (shows, is) refl

-- the calls on marks
pub mark_taken : (s : State) (id : ℕ) (range : Range) (exclusive : Bool) (m : Mark) → Some m ≡ mark_with id s.marks → refusal s no.MarkTaken ≡ replayed s (add_mark id range exclusive)
unfolding step
mark_taken s id range exclusive m some = rw (sym some) refl

pub marks_full : (s : State) (id : ℕ) (range : Range) (exclusive : Bool) → None ≡ mark_with id s.marks → nat_le MAX_MARKS (length s.marks) ≡ true
    → refusal s no.MarksFull ≡ replayed s (add_mark id range exclusive)
unfolding step
marks_full s id range exclusive none full = rw (sym none, full) refl

pub mark_added : (s : State) (id : ℕ) (range : Range) (exclusive : Bool) (ms : List Mark) → None ≡ mark_with id s.marks → nat_le MAX_MARKS (length s.marks) ≡ false
    → ms ≡ with_mark (record { id = id; start = clip s.text range.start; end = clip s.text range.end; exclusive = exclusive }) s.marks
    → told s (with_marks s ms) ≡ replayed s (add_mark id range exclusive)
unfolding step
mark_added s id range exclusive ms none room is = rw (sym none, room, is) refl

pub unmark_unknown : (s : State) (id : ℕ) → None ≡ mark_with id s.marks → refusal s no.MarkUnknown ≡ replayed s (remove_mark id)
unfolding step
unmark_unknown s id none = rw (sym none) refl

pub unmarked : (s : State) (id : ℕ) (m : Mark) (ms : List Mark) → Some m ≡ mark_with id s.marks → ms ≡ without_mark id s.marks → told s (with_marks s ms) ≡ replayed s (remove_mark id)
unfolding step
unmarked s id m ms some is = rw (sym some, is) refl

pub exclusive_unknown : (s : State) (id : ℕ) (exclusive : Bool) → None ≡ mark_with id s.marks → refusal s no.MarkUnknown ≡ replayed s (set_exclusive id exclusive)
unfolding step
exclusive_unknown s id exclusive none = rw (sym none) refl

pub made_exclusive : (s : State) (id : ℕ) (exclusive : Bool) (m : Mark) (ms : List Mark) → Some m ≡ mark_with id s.marks → ms ≡ with_exclusive id exclusive s.marks
    → told s (with_marks s ms) ≡ replayed s (set_exclusive id exclusive)
unfolding step
made_exclusive s id exclusive m ms some is = rw (sym some, is) refl

pub range_unknown : (s : State) (id : ℕ) → None ≡ mark_with id s.marks → refusal s no.MarkUnknown ≡ replayed s (mark_range id)
unfolding step
range_unknown s id none = rw (sym none) refl

pub range_shown : (s : State) (id : ℕ) (m : Mark) → Some m ≡ mark_with id s.marks → told s (tells s (Ranged m.start m.end m.exclusive)) ≡ replayed s (mark_range id)
unfolding step
range_shown s id m some = rw (sym some) refl

pub marks_found : (s : State) (how : How) (range : Range) (ids : List ℕ) → ids ≡ ids_where (finds how range.start range.end) s.marks → told s (tells s (Found ids)) ≡ replayed s (find_marks how range)
unfolding step
marks_found s how range ids is = rw is refl

pub first_unknown : (s : State) (a b : ℕ) → None ≡ mark_with a s.marks → refusal s no.MarkUnknown ≡ replayed s (compare_marks a b)
unfolding step
first_unknown s a b none = rw (sym none) refl

pub second_unknown : (s : State) (a b : ℕ) (m : Mark) → Some m ≡ mark_with a s.marks → None ≡ mark_with b s.marks → refusal s no.MarkUnknown ≡ replayed s (compare_marks a b)
unfolding step
second_unknown s a b m some none = ap (λ (o : Option Mark). told s (on_mark s (λ n. tells s (Compared (mark_order m n))) o)) none
    ∙ ap (λ (o : Option Mark). told s (on_mark s (λ m. on_mark s (λ n. tells s (Compared (mark_order m n))) (mark_with b s.marks)) o)) some

pub compared : (s : State) (a b : ℕ) (m n : Mark) → Some m ≡ mark_with a s.marks → Some n ≡ mark_with b s.marks → told s (tells s (Compared (mark_order m n))) ≡ replayed s (compare_marks a b)
unfolding step
compared s a b m n first second = ap (λ (o : Option Mark). told s (on_mark s (λ n. tells s (Compared (mark_order m n))) o)) second
    ∙ ap (λ (o : Option Mark). told s (on_mark s (λ m. on_mark s (λ n. tells s (Compared (mark_order m n))) (mark_with b s.marks)) o)) first

-- the calls on watchers
is_there : (o : Option Watching) (n : ℕ) → Some n ≡ option_map (λ w. length w.heard) o → is_some o ≡ true
is_there None n some = cc
is_there (Some w) n some = refl

is_absent : (o : Option Watching) → None ≡ option_map (λ w. length w.heard) o → is_some o ≡ false
is_absent None none = refl
is_absent (Some w) none = cc

pub watch_taken : (s : State) (id n : ℕ) → Some n ≡ option_map (λ w. length w.heard) (watcher_with id s.watchers) → refusal s no.WatchTaken ≡ replayed s (watch id)
unfolding step
watch_taken s id n some = rw (is_there (watcher_with id s.watchers) n some) refl

pub watch_full : (s : State) (id : ℕ) → None ≡ option_map (λ w. length w.heard) (watcher_with id s.watchers) → nat_le MAX_WATCHERS (length s.watchers) ≡ true
    → refusal s no.WatchFull ≡ replayed s (watch id)
unfolding step
watch_full s id none full = rw (is_absent (watcher_with id s.watchers) none, full) refl

pub watched : (s : State) (id : ℕ) (ws : List Watching) → None ≡ option_map (λ w. length w.heard) (watcher_with id s.watchers) → nat_le MAX_WATCHERS (length s.watchers) ≡ false
    → ws ≡ with_watcher id s.watchers → told s (with_watchers s ws Done) ≡ replayed s (watch id)
unfolding step
watched s id ws none room is = rw (is_absent (watcher_with id s.watchers) none, room, is) refl

unwatch_by : (s : State) (id : ℕ) (o : Option Watching) → None ≡ option_map (λ w. length w.heard) o → refusal s no.WatchUnknown ≡ told s (unwatch_step s id o)
unwatch_by s id None none = refl
unwatch_by s id (Some w) none = cc

pub unwatch_unknown : (s : State) (id : ℕ) → None ≡ option_map (λ w. length w.heard) (watcher_with id s.watchers) → refusal s no.WatchUnknown ≡ replayed s (unwatch id)
unfolding step
unwatch_unknown s id none = unwatch_by s id (watcher_with id s.watchers) none

same_Some : (a b : ℕ) → Some a ≡ Some b → a ≡ b
same_Some a b e = cc

unwatched_by : (s : State) (id n : ℕ) (ws : List Watching) (o : Option Watching) → Some n ≡ option_map (λ w. length w.heard) o → ws ≡ filter (λ v. not (v.id == id)) s.watchers
    → told s (with_watchers s ws (Heard n)) ≡ told s (unwatch_step s id o)
unwatched_by s id n ws None some is = cc
unwatched_by s id n ws (Some w) some is = rw (is, same_Some n (length w.heard) some) refl

pub unwatched : (s : State) (id n : ℕ) (ws : List Watching) → Some n ≡ option_map (λ w. length w.heard) (watcher_with id s.watchers) → ws ≡ filter (λ v. not (v.id == id)) s.watchers
    → told s (with_watchers s ws (Heard n)) ≡ replayed s (unwatch id)
unfolding step
unwatched s id n ws some is = unwatched_by s id n ws (watcher_with id s.watchers) some is

-- a state and a reply, each by its equation
abbrev pub pair : State → Reply → State × Reply
pair s r = (s, r)

pub same_pair : (s t : State) (r q : Reply) → s ≡ t → r ≡ q → pair s r ≡ pair t q
same_pair s t r q state reply = ap (λ (x : State). pair x r) state ∙ ap (pair t) reply

-- a call that only numbers itself, at the parts that the code has
pub numbered : (b n s : State) (p f : List Step) (k : ℕ) (a : Answer) → n ≡ counted b → k ≡ b.count + 1 → whole b p f ≡ s → pair (whole n p f) (reply_of 2 k a) ≡ told s (counted s, a)
numbered b n s p f k a body number seen = ap (λ (m : State). pair (whole m p f) (reply_of 2 k a)) body
    ∙ ap (λ (i : ℕ). pair (whole (counted b) p f) (reply_of 2 i a)) number ∙ ap (λ (x : State). told x (counted x, a)) seen

pub shown_is : (t u : List ℕ) (i j k l limit : ℕ) → t ≡ u → i ≡ k → j ≡ l → shown limit (between t i j) ≡ shown limit (between u k l)
shown_is t u i j k l limit text from to = rw (text, from, to) refl

pub mark_is : (t x y : List ℕ) (ms ns all : List Mark) (id : ℕ) (p q a b : Point) (exclusive : Bool) → a ≡ clip x p → x ≡ t → b ≡ clip y q → y ≡ t → ns ≡ ms
    → all ≡ with_mark (record { id = id; start = a; end = b; exclusive = exclusive }) ns → all ≡ with_mark (record { id = id; start = clip t p; end = clip t q; exclusive = exclusive }) ms
mark_is t x y ms ns all id p q a b exclusive start first end second same is = is
    ∙ ap (λ (r : Point). with_mark (record { id = id; start = r; end = b; exclusive = exclusive }) ns) (start ∙ ap (λ (u : List ℕ). clip u p) first)
    ∙ ap (λ (r : Point). with_mark (record { id = id; start = clip t p; end = r; exclusive = exclusive }) ns) (end ∙ ap (λ (u : List ℕ). clip u q) second)
    ∙ ap (with_mark (record { id = id; start = clip t p; end = clip t q; exclusive = exclusive })) same

pub full_by : (n k : ℕ) → k ≤ n → nat_le k n ≡ true
full_by n k h = grind (arith, nat_tests)

pub room_by : (n k : ℕ) → n < k → nat_le k n ≡ false
room_by n k h = grind (arith, nat_tests)

pub some_by : (v n : ℕ) (b : Bool) → b ≡ (v == 0) → b ≡ false → v ≡ n → 0 < n
some_by v n b is some same = grind (arith, nat_tests)

pub none_by : (v n : ℕ) (b : Bool) → b ≡ (v == 0) → b ≡ true → v ≡ n → n ≡ 0
none_by v n b is none same = grind (arith, nat_tests)

-- the parts of the code after a step that was made
pub taken_over : (b n : State) (p f q g : List Step) (cs : List Change) → 0 < length cs → n ≡ counted b → q ≡ take MAX_STEPS (cs ∷ p) → g ≡ []
    → whole n q g ≡ counted (with_step cs (whole b p f))
taken_over b n p f q g [] some body past future = absurd (omega arith)
taken_over b n p f q g (c ∷ cs) some body past future = ap (λ (m : State). whole m q g) body ∙ ap (λ (ss : List Step). whole (counted b) ss g) past
    ∙ ap (λ (ss : List Step). whole (counted b) (take MAX_STEPS ((c ∷ cs) ∷ p)) ss) future

-- the same at a state that the parts are seen as
pub edit_refused_at : (b s : State) (p f : List Step) (e : Edit) → whole b p f ≡ s → None ≡ member b e → refusal s no.TooLong ≡ replayed s (edit e)
edit_refused_at b s p f e seen none = subst (λ (x : State). refusal x no.TooLong ≡ replayed x (edit e)) seen (edit_refused b p f e none)

pub batch_refused_at : (b s : State) (p f : List Step) (es : List Edit) → whole b p f ≡ s → None ≡ members b es → refusal s no.TooLong ≡ replayed s (batch es)
batch_refused_at b s p f es seen none = subst (λ (x : State). refusal x no.TooLong ≡ replayed x (batch es)) seen (batch_refused b p f es none)

-- the edits' body and changes, taken over
pub edit_done_at : (b s : State) (p f : List Step) (e : Edit) (g : Progress) (n : State) (r : Reply) → whole b p f ≡ s → Some g ≡ member b e
    → n ≡ counted (with_step g.made (whole g.state s.past s.future)) → r ≡ reply_of 2 (b.count + 1) (edited_one g.parts) → pair n r ≡ replayed s (edit e)
edit_done_at b s p f e g n r seen some state reply =
    same_pair n (counted (with_step g.made (whole g.state p f))) r (reply_of 2 (b.count + 1) (edited_one g.parts))
    (state ∙ ap (λ (x : State). counted (with_step g.made (whole g.state x.past x.future))) (sym seen)) reply
    ∙ edit_done b p f e g some ∙ ap (λ (x : State). replayed x (edit e)) seen

pub batch_done_at : (b s : State) (p f : List Step) (es : List Edit) (g : Progress) (n : State) (r : Reply) → whole b p f ≡ s → Some g ≡ members b es
    → n ≡ counted (with_step g.made (whole g.state s.past s.future)) → r ≡ reply_of 2 (b.count + 1) (Batched g.parts) → pair n r ≡ replayed s (batch es)
batch_done_at b s p f es g n r seen some state reply =
    same_pair n (counted (with_step g.made (whole g.state p f))) r (reply_of 2 (b.count + 1) (Batched g.parts))
    (state ∙ ap (λ (x : State). counted (with_step g.made (whole g.state x.past x.future))) (sym seen)) reply
    ∙ batch_done b p f es g some ∙ ap (λ (x : State). replayed x (batch es)) seen

pub undo_refused_at : (b s : State) (p f : List Step) → whole b p f ≡ s → length p ≡ 0 → refusal s no.Nothing ≡ replayed s undo
undo_refused_at b s p f seen none = subst (λ (x : State). refusal x no.Nothing ≡ replayed x undo) seen (undo_refused b p f none)

pub redo_refused_at : (b s : State) (p f : List Step) → whole b p f ≡ s → length f ≡ 0 → refusal s no.Nothing ≡ replayed s redo
redo_refused_at b s p f seen none = subst (λ (x : State). refusal x no.Nothing ≡ replayed x redo) seen (redo_refused b p f none)

pub undo_done_at : (b s : State) (p f q g : List Step) (first : Step) (m n : State) (parts : List Part) (r : Reply) (k : ℕ) → whole b p f ≡ s → 0 < length p → first ≡ slice_index_or p 0 first
    → m ≡ (undone b first).0 → parts ≡ (undone b first).1 → n ≡ counted m → k ≡ m.count + 1 → q ≡ drop 1 p → g ≡ take 1 p ++ f → r ≡ reply_of 2 k (Batched parts)
    → pair (whole n q g) r ≡ replayed s undo
undo_done_at b s p f q g first m n parts r k seen some at body answered number numbered past future reply =
    same_pair (whole n q g) (counted (whole m (drop 1 p) (take 1 p ++ f))) r (reply_of 2 (b.count + 1) (Batched parts))
    (ap (λ (x : State). whole x q g) number ∙ ap (λ (xs : List Step). whole (counted m) xs g) past ∙ ap (λ (xs : List Step). whole (counted m) (drop 1 p) xs) future)
    (reply ∙ ap (λ (i : ℕ). reply_of 2 i (Batched parts)) (numbered ∙ ap (λ (i : ℕ). i + 1) (ap (λ (x : State). x.count) body ∙ undone_count first b)))
    ∙ undo_done b p f first m parts some at body answered ∙ ap (λ (x : State). replayed x undo) seen

pub redo_done_at : (b s : State) (p f q g : List Step) (first : Step) (m n : State) (parts : List Part) (r : Reply) (k : ℕ) → whole b p f ≡ s → 0 < length f → first ≡ slice_index_or f 0 first
    → m ≡ (redone b first).0 → parts ≡ (redone b first).1 → n ≡ counted m → k ≡ m.count + 1 → q ≡ take 1 f ++ p → g ≡ drop 1 f → r ≡ reply_of 2 k (Batched parts)
    → pair (whole n q g) r ≡ replayed s redo
redo_done_at b s p f q g first m n parts r k seen some at body answered number numbered past future reply =
    same_pair (whole n q g) (counted (whole m (take 1 f ++ p) (drop 1 f))) r (reply_of 2 (b.count + 1) (Batched parts))
    (ap (λ (x : State). whole x q g) number ∙ ap (λ (xs : List Step). whole (counted m) xs g) past ∙ ap (λ (xs : List Step). whole (counted m) (take 1 f ++ p) xs) future)
    (reply ∙ ap (λ (i : ℕ). reply_of 2 i (Batched parts)) (numbered ∙ ap (λ (i : ℕ). i + 1) (ap (λ (x : State). x.count) body ∙ redone_count first b)))
    ∙ redo_done b p f first m parts some at body answered ∙ ap (λ (x : State). replayed x redo) seen
