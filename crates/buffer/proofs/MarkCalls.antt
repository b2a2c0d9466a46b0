-- What the calls on marks do and answer, case by case.
use Rattle.std.proofs.Common.{◌≡◌, ℕ, ◌<◌, ◌≤◌, List, [], ◌∷◌, length, Bool, true, false, cond, Option, Some, None, refl, sym, ap, ◌∙◌, inl, inr, arith}
use Rattle.std.specs.Prelude.{nat_le, not, is_some, is_none, option_map, option_and_then, Result, Ok, Err, ◌↔◌}
use Rattle.std.proofs.lemmas.Bool.{cases_Bool}
use Rattle.std.proofs.lemmas.Bool.Decides.{nat_tests}
use Rattle.points.specs.declared.range.Range.{Range}
use Rattle.points.specs.declared.mark.Mark.{Mark}
use Rattle.points.specs.declared.mark.MarkOrder.{MarkOrder}
use Rattle.points.specs.declared.limits.TheConstants.{MAX_MARKS}
use Rattle.points.specs.Place.{clip}
use Rattle.points.specs.Marks.{mark_order}
use Rattle.points.specs.MarkList.{mark_with, with_mark, without_mark, with_exclusive, ids_where}
use Rattle.machine.specs.declared.command.How.{How}
use Rattle.machine.specs.declared.command.Command.{Command}
use Rattle.machine.specs.declared.command.Command.TheVariants as command
use Rattle.machine.specs.declared.reply.CallRefusal.TheVariants as no
use Rattle.buffer.specs.Played.{is_on_marks}
use Rattle.machine.specs.Machine.{State, Answer, Done, Ranged, Compared, Found, Refused, step, find_marks, finds, counted, tells, with_marks, on_mark, add_mark, remove_mark, set_exclusive, mark_range, compare_marks}

-- what a refusal exactly there says where it didn't come
pub not_refused : {A E : Type 0} (b : Bool) (a : A) (e : E) → ((Ok a ≡ Err e) ↔ (b ≡ true)) → b ≡ false
not_refused b a e h = elim (cases_Bool b) [ inl is ↦ let bad : Ok a ≡ Err e = h.1 is in cc | inr isnt ↦ isnt ]

pub not_full : {A E : Type 0} (none : Bool) (n limit : ℕ) (a : A) (e : E) → ((Ok a ≡ Err e) ↔ ((none ≡ false) × (n ≡ limit))) → none ≡ false → n ≤ limit → n < limit
not_full none n limit a e h is le = grind (arith, λ (same : n ≡ limit). let bad : Ok a ≡ Err e = h.1 (is, same) in let no : ⊥ = cc in no)

-- ---- a mark more

abbrev the_mark : State → ℕ → Range → Bool → Mark
the_mark s id range exclusive = record { id = id; start = clip s.text range.start; end = clip s.text range.end; exclusive = exclusive }

abbrev add_by : State → Mark → Bool → Bool → State × Answer
add_by s m taken full = cond taken (tells s (Refused no.MarkTaken)) (cond full (tells s (Refused no.MarksFull)) (with_marks s (with_mark m s.marks)))

taken_by : (s : State) (m : Mark) (taken full : Bool) → taken ≡ true → add_by s m taken full ≡ (counted s, Refused no.MarkTaken)
taken_by s m taken full is = rw is refl

full_by : (s : State) (m : Mark) (taken full : Bool) → taken ≡ false → full ≡ true → add_by s m taken full ≡ (counted s, Refused no.MarksFull)
full_by s m taken full isnt is = rw (isnt, is) refl

added_by : (s : State) (m : Mark) (taken full : Bool) → taken ≡ false → full ≡ false → add_by s m taken full ≡ (counted (record s { marks = with_mark m s.marks }), Done)
added_by s m taken full isnt room = rw (isnt, room) refl

pub mark_taken : (s : State) (id : ℕ) (range : Range) (exclusive : Bool) → is_some (mark_with id s.marks) ≡ true → step s (add_mark id range exclusive) ≡ (counted s, Refused no.MarkTaken)
unfolding step
mark_taken s id range exclusive taken = taken_by s (the_mark s id range exclusive) _ _ taken

pub mark_full : (s : State) (id : ℕ) (range : Range) (exclusive : Bool) → is_some (mark_with id s.marks) ≡ false → length s.marks ≡ MAX_MARKS → step s (add_mark id range exclusive) ≡ (counted s, Refused no.MarksFull)
unfolding step
mark_full s id range exclusive new full = full_by s (the_mark s id range exclusive) _ _ new (let low : MAX_MARKS ≤ length s.marks = omega (arith, full) in grind (arith, nat_tests, low))

pub mark_added : (s : State) (id : ℕ) (range : Range) (exclusive : Bool) → is_some (mark_with id s.marks) ≡ false → length s.marks < MAX_MARKS
    → step s (add_mark id range exclusive) ≡ (counted (record s { marks = with_mark (record { id = id; start = clip s.text range.start; end = clip s.text range.end; exclusive = exclusive }) s.marks }), Done)
unfolding step
mark_added s id range exclusive new room = added_by s (the_mark s id range exclusive) _ _ new (grind (arith, nat_tests, room))

-- ---- calls on a mark that is there, or isn't

on_none : (s : State) (call : Mark → State × Answer) (o : Option Mark) → is_none o ≡ true → on_mark s call o ≡ (counted s, Refused no.MarkUnknown)
on_none s call None none = refl
on_none s call (Some m) none = cc

on_some : (s : State) (r : State × Answer) (o : Option Mark) → is_none o ≡ false → on_mark s (λ m. r) o ≡ r
on_some s r None some = cc
on_some s r (Some m) some = refl

on_this : (s : State) (call : Mark → State × Answer) (o : Option Mark) (m : Mark) → Some m ≡ o → on_mark s call o ≡ call m
on_this s call o m is = sym (ap (λ (x : Option Mark). on_mark s call x) is)

pub unmark_unknown : (s : State) (id : ℕ) → is_none (mark_with id s.marks) ≡ true → step s (remove_mark id) ≡ (counted s, Refused no.MarkUnknown)
unfolding step
unmark_unknown s id none = on_none s _ (mark_with id s.marks) none

pub unmarked : (s : State) (id : ℕ) → is_none (mark_with id s.marks) ≡ false → step s (remove_mark id) ≡ (counted (record s { marks = without_mark id s.marks }), Done)
unfolding step
unmarked s id some = on_some s _ (mark_with id s.marks) some

pub exclusive_unknown : (s : State) (id : ℕ) (exclusive : Bool) → is_none (mark_with id s.marks) ≡ true → step s (set_exclusive id exclusive) ≡ (counted s, Refused no.MarkUnknown)
unfolding step
exclusive_unknown s id exclusive none = on_none s _ (mark_with id s.marks) none

pub exclusive_set : (s : State) (id : ℕ) (exclusive : Bool) → is_none (mark_with id s.marks) ≡ false
    → step s (set_exclusive id exclusive) ≡ (counted (record s { marks = with_exclusive id exclusive s.marks }), Done)
unfolding step
exclusive_set s id exclusive some = on_some s _ (mark_with id s.marks) some

pub range_unknown : (s : State) (id : ℕ) → None ≡ mark_with id s.marks → step s (mark_range id) ≡ (counted s, Refused no.MarkUnknown)
unfolding step
range_unknown s id none = on_none s _ (mark_with id s.marks) (sym (ap (λ (o : Option Mark). is_none o) none))

pub range_shown : (s : State) (id : ℕ) (m : Mark) → Some m ≡ mark_with id s.marks → step s (mark_range id) ≡ (counted s, Ranged m.start m.end m.exclusive)
unfolding step
range_shown s id m some = on_this s _ (mark_with id s.marks) m some

-- ---- two marks

compared_by : (s : State) (x y : Option Mark) (order : MarkOrder) → Some order ≡ option_and_then (λ m. option_map (mark_order m) y) x
    → on_mark s (λ m. on_mark s (λ n. tells s (Compared (mark_order m n))) y) x ≡ (counted s, Compared order)
compared_by s None y order some = cc
compared_by s (Some m) None order some = cc
compared_by s (Some m) (Some n) order some = let is : order ≡ mark_order m n = cc in rw is refl

uncompared_by : (s : State) (x y : Option Mark) → None ≡ option_and_then (λ m. option_map (mark_order m) y) x
    → on_mark s (λ m. on_mark s (λ n. tells s (Compared (mark_order m n))) y) x ≡ (counted s, Refused no.MarkUnknown)
uncompared_by s None y none = refl
uncompared_by s (Some m) None none = refl
uncompared_by s (Some m) (Some n) none = cc

pub compared : (s : State) (a b : ℕ) (order : MarkOrder) → Some order ≡ option_and_then (λ m. option_map (mark_order m) (mark_with b s.marks)) (mark_with a s.marks)
    → step s (compare_marks a b) ≡ (counted s, Compared order)
unfolding step
compared s a b order some = compared_by s (mark_with a s.marks) (mark_with b s.marks) order some

pub compare_unknown : (s : State) (a b : ℕ) → None ≡ option_and_then (λ m. option_map (mark_order m) (mark_with b s.marks)) (mark_with a s.marks)
    → step s (compare_marks a b) ≡ (counted s, Refused no.MarkUnknown)
unfolding step
compare_unknown s a b none = uncompared_by s (mark_with a s.marks) (mark_with b s.marks) none

pub marks_found : (s : State) (how : How) (range : Range) (ids : List ℕ) → ids ≡ ids_where (finds how range.start range.end) s.marks → step s (find_marks how range) ≡ (counted s, Found ids)
unfolding step
marks_found s how range ids is = rw is refl

-- a call on marks is one of six
pub one_of_six : (c : Command) → is_on_marks c ≡ true → ((id : ℕ) (range : Range) (exclusive : Bool) → c ≡ command.Mark id range exclusive → ⊥) → ((id : ℕ) → c ≡ command.Unmark id → ⊥)
    → ((id : ℕ) (value : Bool) → c ≡ command.Exclusive id value → ⊥) → ((id : ℕ) → c ≡ command.Range id → ⊥) → ((how : How) (range : Range) → c ≡ command.Marks how range → ⊥)
    → ((a b : ℕ) → c ≡ command.Compare a b → ⊥) → ⊥
one_of_six (command.Mark id range exclusive) is mark unmark set shows finds compare = mark id range exclusive refl
one_of_six (command.Unmark id) is mark unmark set shows finds compare = unmark id refl
one_of_six (command.Exclusive id value) is mark unmark set shows finds compare = set id value refl
one_of_six (command.Range id) is mark unmark set shows finds compare = shows id refl
one_of_six (command.Marks how range) is mark unmark set shows finds compare = finds how range refl
one_of_six (command.Compare a b) is mark unmark set shows finds compare = compare a b refl
one_of_six (command.Edit range text) is mark unmark set shows finds compare = cc
one_of_six (command.Batch edits) is mark unmark set shows finds compare = cc
one_of_six command.Undo is mark unmark set shows finds compare = cc
one_of_six command.Redo is mark unmark set shows finds compare = cc
one_of_six (command.Text range limit) is mark unmark set shows finds compare = cc
one_of_six (command.Watch id) is mark unmark set shows finds compare = cc
one_of_six (command.Unwatch id) is mark unmark set shows finds compare = cc
one_of_six (command.Take k) is mark unmark set shows finds compare = cc
one_of_six (command.Read k reads) is mark unmark set shows finds compare = cc
one_of_six (command.Send k reads) is mark unmark set shows finds compare = cc
one_of_six (command.Release k) is mark unmark set shows finds compare = cc
one_of_six command.Squash is mark unmark set shows finds compare = cc
