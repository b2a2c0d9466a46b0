-- The replies of the plain machine have the forms of their commands, and a reply has a number exactly where its command is a
-- numbered call.
use Rattle.std.proofs.Common.{◌≡◌, ℕ, suc, ◌+◌, List, [], ◌∷◌, ◌++◌, length, map, Bool, true, false, cond, ◌&&◌, ◌||◌, Option, Some, None, refl, ◌∙◌, ap, subst, arith, eq-eqb}
use Rattle.std.specs.Prelude.{◌==◌, nat_lt, nat_le, is_some, option_and_then, option_map}
use Rattle.std.proofs.lemmas.List.{length-map}
use Rattle.points.specs.declared.mark.Mark.{Mark}
use Rattle.points.specs.Text.{replaced, utf16_of}
use Rattle.points.specs.Place.{span}
use Rattle.points.specs.MarkList.{mark_with}
use Rattle.machine.specs.declared.command.Command.{Command}
use Rattle.machine.specs.declared.command.Command.TheVariants as command
use Rattle.machine.specs.declared.reads.Read.{Read}
use Rattle.machine.specs.declared.reads.Read.TheVariants as read
use Rattle.machine.specs.declared.reply.Reply.{Reply}
use Rattle.machine.specs.declared.reply.Reply.TheVariants as reply
use Rattle.points.specs.declared.limits.TheConstants.{MAX_UNITS, MAX_MARKS, MAX_WATCHERS}
use Rattle.machine.specs.Machine.{State, Step, Part, Progress, Edit, Answer, Watching, Edited, Batched, Shown, Done, Ranged, Found, Compared, Heard, Refused, nothing_made, one_made, member, joined, members, edited_one, edited, undone, redone, undo_step, redo_step, on_mark, add_step, watch_step, unwatch_step, watcher_with, step}
use Rattle.machine.specs.Answers.{edit_of, reply_of, number_of, edited_reply, reply_part, first_part, Matches, read_answer}
use Rattle.machine.specs.Lawful.{is_edited, is_batched, is_batch_of, is_change, is_batch, is_numbered, is_range, is_order, is_heard, refuses, is_too_long, is_nothing_there, is_mark_refused, is_mark_unknown, is_watch_refused, is_watch_unknown, answer_has_form, answers_have_forms, has_form, next_told, told_after}
use Rattle.machine.specs.Plain.{Kept, kept_text, plain_answer, plain_answers, plain_reply}
use Rattle.machine.proofs.StepLemmas.{either}

-- each answer is written with the number
batched_number : (b : Bool) (n : ℕ) (ps : List Part) → number_of (cond b (edited_reply n (first_part ps)) (reply.Batched n (map reply_part ps))) ≡ Some n
batched_number true n ps = refl
batched_number false n ps = refl

pub number_of_reply : (version n : ℕ) (a : Answer) → number_of (reply_of version n a) ≡ Some n
number_of_reply version n (Edited p) = refl
number_of_reply version n (Batched ps) = batched_number (version == 1) n ps
number_of_reply version n (Shown units k) = refl
number_of_reply version n Done = refl
number_of_reply version n (Ranged start end exclusive) = refl
number_of_reply version n (Found ids) = refl
number_of_reply version n (Compared order) = refl
number_of_reply version n (Heard heard) = refl
number_of_reply version n (Refused why) = refl

-- one part a member
HasParts : ℕ → Option Progress → Type 0
HasParts n None = Unit {0}
HasParts n (Some p) = length p.parts ≡ n

member_parts : (s : State) (e : Edit) → HasParts 1 (member s e)
unfolding HasParts
member_parts s e =
    let ends : ℕ × ℕ = span s.text e.0.start e.0.end in
    either (HasParts 1) ((ends.0 == ends.1) && (length e.1 == 0)) (Some (nothing_made s ends.0)) _ refl
    (either (HasParts 1) (nat_lt MAX_UNITS (length (replaced s.text ends.0 ends.1 e.1))) None (Some (one_made s ends.0 ends.1 e.1)) tt refl)

length-one : (ps qs : List Part) → length ps ≡ 1 → length (ps ++ qs) ≡ suc (length qs)
length-one [] qs one = absurd (omega (arith, one))
length-one (p ∷ []) qs one = refl
length-one (p ∷ q ∷ ps) qs one = absurd (omega (arith, one))

joined_parts : (n : ℕ) (a : Progress) (o : Option Progress) → length a.parts ≡ 1 → HasParts n o → HasParts (suc n) (option_map (joined a) o)
unfolding HasParts
joined_parts n a None one rest = tt
joined_parts n a (Some b) one rest = length-one a.parts b.parts one ∙ ap suc rest

then_parts : (es : List Edit) (o : Option Progress) → HasParts 1 o → ((t : State) → HasParts (length es) (members t es)) → HasParts (suc (length es)) (option_and_then (λ a. option_map (joined a) (members a.state es)) o)
unfolding HasParts
then_parts es None one rest = tt
then_parts es (Some a) one rest = joined_parts (length es) a (members a.state es) one (rest a.state)

members_parts : (es : List Edit) (s : State) → HasParts (length es) (members s es)
unfolding HasParts
members_parts [] s = refl
members_parts (e ∷ es) s = then_parts es (member s e) (member_parts s e) (members_parts es)

or_left : (a b : Bool) → a ≡ true → (a || b) ≡ true
or_left a b is = rw is refl

or_right : (a b : Bool) → b ≡ true → (a || b) ≡ true
or_right true b is = refl
or_right false b is = is

-- the answer of a step, written as a reply, passes this test
abbrev Has : (Reply → Bool) → ℕ → ℕ → State × Answer → Type 0
Has test version n r = test (reply_of version n r.1) ≡ true

-- of an edit, of a batch and of the steps back and forth
one_form : (version n : ℕ) (ps : List Part) → length ps ≡ 1 → (is_edited (reply_of version n (edited_one ps)) || refuses is_too_long (reply_of version n (edited_one ps))) ≡ true
one_form version n [] one = absurd (omega (arith, one))
one_form version n (p ∷ ps) one = refl

edit_form : (version n : ℕ) (s : State) (o : Option Progress) → HasParts 1 o → Has (λ r. is_edited r || refuses is_too_long r) version n (edited s edited_one o)
unfolding HasParts
edit_form version n s None parts = refl
edit_form version n s (Some p) parts = one_form version n p.parts parts

batch_by : (b : Bool) (m n : ℕ) (ps : List Part) → length ps ≡ m → (cond b (is_edited (cond b (edited_reply n (first_part ps)) (reply.Batched n (map reply_part ps)))) (is_batch_of m (cond b (edited_reply n (first_part ps)) (reply.Batched n (map reply_part ps))))) ≡ true
batch_by true m n ps parts = refl
batch_by false m n ps parts = eq-eqb _ _ (length-map ps reply_part ∙ parts)

batch_form : (m version n : ℕ) (s : State) (o : Option Progress) → HasParts m o → Has (λ r. is_batch version m r || refuses is_too_long r) version n (edited s Batched o)
unfolding HasParts
batch_form m version n s None parts = or_right _ _ refl
batch_form m version n s (Some p) parts = or_left _ _ (batch_by (version == 1) m n p.parts parts)

change_by : (b : Bool) (n : ℕ) (ps : List Part) → (cond b (is_edited (cond b (edited_reply n (first_part ps)) (reply.Batched n (map reply_part ps)))) (is_batched (cond b (edited_reply n (first_part ps)) (reply.Batched n (map reply_part ps))))) ≡ true
change_by true n ps = refl
change_by false n ps = refl

undo_form : (version n : ℕ) (s : State) (past : List Step) → Has (λ r. is_change version r || refuses is_nothing_there r) version n (undo_step s past)
undo_form version n s [] = or_right _ _ refl
undo_form version n s (step ∷ rest) = or_left _ (refuses is_nothing_there (reply_of version n (undo_step s (step ∷ rest)).1)) (change_by (version == 1) n (undone s step).1)

redo_form : (version n : ℕ) (s : State) (future : List Step) → Has (λ r. is_change version r || refuses is_nothing_there r) version n (redo_step s future)
redo_form version n s [] = or_right _ _ refl
redo_form version n s (step ∷ rest) = or_left _ (refuses is_nothing_there (reply_of version n (redo_step s (step ∷ rest)).1)) (change_by (version == 1) n (redone s step).1)

-- of the calls on marks and watchers
add_form : (version n : ℕ) (s : State) (m : Mark) → Has (λ r. is_numbered r || refuses is_mark_refused r) version n (add_step s m)
add_form version n s m = either (Has (λ r. is_numbered r || refuses is_mark_refused r) version n) (is_some (mark_with m.id s.marks)) _ _ refl
    (either (Has (λ r. is_numbered r || refuses is_mark_refused r) version n) (nat_le MAX_MARKS (length s.marks)) _ _ refl refl)

on_mark_form : (test : Reply → Bool) (version n : ℕ) (s : State) (call : Mark → State × Answer) (o : Option Mark) → ((m : Mark) → Has (λ r. test r || refuses is_mark_unknown r) version n (call m))
    → ((m : Bool) → (m || true) ≡ true) → Has (λ r. test r || refuses is_mark_unknown r) version n (on_mark s call o)
on_mark_form test version n s call None has right = right _
on_mark_form test version n s call (Some m) has right = has m

watch_form : (version n : ℕ) (s : State) (id : ℕ) → Has (λ r. is_numbered r || refuses is_watch_refused r) version n (watch_step s id)
watch_form version n s id = either (Has (λ r. is_numbered r || refuses is_watch_refused r) version n) (is_some (watcher_with id s.watchers)) _ _ refl
    (either (Has (λ r. is_numbered r || refuses is_watch_refused r) version n) (nat_le MAX_WATCHERS (length s.watchers)) _ _ refl refl)

unwatch_form : (version n : ℕ) (s : State) (id : ℕ) (o : Option Watching) → Has (λ r. is_heard r || refuses is_watch_unknown r) version n (unwatch_step s id o)
unwatch_form version n s id None = refl
unwatch_form version n s id (Some w) = refl

right : (b : Bool) → (b || true) ≡ true
right b = or_right b true refl

-- of the reads
answer_form : (t : List ℕ) (told : Option Matches) (r : Read) → answer_has_form r (plain_answer (read_answer t told r)) ≡ true
answer_form t told read.Size = refl
answer_form t told (read.Text range limit) = refl
answer_form t told (read.Find needle limit) = refl
answer_form t None (read.Pattern pattern limit) = refl
answer_form t (Some matches) (read.Pattern pattern limit) = refl
answer_form t told (read.Save name encoding) = refl

answers_form : (t : List ℕ) (told : List (Option Matches)) (rs : List Read) → answers_have_forms rs (plain_answers t told rs) ≡ true
answers_form t told [] = refl
answers_form t told (r ∷ rs) = rw (answer_form t (next_told told) r) (answers_form t (told_after r told) rs)

-- each command's reply has its form
pub reply_form : (version : ℕ) (s : State) (kept : List Kept) (told : List (Option Matches)) (c : Command) → has_form version c (plain_reply version s kept told c) ≡ true
unfolding step
reply_form version s kept told (command.Edit range new) = edit_form version (s.count + 1) s _ (member_parts s (range, utf16_of new))
reply_form version s kept told (command.Batch edits) = batch_form (length edits) version (s.count + 1) s _ (subst (λ n. HasParts n (members s (map edit_of edits))) (length-map edits edit_of) (members_parts (map edit_of edits) s))
reply_form version s kept told command.Undo = undo_form version (s.count + 1) s s.past
reply_form version s kept told command.Redo = redo_form version (s.count + 1) s s.future
reply_form version s kept told (command.Text range limit) = refl
reply_form version s kept told (command.Mark id range exclusive) = add_form version (s.count + 1) s _
reply_form version s kept told (command.Unmark id) = on_mark_form is_numbered version (s.count + 1) s _ (mark_with id s.marks) (λ m. refl) right
reply_form version s kept told (command.Exclusive id value) = on_mark_form is_numbered version (s.count + 1) s _ (mark_with id s.marks) (λ m. refl) right
reply_form version s kept told (command.Range id) = on_mark_form is_range version (s.count + 1) s _ (mark_with id s.marks) (λ m. refl) right
reply_form version s kept told (command.Marks how range) = refl
reply_form version s kept told (command.Compare a b) = on_mark_form is_order version (s.count + 1) s _ (mark_with a s.marks) (λ m. on_mark_form is_order version (s.count + 1) s _ (mark_with b s.marks) (λ n. refl) right) right
reply_form version s kept told (command.Watch id) = watch_form version (s.count + 1) s id
reply_form version s kept told (command.Unwatch id) = unwatch_form version (s.count + 1) s id (watcher_with id s.watchers)
reply_form version s kept told (command.Take snapshot) = refl
reply_form version s kept told (command.Read snapshot reads) = answers_form (kept_text snapshot kept) told reads
reply_form version s kept told (command.Send snapshot reads) = answers_form (kept_text snapshot kept) told reads
reply_form version s kept told (command.Release snapshot) = refl
reply_form version s kept told command.Squash = refl
