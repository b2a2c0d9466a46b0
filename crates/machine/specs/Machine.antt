-- The plain machine: a string that is changed and read call by call, with marks, steps back and watchers.
use Rattle.std.specs.Prelude.{ℕ, ◌+◌, ◌-◌, ◌==◌, ◌&&◌, min, nat_lt, nat_le, not, List, [], ◌∷◌, ◌++◌, length, take, drop, map, find, Bool, if◌then◌else◌, Option, Some, None, is_some, option_map, option_and_then, unwrap_or}
use Rattle.std.specs.List.{filter}
use Rattle.points.specs.declared.point.Point.{Point}
use Rattle.points.specs.declared.range.Range.{Range}
use Rattle.points.specs.declared.mark.Mark.{Mark}
use Rattle.points.specs.declared.mark.Splice.{Splice}
use Rattle.points.specs.declared.mark.HitCounts.{HitCounts}
use Rattle.points.specs.declared.mark.MarkOrder.{MarkOrder}
use Rattle.points.specs.Text.{replaced}
use Rattle.points.specs.Place.{point_at, offset_of, clip, splits_pair, span}
use Rattle.points.specs.Marks.{intersects, contains, is_contained_in, starts_in, starts_at, ends_in, ends_at, mark_order}
use Rattle.points.specs.MarkList.{ids_where, hit_counts, mark_with, with_mark, without_mark, with_exclusive, all_moved}
use Rattle.machine.specs.declared.command.How.{How}
use Rattle.machine.specs.declared.command.How.TheVariants as how
use Rattle.machine.specs.declared.reply.CallRefusal.{CallRefusal}
use Rattle.machine.specs.declared.reply.CallRefusal.TheVariants as no
use Rattle.points.specs.declared.limits.TheConstants.{MAX_UNITS, MAX_MARKS, MAX_STEPS, MAX_WATCHERS}

-- a change: where the text was replaced, what stood there before it and what stands there after it
pub record Change : Type 0 where
  pub start : Point
  pub old : List ℕ
  pub new : List ℕ

-- what an undo takes back: the changes of one call, in the order in which they were made
abbrev pub Step : Type 0
Step = List Change

-- what a change answers: the replaced range in the text before it, the end of the new text in the text after it, and how
-- many marks it hit
pub record Part : Type 0 where
  pub from : Point
  pub to : Point
  pub end : Point
  pub hits : HitCounts

-- what a watcher is told of a change
pub record Told : Type 0 where
  pub from : Point
  pub to : Point
  pub end : Point

-- a watcher: its id, and what it was told since it was attached
pub record Watching : Type 0 where
  pub id : ℕ
  pub heard : List Told

-- the text, the marks and the watchers in rising order of ids, the steps that can be taken back and those that can be made
-- again (the newest first), how many calls were numbered, and the number of the last call that changed the text
pub record State : Type 0 where
  pub text : List ℕ
  pub marks : List Mark
  pub past : List Step
  pub future : List Step
  pub watchers : List Watching
  pub count : ℕ
  pub version : ℕ

-- the state in which a text is opened where so many calls were numbered before
abbrev pub opened_at : List ℕ → ℕ → State
opened_at text count = record { text = text; marks = []; past = []; future = []; watchers = []; count = count; version = count }

-- the state in which a text is opened
abbrev pub opened : List ℕ → State
opened text = opened_at text 0

-- an edit of a range: the units that it puts in
abbrev pub Edit : Type 0
Edit = Range × List ℕ

-- a numbered call
pub data Call : Type 0 where
  edit : Edit → Call
  batch : List Edit → Call
  undo : Call
  redo : Call
  look : Range → ℕ → Call
  add_mark : ℕ → Range → Bool → Call
  remove_mark : ℕ → Call
  set_exclusive : ℕ → Bool → Call
  mark_range : ℕ → Call
  find_marks : How → Range → Call
  compare_marks : ℕ → ℕ → Call
  watch : ℕ → Call
  unwatch : ℕ → Call

-- what a call answers. The number of the call is no part of it.
pub data Answer : Type 0 where
  Edited : Part → Answer
  Batched : List Part → Answer
  Shown : List ℕ → ℕ → Answer
  Done : Answer
  Ranged : Point → Point → Bool → Answer
  Found : List ℕ → Answer
  Compared : MarkOrder → Answer
  Heard : ℕ → Answer
  Refused : CallRefusal → Answer

-- the state with one more call numbered
abbrev pub counted : State → State
counted s = record s { count = s.count + 1 }

-- the splice of the units from offset i to offset j
abbrev pub splice_at : List ℕ → ℕ → ℕ → List ℕ → Splice
splice_at t i j new = record { start = point_at t i; old_end = point_at t j; new_end = point_at (replaced t i j new) (i + length new) }

-- the watcher, told of one change more
abbrev pub heard_more : Splice → Watching → Watching
heard_more c w = record w { heard = w.heard ++ record { from = c.start; to = c.old_end; end = c.new_end } ∷ [] }

-- the state after a change of the units from offset i to offset j, made by the call that is being done: its number is the
-- next one, and becomes the version
abbrev pub changed : State → ℕ → ℕ → List ℕ → State
changed s i j new = let c = splice_at s.text i j new in
    record s { text = replaced s.text i j new; marks = all_moved c s.marks; watchers = map (heard_more c) s.watchers; version = s.count + 1 }

-- what that change answers
abbrev pub part_of : State → ℕ → ℕ → List ℕ → Part
part_of s i j new = let c = splice_at s.text i j new in record { from = c.start; to = c.old_end; end = c.new_end; hits = hit_counts c s.marks }

-- the units from offset i to offset j
abbrev pub between : List ℕ → ℕ → ℕ → List ℕ
between t i j = take (j - i) (drop i t)

-- that change as a part of a step
abbrev pub change_of : State → ℕ → ℕ → List ℕ → Change
change_of s i j new = record { start = point_at s.text i; old = between s.text i j; new = new }

-- how far a list of edits is: the state, the changes made and the parts answered
pub record Progress : Type 0 where
  pub state : State
  pub made : List Change
  pub parts : List Part

-- no marks are hit
abbrev pub no_hits : HitCounts
no_hits = record { touch = 0; inside = 0; overlap = 0; surround = 0 }

-- what an edit that changes nothing answers: the place where it stands
abbrev pub nothing_made : State → ℕ → Progress
nothing_made s i = let p = point_at s.text i in record { state = s; made = []; parts = record { from = p; to = p; end = p; hits = no_hits } ∷ [] }

abbrev pub one_made : State → ℕ → ℕ → List ℕ → Progress
one_made s i j new = record { state = changed s i j new; made = change_of s i j new ∷ []; parts = part_of s i j new ∷ [] }

-- one edit of the units from offset i to offset j: nothing where the text would be too long
abbrev pub member_at : State → ℕ → ℕ → List ℕ → Option Progress
member_at s i j new =
    if (i == j) && (length new == 0) then Some (nothing_made s i)
    else (if nat_lt MAX_UNITS (length (replaced s.text i j new)) then None else Some (one_made s i j new))

-- one edit of a range
abbrev pub member : State → Edit → Option Progress
member s e = let ends = span s.text e.0.start e.0.end in member_at s ends.0 ends.1 e.1

-- what was made before, and then this
abbrev pub joined : Progress → Progress → Progress
joined a b = record { state = b.state; made = a.made ++ b.made; parts = a.parts ++ b.parts }

-- edits in turn, each on the text that the ones before it gave
abbrev pub members : State → List Edit → Option Progress
members s [] = Some (record { state = s; made = []; parts = [] })
members s (e ∷ es) = option_and_then (λ a. option_map (joined a) (members a.state es)) (member s e)

-- the state with these changes as a step that can be taken back; where there are none, no step is made
abbrev pub with_step : List Change → State → State
with_step [] s = s
with_step (c ∷ cs) s = record s { past = take MAX_STEPS ((c ∷ cs) ∷ s.past); future = [] }

-- the part of a call that makes one edit
abbrev pub edited_one : List Part → Answer
edited_one [] = Batched []
edited_one (p ∷ ps) = Edited p

-- the state after a list of edits, and what they answer; where a text would be too long, the state before them
abbrev pub edited : State → (List Part → Answer) → Option Progress → State × Answer
edited s answer None = (counted s, Refused no.TooLong)
edited s answer (Some p) = (counted (with_step p.made p.state), answer p.parts)

-- the state after the text `old` at a point gave way to the text `new`, and what that answers
abbrev pub put_at : State → ℕ → List ℕ → List ℕ → State × Part
put_at s i old new = (changed s i (i + length old) new, part_of s i (i + length old) new)

abbrev pub put : State → Point → List ℕ → List ℕ → State × Part
put s start old new = put_at s (unwrap_or (offset_of s.text start) 0) old new

-- what was done before, and then this
abbrev pub then_part : State × List Part → State × Part → State × List Part
then_part before after = (after.0, before.1 ++ after.1 ∷ [])

-- the changes of a step taken back, from the last to the first: each puts the old text in place of the new one
abbrev pub undone : State → List Change → State × List Part
undone s [] = (s, [])
undone s (c ∷ cs) = let later = undone s cs in then_part later (put later.0 c.start c.new c.old)

-- what was done first, and then the rest
abbrev pub part_then : Part → State × List Part → State × List Part
part_then part after = (after.0, part ∷ after.1)

-- the changes of a step made again, from the first to the last
abbrev pub redone : State → List Change → State × List Part
redone s [] = (s, [])
redone s (c ∷ cs) = let first = put s c.start c.old c.new in part_then first.1 (redone first.0 cs)

-- undo and redo move a step between the past and the future
abbrev pub undo_step : State → List Step → State × Answer
undo_step s [] = (counted s, Refused no.Nothing)
undo_step s (step ∷ rest) = let after = undone s step in (counted (record after.0 { past = rest; future = step ∷ s.future }), Batched after.1)

abbrev pub redo_step : State → List Step → State × Answer
redo_step s [] = (counted s, Refused no.Nothing)
redo_step s (step ∷ rest) = let after = redone s step in (counted (record after.0 { past = step ∷ s.past; future = rest }), Batched after.1)

-- the first units of a stretch, at most `limit`, and one fewer where that would part a pair
abbrev pub shown : ℕ → List ℕ → List ℕ
shown limit units = let k = min limit (length units) in take (if splits_pair units k then k - 1 else k) units

-- a look at the units from offset i to offset j: the first of them, and their number
abbrev pub look_step : State → ℕ → ℕ → ℕ → State × Answer
look_step s i j limit = (counted s, Shown (shown limit (between s.text i j)) (j - i))

-- a call that reads, and one that changes something else than the text
abbrev pub tells : State → Answer → State × Answer
tells s answer = (counted s, answer)

abbrev pub with_marks : State → List Mark → State × Answer
with_marks s marks = (counted (record s { marks = marks }), Done)

abbrev pub add_step : State → Mark → State × Answer
add_step s m =
    if is_some (mark_with m.id s.marks) then tells s (Refused no.MarkTaken)
    else (if nat_le MAX_MARKS (length s.marks) then tells s (Refused no.MarksFull) else with_marks s (with_mark m s.marks))

-- a call on the mark with this id, where there is one
abbrev pub on_mark : State → (Mark → State × Answer) → Option Mark → State × Answer
on_mark s call None = tells s (Refused no.MarkUnknown)
on_mark s call (Some m) = call m

-- the marks that stand to the range from p to q in this way
abbrev pub finds : How → Point → Point → Mark → Bool
finds how.Intersecting p q m = intersects p q m
finds how.Containing p q m = contains p q m
finds how.ContainedIn p q m = is_contained_in p q m
finds how.StartingIn p q m = starts_in p q m
finds how.StartingAt p q m = starts_at p m
finds how.EndingIn p q m = ends_in p q m
finds how.EndingAt p q m = ends_at p m

-- the watcher with this id, where there is one
abbrev pub watcher_with : ℕ → List Watching → Option Watching
watcher_with id ws = find (λ w. w.id == id) ws

-- the watchers with a new one
abbrev pub with_watcher : ℕ → List Watching → List Watching
with_watcher id ws = filter (λ w. nat_lt w.id id) ws ++ record { id = id; heard = [] } ∷ filter (λ w. nat_lt id w.id) ws

abbrev pub with_watchers : State → List Watching → Answer → State × Answer
with_watchers s watchers answer = (counted (record s { watchers = watchers }), answer)

abbrev pub watch_step : State → ℕ → State × Answer
watch_step s id =
    if is_some (watcher_with id s.watchers) then tells s (Refused no.WatchTaken)
    else (if nat_le MAX_WATCHERS (length s.watchers) then tells s (Refused no.WatchFull) else with_watchers s (with_watcher id s.watchers) Done)

abbrev pub unwatch_step : State → ℕ → Option Watching → State × Answer
unwatch_step s id None = tells s (Refused no.WatchUnknown)
unwatch_step s id (Some w) = with_watchers s (filter (λ v. not (v.id == id)) s.watchers) (Heard (length w.heard))

-- the state after a call, and what it answers
unfoldable pub step : State → Call → State × Answer
step s (edit e) = edited s edited_one (member s e)
step s (batch es) = edited s Batched (members s es)
step s undo = undo_step s s.past
step s redo = redo_step s s.future
step s (look range limit) = let ends = span s.text range.start range.end in look_step s ends.0 ends.1 limit
step s (add_mark id range exclusive) = add_step s (record { id = id; start = clip s.text range.start; end = clip s.text range.end; exclusive = exclusive })
step s (remove_mark id) = on_mark s (λ m. with_marks s (without_mark id s.marks)) (mark_with id s.marks)
step s (set_exclusive id exclusive) = on_mark s (λ m. with_marks s (with_exclusive id exclusive s.marks)) (mark_with id s.marks)
step s (mark_range id) = on_mark s (λ m. tells s (Ranged m.start m.end m.exclusive)) (mark_with id s.marks)
step s (find_marks how range) = tells s (Found (ids_where (finds how range.start range.end) s.marks))
step s (compare_marks a b) = on_mark s (λ m. on_mark s (λ n. tells s (Compared (mark_order m n))) (mark_with b s.marks)) (mark_with a s.marks)
step s (watch id) = watch_step s id
step s (unwatch id) = unwatch_step s id (watcher_with id s.watchers)

-- the state after these calls in turn, and what they answer
abbrev pub after : State → List Call → State
after s [] = s
after s (c ∷ cs) = after (step s c).0 cs

abbrev pub answers : State → List Call → List Answer
answers s [] = []
answers s (c ∷ cs) = (step s c).1 ∷ answers (step s c).0 cs
