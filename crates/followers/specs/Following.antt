-- What follows a text, in the plain machine's words.
use Rattle.std.specs.Prelude.{ℕ, List, [], ◌∷◌, map, reverse, Option, Some, None}
use Rattle.points.specs.declared.mark.Splice.{Splice}
use Rattle.patch.specs.declared.change.Change as code
use Rattle.watch.specs.declared.seat.Seat.{Seat}
use Rattle.watch.specs.declared.watcher.Heard.{Heard}
use Rattle.watch.specs.Log.{log_of}
use Rattle.followers.specs.declared.replacement.Replacement.{Replacement}
use Rattle.machine.specs.Machine.{Change, Step, Told, Watching}

-- the splice that a change makes of marks
abbrev pub splice_by : code.Change → Splice
splice_by c = record { start = c.old_range.start; old_end = c.old_range.end; new_end = c.new_range.end }

-- a change without the places where its texts end
abbrev pub change_of : code.Change → Change
change_of c = record { start = c.old_range.start; old = c.old_text; new = c.new_text }

-- the steps that these changes are, the last one first
abbrev pub step_of : code.Change → Step
step_of c = change_of c ∷ []

abbrev pub steps_of : List code.Change → List Step
steps_of cs = reverse (map step_of cs)

-- the step that a replacement makes again, and the one that it takes back
abbrev pub step_on : Replacement → Step
step_on r = record { start = r.start; old = r.old_text; new = r.new_text } ∷ []

abbrev pub step_back : Replacement → Step
step_back r = record { start = r.start; old = r.new_text; new = r.old_text } ∷ []

abbrev pub told_of : Heard → Told
told_of h = record { from = h.start; to = h.old_end; end = h.new_end }

module _ {W : Type 0} where
  abbrev pub watching : Seat W → Watching
  watching s = record { id = s.id; heard = map told_of (log_of s.log) }

  -- the watchers in these slots
  abbrev pub watchings : List (Option (Seat W)) → List Watching
  watchings [] = []
  watchings (None ∷ os) = watchings os
  watchings (Some s ∷ os) = watching s ∷ watchings os
