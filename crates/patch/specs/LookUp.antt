-- Look-ups in a patch: which change a point belongs to, which changes a range touches, and where a point goes.
use Rattle.std.specs.Prelude.{ℕ, ◌+◌, ◌&&◌, List, [], ◌∷◌, slice_get, count_by, Bool, if◌then◌else◌, Option, Some, None, option_and_then, unwrap_or}
use Rattle.std.specs.Option.{option_or}
use Rattle.std.specs.List.{position_from}
use Rattle.points.specs.declared.point.Point.{Point}
use Rattle.points.specs.Point.{point_le, traverse, traversal}
use Rattle.points.specs.Distance.{near}
use Rattle.patch.specs.Hunk.{Hunk}
use Rattle.patch.specs.declared.change.Run.{Run}

-- the index of the last item that passes, where the list starts at index i
abbrev pub last_from : {X : Type 0} → (X → Bool) → ℕ → List X → Option ℕ
last_from q i [] = None
last_from q i (x ∷ xs) = option_or (last_from q (i + 1) xs) (if q x then Some i else None)

-- the last change whose old start is at most the point
abbrev pub change_for_old : List Hunk → Point → Option ℕ
change_for_old p point = last_from (λ h. point_le h.old_start point) 0 p

-- the last change whose new start is at most the point
abbrev pub change_for_new : List Hunk → Point → Option ℕ
change_for_new p point = last_from (λ h. point_le h.new_start point) 0 p

-- the items that pass, as a run: the index of the first, or 0, and their number
abbrev pub run_where : {X : Type 0} → (X → Bool) → List X → Run
run_where q xs = record { first = unwrap_or (position_from q 0 xs) 0; count = count_by q xs }

-- the changes whose old range touches the range from `start` up to `end`
abbrev pub changes_in_old : List Hunk → Point → Point → Run
changes_in_old p start end = run_where (λ h. point_le h.old_start end && point_le start h.old_end) p

-- the changes whose new range touches it
abbrev pub changes_in_new : List Hunk → Point → Point → Run
changes_in_new p start end = run_where (λ h. point_le h.new_start end && point_le start h.new_end) p

-- the one that stands first
abbrev pub first_of : Point → Point → Point
first_of a b = if point_le a b then a else b

-- where a point goes that stands at the start of a replaced range or behind it: behind its end it keeps its
-- distance from the end, and before its end it keeps its distance from the start, up to the new end
abbrev pub moved_over : Point → Point → Point → Point → Point → Point
moved_over from_start from_end to_start to_end point = if point_le from_end point then traverse to_end (traversal point from_end) else first_of (traverse to_start (traversal point from_start)) to_end

abbrev pub moved_to_new : Option Hunk → Point → Point
moved_to_new None point = point
moved_to_new (Some h) point = moved_over h.old_start h.old_end h.new_start h.new_end point

abbrev pub moved_to_old : Option Hunk → Point → Point
moved_to_old None point = point
moved_to_old (Some h) point = moved_over h.new_start h.new_end h.old_start h.old_end point

-- where a point of the old text goes, and a point of the new one
abbrev pub to_new : List Hunk → Point → Option Point
to_new p point = near (moved_to_new (option_and_then (slice_get p) (change_for_old p point)) point)

abbrev pub to_old : List Hunk → Point → Option Point
to_old p point = near (moved_to_old (option_and_then (slice_get p) (change_for_new p point)) point)
