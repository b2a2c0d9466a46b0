-- Which lists of changes are patches: six rules, tested at each change in turn.
use Rattle.std.specs.Prelude.{ℕ, ◌+◌, ◌^◌, ◌==◌, ◌&&◌, ◌||◌, ◌≡◌, IsTrue, List, [], ◌∷◌, length, Bool, not, nat_lt, if◌then◌else◌, Option, Some, None}
use Rattle.std.specs.Option.{option_or}
use Rattle.std.specs.List.{All}
use Rattle.points.specs.declared.point.Point.{Point}
use Rattle.points.specs.declared.limits.TheConstants.{MAX_CHANGES}
use Rattle.points.specs.Point.{origin, point_le, traversal}
use Rattle.points.specs.Place.{extent, same_point}
use Rattle.points.specs.Distance.{is_far}
use Rattle.patch.specs.Hunk.{Hunk}
use Rattle.patch.specs.declared.refusal.ListRefusal.{ListRefusal}
use Rattle.patch.specs.declared.refusal.ListRefusal.TheVariants as fault

-- a coordinate of the change passes the greatest one
abbrev pub reaches_far : Hunk → Bool
reaches_far h = is_far h.old_start || is_far h.old_end || is_far h.new_start || is_far h.new_end

-- both its texts are empty
abbrev pub is_empty_change : Hunk → Bool
is_empty_change h = (length h.old_text == 0) && (length h.new_text == 0)

-- it starts behind the old and the new end of the change before it, or at them
abbrev pub is_behind : Point → Point → Hunk → Bool
is_behind old_end new_end h = point_le old_end h.old_start && point_le new_end h.new_start

-- its texts reach over its ranges, and the stretch since the change before it reaches equally far on both sides
abbrev pub has_extents : Point → Point → Hunk → Bool
has_extents old_end new_end h = same_point (traversal h.old_start old_end) (traversal h.new_start new_end)
    && same_point (extent h.old_text) (traversal h.old_end h.old_start) && same_point (extent h.new_text) (traversal h.new_end h.new_start)

-- the lowest rule that the change at index `at` breaks, where the one before it has these ends
abbrev pub fault_at : ℕ → Point → Point → Hunk → Option ListRefusal
fault_at at old_end new_end h = if not (is_behind old_end new_end h) then Some (fault.NotSorted at)
    else (if nat_lt 0 at && same_point h.old_start old_end then Some (fault.NotApart at)
    else (if not (has_extents old_end new_end h) then Some (fault.ExtentMismatch at)
    else (if is_empty_change h then Some (fault.EmptyChange at)
    else (if reaches_far h then Some (fault.TooFar at)
    else (if at == MAX_CHANGES then Some (fault.TooMany at) else None)))))

-- the first fault of changes that begin at index `at`
abbrev pub fault_from : ℕ → Point → Point → List Hunk → Option ListRefusal
fault_from at old_end new_end [] = None
fault_from at old_end new_end (h ∷ hs) = option_or (fault_at at old_end new_end h) (fault_from (at + 1) h.old_end h.new_end hs)

-- the first fault of a list of changes
abbrev pub fault_of : List Hunk → Option ListRefusal
fault_of hs = fault_from 0 origin origin hs

-- its ranges end where they start, or behind
abbrev pub IsOrdered : Hunk → Type 0
IsOrdered h = IsTrue (point_le h.old_start h.old_end) × IsTrue (point_le h.new_start h.new_end)

-- the list breaks no rule
abbrev pub IsPatch : List Hunk → Type 0
IsPatch hs = (fault_of hs ≡ None) × All IsOrdered hs
