-- Where a mark stands in a list of marks, or would stand.
use Rattle.std.specs.Prelude.{◌≡◌, ℕ, ◌<◌, ◌≤◌, List, length, slice_index_or, Bool, Option, option_map, option_and_then, unwrap_or}
use Rattle.std.specs.List.{AllWithin}
use Rattle.points.specs.declared.point.Point.{Point}
use Rattle.points.specs.declared.range.Range.{Range}
use Rattle.points.specs.declared.mark.Mark.{Mark}
use Rattle.points.specs.declared.mark.MarkOrder.{MarkOrder}
use Rattle.points.specs.Marks.{mark_order}
use Rattle.points.specs.MarkList.{mark_with, later}

-- the mark of this id stands at index i
pub record StandsAt (id : ℕ) (ms : List Mark) (i : ℕ) : Type 0 where
  pub within : i < length ms
  pub has_id : (d : Mark) → (slice_index_or ms i d).id ≡ id

-- no mark has this id: those below index i have lesser ids, the others greater ones
pub record IsGap (id : ℕ) (ms : List Mark) (i : ℕ) : Type 0 where
  pub within : i ≤ length ms
  pub below : AllWithin (λ m. m.id < id) ms 0 i
  pub above : AllWithin (λ m. id < m.id) ms i (length ms)

-- how the mark of one id stands to that of another, where both are there
abbrev pub order_between : ℕ → ℕ → List Mark → Option MarkOrder
order_between a b ms = option_and_then (λ x. option_map (mark_order x) (mark_with b ms)) (mark_with a ms)

-- the mark of this id with this range and this flag
abbrev pub mark_seen : ℕ → Range × Bool → Mark
mark_seen id found = record { id = id; start = found.0.start; end = found.0.end; exclusive = found.1 }

-- the later of a point and one that may be there
abbrev pub later_of : Option Point → Point → Point
later_of known point = later point (unwrap_or known point)
