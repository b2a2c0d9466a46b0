-- Marks: ranges with an id that stay right while the text changes, which of them a change hits, and the finds.
use Rattle.std.specs.Prelude.{◌≡◌, IsTrue, ◌&&◌, ◌||◌, Bool, true, false, not, nat_lt, if◌then◌else◌}
use Rattle.points.specs.declared.point.Point.{Point}
use Rattle.points.specs.Point.{point_le, point_lt, traverse, traversal}
use Rattle.points.specs.Place.{same_point}
use Rattle.points.specs.declared.mark.Mark.{Mark}
use Rattle.points.specs.declared.mark.Splice.{Splice}
use Rattle.points.specs.declared.mark.MarkOrder.{MarkOrder}
use Rattle.points.specs.declared.mark.MarkOrder.TheVariants as order

-- the splice that replaces an old extent behind `start` by a new one
abbrev pub splice_of : Point → Point → Point → Splice
splice_of start old_extent new_extent = record { start = start; old_end = traverse start old_extent; new_end = traverse start new_extent }

-- the splice replaces no text: it only inserts
abbrev pub is_insertion : Splice → Bool
is_insertion c = same_point c.start c.old_end

-- the mark's end is its start
abbrev pub is_empty_mark : Mark → Bool
is_empty_mark m = same_point m.start m.end

-- where the boundary p of the mark m goes (is_start: p is its start): the first case that holds, one for each row of the
-- table of movement; from the fifth on the splice inserts at p
abbrev pub moved_boundary : Splice → Mark → Bool → Point → Point
moved_boundary c m is_start p = if point_lt p c.start then p
    else (if point_lt c.old_end p then traverse c.new_end (traversal p c.old_end)
    else (if not (is_insertion c) && same_point p c.start then p
    else (if not (is_insertion c) then c.new_end
    else (if not m.exclusive && is_start then p
    else (if not m.exclusive then c.new_end
    else (if not (is_empty_mark m) && is_start then c.new_end
    else (if not (is_empty_mark m) then p
    else c.new_end)))))))

-- the table of movement, a row a line. The splice replaces the text from its start up to its old end by text that ends at
-- its new end; from `inclusive_start` on it only inserts
pub record MovesByTable (c : Splice) (m : Mark) : Type 0 where
  pub before : (is_start : Bool) (p : Point) → IsTrue (point_lt p c.start) → moved_boundary c m is_start p ≡ p
  pub behind : (is_start : Bool) (p : Point) → IsTrue (point_le c.start c.old_end) → IsTrue (point_lt c.old_end p)
      → moved_boundary c m is_start p ≡ traverse c.new_end (traversal p c.old_end)
  pub at_start : (is_start : Bool) → IsTrue (point_lt c.start c.old_end) → moved_boundary c m is_start c.start ≡ c.start
  pub within : (is_start : Bool) (p : Point) → IsTrue (point_lt c.start p) → IsTrue (point_le p c.old_end)
      → moved_boundary c m is_start p ≡ c.new_end
  pub inclusive_start : c.start ≡ c.old_end → m.exclusive ≡ false → moved_boundary c m true c.start ≡ c.start
  pub inclusive_end : c.start ≡ c.old_end → m.exclusive ≡ false → moved_boundary c m false c.start ≡ c.new_end
  pub exclusive_start : c.start ≡ c.old_end → m.exclusive ≡ true → ¬ (m.start ≡ m.end) → moved_boundary c m true c.start ≡ c.new_end
  pub exclusive_end : c.start ≡ c.old_end → m.exclusive ≡ true → ¬ (m.start ≡ m.end) → moved_boundary c m false c.start ≡ c.start
  pub exclusive_empty : (is_start : Bool) → c.start ≡ c.old_end → m.exclusive ≡ true → m.start ≡ m.end
      → moved_boundary c m is_start c.start ≡ c.new_end

-- the mark with both its boundaries moved
abbrev pub moved : Splice → Mark → Mark
moved c m = record { id = m.id; start = moved_boundary c m true m.start; end = moved_boundary c m false m.end; exclusive = m.exclusive }

-- the splice touches the mark: their ranges have a point in common
abbrev pub touches : Splice → Mark → Bool
touches c m = point_le c.start m.end && point_le m.start c.old_end

-- the mark ends behind the start of the replaced text, and starts before its end
abbrev pub is_inside : Splice → Mark → Bool
is_inside c m = point_lt c.start m.end && point_lt m.start c.old_end

-- a boundary of the mark lies strictly within the replaced text
abbrev pub overlaps : Splice → Mark → Bool
overlaps c m = (point_lt c.start m.start && point_lt m.start c.old_end) || (point_lt c.start m.end && point_lt m.end c.old_end)

-- the replaced text surrounds the mark
abbrev pub surrounds : Splice → Mark → Bool
surrounds c m = point_lt c.start m.start && point_lt m.end c.old_end

-- the mark has a point in common with the range from p to q
abbrev pub intersects : Point → Point → Mark → Bool
intersects p q m = point_le m.start q && point_le p m.end

-- the mark contains the range from p to q
abbrev pub contains : Point → Point → Mark → Bool
contains p q m = point_le m.start p && point_le q m.end

-- the range from p to q contains the mark
abbrev pub is_contained_in : Point → Point → Mark → Bool
is_contained_in p q m = point_le p m.start && point_le m.end q

-- the mark's start is in the range from p to q
abbrev pub starts_in : Point → Point → Mark → Bool
starts_in p q m = point_le p m.start && point_le m.start q

-- the mark's start is at p
abbrev pub starts_at : Point → Mark → Bool
starts_at p m = same_point m.start p

-- the mark's end is in the range from p to q
abbrev pub ends_in : Point → Point → Mark → Bool
ends_in p q m = point_le p m.end && point_le m.end q

-- the mark's end is at p
abbrev pub ends_at : Point → Mark → Bool
ends_at p m = same_point m.end p

-- a comes before b: by start, then the greater end first, then the lesser id
abbrev pub comes_before : Mark → Mark → Bool
comes_before a b = point_lt a.start b.start
    || (same_point a.start b.start && (point_lt b.end a.end || (same_point a.end b.end && nat_lt a.id b.id)))

-- how a stands to b
abbrev pub mark_order : Mark → Mark → MarkOrder
mark_order a b = if comes_before a b then order.Before else (if comes_before b a then order.After else order.Same)
