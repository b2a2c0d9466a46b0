-- Lists of marks in rising order of ids, and what the calls on marks make of them.
use Rattle.std.specs.Prelude.{ℕ, ◌<◌, ◌==◌, List, [], ◌∷◌, ◌++◌, map, find, length, Bool, not, nat_lt, if◌then◌else◌, Option, Some, None, unwrap_or, IsTrue}
use Rattle.std.specs.List.{All, AllPairs, filter}
use Rattle.points.specs.declared.point.Point.{Point}
use Rattle.points.specs.Point.{point_le, point_lt, IsWithin}
use Rattle.points.specs.declared.mark.Mark.{Mark}
use Rattle.points.specs.declared.mark.Splice.{Splice}
use Rattle.points.specs.Marks.{moved, touches, is_inside, overlaps, surrounds}
use Rattle.points.specs.declared.mark.HitCounts.{HitCounts}
use Rattle.points.specs.declared.hits.Hits.{Hits}

-- the ids of marks, in their order
abbrev pub ids_of : List Mark → List ℕ
ids_of ms = map (λ m. m.id) ms

-- the mark starts at its end or before it
abbrev pub IsRange : Mark → Type 0
IsRange m = IsTrue (point_le m.start m.end)

-- the id of each mark is below those of the later ones, and each is a range
pub record AreMarks (ms : List Mark) : Type 0 where
  pub rising : AllPairs (λ a b. a.id < b.id) ms
  pub ordered : All IsRange ms

-- the ids of the marks that pass a test, in their order
abbrev pub ids_where : (Mark → Bool) → List Mark → List ℕ
ids_where test ms = ids_of (filter test ms)

-- how many marks the splice hits, in each of the four senses
abbrev pub hit_counts : Splice → List Mark → HitCounts
hit_counts c ms = record { touch = length (ids_where (touches c) ms); inside = length (ids_where (is_inside c) ms); overlap = length (ids_where (overlaps c) ms); surround = length (ids_where (surrounds c) ms) }

-- the ids of the marks that the splice hits, in each of the four senses
abbrev pub hits_of : Splice → List Mark → Hits
hits_of c ms = record { touch = ids_where (touches c) ms; inside = ids_where (is_inside c) ms; overlap = ids_where (overlaps c) ms; surround = ids_where (surrounds c) ms }

-- the mark with this id, where there is one
abbrev pub mark_with : ℕ → List Mark → Option Mark
mark_with id ms = find (λ m. m.id == id) ms

-- the list with one mark more, whose id is new
abbrev pub with_mark : Mark → List Mark → List Mark
with_mark new ms = filter (λ m. nat_lt m.id new.id) ms ++ new ∷ filter (λ m. nat_lt new.id m.id) ms

-- the list without the mark of this id
abbrev pub without_mark : ℕ → List Mark → List Mark
without_mark id ms = filter (λ m. not (m.id == id)) ms

-- the mark, made exclusive or inclusive if it has this id
abbrev pub made_exclusive : ℕ → Bool → Mark → Mark
made_exclusive id exclusive m = if m.id == id then record m { exclusive = exclusive } else m

-- the list with the mark of this id made exclusive or inclusive
abbrev pub with_exclusive : ℕ → Bool → List Mark → List Mark
with_exclusive id exclusive ms = map (made_exclusive id exclusive) ms

-- the marks after a splice
abbrev pub all_moved : Splice → List Mark → List Mark
all_moved c ms = map (moved c) ms

-- the later of two points
abbrev pub later : Point → Point → Point
later p q = if point_lt p q then q else p

-- the greatest end of a mark, where there is one
abbrev pub last_end : List Mark → Option Point
last_end [] = None
last_end (m ∷ ms) = Some (later m.end (unwrap_or (last_end ms) m.end))

-- both ends of the mark are within the greatest coordinate
abbrev pub MarkIsWithin : ℕ → Mark → Type 0
MarkIsWithin limit m = IsWithin limit m.start × IsWithin limit m.end

-- no end of the splice passes the greatest coordinate, and no end of any mark after it
pub record SpliceIsWithin (limit : ℕ) (c : Splice) (ms : List Mark) : Type 0 where
  pub old_end : IsWithin limit c.old_end
  pub new_end : IsWithin limit c.new_end
  pub moved_marks : All (MarkIsWithin limit) (all_moved c ms)
