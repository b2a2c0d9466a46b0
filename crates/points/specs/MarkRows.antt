-- Marks around a change, worked out by hand.
use Rattle.std.specs.Prelude.{◌≡◌, ℕ, ◌-◌, List, [], ◌∷◌, Bool, true, false, Some}
use Rattle.points.specs.declared.point.Point.{Point}
use Rattle.points.specs.declared.mark.Mark.{Mark}
use Rattle.points.specs.declared.mark.Splice.{Splice}
use Rattle.points.specs.Marks.{splice_of, touches, is_inside, overlaps, surrounds, intersects, contains, is_contained_in, starts_in, starts_at, ends_in, ends_at, comes_before, mark_order}
use Rattle.points.specs.declared.mark.MarkOrder.TheVariants as order
use Rattle.points.specs.MarkList.{ids_where, hit_counts, all_moved, with_mark, without_mark, with_exclusive, mark_with, last_end}

abbrev pub at : ℕ → ℕ → Point
at row column = record { row = row; column = column }

-- a mark on the first row
abbrev pub mark : ℕ → ℕ → ℕ → Bool → Mark
mark id from to exclusive = record { id = id; start = at 0 from; end = at 0 to; exclusive = exclusive }

-- the units of the first row from one column to another are replaced by some units
abbrev pub splice : ℕ → ℕ → ℕ → Splice
splice from to units = splice_of (at 0 from) (at 0 (to - from)) (at 0 units)

-- the sets that the marks are in, in the order touch, inside, overlap, surround
abbrev pub sets : Splice → List Mark → List (List ℕ)
sets c ms = ids_where (touches c) ms ∷ ids_where (is_inside c) ms ∷ ids_where (overlaps c) ms ∷ ids_where (surrounds c) ms ∷ []

-- inclusive and exclusive by turns: empty, starting and ending at column 2
abbrev pub six_marks : List Mark
six_marks = mark 1 2 2 false ∷ mark 2 2 2 true ∷ mark 3 2 4 false ∷ mark 4 2 4 true ∷ mark 5 0 2 false ∷ mark 6 0 2 true ∷ []

-- the finds with the range from column 2 to column 4
abbrev pub five_marks : List Mark
five_marks = mark 1 0 2 false ∷ mark 2 2 4 false ∷ mark 3 3 3 true ∷ mark 4 0 9 true ∷ mark 5 5 9 false ∷ []

-- what becomes of these marks and of others, and which of them are hit and found
pub record MarksWorkedOut : Type 0 where
  -- three units inserted at column 2
  pub six_marks_move : all_moved (splice 2 2 3) six_marks
      ≡ mark 1 2 5 false ∷ mark 2 5 5 true ∷ mark 3 2 7 false ∷ mark 4 5 7 true ∷ mark 5 0 5 false ∷ mark 6 0 2 true ∷ []
  pub six_marks_are_touched : sets (splice 2 2 3) six_marks ≡ (1 ∷ 2 ∷ 3 ∷ 4 ∷ 5 ∷ 6 ∷ []) ∷ [] ∷ [] ∷ [] ∷ []
  -- a mark whose start is where the replaced text ends
  pub touched_from_the_left : all_moved (splice 1 4 1) (mark 1 4 6 false ∷ []) ≡ mark 1 2 4 false ∷ []
  pub sets_from_the_left : sets (splice 1 4 1) (mark 1 4 6 false ∷ []) ≡ (1 ∷ []) ∷ [] ∷ [] ∷ [] ∷ []
  -- a mark within the replaced text
  pub swallowed : all_moved (splice 1 8 0) (mark 1 4 6 false ∷ []) ≡ mark 1 1 1 false ∷ []
  pub sets_of_a_swallowed_mark : sets (splice 1 8 0) (mark 1 4 6 false ∷ []) ≡ (1 ∷ []) ∷ (1 ∷ []) ∷ (1 ∷ []) ∷ (1 ∷ []) ∷ []
  -- a mark whose end is within the replaced text
  pub overlapped_from_the_right : all_moved (splice 5 8 0) (mark 1 4 6 false ∷ []) ≡ mark 1 4 5 false ∷ []
  pub sets_from_the_right : sets (splice 5 8 0) (mark 1 4 6 false ∷ []) ≡ (1 ∷ []) ∷ (1 ∷ []) ∷ (1 ∷ []) ∷ [] ∷ []
  -- a mark behind the replaced text keeps its distance, over rows too
  pub moves_behind_a_row : all_moved (splice_of (at 0 1) (at 1 2) (at 0 3)) (record { id = 7; start = at 1 2; end = at 1 5; exclusive = true } ∷ [])
      ≡ mark 7 4 7 true ∷ []
  -- an insertion at the end of an inclusive mark makes it longer, and touches it alone
  pub insertion_at_an_end : all_moved (splice 3 3 1) (mark 1 1 3 false ∷ []) ≡ mark 1 1 4 false ∷ []
  pub sets_of_an_insertion_at_an_end : sets (splice 3 3 1) (mark 1 1 3 false ∷ []) ≡ (1 ∷ []) ∷ [] ∷ [] ∷ [] ∷ []
  pub finds_intersecting : ids_where (intersects (at 0 2) (at 0 4)) five_marks ≡ 1 ∷ 2 ∷ 3 ∷ 4 ∷ []
  pub finds_containing : ids_where (contains (at 0 2) (at 0 4)) five_marks ≡ 2 ∷ 4 ∷ []
  pub finds_contained_in : ids_where (is_contained_in (at 0 2) (at 0 4)) five_marks ≡ 2 ∷ 3 ∷ []
  pub finds_starting_in : ids_where (starts_in (at 0 2) (at 0 4)) five_marks ≡ 2 ∷ 3 ∷ []
  pub finds_starting_at : ids_where (starts_at (at 0 2)) five_marks ≡ 2 ∷ []
  pub finds_ending_in : ids_where (ends_in (at 0 2) (at 0 4)) five_marks ≡ 1 ∷ 2 ∷ 3 ∷ []
  pub finds_ending_at : ids_where (ends_at (at 0 9)) five_marks ≡ 4 ∷ 5 ∷ []
  -- the order: by start, then the greater end, then the lesser id
  pub the_lesser_start_comes_first : comes_before (mark 2 1 3 false) (mark 1 2 9 false) ≡ true
  pub the_greater_end_comes_first : comes_before (mark 2 1 5 false) (mark 1 1 3 false) ≡ true
  pub the_lesser_id_comes_first : comes_before (mark 1 1 3 true) (mark 2 1 3 false) ≡ true
  pub nothing_comes_before_itself : comes_before (mark 1 1 3 true) (mark 1 1 3 true) ≡ false
  pub one_before_the_other : mark_order (mark 1 1 3 true) (mark 2 1 3 false) ≡ order.Before
  pub one_after_the_other : mark_order (mark 2 4 5 true) (mark 1 1 3 false) ≡ order.After
  pub the_same_mark : mark_order (mark 1 1 3 true) (mark 1 1 3 true) ≡ order.Same
  -- a swallowed mark and one that is only touched, counted
  pub counts_of_two_marks : hit_counts (splice 1 8 0) (mark 1 4 6 false ∷ mark 2 8 9 false ∷ []) ≡ record { touch = 2; inside = 1; overlap = 1; surround = 1 }
  -- the calls on a list
  pub puts_a_mark_in_its_place : with_mark (mark 4 0 0 true) (mark 1 0 1 false ∷ mark 9 0 2 false ∷ []) ≡ mark 1 0 1 false ∷ mark 4 0 0 true ∷ mark 9 0 2 false ∷ []
  pub takes_a_mark_out : without_mark 4 (mark 1 0 1 false ∷ mark 4 0 0 true ∷ []) ≡ mark 1 0 1 false ∷ []
  pub sets_one_mark : with_exclusive 4 true (mark 1 0 1 false ∷ mark 4 0 0 false ∷ []) ≡ mark 1 0 1 false ∷ mark 4 0 0 true ∷ []
  pub finds_by_id : mark_with 4 (mark 1 0 1 false ∷ mark 4 0 0 false ∷ []) ≡ Some (mark 4 0 0 false)
  pub greatest_end : last_end (mark 1 0 8 false ∷ mark 4 0 9 false ∷ mark 6 2 3 true ∷ []) ≡ Some (at 0 9)
