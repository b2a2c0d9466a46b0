-- The marks worked out by hand, by computing.
use Rattle.std.proofs.Common.{refl}
use Rattle.points.specs.MarkRows.{MarksWorkedOut}

pub marks_worked_out : MarksWorkedOut
marks_worked_out = record {
  six_marks_move = refl;
  six_marks_are_touched = refl;
  touched_from_the_left = refl;
  sets_from_the_left = refl;
  swallowed = refl;
  sets_of_a_swallowed_mark = refl;
  overlapped_from_the_right = refl;
  sets_from_the_right = refl;
  moves_behind_a_row = refl;
  insertion_at_an_end = refl;
  sets_of_an_insertion_at_an_end = refl;
  finds_intersecting = refl;
  finds_containing = refl;
  finds_contained_in = refl;
  finds_starting_in = refl;
  finds_starting_at = refl;
  finds_ending_in = refl;
  finds_ending_at = refl;
  the_lesser_start_comes_first = refl;
  the_greater_end_comes_first = refl;
  the_lesser_id_comes_first = refl;
  nothing_comes_before_itself = refl;
  one_before_the_other = refl;
  one_after_the_other = refl;
  the_same_mark = refl;
  counts_of_two_marks = refl;
  puts_a_mark_in_its_place = refl;
  takes_a_mark_out = refl;
  sets_one_mark = refl;
  finds_by_id = refl;
  greatest_end = refl;
}
