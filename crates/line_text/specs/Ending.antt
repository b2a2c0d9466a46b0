-- How a row ends.
use Rattle.std.specs.Prelude.{ℕ, List, count_by, nat_lt, if◌then◌else◌}
use Rattle.line_text.specs.declared.ending.Ending.{Ending}
use Rattle.line_text.specs.declared.ending.Ending.TheVariants.{Lf, CrLf, Last}
use Rattle.points.specs.Text.{is_lf}
use Rattle.points.specs.Place.{row_of, ends_with_cr}

-- the ending of row r: the last row has none, and every other one a line feed, with or without a carriage return before it
abbrev pub ending_of : List ℕ → ℕ → Ending
ending_of t r = if nat_lt r (count_by is_lf t) then (if ends_with_cr (row_of t r) then CrLf else Lf) else Last
