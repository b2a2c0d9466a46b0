-- The lists of marks that an index may hold.
use Rattle.std.specs.Prelude.{◌≤◌, List, length}
use Rattle.points.specs.declared.mark.Mark.{Mark}
use Rattle.points.specs.MarkList.{AreMarks}
use Rattle.points.specs.declared.limits.TheConstants.{MAX_MARKS}

-- marks in rising order of ids, and not too many
pub record IsIndex (ms : List Mark) : Type 0 where
  pub marks : AreMarks ms
  pub short : length ms ≤ MAX_MARKS
