-- Rows of a text without their endings, as look-ups hold them.
use Rattle.std.specs.Prelude.{◌≡◌, ℕ, ◌<◌, ◌≤◌, List, length, Option, Some, None}
use Rattle.points.specs.Place.{extent, row_start, line_of}
use Rattle.chains.specs.declared.line.Line.{Line}

-- the text has row r, and the line is where it starts and how many units it has without its ending
pub record IsLine (t : List ℕ) (r : ℕ) (line : Line) : Type 0 where
  pub in_text : r ≤ (extent t).row
  pub start : line.start ≡ row_start t r
  pub len : line.len ≡ length (line_of t r)

-- the line of row r, or none where the text doesn't have that row
abbrev pub IsLineAt : List ℕ → ℕ → Option Line → Type 0
IsLineAt t r None = (extent t).row < r
IsLineAt t r (Some line) = IsLine t r line
