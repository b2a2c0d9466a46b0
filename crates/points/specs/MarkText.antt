-- Marks in a text: their ends are points of it, and a replacement in the text is a splice of them.
use Rattle.std.specs.Prelude.{◌≡◌, ℕ, ◌≤◌, List, length}
use Rattle.points.specs.declared.point.Point.{Point}
use Rattle.points.specs.declared.mark.Mark.{Mark}
use Rattle.points.specs.declared.mark.Splice.{Splice}
use Rattle.points.specs.Point.{traverse}
use Rattle.points.specs.Place.{extent, point_at}

-- the text has the point at some offset
pub record IsPointOf (t : List ℕ) (p : Point) : Type 0 where
  pub offset : ℕ
  pub within : offset ≤ length t
  pub is : point_at t offset ≡ p

-- both ends of the mark are points of the text
abbrev pub IsMarkOf : List ℕ → Mark → Type 0
IsMarkOf t m = IsPointOf t m.start × IsPointOf t m.end

-- the splice of replacing the units of t from offset i up to offset j by s
abbrev pub splice_in : List ℕ → ℕ → ℕ → List ℕ → Splice
splice_in t i j s = record { start = point_at t i; old_end = point_at t j; new_end = traverse (point_at t i) (extent s) }
