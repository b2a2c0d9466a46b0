-- Points: their order, and the way from one to another.
use Rattle.std.specs.Prelude.{ℕ, ◌+◌, ◌-◌, ◌≤◌, ◌==◌, ◌&&◌, ◌||◌, Bool, nat_lt, nat_le, if◌then◌else◌}
use Rattle.points.specs.declared.point.Point.{Point}

-- the start of every text
abbrev pub origin : Point
origin = record { row = 0; column = 0 }

-- a stands at b or before it
abbrev pub point_le : Point → Point → Bool
point_le a b = nat_lt a.row b.row || ((a.row == b.row) && nat_le a.column b.column)

-- a stands before b
abbrev pub point_lt : Point → Point → Bool
point_lt a b = nat_lt a.row b.row || ((a.row == b.row) && nat_lt a.column b.column)

-- the point that lies the extent b behind the point a
abbrev pub traverse : Point → Point → Point
traverse a b = if b.row == 0 then record { row = a.row; column = a.column + b.column } else record { row = a.row + b.row; column = b.column }

-- the extent that leads from the point b to the point a
abbrev pub traversal : Point → Point → Point
traversal a b = if a.row == b.row then record { row = 0; column = a.column - b.column } else record { row = a.row - b.row; column = a.column }

-- both coordinates are within the greatest one
pub record IsWithin (limit : ℕ) (p : Point) : Type 0 where
  pub row : p.row ≤ limit
  pub column : p.column ≤ limit
