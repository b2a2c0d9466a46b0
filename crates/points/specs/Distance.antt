-- Distances as points without a bound, points that pass the greatest coordinate, and the farthest points that can be named.
use Rattle.std.specs.Prelude.{◌-◌, ◌^◌, ◌||◌, min, nat_lt, Bool, if◌then◌else◌, Option, Some, None}
use Rattle.points.specs.declared.point.Point.{Point}
use Rattle.points.specs.declared.distance.Distance.{Distance}
use Rattle.points.specs.declared.limits.TheConstants.{MAX_COORD}
use Rattle.points.specs.Point.{traverse}

-- the point, with no bound, to which a distance leads from the start of a text
abbrev pub point_of : Distance → Point
point_of d = record { row = d.rows; column = d.columns }

-- a coordinate of the point passes the greatest one
abbrev pub is_far : Point → Bool
is_far p = nat_lt MAX_COORD p.row || nat_lt MAX_COORD p.column

-- the point, where no coordinate of it passes the greatest one
abbrev pub near : Point → Option Point
near p = if is_far p then None else Some p

-- the point, or the farthest one that coordinates can name on its row, or at all where its row can't be named
abbrev pub capped : Point → Point
capped p = if nat_lt (2 ^ 32 - 1) p.row then record { row = 2 ^ 32 - 1; column = 2 ^ 32 - 1 } else record { row = p.row; column = min p.column (2 ^ 32 - 1) }

-- where such a point leads over an extent
abbrev pub traverse_capped : Point → Point → Point
traverse_capped a b = capped (traverse a b)
