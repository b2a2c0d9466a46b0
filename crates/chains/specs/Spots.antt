-- Places in texts, and places that lie as far behind others.
use Rattle.std.specs.Prelude.{ℕ, ◌+◌, ◌-◌, List}
use Rattle.points.specs.Point.{traverse, traversal}
use Rattle.points.specs.Place.{point_at}
use Rattle.chains.specs.declared.spot.Spot.{Spot}

-- as far behind the spot `at` as `to` is behind `from`
abbrev pub ahead : Spot → Spot → Spot → Spot
ahead at from to = record { offset = at.offset + (to.offset - from.offset); point = traverse at.point (traversal to.point from.point) }

-- the place at an offset of a text
abbrev pub spot_in : List ℕ → ℕ → Spot
spot_in t i = record { offset = i; point = point_at t i }
