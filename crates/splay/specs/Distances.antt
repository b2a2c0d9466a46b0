-- Distances as the points to which they lead.
use Rattle.points.specs.declared.point.Point.{Point}
use Rattle.points.specs.declared.distance.Distance.{Distance}

-- the distance that leads from the start of a text to the point
abbrev pub distance_to : Point → Distance
distance_to p = record { rows = p.row; columns = p.column }
