-- What each test on marks asks.
use Rattle.std.specs.Prelude.{Bool}
use Rattle.points.specs.declared.mark.Mark.{Mark}
use Rattle.points.specs.Marks.{intersects, contains, is_contained_in, starts_in, starts_at, ends_in, ends_at, touches, is_inside, overlaps, surrounds}
use Rattle.markers.specs.declared.wanted.Wanted.{Wanted}
use Rattle.markers.specs.declared.wanted.Wanted.TheVariants as wanted

-- the mark passes the test
abbrev pub passes : Wanted → Mark → Bool
passes (wanted.Intersecting range) = intersects range.start range.end
passes (wanted.Containing range) = contains range.start range.end
passes (wanted.ContainedIn range) = is_contained_in range.start range.end
passes (wanted.StartingIn range) = starts_in range.start range.end
passes (wanted.StartingAt point) = starts_at point
passes (wanted.EndingIn range) = ends_in range.start range.end
passes (wanted.EndingAt point) = ends_at point
passes (wanted.Touched splice) = touches splice
passes (wanted.Inside splice) = is_inside splice
passes (wanted.Overlapped splice) = overlaps splice
passes (wanted.Surrounded splice) = surrounds splice
