use Rattle.std.proofs.Common.{◌≡◌}
use Rattle.points.specs.Text.{utf16}
use Rattle.points.specs.Point.{traverse}
use Rattle.points.specs.Place.{extent}
use Rattle.plain_reads.proofs.place.led_over.Given as goal

abbrev pub invariant-loop-c : goal.invariant-loop-c
invariant-loop-c l = l.reached ≡ traverse l.fn.start (extent (utf16 l.yielded))
