use Rattle.std.proofs.Common.{◌≡◌, ◌+◌, drop}
use Rattle.sessions.specs.Holding.{place_in}
use Rattle.sessions.proofs.holding.place_of.Given as goal

abbrev pub invariant-loop-at : goal.invariant-loop-at
invariant-loop-at l = l.at + place_in l.number (drop l.at l.live) ≡ place_in l.number l.live
