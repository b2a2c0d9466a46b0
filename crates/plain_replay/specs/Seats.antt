-- The watchers as they are kept: one list of changes told, and for each watcher how many of them came before it.
use Rattle.std.specs.Prelude.{ℕ, ◌≤◌, List, ◌∷◌, ◌++◌, map, drop, nat_lt}
use Rattle.std.specs.List.{All, filter}
use Rattle.points.specs.declared.mark.Splice.{Splice}
use Rattle.machine.specs.Machine.{Told, Watching}
use Rattle.plain_replay.specs.declared.watchers.Seat.{Seat}

-- what is told of a change
abbrev pub told_of : Splice → Told
told_of c = record { from = c.start; to = c.old_end; end = c.new_end }

-- the watcher of a seat, with the changes told since it was attached
abbrev pub watching : List Splice → Seat → Watching
watching told s = record { id = s.id; heard = map told_of (drop s.since told) }

-- no watcher was attached after more changes than there were
abbrev pub AreSeats : ℕ → List Seat → Type 0
AreSeats n seats = All (λ s. s.since ≤ n) seats

-- the seats with a new one
abbrev pub with_seat : Seat → List Seat → List Seat
with_seat new seats = filter (λ s. nat_lt s.id new.id) seats ++ new ∷ filter (λ s. nat_lt new.id s.id) seats
