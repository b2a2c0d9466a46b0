use Rattle.std.proofs.Common.{length, ◌∙◌}
use Rattle.std.proofs.lemmas.Bool.{le-ltb}
use Rattle.watch.proofs.SlotLemmas.{here_there, not_here}
use Rattle.watch.proofs.watchers.is_there.Goals as goal

pub returns-then-at-seats : goal.returns-then-at-seats
returns-then-at-seats g c = c.is_seat.ensures ∙ here_there c.args.id 0 c.args.seats.now c.index-seats-at.result c.requires.order (rw c.requires.place at c.if-at-seats.true) (rw c.requires.place at c.index-seats-at.is)

pub returns-else-at-seats : goal.returns-else-at-seats
returns-else-at-seats g c = le-ltb c.args.at (length c.args.seats.now) c.if-at-seats.false ∙ not_here c.args.id 0 c.args.seats.now c.requires.order (rw c.requires.place at c.if-at-seats.false)
