use Rattle.std.proofs.Common.{◌==◌, ◌∙◌, ap, not}
use Rattle.std.specs.List.{filter}
use Rattle.plain_replay.specs.declared.watchers.Seat.{Seat}
use Rattle.plain_replay.proofs.SeatLemmas.{without_is, are_without}
use Rattle.plain_replay.proofs.watchers.Watchers.without.Goals as goal

pub invariant_of-result : goal.invariant_of-result
invariant_of-result c = are_without c.self.inside.told.items c.in_ok-told.told.items c.self.inside.seats.items c.in_ok-seats.seats.items c.args.id
    (c.in_ok-told.ensures.items ∙ c.as_slice-2.ensures.value)
    (c.in_ok-seats.ensures ∙ ap (filter (λ (s : Seat). not (s.id == c.args.id))) c.as_slice.ensures.value) c.self.invariant

pub returns : goal.returns
returns c = without_is c.self.inside.told.items c.in_ok-told.told.items c.self.inside.seats.items c.in_ok-seats.seats.items c.args.id c.args.self.now
    (c.in_ok-told.ensures.items ∙ c.as_slice-2.ensures.value)
    (c.in_ok-seats.ensures ∙ ap (filter (λ (s : Seat). not (s.id == c.args.id))) c.as_slice.ensures.value) c.self.view_is
