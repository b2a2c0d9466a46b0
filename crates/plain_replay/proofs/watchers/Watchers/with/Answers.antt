use Rattle.std.proofs.Common.{◌∙◌, ap, arith}
use Rattle.plain_replay.specs.Seats.{with_seat}
use Rattle.plain_replay.proofs.SeatLemmas.{with_is, are_with}
use Rattle.plain_replay.proofs.watchers.Watchers.with.Goals as goal

pub invariant_of-result : goal.invariant_of-result
invariant_of-result c = are_with c.self.inside.told.items c.in_ok-told.told.items c.self.inside.seats.items c.in_ok-seats.seats.items c.args.id c.len-since.result
    (c.in_ok-told.ensures.items ∙ c.as_slice-2.ensures.value) (omega (arith, c.len-since.ensures, c.self.inside.told.ok))
    (c.in_ok-seats.ensures ∙ ap (with_seat (record { id = c.args.id; since = c.len-since.result })) c.as_slice.ensures.value) c.self.invariant

pub returns : goal.returns
returns c = with_is c.self.inside.told.items c.in_ok-told.told.items c.self.inside.seats.items c.in_ok-seats.seats.items c.args.id c.len-since.result c.args.self.now
    (c.in_ok-told.ensures.items ∙ c.as_slice-2.ensures.value) (omega (arith, c.len-since.ensures, c.self.inside.told.ok))
    (c.in_ok-seats.ensures ∙ ap (with_seat (record { id = c.args.id; since = c.len-since.result })) c.as_slice.ensures.value) c.self.view_is
