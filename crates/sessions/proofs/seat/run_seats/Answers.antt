use Rattle.std.proofs.Common.{rules}
use Rattle.sessions.specs.Seats.{WasRun}
use Rattle.sessions.proofs.SeatLemmas.{as_both, none_run, have_run, all_ended}
use Rattle.sessions.proofs.seat.run_seats.Goals as goal

pub returns-then-is_empty-clause-run : goal.returns-then-is_empty-clause-run
returns-then-is_empty-clause-run g c = λ ws ready. none_run g.M.Matcher.tells c.args.buffer.now ws c.args.seats.now (search rules) ready

pub returns-clause-ended : goal.returns-clause-ended
returns-clause-ended g c = all_ended g.M.Matcher.tells c.args.buffer.now c.args.seats.now c.for_each_mut.new.s (search rules)
    (λ k d low. let at = (c.for_each_mut.ensures k d low).1 in as_both (WasRun g.M.Matcher.tells c.args.buffer.now) _ _ _ _ at.argument_is at.left at.call)

pub returns-clause-run : goal.returns-clause-run
returns-clause-run g c = λ ws ready. have_run g.M.Matcher.tells c.args.buffer.now 0 ws c.args.seats.now c.for_each_mut.new.s (search rules)
    (λ k d low. let at = (c.for_each_mut.ensures k d low).1 in as_both (WasRun g.M.Matcher.tells c.args.buffer.now) _ _ _ _ at.argument_is at.left at.call) ready
