use Rattle.std.proofs.Common.{rules}
use Rattle.sessions.proofs.SeatLemmas.{first_gathered, next_gathered, end_gathered, ended_run}
use Rattle.sessions.proofs.seating.gather.Goals as goal

pub loop-seat-init : goal.loop-seat-init
loop-seat-init g c = record {
  len = search rules;
  desk = search rules;
  ended = search rules;
  way = λ ws low have. first_gathered g.M.Matcher.tells c.args.buffer.now ws _ _ c.in-Some.first c.in_ok-desk.replies.items _ c.in_ok-desk.desk.views (search rules) (search rules) low have
      (λ n j has. ended_run g.M.Matcher.tells c.args.buffer.now n j c.in-Some.first c.in_ok-desk.replies c.in_ok-desk.desk.views c.in_ok-desk.ensures.ok.1 (cc (c.in_ok-desk.ensures.ok.0)) has);
}

pub loop-seat-preserved : goal.loop-seat-preserved
loop-seat-preserved g c = record {
  len = search rules;
  desk = c.end.ensures.into;
  ended = search rules;
  way = λ ws low have. next_gathered g.M.Matcher.tells c.args.buffer.now ws _ _ c.in-Some-seat.seat c.in_ok-other.replies.items _ _ c.loop-seat.desk.views c.in_ok-other.other.views c.end.new.into.views (search rules) (search rules)
      (λ n j has. ended_run g.M.Matcher.tells c.args.buffer.now n j c.in-Some-seat.seat c.in_ok-other.replies c.in_ok-other.other.views c.in_ok-other.ensures.ok.1 (cc (c.in_ok-other.ensures.ok.0)) has) c.end.ensures.joined (c.loop-seat.invariant.way ws low have);
}

pub returns-clause-gathered : goal.returns-clause-gathered
returns-clause-gathered g c = λ ws low have. end_gathered g.M.Matcher.tells c.args.buffer.now ws _ c.loop-seat.all.items c.loop-seat.desk.views (search rules) (c.loop-seat.invariant.way ws low have)
