use Rattle.std.proofs.Common.{length, map, sym, ap, ◌∙◌, arith}
use Rattle.std.proofs.lemmas.List.{length-map}
use Rattle.sessions.proofs.SessionLemmas.{way_start, way_can, way_enough, way_next, way_end}
use Rattle.sessions.proofs.session.run_session.Goals as goal

pub loop-command-init : goal.loop-command-init
loop-command-init g c = record {
  len = omega (arith, c.into_iter-command-iterator.ensures.into_iter_gives.1, ap length c.into_iter-command-iterator.ensures.into_iter_gives.0);
  desk = c.requires.desk;
  way = way_start c.args.buffer.now (map g.M.Matcher.tells c.args.matchers.items) c.args.commands.items _ _ _ _ c.args.desk.now.views c.into_iter-command-iterator.ensures.into_iter_gives.0 c.new-replies.ensures.items c.new-holding.ensures.kept c.new-holding.ensures.spare c.requires.can
      (omega (arith, c.requires.enough, length-map c.args.matchers.items g.M.Matcher.tells));
}

pub loop-command-preserved : goal.loop-command-preserved
loop-command-preserved g c = record {
  len = omega (arith, c.in-Some.ensures.steps.1, ap length c.in-Some.ensures.steps.0, c.loop-command.invariant.len);
  desk = c.answer.ensures.desk;
  way = way_next c.args.buffer.now _ _ _ c.args.commands.items _ _ _ _ _ _ _ _ _ _ _ c.in-Some.ensures.steps.0 c.in_ok-push.ensures.items c.in_ok-answer.ensures.hands c.loop-command.invariant.way c.in_ok-answer.ensures.reply;
}

pub answer-requires-clause-can : goal.answer-requires-clause-can
answer-requires-clause-can g c = λ κs lives. way_can c.args.buffer.now _ _ c.args.commands.items _ _ _ _ _ _ _ c.in-Some.ensures.steps.0 c.requires.desk.1 c.loop-command.invariant.way

pub answer-requires-clause-enough : goal.answer-requires-clause-enough
answer-requires-clause-enough g c = λ κs lives.
    omega (arith, way_enough c.args.buffer.now _ _ c.args.commands.items _ _ _ _ _ _ _ c.in-Some.ensures.steps.0 c.requires.desk.1 c.loop-command.invariant.way, length-map c.loop-command.matchers.items g.M.Matcher.tells)

pub returns-clause-replies : goal.returns-clause-replies
returns-clause-replies g c = way_end c.args.buffer.now _ _ c.args.commands.items _ c.loop-command.replies.items _ _ _ (sym c.loop-command.invariant.len ∙ c.in-None.ensures.steps.0) c.loop-command.invariant.way
