use Rattle.std.proofs.Common.{◌≡◌, ◌∙◌, ℕ, true, refl, sym, subst, ap, arith}
use Rattle.std.proofs.lemmas.List.{length-map}
use Rattle.buffer_cli.proofs.RunLemmas.{runs_first, runs_more, runs_all, answered_at, ready, all_dropped, all_longer}
use Rattle.machine.specs.declared.reply.Reply.{Reply}
use Rattle.machine.specs.Machine.{State}
use Rattle.buffer_cli.specs.Answered.{is_answered}
use Rattle.buffer_cli.proofs.SavedLemmas.{saved_first, saved_end}
use Rattle.buffer_cli.proofs.session.answer_all.Goals as goal

pub loop-command-init : goal.loop-command-init
loop-command-init g c = record {
  runs = rw c.new-replies.ensures.items (runs_first _ _ _ _ _ c.requires.live c.requires.whole c.requires.watches (length-map c.args.matchers.now.items g.M.Matcher.tells ∙ c.requires.matchers) c.requires.sound);
  many = refl;
  saved = λ last h. h;
  unheard = c.requires.unheard;
  told = c.requires.told;
  stands = c.requires.stands;
}

pub loop-command-preserved : goal.loop-command-preserved
loop-command-preserved g c =
    let next = ready _ _ _ _ _ _ _ _ c.loop-command.command-index c.command-item.result c.loop-command-test.true c.command-item.is c.loop-command.invariant.runs in
    record {
      runs = rw c.in_ok-push.ensures.items (runs_more _ _ _ _ _ _ _ _ _ _ _ _ c.loop-command.command-index c.command-item.result _ c.loop-command-test.true c.command-item.is
          c.in_ok-answer_one.ensures.ok c.answer_one.ensures.sound c.in_ok-answer_one.ensures.held (all_longer _ _ _ c.answer_one.ensures.watchers next.watcher) c.loop-command.invariant.runs);
      many = c.answer_one.ensures.many ∙ c.loop-command.invariant.many;
      saved = λ last h. c.loop-command.invariant.saved last (saved_first _ _ _ _ _ c.loop-command.command-index c.command-item.result _ _ _ c.loop-command-test.true c.command-item.is
          (ap (λ (p : State × Reply). p.0) c.in_ok-answer_one.ensures.ok.is) c.in_ok-answer_one.ensures.held c.in_ok-answer_one.ensures.saved h);
      unheard = all_dropped _ _ _ _ c.answer_one.ensures.watchers c.loop-command.invariant.unheard;
      told = c.answer_one.ensures.told;
      stands = c.answer_one.ensures.stands;
    }

pub answer_one-requires-clause-answered : goal.answer_one-requires-clause-answered
answer_one-requires-clause-answered g c = λ κs lives. subst (λ (n : ℕ). is_answered n c.command-item.result ≡ true) (sym c.loop-command.invariant.many)
    (answered_at _ _ c.loop-command.command-index c.command-item.result c.loop-command-test.true c.command-item.is c.requires.answered)

pub answer_one-requires-clause-held : goal.answer_one-requires-clause-held
answer_one-requires-clause-held g c = λ κs lives. (ready _ _ _ _ _ _ _ _ c.loop-command.command-index c.command-item.result c.loop-command-test.true c.command-item.is c.loop-command.invariant.runs).there

pub answer_one-requires-clause-watcher : goal.answer_one-requires-clause-watcher
answer_one-requires-clause-watcher g c = λ κs lives. (ready _ _ _ _ _ _ _ _ c.loop-command.command-index c.command-item.result c.loop-command-test.true c.command-item.is c.loop-command.invariant.runs).watcher

pub answer_one-requires-clause-enough : goal.answer_one-requires-clause-enough
answer_one-requires-clause-enough g c = λ κs lives.
    let many = (ready _ _ _ _ _ _ _ _ c.loop-command.command-index c.command-item.result c.loop-command-test.true c.command-item.is c.loop-command.invariant.runs).matchers in
    omega (arith, many, length-map c.loop-command.matchers.items g.M.Matcher.tells)

pub answer_one-requires-clause-whole : goal.answer_one-requires-clause-whole
answer_one-requires-clause-whole g c = λ κs lives. c.loop-command.invariant.runs.whole

pub returns-clause-replies : goal.returns-clause-replies
returns-clause-replies g c = (runs_all _ _ _ _ _ _ _ _ c.loop-command.command-index c.loop-command-test.false c.loop-command.invariant.runs).0

pub returns-clause-after : goal.returns-clause-after
returns-clause-after g c = (runs_all _ _ _ _ _ _ _ _ c.loop-command.command-index c.loop-command-test.false c.loop-command.invariant.runs).1

pub returns-clause-saved : goal.returns-clause-saved
returns-clause-saved g c = c.loop-command.invariant.saved _ (saved_end _ _ _ c.loop-command.command-index _ c.loop-command-test.false)
