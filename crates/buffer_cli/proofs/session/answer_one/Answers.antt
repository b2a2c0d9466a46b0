use Rattle.std.proofs.Common.{rules, ◌≡◌, ℕ, List, [], map, refl, sym, subst, ap}
use Rattle.std.specs.Prelude.{count_by}
use Rattle.machine.specs.declared.reads.Read.{Read}
use Rattle.machine.specs.Lawful.{is_pattern}
use Rattle.buffer_cli.specs.Hits.{AreFound}
use Rattle.buffer_cli.specs.Saved.{TakeInTurn, files_among, text_read}
use Rattle.buffer_cli.proofs.HitLemmas.{found_none}
use Rattle.buffer_cli.proofs.session.answer_one.Goals as goal

pub returns-in_ok-answer_other-in_default : goal.returns-in_ok-answer_other-in_default
returns-in_ok-answer_other-in_default g c =
    let e = c.in_ok-answer_other-in_default.ensures in
    let told = map g.M.Matcher.tells c.args.matchers.now.items in
    let a = map g.K.Sink.taken c.args.sinks.now.items in
    let none = c.answer_other.ensures.reads in
    record {
      ok = record { found = []; hits = subst (λ (rs : List Read). AreFound (count_by is_pattern rs) told told []) (sym none) (found_none told); is = e.ok };
      held = e.held;
      saved = subst (λ (rs : List Read). TakeInTurn (files_among (text_read c.args.command.now c.args.session.now.snapshots) rs) a a) (sym none) refl;
      many = refl;
      failed = λ h. search rules;
      watchers = c.answer_other.ensures.watchers;
      sound = c.answer_other.ensures.sound;
      told = c.answer_other.ensures.told;
      stands = c.answer_other.ensures.stands;
    }
