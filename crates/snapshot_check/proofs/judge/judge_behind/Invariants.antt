use Rattle.std.proofs.Common.{◌≡◌, Bool, map, drop}
use Rattle.machine.specs.Lawful.{asked_of}
use Rattle.snapshot_check.specs.Judged.{IsJudged}
use Rattle.snapshot_check.proofs.judge.judge_behind.Given as goal

abbrev pub invariant-loop-i : goal.invariant-loop-i
invariant-loop-i g l = record {
  same : map g.M.Matcher.tells l.matchers.items ≡ map g.M.Matcher.tells l.initial.matchers.items;
  judged : (b : Bool) → IsJudged b l.text (asked_of l.snapshot (drop l.at (map g.M.Matcher.tells l.initial.matchers.items)) (drop l.i l.commands) (drop l.i l.replies))
      → IsJudged b l.text (asked_of l.snapshot (drop l.patterns (map g.M.Matcher.tells l.initial.matchers.items)) (drop l.from l.commands) (drop l.from l.replies));
}
