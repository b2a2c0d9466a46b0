use Rattle.std.proofs.Common.{◌≡◌, Bool, map, drop}
use Rattle.machine.specs.Lawful.{asked_in}
use Rattle.snapshot_check.specs.Judged.{IsJudged}
use Rattle.snapshot_check.proofs.judge.judge_reads.Given as goal

abbrev pub invariant-loop-i : goal.invariant-loop-i
invariant-loop-i g l = record {
  same : map g.M.Matcher.tells l.matchers.items ≡ map g.M.Matcher.tells l.initial.matchers.items;
  judged : (b : Bool) → IsJudged b l.text (asked_in (drop l.at (map g.M.Matcher.tells l.initial.matchers.items)) (drop l.i l.reads) (drop l.i l.answers))
      → IsJudged b l.text (asked_in (drop l.initial.at (map g.M.Matcher.tells l.initial.matchers.items)) l.reads l.answers);
}
