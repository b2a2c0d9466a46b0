use Rattle.std.proofs.Common.{◌≡◌, ◌-◌, ◌<◌, ◌≤◌, length, map}
use Rattle.snapshot_check.specs.Takes.{version_at}
use Rattle.snapshot_check.specs.Judged.{AreJudged}
use Rattle.snapshot_check.proofs.versions.judge_from.Given as goal

abbrev pub invariant-loop-at : goal.invariant-loop-at
invariant-loop-at g l = record {
  same : map g.M.Matcher.tells l.matchers.items ≡ map g.M.Matcher.tells l.initial.matchers.items;
  within : l.at ≤ length l.linked.takes.items;
  here : 0 < l.at → version_at l.linked.takes.items (l.at - 1) ≡ l.version;
  judged : AreJudged (map g.M.Matcher.tells l.initial.matchers.items) l.linked.takes.items l.text l.version l.at l.initial.right.items l.right.items;
}

abbrev pub decreases-loop-at : goal.decreases-loop-at
decreases-loop-at g l = l.at
