use Rattle.std.proofs.Common.{◌<◌, length, refl, arith}
use Rattle.snapshot_check.proofs.JudgedLemmas.{next_there, set_same}
use Rattle.snapshot_check.proofs.judge.judge_read.Goals as goal

pub returns-in-Some-clause-same : goal.returns-in-Some-clause-same
returns-in-Some-clause-same g c = set_same g.M.Matcher.tells c.args.matchers.now.items c.args.at c.judge_pattern.new.matcher c.in-Some.matcher.now c.in-Some.ensures.value c.judge_pattern.ensures.same

pub returns-in-Some-clause-judged : goal.returns-in-Some-clause-judged
returns-in-Some-clause-judged g c =
    let within : c.args.at < length c.args.matchers.now.items = omega (arith, c.in-Some.ensures.variant.0 refl, c.args.matchers.now.ok) in
    rw (c.in-Pattern.is, next_there g.M.Matcher.tells c.args.matchers.now.items c.args.at c.in-Some.matcher.now within c.in-Some.ensures.value) (c.judge_pattern.ensures.judged c.in-Pattern.pattern)
