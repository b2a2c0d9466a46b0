use Rattle.std.proofs.Common.{◌≡◌, ◌<◌, ◌≤◌, List, true, false, length, min, map, drop, refl, ◌∙◌, ap, arith}
use Rattle.std.specs.Prelude.{Option, if◌then◌else◌}
use Rattle.machine.specs.Answers.{Matches}
use Rattle.machine.specs.Lawful.{is_pattern}
use Rattle.machine.specs.declared.reads.Read.{Read}
use Rattle.snapshot_check.proofs.Dropped.{same_item}
use Rattle.snapshot_check.proofs.JudgedLemmas.{judged_so, reads_more, reads_fault, reads_end, told_long}
use Rattle.snapshot_check.proofs.judge.judge_reads.Goals as goal

pub returns-then-not-branch-clause-judged : goal.returns-then-not-branch-clause-judged
returns-then-not-branch-clause-judged g c =
    let told : List (Option Matches) = map g.M.Matcher.tells c.args.matchers.now.items in
    let h : c.loop-i.i < length c.args.reads.now = omega (arith, c.loop-i-test.true, c.lesser-count.ensures) in
    let k : c.loop-i.i < length c.args.answers.now = omega (arith, c.loop-i-test.true, c.lesser-count.ensures) in
    c.loop-i.invariant.judged false (reads_fault c.args.text.now told c.args.reads.now c.args.answers.now c.loop-i.i c.loop-i.at c.index-reads-i.result c.index-answers-i.result h k c.index-reads-i.is c.index-answers-i.is
    (judged_so c.in_ok-judge_read.field-0 false c.args.text.now c.loop-i.at (map g.M.Matcher.tells c.loop-i.matchers.items) told c.index-reads-i.result c.index-answers-i.result c.if-not-branch.true c.loop-i.invariant.same c.in_ok-judge_read.ensures.judged))

pub loop-i-preserved : goal.loop-i-preserved
loop-i-preserved g c =
    let told : List (Option Matches) = map g.M.Matcher.tells c.args.matchers.now.items in
    let h : c.loop-i.i < length c.args.reads.now = omega (arith, c.loop-i-test.true, c.lesser-count.ensures) in
    let k : c.loop-i.i < length c.args.answers.now = omega (arith, c.loop-i-test.true, c.lesser-count.ensures) in
    let same : map g.M.Matcher.tells c.judge_read.new.matchers.items ≡ told = c.in_ok-judge_read.ensures.same ∙ c.loop-i.invariant.same in
    let item : c.index-reads-i-in-loop-i.result ≡ c.index-reads-i.result = same_item c.args.reads.now c.loop-i.i c.index-reads-i-in-loop-i.result c.index-reads-i.result h c.index-reads-i-in-loop-i.is c.index-reads-i.is in
    let counted : c.pattern_count.result ≡ (if is_pattern c.index-reads-i.result then 1 else 0) = c.pattern_count.ensures ∙ ap (λ (r : Read). if is_pattern r then 1 else 0) item in
    record {
      same = same;
      judged = λ b later. c.loop-i.invariant.judged b (reads_more c.args.text.now told c.args.reads.now c.args.answers.now c.loop-i.i c.loop-i.at c.pattern_count.result c.behind-at.result c.index-reads-i.result c.index-answers-i.result h k c.index-reads-i.is c.index-answers-i.is
          counted (told_long g.M.Matcher.tells c.args.matchers.now.items c.judge_read.new.matchers.items c.as_slice.result.now told c.behind-at.result c.loop-i.at c.pattern_count.result c.as_slice.ensures.value same refl c.behind-at.ensures)
          (judged_so c.in_ok-judge_read.field-0 true c.args.text.now c.loop-i.at (map g.M.Matcher.tells c.loop-i.matchers.items) told c.index-reads-i.result c.index-answers-i.result c.if-not-branch.false c.loop-i.invariant.same c.in_ok-judge_read.ensures.judged) b later);
    }

pub returns-clause-judged : goal.returns-clause-judged
returns-clause-judged g c =
    let over : min (length c.args.reads.now) (length c.args.answers.now) ≤ c.loop-i.i = omega (arith, c.loop-i-test.false, c.lesser-count.ensures) in
    c.loop-i.invariant.judged true (reads_end c.args.text.now (drop c.loop-i.at (map g.M.Matcher.tells c.args.matchers.now.items)) c.args.reads.now c.args.answers.now c.loop-i.i over)
