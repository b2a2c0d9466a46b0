use Rattle.std.proofs.Common.{◌≡◌, ◌+◌, ◌<◌, ◌≤◌, ℕ, List, true, false, length, min, map, drop, refl, sym, ◌∙◌, ap, arith}
use Rattle.std.specs.Prelude.{Option}
use Rattle.machine.specs.Answers.{Matches}
use Rattle.machine.specs.Lawful.{patterns_in}
use Rattle.snapshot_check.proofs.JudgedLemmas.{command_judged, take_more, take_ends, take_fault, take_end, told_long}
use Rattle.snapshot_check.proofs.judge.judge_behind.Goals as goal

pub returns-then-not-branch-clause-judged : goal.returns-then-not-branch-clause-judged
returns-then-not-branch-clause-judged g c =
    let told : List (Option Matches) = map g.M.Matcher.tells c.args.matchers.now.items in
    let h : c.loop-i.i < length c.args.commands.now = omega (arith, c.loop-i-test.true, c.lesser-count.ensures) in
    let k : c.loop-i.i < length c.args.replies.now = omega (arith, c.loop-i-test.true, c.lesser-count.ensures) in
    c.loop-i.invariant.judged false (take_fault c.args.text.now c.args.snapshot told c.args.commands.now c.args.replies.now c.loop-i.i c.loop-i.at c.index-commands-i.result c.index-replies-i.result h k c.index-commands-i.is c.index-replies-i.is
    (command_judged c.in_ok-judge_command.field-0 false c.args.text.now c.args.snapshot c.loop-i.at (map g.M.Matcher.tells c.loop-i.matchers.items) told c.index-commands-i.result c.index-replies-i.result c.if-not-branch.true c.loop-i.invariant.same c.in_ok-judge_command.ensures.judged))

pub returns-then-ends-clause-judged : goal.returns-then-ends-clause-judged
returns-then-ends-clause-judged g c =
    let told : List (Option Matches) = map g.M.Matcher.tells c.args.matchers.now.items in
    let h : c.loop-i.i < length c.args.commands.now = omega (arith, c.loop-i-test.true, c.lesser-count.ensures) in
    let k : c.loop-i.i < length c.args.replies.now = omega (arith, c.loop-i-test.true, c.lesser-count.ensures) in
    c.loop-i.invariant.judged true (take_ends c.args.text.now c.args.snapshot told c.args.commands.now c.args.replies.now c.loop-i.i c.loop-i.at c.index-commands-i.result c.index-replies-i.result h k c.index-commands-i.is c.index-replies-i.is (sym c.ends.ensures ∙ c.if-ends.true)
    (command_judged c.in_ok-judge_command.field-0 true c.args.text.now c.args.snapshot c.loop-i.at (map g.M.Matcher.tells c.loop-i.matchers.items) told c.index-commands-i.result c.index-replies-i.result c.if-not-branch.false c.loop-i.invariant.same c.in_ok-judge_command.ensures.judged))

pub loop-i-preserved : goal.loop-i-preserved
loop-i-preserved g c =
    let told : List (Option Matches) = map g.M.Matcher.tells c.args.matchers.now.items in
    let h : c.loop-i.i < length c.args.commands.now = omega (arith, c.loop-i-test.true, c.lesser-count.ensures) in
    let k : c.loop-i.i < length c.args.replies.now = omega (arith, c.loop-i-test.true, c.lesser-count.ensures) in
    let same : map g.M.Matcher.tells c.judge_command.new.matchers.items ≡ told = c.in_ok-judge_command.ensures.same ∙ c.loop-i.invariant.same in
    let counted : c.behind-at.result ≡ min (c.loop-i.at + patterns_in c.index-commands-i.result) (length c.as_slice.result.now) = c.behind-at.ensures ∙ ap (λ (n : ℕ). min (c.loop-i.at + n) (length c.as_slice.result.now)) c.patterns_in.ensures in
    record {
      same = same;
      judged = λ b later. c.loop-i.invariant.judged b (take_more c.args.text.now c.args.snapshot told c.args.commands.now c.args.replies.now c.loop-i.i c.loop-i.at c.behind-at.result c.index-commands-i.result c.index-replies-i.result h k c.index-commands-i.is c.index-replies-i.is
          (told_long g.M.Matcher.tells c.args.matchers.now.items c.judge_command.new.matchers.items c.as_slice.result.now told c.behind-at.result c.loop-i.at (patterns_in c.index-commands-i.result) c.as_slice.ensures.value same refl counted)
          (sym c.ends.ensures ∙ c.if-ends.false)
          (command_judged c.in_ok-judge_command.field-0 true c.args.text.now c.args.snapshot c.loop-i.at (map g.M.Matcher.tells c.loop-i.matchers.items) told c.index-commands-i.result c.index-replies-i.result c.if-not-branch.false c.loop-i.invariant.same c.in_ok-judge_command.ensures.judged) b later);
    }

pub returns-clause-judged : goal.returns-clause-judged
returns-clause-judged g c =
    let over : min (length c.args.commands.now) (length c.args.replies.now) ≤ c.loop-i.i = omega (arith, c.loop-i-test.false, c.lesser-count.ensures) in
    c.loop-i.invariant.judged true (take_end c.args.text.now c.args.snapshot (drop c.loop-i.at (map g.M.Matcher.tells c.args.matchers.now.items)) c.args.commands.now c.args.replies.now c.loop-i.i over)
