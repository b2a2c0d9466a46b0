use Rattle.std.proofs.Common.{◌≡◌, ℕ, suc, ◌+◌, ◌<◌, List, length, map, get_or, refl, ◌∙◌, ap, arith, below_more}
use Rattle.std.specs.Prelude.{Some, Option}
use Rattle.machine.specs.Machine.{State, step}
use Rattle.machine.specs.Answers.{Matches}
use Rattle.machine.specs.Lawful.{numbered}
use Rattle.machine.specs.FirstFault.{AgreesAt}
use Rattle.machine.proofs.StepLemmas.{step_counts}
use Rattle.snapshot_check.specs.Judged.{AreJudged}
use Rattle.transcript_check.proofs.ReplayLemmas.{numbered_is, next_state, agrees_at}
use Rattle.transcript_check.proofs.PassLemmas.{versions_none, versions_more, settled_none, settled_more, judged_with}
use Rattle.transcript_check.proofs.pass.pass.Goals as goal

pub loop-i-init : goal.loop-i-init
loop-i-init g c = record {
  state = refl;
  count = c.requires.fresh;
  agree = λ n h. absurd (omega (arith, h));
  same = refl;
  versions = versions_none c.args.plain.now c.args.calls.now c.args.seen.now.versions.items c.requires.none;
  settled = settled_none c.args.plain.now c.args.calls.now (map g.M.Matcher.tells c.args.matchers.now.items) c.args.linked.now.takes.items c.args.seen.now.right.items;
  long = c.requires.right;
}

pub loop-i-preserved : goal.loop-i-preserved
loop-i-preserved g c =
    let told : List (Option Matches) = map g.M.Matcher.tells c.args.matchers.now.items in
    let within : c.loop-i.i < length c.args.calls.now = omega (arith, c.loop-i-test.true, c.requires.order.long) in
    let found : numbered c.args.calls.now (c.loop-i.i + 1) ≡ Some c.index-calls-order.result =
    numbered_is c.args.calls.now c.args.order.now c.loop-i.i (get_or c.args.order.now c.loop-i.i 0) c.index-calls-order.result c.requires.order within refl c.index-calls-order.is in
    let made : c.agrees.new.plain ≡ (step c.loop-i.plain c.index-calls-order.result.call).0 = c.in_ok-agrees.ensures.state in
    let counted : c.agrees.new.plain.count ≡ suc c.loop-i.plain.count = ap (λ (s : State). s.count) made ∙ step_counts c.loop-i.plain c.index-calls-order.result.call in
    let judged : AreJudged told c.args.linked.now.takes.items c.loop-i.plain.text c.loop-i.i 0 c.loop-i.seen.right.items c.look.new.seen.right.items =
    judged_with told (map g.M.Matcher.tells c.loop-i.matchers.items) c.args.linked.now.takes.items c.loop-i.plain.text c.loop-i.i c.loop-i.seen.right.items c.look.new.seen.right.items c.loop-i.invariant.same c.in_ok-look.ensures.judged in
    record {
      state = made ∙ next_state c.args.plain.now c.loop-i.plain c.args.calls.now c.loop-i.i c.index-calls-order.result found c.loop-i.invariant.state;
      count = omega (arith, counted, c.loop-i.invariant.count);
      agree = below_more (λ (n : ℕ). AgreesAt c.args.version c.args.plain.now c.args.calls.now n) c.loop-i.i c.loop-i.invariant.agree
          (agrees_at c.args.version c.args.plain.now c.loop-i.plain c.args.calls.now c.loop-i.i c.index-calls-order.result found c.loop-i.invariant.state c.loop-i.invariant.count
          (c.in_ok-agrees.ensures.agrees.0 c.if-not-branch.false));
      same = c.in_ok-look.ensures.same ∙ c.loop-i.invariant.same;
      versions = versions_more c.args.plain.now c.loop-i.plain c.args.calls.now c.loop-i.i c.loop-i.seen.versions.items c.look.new.seen.versions.items c.loop-i.invariant.state c.in_ok-look.ensures.versions c.loop-i.invariant.versions;
      settled = settled_more c.args.plain.now c.loop-i.plain c.args.calls.now told c.args.linked.now.takes.items c.loop-i.i c.loop-i.seen.right.items c.look.new.seen.right.items c.loop-i.invariant.state judged c.loop-i.invariant.settled;
      long = judged.long ∙ c.loop-i.invariant.long;
    }
