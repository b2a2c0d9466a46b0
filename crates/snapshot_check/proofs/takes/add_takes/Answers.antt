use Rattle.std.proofs.Common.{◌≡◌, ◌+◌, ◌<◌, ◌≤◌, ℕ, length, min, get_or, sym, ap, subst, ◌∙◌, arith}
use Rattle.std.proofs.lemmas.List.{get_or_default}
use Rattle.machine.specs.declared.reply.Reply.{Reply}
use Rattle.machine.specs.declared.reply.Reply.TheVariants as reply
use Rattle.machine.specs.Lawful.{patterns_in}
use Rattle.snapshot_check.specs.Gathered.{left_in, gathered, AreSame}
use Rattle.snapshot_check.proofs.GatherLemmas.{listed_more, listed_end}
use Rattle.snapshot_check.proofs.takes.add_takes.Goals as goal

pub loop-i-preserved : goal.loop-i-preserved
loop-i-preserved c =
    let h : c.loop-i.i < length c.args.commands.now = omega (arith, c.loop-i-test.true, c.lesser-count.ensures) in
    let k : c.loop-i.i < length c.args.replies.now = omega (arith, c.loop-i-test.true, c.lesser-count.ensures) in
    let r : Reply = get_or c.args.replies.now c.loop-i.i reply.Nothing in
    let counted : c.behind.result ≡ min (c.loop-i.stage.patterns + patterns_in c.index-commands-i.result) c.args.all = c.behind.ensures ∙ ap (λ (n : ℕ). min (c.loop-i.stage.patterns + n) c.args.all) c.patterns_in.ensures in
    record {
      stage = c.moved-stage.ensures.stage;
      listed = subst (λ (n : ℕ). AreSame c.args.all (gathered c.add_take.new.takes.items (left_in c.args.session c.args.commands.now c.args.replies.now (c.loop-i.i + 1) n))
          (gathered c.args.takes.now.items (left_in c.args.session c.args.commands.now c.args.replies.now 0 c.args.patterns))) (sym c.moved-stage.ensures.patterns)
          (listed_more c.args.all c.args.session c.args.commands.now c.args.replies.now c.loop-i.i c.loop-i.stage.patterns c.behind.result c.index-commands-i.result r c.loop-i.takes.items c.add_take.new.takes.items _ h k c.index-commands-i.is
          (get_or_default c.args.replies.now c.loop-i.i reply.Nothing r k) counted c.in_ok-add_take.ensures c.loop-i.invariant.listed);
    }

pub returns : goal.returns
returns c =
    let over : min (length c.args.commands.now) (length c.args.replies.now) ≤ c.loop-i.i = omega (arith, c.loop-i-test.false, c.lesser-count.ensures) in
    listed_end c.args.all c.args.session c.args.commands.now c.args.replies.now c.loop-i.i c.loop-i.stage.patterns c.loop-i.takes.items _ over c.loop-i.invariant.listed
