use Rattle.patch.specs.Hunk.{hunk_seen}
use Rattle.patch_algebra.proofs.MergeSteps.{middle_more, middle_last}
use Rattle.patch_algebra.proofs.middle.middles_of.Goals as goal

pub loop-change-preserved : goal.loop-change-preserved
loop-change-preserved c = middle_more c.args.patch.now.changes c.loop-change.change-iterator c.next.new.self (hunk_seen c.in-Some.change) c.loop-change.middles.items c.push.new.self.items c.of.result
    c.in-Some.ensures.steps c.loop-change.invariant c.of.ensures c.in_ok-push.ensures.items

pub returns : goal.returns
returns c = middle_last c.args.patch.now.changes c.loop-change.change-iterator c.loop-change.middles.items c.in-None.ensures.steps.0 c.loop-change.invariant
