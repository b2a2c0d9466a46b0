use Rattle.std.proofs.Common.{sym, ◌∙◌}
use Rattle.snapshot_check.proofs.LinkLemmas.{linked_more, version_is}
use Rattle.snapshot_check.proofs.linked.lists.Goals as goal

pub loop-i-preserved : goal.loop-i-preserved
loop-i-preserved c =
    linked_more c.args.takes.now c.args.last c.loop-i.i c.version.result c.loop-i.lasts.items c.loop-i.nexts.items c.link.new.lasts.items c.link.new.nexts.items
    (version_is c.args.takes.now c.loop-i.i c.index-takes-i.result c.loop-i-test.true c.index-takes-i.is ∙ sym c.version.ensures) c.loop-i.invariant c.in_ok-link.ensures
