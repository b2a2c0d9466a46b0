use Rattle.std.proofs.Common.{rules}
use Rattle.transcripts.proofs.Lists.{start_read, one_read, one_unread, all_read}
use Rattle.transcripts.proofs.from_value.all_of.Goals as goal

pub loop-item-init : goal.loop-item-init
loop-item-init g c = start_read g.T.FromValue.reads c.args.items.now c.new-members.result.items c.new-members.ensures.items

pub loop-item-preserved : goal.loop-item-preserved
loop-item-preserved g c =
    rw c.in_ok-push-in-Ok.ensures.items (one_read g.T.FromValue.reads c.args.items.now c.loop-item.item-index c.loop-item.members.items c.item-item.result c.in-Ok.member c.loop-item-test.true c.item-item.is c.loop-item.invariant c.in-Ok.ensures)

pub returns : goal.returns
returns g c = all_read g.T.FromValue.reads c.args.items.now c.loop-item.item-index c.loop-item.members.items c.loop-item-test.false c.loop-item.invariant
