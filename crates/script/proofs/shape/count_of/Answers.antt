use Rattle.std.proofs.Common.{sym}
use Rattle.script.proofs.Counting.{count_items-items_view}
use Rattle.script.proofs.shape.count_of.Goals as goal

pub returns : goal.returns
returns c = sym (count_items-items_view c.args.items.now)
