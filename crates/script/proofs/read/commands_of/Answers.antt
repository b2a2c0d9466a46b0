use Rattle.std.proofs.Common.{rules}
use Rattle.script.proofs.CommandLoop.{start_read, one_read, one_broken, all_read, none_broken}
use Rattle.script.proofs.read.commands_of.Goals as goal

pub loop-item-init : goal.loop-item-init
loop-item-init c = start_read c.args.items.now c.at_start-before.result _ c.at_start-before.ensures.few c.at_start-before.ensures.empty (search rules)

pub loop-item-preserved : goal.loop-item-preserved
loop-item-preserved c =
    let taken = c.in-Ok.ensures in
    rw c.in_ok-push-in-Ok.ensures.items (one_read c.args.items.now c.loop-item.item-index c.loop-item.before c.read_command.new.before c.loop-item.commands.items c.item-item.result c.in-Ok.command c.loop-item-test.true c.item-item.is c.loop-item.invariant taken.read taken.few)

pub returns-in-Err-Breaks-clause-refused : goal.returns-in-Err-Breaks-clause-refused
returns-in-Err-Breaks-clause-refused c =
    let broken = rw c.in-Err-Breaks.field-0-is at c.in-Err-Breaks.ensures.broken in
    rw c.in-Err-Breaks.field-0-is (one_broken c.args.items.now c.loop-item.item-index c.loop-item.before c.loop-item.commands.items c.item-item.result _ c.loop-item-test.true c.item-item.is c.loop-item.invariant broken)

pub returns-clause-read : goal.returns-clause-read
returns-clause-read c = all_read c.args.items.now c.loop-item.item-index c.loop-item.before c.loop-item.commands.items c.loop-item-test.false c.loop-item.invariant

pub returns-clause-kept : goal.returns-clause-kept
returns-clause-kept c = none_broken c.args.items.now c.loop-item.item-index c.loop-item.before c.loop-item.commands.items c.loop-item-test.false c.loop-item.invariant
