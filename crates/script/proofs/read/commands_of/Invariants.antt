use Rattle.script.proofs.CommandLoop.{IsReadSoFar}
use Rattle.script.proofs.read.commands_of.Given as goal

abbrev pub invariant-loop-item : goal.invariant-loop-item
invariant-loop-item l = IsReadSoFar l.items l.item-index l.before l.commands.items
