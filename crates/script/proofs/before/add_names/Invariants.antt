use Rattle.std.proofs.Common.{◌≡◌, ◌++◌}
use Rattle.std.specs.Vec.Iter.{into_iter_items}
use Rattle.script.proofs.before.add_names.Given as goal

abbrev pub invariant-loop-name : goal.invariant-loop-name
invariant-loop-name l = l.there.items ++ into_iter_items l.name-iterator ≡ l.initial.there.items ++ into_iter_items l.initial.name-iterator
