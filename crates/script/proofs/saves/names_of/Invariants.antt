use Rattle.std.proofs.Common.{◌≡◌, ◌++◌, drop}
use Rattle.serde_json.specs.View.{items_view}
use Rattle.script.specs.Rules.{names_in}
use Rattle.script.proofs.saves.names_of.Given as goal

abbrev pub invariant-loop-read : goal.invariant-loop-read
invariant-loop-read l = l.names.items ++ names_in (items_view (drop l.read-index l.reads)) ≡ names_in (items_view l.reads)
