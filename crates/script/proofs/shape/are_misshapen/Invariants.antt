use Rattle.std.proofs.Common.{◌≡◌, drop, true}
use Rattle.serde_json.specs.View.{items_view}
use Rattle.script.specs.Rules.{any_item, read_breaks, wrong_kind}
use Rattle.script.proofs.shape.are_misshapen.Given as goal

abbrev pub invariant-loop-item : goal.invariant-loop-item
invariant-loop-item l = any_item (read_breaks wrong_kind true) (items_view (drop l.item-index l.items)) ≡ any_item (read_breaks wrong_kind true) (items_view l.items)
