use Rattle.std.proofs.Common.{◌≡◌, drop, not}
use Rattle.serde_json.specs.View.{items_view}
use Rattle.script.specs.Rules.{any_item, is_number}
use Rattle.script.proofs.shape.are_four_numbers.Given as goal

abbrev pub invariant-loop-item : goal.invariant-loop-item
invariant-loop-item l = any_item (λ n. not (is_number n)) (items_view (drop l.item-index l.items)) ≡ any_item (λ n. not (is_number n)) (items_view l.items)
