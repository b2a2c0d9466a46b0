use Rattle.std.proofs.Common.{◌≡◌, drop}
use Rattle.serde_json.specs.View.{items_view}
use Rattle.script.specs.Reading.{is_unread}
use Rattle.script.specs.Rules.{any_item}
use Rattle.script.proofs.reads.are_unread.Given as goal

abbrev pub invariant-loop-read : goal.invariant-loop-read
invariant-loop-read l = any_item (is_unread l.save) (items_view (drop l.read-index l.reads)) ≡ any_item (is_unread l.save) (items_view l.reads)
