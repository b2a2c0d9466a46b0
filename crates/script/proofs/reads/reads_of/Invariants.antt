use Rattle.std.proofs.Common.{◌≡◌, ◌++◌, drop, option_map}
use Rattle.serde_json.specs.View.{items_view}
use Rattle.script.specs.ScriptDocument.{reads_of}
use Rattle.script.proofs.reads.reads_of.Given as goal

abbrev pub invariant-loop-item : goal.invariant-loop-item
invariant-loop-item l = option_map (λ rs. l.reads.items ++ rs) (reads_of (items_view (drop l.item-index l.items))) ≡ reads_of (items_view l.items)
