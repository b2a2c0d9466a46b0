use Rattle.serde_json.specs.View.{view}
use Rattle.script.proofs.Counting.{length_is_item_count}
use Rattle.transcripts.proofs.from_value.item_count.Goals as goal

pub returns-in-Some : goal.returns-in-Some
returns-in-Some c =
    let counted = length_is_item_count (view c.args.value.now) c.in-Some.items.now.items c.in-Some.ensures in
    rw c.as_slice.ensures.value counted
