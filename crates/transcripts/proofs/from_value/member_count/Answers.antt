use Rattle.serde_json.specs.View.{view}
use Rattle.script.proofs.Counting.{length_is_member_count}
use Rattle.transcripts.proofs.from_value.member_count.Goals as goal

pub returns-in-Some : goal.returns-in-Some
returns-in-Some c =
    let counted = length_is_member_count (view c.args.value.now) c.in-Some.members.now.entries c.in-Some.ensures in
    rw c.len.ensures.len counted
