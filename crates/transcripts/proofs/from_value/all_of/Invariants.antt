use Rattle.transcripts.proofs.Lists.{IsReadSoFar}
use Rattle.transcripts.proofs.from_value.all_of.Given as goal

abbrev pub invariant-loop-item : goal.invariant-loop-item
invariant-loop-item g l = IsReadSoFar g.T.FromValue.reads l.items l.item-index l.members.items
