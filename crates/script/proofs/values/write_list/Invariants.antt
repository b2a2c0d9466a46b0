use Rattle.std.proofs.Common.{drop}
use Rattle.script.proofs.ListLemmas.{IsPartway}
use Rattle.script.proofs.values.write_list.Given as goal

abbrev pub invariant-loop-member : goal.invariant-loop-member
invariant-loop-member g l = IsPartway g.T.HasValue.json l.initial.out l.out l.members (drop l.member-index l.members)
