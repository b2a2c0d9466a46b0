use Rattle.std.proofs.Common.{◌≡◌, count_by, sum_by, take}
use Rattle.machine.specs.Lawful.{is_taken}
use Rattle.generator.specs.Summary.{capped}
use Rattle.generator.proofs.sums.snapshots_in.Given as goal

abbrev pub invariant-loop-replies : goal.invariant-loop-replies
invariant-loop-replies l = l.sum ≡ capped (sum_by (count_by is_taken) (take l.replies-index l.sessions))
