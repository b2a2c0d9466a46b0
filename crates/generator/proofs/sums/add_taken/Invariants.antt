use Rattle.std.proofs.Common.{◌≡◌, ◌+◌, count_by, take}
use Rattle.machine.specs.Lawful.{is_taken}
use Rattle.generator.specs.Summary.{capped}
use Rattle.generator.proofs.sums.add_taken.Given as goal

abbrev pub invariant-loop-reply : goal.invariant-loop-reply
invariant-loop-reply l = l.sum ≡ capped (l.before + count_by is_taken (take l.reply-index l.replies))
