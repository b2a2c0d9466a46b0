use Rattle.std.proofs.Common.{◌≡◌, ◌-◌, false, get_or}
use Rattle.turn_table.specs.Meaning.{first_free}
use Rattle.turn_table.proofs.row.lowest_free.Given as goal

abbrev pub invariant-loop-i : goal.invariant-loop-i
invariant-loop-i l = first_free (λ n. get_or l.out n false) 32 0 ≡ first_free (λ n. get_or l.out n false) (32 - l.i) l.i
