use Rattle.std.proofs.Common.{◌≡◌, ℕ, false, length, get_or, nat_lt}
use Rattle.turn_table.proofs.row.hand_row.Given as goal

abbrev pub invariant-loop-i : goal.invariant-loop-i
invariant-loop-i l = (length l.out ≡ 32) × ((n : ℕ) → get_or l.out n false ≡ nat_lt n l.i)
