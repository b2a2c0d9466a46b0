-- Counts over several calls in a row: where one of them rose, the count of all rose.
use Rattle.std.proofs.Common.{ℕ, ◌<◌, ◌≤◌, arith}
use Rattle.std.specs.Prelude.{Result, Ok, Err, IsOk, OnErr, refl}
use Rattle.outer.specs.Count.{LAST_COUNT, Rose}

-- calls that came before it
pub Rose-after : (first before after : ℕ) → first ≤ before → Rose before after → Rose first after
Rose-after first before after grows rose = grind arith

-- calls that come behind it
pub Rose-before : (before after last : ℕ) → before ≤ after → Rose before after → after ≤ last → Rose before last
Rose-before before after last grew rose grows = grind arith

-- a count that stays below the greatest one didn't rise where it stayed
pub Rose-same : (count : ℕ) → count < LAST_COUNT → Rose count count → ⊥
Rose-same count low rose = grind arith

-- a call that answers a fault only where the count rose, and whose count didn't rise, answers no fault
pub ok_unless_Rose : {T E : Type 0} (r : Result T E) (before after : ℕ) → OnErr r (Rose before after) → (Rose before after → ⊥) → IsOk r
ok_unless_Rose (Ok x) before after cause still = refl
ok_unless_Rose (Err e) before after cause still = absurd (still cause)
