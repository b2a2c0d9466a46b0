use Rattle.std.proofs.Common.{◌≡◌, ◌+◌, ◌-◌, ◌++◌, length}
use Rattle.splay.proofs.pour.pour_back.Given as goal

abbrev pub invariant-loop-moved : goal.invariant-loop-moved
invariant-loop-moved g l = record {
  joined : l.left.items ++ l.right.items ≡ l.initial.left.items ++ l.initial.right.items;
  moved : length l.left.items + l.moved ≡ length l.initial.left.items;
  left_spare : l.left.spare ≡ l.initial.left.spare + l.moved;
  right_spare : l.right.spare ≡ l.initial.right.spare - l.moved;
}
