-- The table of movement, row by row.
use Rattle.std.proofs.Common.{arith}
use Rattle.std.proofs.lemmas.Bool.Decides.{nat_tests}
use Rattle.points.specs.declared.mark.Mark.{Mark}
use Rattle.points.specs.declared.mark.Splice.{Splice}
use Rattle.points.specs.Marks.{MovesByTable}

pub moves_by_table : (c : Splice) (m : Mark) → MovesByTable c m
moves_by_table c m = record {
  before = λ is_start p lt. grind (arith, nat_tests);
  behind = λ is_start p order lt. grind (arith, nat_tests);
  at_start = λ is_start lt. grind (arith, nat_tests);
  within = λ is_start p lt le. grind (arith, nat_tests);
  inclusive_start = λ inserts inclusive. grind (arith, nat_tests);
  inclusive_end = λ inserts inclusive. grind (arith, nat_tests);
  exclusive_start = λ inserts exclusive wide. grind (arith, nat_tests);
  exclusive_end = λ inserts exclusive wide. grind (arith, nat_tests);
  exclusive_empty = λ is_start inserts exclusive empty. grind (arith, nat_tests);
}
