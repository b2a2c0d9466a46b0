use Rattle.std.proofs.Common.{◌≡◌, ◌++◌, length, take, ◌≤◌, ◌+◌, ◌-◌}
use Rattle.std.specs.List.{AllByRecursion}
use Rattle.outer.specs.Literal.{spans_of}
use Rattle.points.specs.Literal.{hits}
use Rattle.outer.proofs.literal.put_matches.Given as goal

abbrev pub invariant-loop-start : goal.invariant-loop-start
invariant-loop-start l = record {
  count : l.count + length l.start-iterator ≡ length (hits l.text l.needle);
  first : l.into ++ take (l.limit - l.count) (spans_of (length l.needle) l.start-iterator) ≡ l.initial.into ++ take l.limit (spans_of (length l.needle) (hits l.text l.needle));
  fit : AllByRecursion (λ start. start + length l.needle ≤ length l.text) l.start-iterator;
}
