use Rattle.std.proofs.Common.{◌≡◌, ℕ, ◌<◌, ◌≤◌}
use Rattle.points.specs.Place.{point_at}
use Rattle.points.specs.Distance.{point_of}
use Rattle.points.proofs.way.offset_of.Given as goal

abbrev pub invariant-loop-at : goal.invariant-loop-at
invariant-loop-at l = record {
  reached : point_of l.reached ≡ point_at l.units l.at;
  few_rows : l.reached.rows ≤ l.at;
  few_columns : l.reached.columns ≤ l.at;
  none_before : (k : ℕ) → k < l.at → point_at l.units k ≡ l.point → ⊥;
}
