use Rattle.std.proofs.Common.{◌≡◌, ◌≤◌}
use Rattle.points.specs.Place.{point_at}
use Rattle.points.specs.Distance.{point_of}
use Rattle.points.proofs.distance.Distance.of_text.Given as goal

abbrev pub invariant-loop-unit : goal.invariant-loop-unit
invariant-loop-unit l = record {
  reached : point_of l.reached ≡ point_at l.units l.unit-index;
  few_rows : l.reached.rows ≤ l.unit-index;
  few_columns : l.reached.columns ≤ l.unit-index;
}
