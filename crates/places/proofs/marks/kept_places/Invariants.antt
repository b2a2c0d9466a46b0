use Rattle.std.proofs.Common.{◌≡◌, ℕ, ◌<◌, ◌≤◌, length, drop, false}
use Rattle.std.specs.Prelude.{slice_index_or}
use Rattle.places.specs.Marking.{marked}
use Rattle.places.proofs.marks.kept_places.Given as goal

abbrev pub invariant-loop-at : goal.invariant-loop-at
invariant-loop-at g l = record {
  within : l.at ≤ length l.entries;
  marks : (p : ℕ) → p < 272 → slice_index_or l.kept p false ≡ marked l.top (drop l.at l.entries) p;
}

abbrev pub decreases-loop-at : goal.decreases-loop-at
decreases-loop-at g l = l.at
