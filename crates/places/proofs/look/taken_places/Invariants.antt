use Rattle.std.proofs.Common.{◌≡◌, ℕ, ◌<◌, false, take}
use Rattle.std.specs.Prelude.{slice_index_or}
use Rattle.places.specs.Placed.{is_live}
use Rattle.places.proofs.look.taken_places.Given as goal

abbrev pub invariant-loop-entry : goal.invariant-loop-entry
invariant-loop-entry g l = (p : ℕ) → p < 272 → slice_index_or l.taken p false ≡ is_live (take l.entry-index l.entries) p
