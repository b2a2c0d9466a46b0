-- Desks of one shared buffer, as the tests pass them on.
use Rattle.std.specs.Prelude.{ℕ, ◌<◌, List, length, slice_index_or}
use Rattle.atomic_table.specs.declared.badge.Badge.{Badge}
use Rattle.shared_buffer.specs.Tokens.{Opening, Known, IsDeskOf}

abbrev pub AreDesksOf : Opening → List (Badge Known) → Type 0
AreDesksOf o ds = (k : ℕ) (d : Badge Known) → k < length ds → IsDeskOf o (slice_index_or ds k d)
