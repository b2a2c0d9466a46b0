-- A search of a list of units, as far as it came.
use Rattle.std.specs.Prelude.{ℕ, List, drop}
use Rattle.points.specs.Literal.{hits_from}

-- the hits that are found, with those from offset `at` on once `skip` units are skipped, are all of them
abbrev pub left_at : List ℕ → List ℕ → ℕ → ℕ → List ℕ
left_at t needle at skip = hits_from needle at skip (drop at t)
