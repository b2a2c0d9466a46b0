-- Two small patches in turn on a text, computed.
use Rattle.std.proofs.Common.{◌≡◌, ℕ, List, [], ◌∷◌, refl}
use Rattle.points.proofs.PointLemmas.{at_row_column}
use Rattle.patch.specs.Hunk.{Hunk}
use Rattle.patch.proofs.PatchPieces.{hunk_with}
use Rattle.patch_algebra.specs.Composing.{composed}

-- a change of the first row: the columns of its two ranges, and its two texts
abbrev in_row : ℕ → ℕ → ℕ → ℕ → List ℕ → List ℕ → Hunk
in_row a a' b b' old new = hunk_with (at_row_column 0 a) (at_row_column 0 a') (at_row_column 0 b) (at_row_column 0 b') old new

-- `X` inserted in `abc` and deleted again
inserted_and_deleted : composed (in_row 1 1 1 2 [] (88 ∷ []) ∷ []) (in_row 1 2 1 1 (88 ∷ []) [] ∷ []) (97 ∷ 98 ∷ 99 ∷ []) ≡ []
inserted_and_deleted = refl

-- and `Y` inserted beside it
inserted_beside : composed (in_row 1 1 1 2 [] (88 ∷ []) ∷ []) (in_row 2 2 2 3 [] (89 ∷ []) ∷ []) (97 ∷ 98 ∷ 99 ∷ []) ≡ in_row 1 1 1 3 [] (88 ∷ 89 ∷ []) ∷ []
inserted_beside = refl
