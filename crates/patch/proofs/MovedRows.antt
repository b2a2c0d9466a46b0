-- The moved patch of some small ones, computed.
use Rattle.std.proofs.Common.{◌≡◌, ℕ, List, [], ◌∷◌, true, refl}
use Rattle.points.proofs.PointLemmas.{at_row_column}
use Rattle.patch.specs.Hunk.{Hunk}
use Rattle.patch.specs.Stretches.{any_far}
use Rattle.patch.specs.MovedOld.{moved_old}
use Rattle.patch.proofs.PatchPieces.{hunk_with}

-- a change of the first row: the columns of its two ranges, and its two texts
abbrev in_row : ℕ → ℕ → ℕ → ℕ → List ℕ → List ℕ → Hunk
in_row a a' b b' old new = hunk_with (at_row_column 0 a) (at_row_column 0 a') (at_row_column 0 b) (at_row_column 0 b') old new

-- `bc` to `X` is dropped, as the range overlaps it, and `gh` to `Y` moves with the range's end
drops_what_it_overlaps : moved_old (in_row 1 3 1 2 (98 ∷ 99 ∷ []) (88 ∷ []) ∷ in_row 6 8 5 6 (103 ∷ 104 ∷ []) (89 ∷ []) ∷ []) (at_row_column 0 2) (at_row_column 0 4) (at_row_column 0 7)
    ≡ in_row 9 11 9 10 (103 ∷ 104 ∷ []) (89 ∷ []) ∷ []
drops_what_it_overlaps = refl

-- `bc` to `X` and `fg` to `Y` come to touch
joins_what_comes_to_touch : moved_old (in_row 1 3 1 2 (98 ∷ 99 ∷ []) (88 ∷ []) ∷ in_row 5 7 4 5 (102 ∷ 103 ∷ []) (89 ∷ []) ∷ []) (at_row_column 0 3) (at_row_column 0 5) (at_row_column 0 3)
    ≡ in_row 1 5 1 3 (98 ∷ 99 ∷ 102 ∷ 103 ∷ []) (88 ∷ 89 ∷ []) ∷ []
joins_what_comes_to_touch = refl

-- an insertion at the last column but one is pushed past the greatest one
pushes_too_far : any_far (moved_old (in_row 1073741823 1073741823 1073741823 1073741824 [] (120 ∷ []) ∷ []) (at_row_column 0 0) (at_row_column 0 0) (at_row_column 0 1)) ≡ true
pushes_too_far = refl
