-- The gaps of runs on small texts, worked out by computing.
use Rattle.std.proofs.Common.{◌≡◌, ℕ, List, [], ◌∷◌, map, Some, None, refl}
use Rattle.points.specs.declared.point.Point.{Point}
use Rattle.patch.specs.Hunk.{Hunk}
use Rattle.patch.specs.Tagged.{tagged, run, gaps}
use Rattle.patch.specs.Fit.{tag, applied}
use Rattle.patch.specs.Surviving.{source_at}

at : ℕ → ℕ → Point
at row column = record { row = row; column = column }

-- an insertion and its deletion leave no change
inserted_and_deleted : gaps [] (run (tagged []) ((0, 0, 120 ∷ []) ∷ (0, 1, []) ∷ [])) ≡ []
inserted_and_deleted = refl

-- a replacement by equal units is a change
same_units : gaps (97 ∷ 98 ∷ []) (run (tagged (97 ∷ 98 ∷ [])) ((0, 2, 97 ∷ 98 ∷ []) ∷ []))
    ≡ record { old_start = at 0 0; old_end = at 0 2; new_start = at 0 0; new_end = at 0 2; old_text = 97 ∷ 98 ∷ []; new_text = 97 ∷ 98 ∷ [] } ∷ []
unfolding at
same_units = refl

-- on `abcdef`: `X` behind `a`, `Y` behind the `c`, and `bc` deleted between them
whole : List Hunk
whole = record { old_start = at 0 1; old_end = at 0 3; new_start = at 0 1; new_end = at 0 3; old_text = 98 ∷ 99 ∷ []; new_text = 88 ∷ 89 ∷ [] } ∷ []

insertions_and_a_deletion_join : gaps (97 ∷ 98 ∷ 99 ∷ 100 ∷ 101 ∷ 102 ∷ []) (run (tagged (97 ∷ 98 ∷ 99 ∷ 100 ∷ 101 ∷ 102 ∷ [])) ((1, 1, 88 ∷ []) ∷ (4, 4, 89 ∷ []) ∷ (2, 4, []) ∷ [])) ≡ whole
unfolding at whole
insertions_and_a_deletion_join = refl

applied_again : applied whole (97 ∷ 98 ∷ 99 ∷ 100 ∷ 101 ∷ 102 ∷ []) ≡ 97 ∷ 88 ∷ 89 ∷ 100 ∷ 101 ∷ 102 ∷ []
unfolding at whole
applied_again = refl

sources_again : map (source_at (tag whole (97 ∷ 98 ∷ 99 ∷ 100 ∷ 101 ∷ 102 ∷ []))) (0 ∷ 1 ∷ 2 ∷ 3 ∷ 4 ∷ 5 ∷ 6 ∷ []) ≡ Some 0 ∷ None ∷ None ∷ Some 3 ∷ Some 4 ∷ Some 5 ∷ None ∷ []
unfolding at whole
sources_again = refl

-- changes on both sides of a row's end
two_changes : gaps (97 ∷ 10 ∷ 98 ∷ []) (run (tagged (97 ∷ 10 ∷ 98 ∷ [])) ((0, 1, 10 ∷ []) ∷ (2, 3, 98 ∷ 99 ∷ []) ∷ []))
    ≡ record { old_start = at 0 0; old_end = at 0 1; new_start = at 0 0; new_end = at 1 0; old_text = 97 ∷ []; new_text = 10 ∷ [] }
    ∷ record { old_start = at 1 0; old_end = at 1 1; new_start = at 2 0; new_end = at 2 2; old_text = 98 ∷ []; new_text = 98 ∷ 99 ∷ [] } ∷ []
unfolding at
two_changes = refl
