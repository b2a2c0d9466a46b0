-- Literal hits: where a needle stands in a text, from the left and with no unit in two hits.
use Rattle.std.specs.Prelude.{ℕ, zero, suc, ◌+◌, ◌-◌, ◌==◌, List, [], ◌∷◌, ◌++◌, length, Bool, if◌then◌else◌}
use Rattle.std.specs.List.{starts_with}

-- all units of the needle stand at the front of the text
abbrev pub stands_in_front : List ℕ → List ℕ → Bool
stands_in_front needle t = starts_with (λ u v. u == v) t needle

-- the offsets of the hits in a text that begins at offset `at`, once these many units are skipped
abbrev pub hits_from : List ℕ → ℕ → ℕ → List ℕ → List ℕ
hits_from needle at skip [] = []
hits_from needle at (suc skip) (u ∷ us) = hits_from needle (at + 1) skip us
hits_from needle at zero (u ∷ us) = (if stands_in_front needle (u ∷ us) then at ∷ [] else [])
    ++ hits_from needle (at + 1) (if stands_in_front needle (u ∷ us) then length needle - 1 else 0) us

-- the offsets of the hits of a needle with some units: the least offset at which all its units stand, and so on from that
-- hit's end
abbrev pub hits : List ℕ → List ℕ → List ℕ
hits t needle = hits_from needle 0 0 t
