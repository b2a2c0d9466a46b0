-- Where the rows of a text start, as a list that is kept beside its units.
use Rattle.std.specs.Prelude.{ℕ, ◌+◌, ◌-◌, ◌<◌, ◌≤◌, ◌^◌, List, [], ◌∷◌, All, if◌then◌else◌}
use Rattle.points.specs.Text.{is_lf}

-- the offsets behind the line feeds of t, where t itself stands at offset k
abbrev pub starts_from : ℕ → List ℕ → List ℕ
starts_from k [] = []
starts_from k (u ∷ us) = if is_lf u then (k + 1) ∷ starts_from (k + 1) us else starts_from (k + 1) us

-- the offsets at which the rows of t but the first start
abbrev pub starts_of : List ℕ → List ℕ
starts_of t = starts_from 0 t

-- starts that all stand at the offset `from` or behind it, and stay within 32 bits where it moves to the offset `to`
pub record CanMove (from to : ℕ) (starts : List ℕ) : Type 0 where
  pub behind : All (λ s. from ≤ s) starts
  pub small : All (λ s. s - from + to < 2 ^ 32) starts
