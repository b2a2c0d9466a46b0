-- Counts that never fall, and stand still at the end of their type.
use Rattle.std.specs.Prelude.{◌≡◌, ◌⊎◌, ℕ, ◌+◌, ◌-◌, ◌^◌, ◌<◌, min}

-- the greatest count
abbrev pub LAST_COUNT : ℕ
LAST_COUNT = 2 ^ 64 - 1

-- the count rose: it is greater than before, or stands at the greatest count
abbrev pub Rose : ℕ → ℕ → Type 0
Rose before after = (before < after) ⊎ (after ≡ LAST_COUNT)

-- one more, or the greatest count where that is reached
abbrev pub counted : ℕ → ℕ
counted n = min (n + 1) LAST_COUNT
