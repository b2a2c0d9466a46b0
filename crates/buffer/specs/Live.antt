-- The live snapshots of a session.
use Rattle.std.specs.Prelude.{ℕ, zero, suc, ◌==◌, List, [], ◌∷◌, if◌then◌else◌}
use Rattle.machine.specs.Plain.{Kept}
use Rattle.buffer.specs.declared.snapshots.Live.{Live}

-- its number and its text
abbrev pub kept_of : Live → Kept
kept_of l = record { number = l.number; text = l.snapshot.text }

-- the place of the first that has this number; the length where none has it
abbrev pub place_in : ℕ → List Live → ℕ
place_in k [] = 0
place_in k (l ∷ ls) = if l.number == k then 0 else suc (place_in k ls)
