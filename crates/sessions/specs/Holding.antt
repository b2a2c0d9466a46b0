-- The snapshots and the hands that a session holds.
use Rattle.std.specs.Prelude.{ℕ, suc, ◌+◌, ◌==◌, List, [], ◌∷◌, length, if◌then◌else◌}
use Rattle.machine.specs.Plain.{Kept}
use Rattle.sessions.specs.declared.holding.Live.{Live}

-- how many hands are spare, and the live snapshots, the last taken first
pub record Held : Type 0 where
  pub spare : ℕ
  pub kept : List Kept

-- all hands of the session
abbrev pub hands_of : Held → ℕ
hands_of h = h.spare + length h.kept

-- the number of a snapshot
abbrev pub number_of : Kept → ℕ
number_of k = k.number

-- the number and the text of a live snapshot
abbrev pub kept_of : Live → Kept
kept_of l = record { number = l.number; text = l.snapshot.reader.text }

-- the place of the first that has this number; the length where none has it
abbrev pub place_in : ℕ → List Live → ℕ
place_in k [] = 0
place_in k (l ∷ ls) = if l.number == k then 0 else suc (place_in k ls)
