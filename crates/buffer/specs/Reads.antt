-- Reads of a snapshot.
use Rattle.std.specs.Prelude.{◌==◌, ℕ, List, [], ◌∷◌, Bool, true, false, if◌then◌else◌}
use Rattle.machine.specs.declared.reads.Read.{Read}
use Rattle.machine.specs.declared.reads.Read.TheVariants as read
use Rattle.machine.specs.Plain.{Kept}

-- the read wants nothing but the text: no search and no file
abbrev pub is_own_read : Read → Bool
is_own_read read.Size = true
is_own_read (read.Text range limit) = true
is_own_read _ = false

-- the snapshot has this number
abbrev pub has_number : ℕ → Kept → Bool
has_number k s = s.number == k

-- the snapshots without the first that has this number
abbrev pub without_first : ℕ → List Kept → List Kept
without_first k [] = []
without_first k (s ∷ ss) = if has_number k s then ss else s ∷ without_first k ss
