-- Changes as contracts compare them: the two ranges and the two texts.
use Rattle.std.specs.Prelude.{ℕ, ◌+◌, List, length, map}
use Rattle.points.specs.declared.point.Point.{Point}
use Rattle.patch.specs.declared.change.Change.{Change}
use Rattle.patch.specs.declared.change.ChangeView.{ChangeView}

-- a change: where its old text stands in the old text, and its new text in the new one
pub record Hunk : Type 0 where
  pub old_start : Point
  pub old_end : Point
  pub new_start : Point
  pub new_end : Point
  pub old_text : List ℕ
  pub new_text : List ℕ

-- a change of the code, so compared
abbrev pub hunk_of : Change → Hunk
hunk_of c = record { old_start = c.old_range.start; old_end = c.old_range.end; new_start = c.new_range.start; new_end = c.new_range.end; old_text = c.old_text; new_text = c.new_text }

-- what a lent change shows
abbrev pub hunk_seen : ChangeView → Hunk
hunk_seen c = record { old_start = c.old_range.start; old_end = c.old_range.end; new_start = c.new_range.start; new_end = c.new_range.end; old_text = c.old_text.now; new_text = c.new_text.now }

-- a list of them
abbrev pub hunks_of : List Change → List Hunk
hunks_of cs = map hunk_of cs

-- how many units its texts have
abbrev pub hunk_size : Hunk → ℕ
hunk_size h = length h.old_text + length h.new_text

-- the change back: its sides exchanged
abbrev pub inverted : Hunk → Hunk
inverted h = record { old_start = h.new_start; old_end = h.new_end; new_start = h.old_start; new_end = h.old_end; old_text = h.new_text; new_text = h.old_text }

-- a patch as contracts see it: its changes, in order
pub record PatchView : Type 0 where
  pub changes : List Hunk
