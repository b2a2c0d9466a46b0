-- Which steps a text has behind it and before it: each was made of a text within the limit, and gives that text back.
use Rattle.std.specs.Prelude.{◌≡◌, ℕ, ◌+◌, ◌≤◌, ⊤, List, [], ◌∷◌, length, take, drop, unwrap_or}
use Rattle.std.specs.List.{All}
use Rattle.points.specs.declared.point.Point.{Point}
use Rattle.points.specs.declared.mark.Mark.{Mark}
use Rattle.points.specs.declared.limits.TheConstants.{MAX_UNITS, MAX_MARKS}
use Rattle.points.specs.Text.{replaced}
use Rattle.points.specs.Place.{point_at, offset_of}
use Rattle.points.specs.MarkText.{IsMarkOf}
use Rattle.machine.specs.Machine.{State, Change, Step}

-- the change makes the text u of the text t: its old text stands in t at its start, and gives way to its new text
pub record Makes (t : List ℕ) (c : Change) (u : List ℕ) : Type 0 where
  pub offset : ℕ
  pub start : point_at t offset ≡ c.start
  pub within : offset + length c.old ≤ length t
  pub was : take (length c.old) (drop offset t) ≡ c.old
  pub is : u ≡ replaced t offset (offset + length c.old) c.new
  pub short : length t ≤ MAX_UNITS
  pub fits : length u ≤ MAX_UNITS

-- so do these changes, one after the other
abbrev pub Leads : List ℕ → List Change → List ℕ → Type 0
Leads t [] u = t ≡ u
Leads t (c ∷ cs) u = (v : List ℕ) × Makes t c v × Leads v cs u

-- the newest step led to the text, and the others to the text before it
abbrev pub ArePast : List ℕ → List Step → Type 0
ArePast t [] = ⊤
ArePast t (step ∷ rest) = (u : List ℕ) × Leads u step t × ArePast u rest

-- the first step leads on from the text, and the others from the text behind it
abbrev pub AreFuture : List ℕ → List Step → Type 0
AreFuture t [] = ⊤
AreFuture t (step ∷ rest) = (u : List ℕ) × Leads t step u × AreFuture u rest

-- both
pub record HasSteps (t : List ℕ) (before behind : List Step) : Type 0 where
  pub past : ArePast t before
  pub future : AreFuture t behind

-- the text is within the limit, and the marks are marks of it, and not too many
pub record IsSound (t : List ℕ) (ms : List Mark) : Type 0 where
  pub short : length t ≤ MAX_UNITS
  pub few : length ms ≤ MAX_MARKS
  pub marks : All (IsMarkOf t) ms

-- the units `old` at the point `start` can give way to `new`
pub record CanPut (t : List ℕ) (start : Point) (old new : List ℕ) : Type 0 where
  pub within : unwrap_or (offset_of t start) 0 + length old ≤ length t
  pub fits : length (replaced t (unwrap_or (offset_of t start) 0) (unwrap_or (offset_of t start) 0 + length old) new) ≤ MAX_UNITS

-- the state of a text, its marks and its watchers, with these steps
abbrev pub whole : State → List Step → List Step → State
whole s past future = record s { past = past; future = future }

-- the changes of some edits lead from the state's text to the one that they made, which is within the limit; none of them
-- numbers a call
pub record Follows (s : State) (made : List Change) (t : State) : Type 0 where
  pub leads : Leads s.text made t.text
  pub short : length t.text ≤ MAX_UNITS
  pub count : t.count ≡ s.count
