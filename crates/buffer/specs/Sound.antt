-- What is true of every state that calls lead to, so that a mark has its place in the text, a step back or on has the units
-- that it replaces, and no surrogate lacks its partner.
use Rattle.std.specs.Prelude.{◌≡◌, ℕ, ◌+◌, ◌≤◌, List, [], ◌∷◌, length}
use Rattle.std.specs.List.{All}
use Rattle.points.specs.declared.point.Point.{Point}
use Rattle.points.specs.Text.{replaced, IsWellFormed}
use Rattle.points.specs.Place.{point_at}
use Rattle.points.specs.MarkText.{IsMarkOf}
use Rattle.points.specs.declared.limits.TheConstants.{MAX_UNITS, MAX_MARKS}
use Rattle.machine.specs.Machine.{Change, Step, State, between, Call, edit, batch}

-- the units `old` stand in t at a point, and with `new` in their place t is u, which is well-formed and isn't too long
pub record Leads (start : Point) (old new t u : List ℕ) : Type 0 where
  pub offset : ℕ
  pub here : point_at t offset ≡ start
  pub within : offset + length old ≤ length t
  pub stands : between t offset (offset + length old) ≡ old
  pub gives : u ≡ replaced t offset (offset + length old) new
  pub short : length u ≤ MAX_UNITS
  pub whole : IsWellFormed u

-- a step of one change leads from one text to another: forth where it is made again, back where it is taken back
abbrev pub LeadsOn : Step → List ℕ → List ℕ → Type 0
LeadsOn [] t u = ⊥
LeadsOn (c ∷ []) t u = Leads c.start c.old c.new t u
LeadsOn (c ∷ d ∷ ds) t u = ⊥

abbrev pub LeadsBack : Step → List ℕ → List ℕ → Type 0
LeadsBack [] t u = ⊥
LeadsBack (c ∷ []) t u = Leads c.start c.new c.old t u
LeadsBack (c ∷ d ∷ ds) t u = ⊥

-- steps lead from one text to the next in turn
abbrev pub LeadInTurn : (Step → List ℕ → List ℕ → Type 0) → List ℕ → List Step → Type 0
LeadInTurn R t [] = Unit {0}
LeadInTurn R t (step ∷ steps) = (u : List ℕ) × R step t u × LeadInTurn R u steps

-- the text is well-formed, the marks are marks of it, and each step leads back or on from it
pub record IsSound (s : State) : Type 0 where
  pub short : length s.text ≤ MAX_UNITS
  pub whole : IsWellFormed s.text
  pub few_marks : length s.marks ≤ MAX_MARKS
  pub marks : All (IsMarkOf s.text) s.marks
  pub past : LeadInTurn LeadsBack s.text s.past
  pub future : LeadInTurn LeadsOn s.text s.future

-- the call isn't a batch, so each of its steps is one change, and what it puts in is well-formed
abbrev pub IsSingle : Call → Type 0
IsSingle (edit e) = IsWellFormed e.1
IsSingle (batch edits) = ⊥
IsSingle call = Unit {0}
