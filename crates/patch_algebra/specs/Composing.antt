-- Two patches in turn: what they make of a text, and its changes.
use Rattle.std.specs.Prelude.{◌≡◌, ℕ, List, [], ◌∷◌, ◌++◌, drop, slice_range}
use Rattle.patch.specs.Hunk.{Hunk}
use Rattle.patch.specs.Tagged.{Tagged, untagged, units_of, gaps}
use Rattle.patch.specs.Fit.{Fits, offset_in, tag, applied}

-- what the tagged text g is from offset i on, with all old ranges that these changes have in its units replaced by new units
abbrev pub replaced_from : Tagged → ℕ → List Hunk → Tagged
replaced_from g i [] = drop i g
replaced_from g i (h ∷ hs) = slice_range g i (offset_in (units_of g) h.old_start) ++ untagged h.new_text ++ replaced_from g (offset_in (units_of g) h.old_end) hs

-- the changes between the text s and what p and then q make of it
abbrev pub composed : List Hunk → List Hunk → List ℕ → List Hunk
composed p q s = gaps s (replaced_from (tag p s) 0 q)

-- the text fits p, and what p makes of it fits q
pub record FitsBoth (p q : List Hunk) (s : List ℕ) : Type 0 where
  pub first : Fits p s
  pub second : Fits q (applied p s)

-- some text fits p, and what p makes of it fits q
abbrev pub CanCompose : List Hunk → List Hunk → Type 0
CanCompose p q = (s : List ℕ) × FitsBoth p q s

-- on each such text the changes of both in turn are these
abbrev pub IsComposed : List Hunk → List Hunk → List Hunk → Type 0
IsComposed p q result = (s : List ℕ) → FitsBoth p q s → composed p q s ≡ result

-- each such text fits the result, which makes of it what both make in turn
abbrev pub DoesBoth : List Hunk → List Hunk → List Hunk → Type 0
DoesBoth p q result = (s : List ℕ) → FitsBoth p q s → Fits result s × (applied result s ≡ applied q (applied p s))
