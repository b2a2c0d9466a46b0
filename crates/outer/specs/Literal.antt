-- Literal matchers: the hits that they tell, and the makers in memory.
use Rattle.std.specs.Prelude.{ℕ, ◌+◌, List, [], ◌∷◌, length, map, Bool, true, false, ◌||◌, if◌then◌else◌, Option, Some}
use Rattle.points.specs.Literal.{hits}
use Rattle.outer.specs.Plan.{Plan, is_due, after_call}

-- a hit of so many bytes at each of these offsets
abbrev pub spans_of : ℕ → List ℕ → List (ℕ × ℕ)
spans_of n starts = map (λ (i : ℕ). (i, i + n)) starts

-- the hits of a needle in a text, both as bytes in UTF-8; an empty needle has none
abbrev pub literal_hits : List ℕ → List ℕ → List (ℕ × ℕ)
literal_hits [] text = []
literal_hits (b ∷ bs) text = spans_of (length (b ∷ bs)) (hits text (b ∷ bs))

-- a maker whose calls fail by a plan, with the pattern that it refused last
pub record PlannedMaker : Type 0 where
  pub plan : Plan
  pub refused : Option (List ℕ)

abbrev pub is_empty : List ℕ → Bool
is_empty [] = true
is_empty (b ∷ bs) = false

-- such a maker refuses this pattern now
abbrev pub refuses : PlannedMaker → List ℕ → Bool
refuses m pattern = is_due m.plan || is_empty pattern

-- after it was asked for this pattern
abbrev pub after_make : PlannedMaker → List ℕ → PlannedMaker
after_make m pattern = record { plan = after_call m.plan (refuses m pattern); refused = if refuses m pattern then Some pattern else m.refused }
