-- One pass over a table, newest first, that marks what is kept.
use Rattle.std.specs.Prelude.{ℕ, Bool, false, not, ◌&&◌, ◌||◌, ◌==◌, List, [], ◌∷◌, Option, Some, None}
use Rattle.places.specs.declared.placed.Placed.{Placed}

abbrev pub is_parent : Option ℕ → ℕ → Bool
is_parent None p = false
is_parent (Some q) p = q == p

module _ {X : Type 0} where
  -- one more entry is passed: where its place is marked, or it has a hand, its place and its parent are marked
  abbrev pub marked_on : (ℕ → Bool) → Placed X → ℕ → Bool
  marked_on m e p = m p || ((not (e.mask == 0) || m e.place) && ((e.place == p) || is_parent e.parent p))

  -- whether p is marked once all of these were passed, where the top was marked before
  abbrev pub marked : ℕ → List (Placed X) → ℕ → Bool
  marked top [] p = top == p
  marked top (e ∷ es) p = marked_on (marked top es) e p
