-- The hits of a literal in words of where it occurs: no two of them overlap, and each is the first that can be had.
use Rattle.std.specs.Prelude.{ℕ, ◌+◌, ◌≤◌, ◌<◌, List, [], ◌∷◌, length, Contains}
use Rattle.memchr.specs.Find.{OccursAt}

-- occurrences of the needle from offset `at` on, each behind the end of the one before
abbrev pub AreApartFrom : List ℕ → List ℕ → ℕ → List ℕ → Type 0
AreApartFrom t needle at [] = Unit {0}
AreApartFrom t needle at (i ∷ is) = (at ≤ i) × OccursAt t needle i × AreApartFrom t needle (i + length needle) is

pub record AreLeftmost (t needle hits : List ℕ) : Type 0 where
  -- each hit is an occurrence, and no two of them have a unit in common
  pub apart : AreApartFrom t needle 0 hits
  -- an occurrence is a hit, or has units in common with a hit that starts before it
  pub first : (k : ℕ) → OccursAt t needle k → (i : ℕ) × Contains hits i × (i ≤ k) × (k < i + length needle)
