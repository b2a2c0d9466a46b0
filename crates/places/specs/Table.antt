-- What is true of every table of places.
use Rattle.std.specs.Prelude.{◌≡◌, ◌≢◌, ℕ, ◌+◌, ◌^◌, ◌<◌, ◌≤◌, List, length, None, MatchOption, IsTrue, All, AllPairs}
use Rattle.places.specs.declared.placed.Placed.{Placed}
use Rattle.places.specs.Placed.{placed_at, is_live}

-- numbers within their bounds
pub record IsPlaced {X : Type 0} (e : Placed X) : Type 0 where
  pub place : e.place < 272
  pub shallow : e.depth ≤ 8
  pub some : 1 ≤ e.depth
  pub hands : e.mask < 2 ^ 32

-- what is older and one less deep
pub record IsOver {X : Type 0} (e f : Placed X) : Type 0 where
  pub older : f.age < e.age
  pub deeper : e.depth ≡ f.depth + 1

module _ {X : Type 0} where
  -- e stands on nothing, or on what is live and older
  abbrev pub StandsIn : List (Placed X) → Placed X → Type 0
  StandsIn t e = MatchOption e.parent (e.depth ≡ 1) (λ p. MatchOption (placed_at t p) ⊥ (λ f. IsOver e f))

pub record IsTable {X : Type 0} (t : List (Placed X)) : Type 0 where
  pub some : 0 < length t
  pub numbers : All IsPlaced t
  pub apart : AllPairs (λ a b. a.place ≢ b.place) t
  pub rising : AllPairs (λ a b. a.age < b.age) t
  pub over : All (StandsIn t) t

-- p is the lowest place where nothing stands
pub record IsLowestFree {X : Type 0} (t : List (Placed X)) (p : ℕ) : Type 0 where
  pub within : p < 272
  pub free : placed_at t p ≡ None
  pub lowest : (q : ℕ) → q < p → IsTrue (is_live t q)
