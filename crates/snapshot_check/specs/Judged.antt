-- The answers through takes, judged by a text, where perhaps not all hits of patterns are told.
use Rattle.std.specs.Prelude.{◌≡◌, ℕ, ◌<◌, ◌≤◌, ◌⊎◌, List, [], ◌∷◌, length, get_or, Bool, true, false, Option, None}
use Rattle.std.specs.List.{AllByRecursion}
use Rattle.machine.specs.Answers.{Matches}
use Rattle.machine.specs.Lawful.{Asked, IsAsked, is_pattern}
use Rattle.snapshot_check.specs.Takes.{Spot, taking_of, version_at}

-- a pattern was read whose hits aren't told
abbrev pub IsUntold : Asked → Type 0
IsUntold a = (is_pattern a.read ≡ true) × (a.told ≡ None)

abbrev pub HasUntold : List Asked → Type 0
HasUntold [] = ⊥
HasUntold (a ∷ rest) = IsUntold a ⊎ HasUntold rest

-- reads of the text t were judged: where they are found right they are; else one of them is wrong, or its hits aren't told
abbrev pub IsJudged : Bool → List ℕ → List Asked → Type 0
IsJudged true t asked = AllByRecursion (IsAsked t) asked
IsJudged false t asked = (AllByRecursion (IsAsked t) asked → ⊥) ⊎ HasUntold asked

-- the reads through the take at place i were judged by the text t
abbrev pub IsJudgedAt : List (Option Matches) → List Spot → List Bool → List ℕ → ℕ → Type 0
IsJudgedAt told spots right t i = (x : Spot) → x ≡ get_or spots i x → IsJudged (get_or right i false) t (taking_of told x).asked

-- the takes with the version n, from place j on, were judged by the text t; the others are as they were
pub record AreJudged (told : List (Option Matches)) (spots : List Spot) (t : List ℕ) (n j : ℕ) (before right : List Bool) : Type 0 where
  pub long : length right ≡ length before
  pub judged : (i : ℕ) → j ≤ i → i < length spots → version_at spots i ≡ n → IsJudgedAt told spots right t i
  pub others : (i : ℕ) → (version_at spots i ≡ n → ⊥) → get_or right i false ≡ get_or before i false

-- the take at this place was judged by the text t; the others are as they were
pub record IsMarked (told : List (Option Matches)) (spots : List Spot) (t : List ℕ) (place : ℕ) (before right : List Bool) : Type 0 where
  pub long : length right ≡ length before
  pub here : IsJudgedAt told spots right t place
  pub others : (i : ℕ) → (i ≡ place → ⊥) → get_or right i false ≡ get_or before i false
