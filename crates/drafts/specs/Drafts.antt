-- Sinks for several names of a folder, and what is left of its files.
use Rattle.std.specs.Prelude.{◌≡◌, ℕ, ◌&&◌, not, nat_lt, List, [], ◌∷◌, Bool, true, false, Option, IfSome, IsSomeAnd}
use Rattle.std.specs.List.{AllByRecursion, list_any}
use Rattle.std.specs.Str.{bytes_eq}
use Rattle.outer.specs.Folder.{Files, HasName, Holds}

-- this name is one of those
abbrev pub is_among : List (List ℕ) → List ℕ → Bool
is_among names name = list_any (bytes_eq name) names

-- no two of these names are the same
abbrev pub are_apart : List (List ℕ) → Bool
are_apart [] = true
are_apart (name ∷ names) = not (is_among names name) && are_apart names

-- where the folder tells its files after, it told them before, and every name but these is as it was
abbrev pub KeepsBut : List (List ℕ) → Option Files → Option Files → Type 0
KeepsBut names before after = IfSome after (λ files. IsSomeAnd before (λ had. (other : List ℕ) → is_among names other ≡ false → files other ≡ had other))

-- where the folder tells its files, there is one of each of these names
abbrev pub HasNames : List (List ℕ) → Option Files → Type 0
HasNames names told = AllByRecursion (λ name. HasName name told) names

-- where the folder tells its files, each name holds what its sink took
abbrev pub HoldEach : List (List ℕ) → List (Option (List ℕ)) → Option Files → Type 0
HoldEach [] [] told = Unit {0}
HoldEach [] (t ∷ ts) told = ⊥
HoldEach (name ∷ names) [] told = ⊥
HoldEach (name ∷ names) (t ∷ ts) told = Holds name t told × HoldEach names ts told

-- a sink that took nothing and had no faults
abbrev pub IsFresh : {K : Type 0} → (K → Option (List ℕ)) → (K → ℕ) → K → Type 0
IsFresh taken faults sink = IfSome (taken sink) (λ bytes. bytes ≡ []) × (faults sink ≡ 0)

-- one of these sinks had a fault
abbrev pub has_faulty : {K : Type 0} → (K → ℕ) → List K → Bool
has_faulty faults sinks = list_any (λ sink. nat_lt 0 (faults sink)) sinks
