-- The files of a folder, and what its calls leave of them.
use Rattle.std.specs.Prelude.{◌≡◌, ℕ, List, [], true, Option, Some, is_some, unwrap_or, IfSome, IsSomeAnd}

-- the files that are told: for each name in UTF-8 the bytes of its file, where there is one
abbrev pub Files : Type 0
Files = List ℕ → Option (List ℕ)

-- the bytes of a name; one that isn't there has none
abbrev pub bytes_of : Files → List ℕ → List ℕ
bytes_of files name = unwrap_or (files name) []

-- where the folder tells its files, there is one of this name
abbrev pub HasName : List ℕ → Option Files → Type 0
HasName name told = IfSome told (λ files. is_some (files name) ≡ true)

-- where the folder tells its files after, it told them before, and every name but this one is as it was
abbrev pub KeepsOthers : List ℕ → Option Files → Option Files → Type 0
KeepsOthers name before after = IfSome after (λ files. IsSomeAnd before (λ had. (other : List ℕ) → (other ≡ name → ⊥) → files other ≡ had other))

-- the same, and every name is as it was
abbrev pub KeepsAll : Option Files → Option Files → Type 0
KeepsAll before after = IfSome after (λ files. IsSomeAnd before (λ had. (name : List ℕ) → files name ≡ had name))

-- where the folder tells its files, the sink told the bytes that it took, and this name holds them
abbrev pub Holds : List ℕ → Option (List ℕ) → Option Files → Type 0
Holds name taken told = IfSome told (λ files. IsSomeAnd taken (λ bytes. files name ≡ Some bytes))
