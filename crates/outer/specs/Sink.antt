-- What a sink's bytes taken say of the bytes that were put.
use Rattle.std.specs.Prelude.{◌≡◌, ℕ, List, ◌++◌, take, Option, IfSome, IsSomeAnd}

-- where the sink tells its bytes after, it told them before, and has these bytes more at their end
abbrev pub Appends : List ℕ → Option (List ℕ) → Option (List ℕ) → Type 0
Appends bytes before after = IfSome after (λ taken. IsSomeAnd before (λ had. taken ≡ had ++ bytes))

-- the same of the first of these bytes, however many they are
abbrev pub AppendsPrefix : List ℕ → Option (List ℕ) → Option (List ℕ) → Type 0
AppendsPrefix bytes before after = (n : ℕ) × Appends (take n bytes) before after
