-- What a source's bytes left say of the bytes that it gave.
use Rattle.std.specs.Prelude.{◌≡◌, ◌↔◌, ℕ, List, [], ◌++◌, Option, option_map, IfSome}

-- these bytes went from the front of what was left: what is left is told after exactly where it was told before
abbrev pub Gives : List ℕ → Option (List ℕ) → Option (List ℕ) → Type 0
Gives bytes before after = before ≡ option_map (λ rest. bytes ++ rest) after

-- where the bytes left are told, none is left
abbrev pub IsAtEnd : Option (List ℕ) → Type 0
IsAtEnd left = IfSome left (λ bytes. bytes ≡ [])

-- where the bytes left are told, a read of n bytes gave none exactly where none was left
abbrev pub IsEndOf : Option (List ℕ) → ℕ → Type 0
IsEndOf left n = IfSome left (λ bytes. (n ≡ 0) ↔ (bytes ≡ []))
