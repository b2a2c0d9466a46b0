-- Reading an input to its end, up to a limit.
use Rattle.std.specs.Prelude.{◌≡◌, ℕ, ◌+◌, ◌^◌, ◌≤◌, List, ◌++◌, length, Option, Result, Ok, Err}
use Rattle.std.specs.Prelude.{Vec, []}
use Rattle.std.specs.declared.alloc.Global.{Global}
use Rattle.outer.specs.Source.{Gives, IsAtEnd, IsEndOf}
use Rattle.buffer_cli.specs.declared.input.InputFault.{InputFault}
use Rattle.buffer_cli.specs.declared.input.InputFault.TheVariants.{Failed, TooLong, NoMemory}

-- the most bytes of an input
abbrev pub max_input : ℕ
max_input = 2 ^ 26

-- These bytes were read: to the end where they are answered, else up to the byte behind the limit where there were too many.
abbrev pub ReadsAs : Result (Vec ℕ Global) InputFault → List ℕ → Option (List ℕ) → Type 0
ReadsAs (Ok v) bytes after = (v.items ≡ bytes) × (length bytes ≤ max_input) × IsAtEnd after
ReadsAs (Err Failed) bytes after = length bytes ≤ max_input
ReadsAs (Err TooLong) bytes after = length bytes ≡ max_input + 1
ReadsAs (Err NoMemory) bytes after = length bytes ≤ max_input + 1

abbrev pub HasRead : {S : Type 0} → Result (Vec ℕ Global) InputFault → (S → Option (List ℕ)) → S → S → Type 0
HasRead result left before after = (bytes : List ℕ) × Gives bytes (left before) (left after) × ReadsAs result bytes (left after)

-- One read gave these bytes. They stand at the end of what was read before, unless memory ran out.
abbrev pub ReadsMore : Result ℕ InputFault → ℕ → Vec ℕ Global → Vec ℕ Global → List ℕ → Option (List ℕ) → Type 0
ReadsMore (Ok n) room old new more before = (new.items ≡ old.items ++ more) × (length more ≡ n) × (n ≤ room) × IsEndOf before n
ReadsMore (Err Failed) room old new more before = more ≡ []
ReadsMore (Err TooLong) room old new more before = ⊥
ReadsMore (Err NoMemory) room old new more before = length more ≤ room
