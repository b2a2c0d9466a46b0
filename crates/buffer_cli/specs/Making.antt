-- Which pattern of a session was refused.
use Rattle.std.specs.Prelude.{◌≡◌, ℕ, ◌+◌, List, slice_get, Contains, Bool, true, false, Option, Some, IfSome}
use Rattle.machine.specs.declared.command.Command.{Command}
use Rattle.machine.specs.declared.reads.Read.{Read}
use Rattle.machine.specs.Lawful.{reads_in}
use Rattle.buffer_cli.specs.declared.matchers.MakeFault.{MakeFault}
use Rattle.buffer_cli.specs.declared.matchers.MakeFault.TheVariants.{Refused, NoMemory}
use Rattle.buffer_cli.specs.Patterns.{patterns_among}

-- one of these reads has a pattern that was refused: the last, where that is told
pub record IsRefusedAmong (reads : List Read) (last : Option (List ℕ)) : Type 0 where
  pub pattern : List ℕ
  pub has : Contains (patterns_among reads) pattern
  pub refused : IfSome last (λ p. p ≡ pattern)

-- one of this command, which is counted from 1
pub record IsRefusedAt (commands : List Command) (last : Option (List ℕ)) (number : ℕ) : Type 0 where
  pub before : ℕ
  pub number_is : number ≡ before + 1
  pub at : Command
  pub stands : slice_get commands before ≡ Some at
  pub among : IsRefusedAmong (reads_in at) last

abbrev pub IsRefusedIn : List Command → Option (List ℕ) → MakeFault → Type 0
IsRefusedIn commands last (Refused command) = IsRefusedAt commands last command
IsRefusedIn commands last NoMemory = Unit {0}

abbrev pub is_refusal : MakeFault → Bool
is_refusal (Refused command) = true
is_refusal NoMemory = false
