-- The patterns of a script, and the hits that are told of them.
use Rattle.std.specs.Prelude.{◌≡◌, ℕ, ◌-◌, ◌<◌, List, [], ◌∷◌, ◌++◌, map, slice_get, Contains, Option, Some, option_and_then, IfSome}
use Rattle.machine.specs.declared.command.Command.{Command}
use Rattle.machine.specs.declared.command.Script.{Script}
use Rattle.machine.specs.declared.reads.Read.{Read}
use Rattle.machine.specs.declared.reads.Read.TheVariants as read
use Rattle.machine.specs.Answers.{Matches}
use Rattle.machine.specs.Lawful.{reads_in}

-- the pattern of a read, if it has one
abbrev pub pattern_in : Read → List (List ℕ)
pattern_in (read.Pattern pattern limit) = pattern ∷ []
pattern_in _ = []

-- the patterns of reads, of the commands of a session and of all sessions, in script order
abbrev pub patterns_among : List Read → List (List ℕ)
patterns_among [] = []
patterns_among (r ∷ rs) = pattern_in r ++ patterns_among rs

abbrev pub session_patterns : List Command → List (List ℕ)
session_patterns [] = []
session_patterns (c ∷ cs) = patterns_among (reads_in c) ++ session_patterns cs

abbrev pub script_patterns : List (List Command) → List (List ℕ)
script_patterns [] = []
script_patterns (cs ∷ rest) = session_patterns cs ++ script_patterns rest

-- what is told of each pattern of a script
abbrev pub told_hits : (List ℕ → Option Matches) → Script → List (Option Matches)
told_hits tells script = map tells (script_patterns script.sessions)

-- the command at this place; sessions and commands are counted from 1
abbrev pub command_at : Script → ℕ → ℕ → Option Command
command_at script session command = option_and_then (λ cs. slice_get cs (command - 1)) (slice_get script.sessions (session - 1))

-- This place has a read of a pattern. It is the one that was refused last, where that is told.
pub record IsPatternAt (script : Script) (last : Option (List ℕ)) (session command : ℕ) : Type 0 where
  pub counted : (0 < session) × (0 < command)
  pub at : Command
  pub stands : command_at script session command ≡ Some at
  pub pattern : List ℕ
  pub has : Contains (patterns_among (reads_in at)) pattern
  pub refused : IfSome last (λ p. p ≡ pattern)
