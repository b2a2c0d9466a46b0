-- The takes of a transcript as loops gather them.
use Rattle.std.specs.Prelude.{◌≡◌, ℕ, ◌+◌, List, [], ◌++◌, map, take, drop, length, Option}
use Rattle.machine.specs.declared.command.Command.{Command}
use Rattle.machine.specs.declared.reply.Reply.{Reply}
use Rattle.machine.specs.Answers.{Matches}
use Rattle.machine.specs.Lawful.{Taking, numbers, last_number, takings, all_takings, with_taking}
use Rattle.snapshot_check.specs.Takes.{Spot, placed, first_number}
use Rattle.snapshot_check.specs.declared.takes.Stage.{Stage}

abbrev pub of_session : ℕ → List Taking → List (ℕ × Taking)
of_session session ts = map (λ t. (session, t)) ts

-- the takes of a session from its command i on, where p patterns were read before it
abbrev pub left_in : ℕ → List Command → List Reply → ℕ → ℕ → List (Option Matches) → List (ℕ × Taking)
left_in session cs rs i p told = of_session session (takings (drop p told) (i + 1) (numbers (take i rs)) (drop i cs) (drop i rs))

-- the take of one command with its reply, if it is one
abbrev pub taken_in : ℕ → Command → Reply → List Command → List Reply → ℕ → ℕ → List (Option Matches) → List (ℕ × Taking)
taken_in session c r cs rs i p told = of_session session (with_taking c r (i + 1) (numbers (take i rs)) (drop p told) (drop (i + 1) cs) (drop (i + 1) rs) [])

-- the takes that were gathered, where these hits are told, and others behind them
abbrev pub gathered : List Spot → (List (Option Matches) → List (ℕ × Taking)) → List (Option Matches) → List (ℕ × Taking)
gathered spots others told = map (placed told) spots ++ others told

-- two lists are the same, whatever is told of so many patterns
abbrev pub AreSame : ℕ → (List (Option Matches) → List (ℕ × Taking)) → (List (Option Matches) → List (ℕ × Taking)) → Type 0
AreSame all f g = (told : List (Option Matches)) → length told ≡ all → f told ≡ g told

-- where a walk over a session stands before its command i: the session's numbers before it and from it on
pub record IsStage (rs : List Reply) (i : ℕ) (s : Stage) : Type 0 where
  pub last : s.last ≡ last_number (numbers (take i rs))
  pub next : s.next ≡ first_number (numbers (drop i rs))

-- these are the takes of all sessions
abbrev pub AreAllTakes : ℕ → List (List Command) → List (List Reply) → List Spot → Type 0
AreAllTakes all ss rr spots = AreSame all (λ told. map (placed told) spots) (λ told. all_takings told 1 ss rr)
