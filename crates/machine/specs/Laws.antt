-- The laws of the plain machine and of lawful transcripts.
use Rattle.std.specs.Prelude.{◌≡◌, ℕ, ◌+◌, ◌≤◌, ◌⊎◌, List, [], ◌∷◌, length, true, Option, IsSome}
use Rattle.std.specs.List.{AllByRecursion}
use Rattle.machine.specs.declared.command.Command.{Command}
use Rattle.machine.specs.declared.command.Script.{Script}
use Rattle.machine.specs.declared.reply.Transcript.{Transcript}
use Rattle.machine.specs.Machine.{State, Call, step}
use Rattle.machine.specs.Answers.{Matches}
use Rattle.machine.specs.Lawful.{patterns_of, IsLawful}
use Rattle.machine.specs.Histories.{Event, IsWritten}
use Rattle.machine.specs.Plain.{plain_transcript, are_live}
use Rattle.machine.specs.declared.verdict.Verdict.{Verdict}
use Rattle.machine.specs.FirstFault.{IsVerdict}

-- a call raises the count by one; it leaves the text and the version, or its number becomes the version
pub record IsNumbered (s t : State) : Type 0 where
  pub count : t.count ≡ s.count + 1
  pub version : ((t.version ≡ s.version) × (t.text ≡ s.text)) ⊎ (t.version ≡ t.count)

abbrev pub StepNumbers : Type 0
StepNumbers = (s : State) (c : Call) → IsNumbered s (step s c).0

-- for a script of one session, what a plain string answers is lawful
abbrev pub PlainIsLawful : Type 0
PlainIsLawful = (script : Script) (opening : List ℕ) (told : List (Option Matches)) (commands : List Command) → script.sessions ≡ commands ∷ []
    → IsLawful script opening told (plain_transcript script.version told opening commands)

-- the hits of each pattern are told
pub record AreTold (commands : List Command) (told : List (Option Matches)) : Type 0 where
  pub all : patterns_of commands ≤ length told
  pub each : AllByRecursion (λ m. IsSome m) told

-- and no other transcript of that script is, where each read is of a live snapshot and the hits of each pattern are told
abbrev pub OnlyPlainIsLawful : Type 0
OnlyPlainIsLawful = (script : Script) (opening : List ℕ) (told : List (Option Matches)) (commands : List Command) (t : Transcript) → script.sessions ≡ commands ∷ []
    → AreTold commands told → are_live [] commands ≡ true → IsLawful script opening told t → t ≡ plain_transcript script.version told opening commands

-- a transcript that writes a legal history of many callers down is lawful
abbrev pub HistoryIsLawful : Type 0
HistoryIsLawful = (script : Script) (opening : List ℕ) (hands : ℕ) (told : List (Option Matches)) (history : List Event) (t : Transcript) → IsWritten script opening hands told history t → IsLawful script opening told t

-- a transcript is lawful or has a first fault, and never two of these
abbrev pub VerdictIsOne : Type 0
VerdictIsOne = (script : Script) (opening : List ℕ) (told : List (Option Matches)) (t : Transcript) (v w : Verdict) → IsVerdict script opening told t v → IsVerdict script opening told t w → v ≡ w
