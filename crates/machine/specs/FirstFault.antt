-- Where a transcript first fails to be lawful: in its form, at a call, at a take or at its end, in this order; among the
-- calls the least number, among the takes the first in script order.
use Rattle.std.specs.Prelude.{◌≡◌, ℕ, ◌+◌, ◌<◌, List, ◌∷◌, ◌++◌, length, Option}
use Rattle.std.specs.List.{AllByRecursion}
use Rattle.machine.specs.declared.command.Command.{Command}
use Rattle.machine.specs.declared.command.Script.{Script}
use Rattle.machine.specs.declared.reply.Reply.{Reply}
use Rattle.machine.specs.declared.reply.Transcript.{Transcript}
use Rattle.machine.specs.declared.verdict.Place.{Place}
use Rattle.machine.specs.declared.verdict.Place.TheVariants as place
use Rattle.machine.specs.declared.verdict.Verdict.{Verdict}
use Rattle.machine.specs.declared.verdict.Verdict.TheVariants as verdict
use Rattle.machine.specs.Machine.{State, opened}
use Rattle.machine.specs.Answers.{Matches}
use Rattle.machine.specs.Lawful.{Entry, entries, numbered, state_after, IsReplyAt, Taking, all_takings, IsTakingLawful, HasForm, CallsAgree, SnapshotsAgree, EndAgrees, IsLawful}

-- the reply numbered n + 1 is that of the plain machine
abbrev pub AgreesAt : ℕ → State → List Entry → ℕ → Type 0
AgreesAt version s es n = IsReplyAt version (n + 1) (state_after s es n) (numbered es (n + 1))

-- the least number of a call whose reply isn't that of the plain machine
pub record IsFirstCall (version : ℕ) (s : State) (es : List Entry) (at : ℕ) : Type 0 where
  pub before : ℕ
  pub number : at ≡ before + 1
  pub within : before < length es
  pub agree : (n : ℕ) → n < before → AgreesAt version s es n
  pub fault : AgreesAt version s es before → ⊥

-- the session and the place of the first take that isn't lawful
pub record IsFirstTaking (s : State) (es : List Entry) (takings : List (ℕ × Taking)) (session place : ℕ) : Type 0 where
  pub before : List (ℕ × Taking)
  pub taking : Taking
  pub behind : List (ℕ × Taking)
  pub split : takings ≡ before ++ (session, taking) ∷ behind
  pub at : taking.command ≡ place
  pub lawful : AllByRecursion (λ x. IsTakingLawful s es x.1) before
  pub fault : IsTakingLawful s es taking → ⊥

-- the calls, the takes and the end of a transcript, and the first fault among them
abbrev pub CallsAreLawful : Script → List ℕ → Transcript → Type 0
CallsAreLawful script opening t = CallsAgree script.version (opened opening) (entries script.sessions t.sessions)

abbrev pub TakesAreLawful : Script → List ℕ → List (Option Matches) → Transcript → Type 0
TakesAreLawful script opening told t = SnapshotsAgree told (opened opening) (entries script.sessions t.sessions) script.sessions t.sessions

abbrev pub EndIsLawful : Script → List ℕ → Transcript → Type 0
EndIsLawful script opening t = EndAgrees (opened opening) (entries script.sessions t.sessions) t

abbrev pub IsFirstFault : Script → List ℕ → List (Option Matches) → Transcript → Place → Type 0
IsFirstFault script opening told t place.Form = HasForm script t → ⊥
IsFirstFault script opening told t (place.Call n) = HasForm script t × IsFirstCall script.version (opened opening) (entries script.sessions t.sessions) n
IsFirstFault script opening told t (place.Snapshot session command) = HasForm script t × CallsAreLawful script opening t
    × IsFirstTaking (opened opening) (entries script.sessions t.sessions) (all_takings told 1 script.sessions t.sessions) session command
IsFirstFault script opening told t place.End = HasForm script t × CallsAreLawful script opening t × TakesAreLawful script opening told t × (EndIsLawful script opening t → ⊥)

-- what a verdict says of a transcript
abbrev pub IsVerdict : Script → List ℕ → List (Option Matches) → Transcript → Verdict → Type 0
IsVerdict script opening told t verdict.Lawful = IsLawful script opening told t
IsVerdict script opening told t (verdict.Unlawful where_) = IsFirstFault script opening told t where_
