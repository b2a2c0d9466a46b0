-- What the check of a transcript finds, where perhaps not all hits of patterns are told.
use Rattle.std.specs.Prelude.{◌≡◌, ℕ, ◌<◌, ◌≤◌, ◌⊎◌, List, ◌∷◌, ◌++◌, length, get_or, sum_by, Bool, Option, IsSome}
use Rattle.std.specs.List.{AllByRecursion}
use Rattle.machine.specs.declared.command.Script.{Script}
use Rattle.machine.specs.declared.reply.Transcript.{Transcript}
use Rattle.machine.specs.declared.verdict.Place.TheVariants as place
use Rattle.machine.specs.declared.verdict.Verdict.{Verdict}
use Rattle.machine.specs.declared.verdict.Verdict.TheVariants as verdict
use Rattle.machine.specs.Machine.{State, opened}
use Rattle.machine.specs.Answers.{Matches}
use Rattle.machine.specs.Lawful.{Entry, entries, state_after, patterns_of, Taking, all_takings, IsChange, last_number, IsTakingLawful, HasForm, IsLawful}
use Rattle.machine.specs.FirstFault.{IsFirstFault, CallsAreLawful}
use Rattle.snapshot_check.specs.Takes.{Spot, version_at}
use Rattle.snapshot_check.specs.Judged.{HasUntold, IsJudgedAt}

-- a take shows a version that it can show
pub record IsShown (s : State) (es : List Entry) (t : Taking) : Type 0 where
  pub shown : (t.version ≡ 0) ⊎ IsChange s es t.version
  pub fresh : (n : ℕ) → t.version < n → n ≤ last_number t.earlier → IsChange s es n → ⊥
  pub below : AllByRecursion (λ n. t.version < n) t.later

-- a take isn't lawful, or a pattern is read through it whose hits aren't told
abbrev pub IsDoubtful : State → List Entry → Taking → Type 0
IsDoubtful s es t = (IsTakingLawful s es t → ⊥) ⊎ HasUntold t.asked

-- the session and the place of the first such take that was found: all before it are lawful
pub record IsFirstDoubt (s : State) (es : List Entry) (takings : List (ℕ × Taking)) (session place : ℕ) : Type 0 where
  pub before : List (ℕ × Taking)
  pub taking : Taking
  pub behind : List (ℕ × Taking)
  pub split : takings ≡ before ++ (session, taking) ∷ behind
  pub at : taking.command ≡ place
  pub lawful : AllByRecursion (λ x. IsTakingLawful s es x.1) before
  pub fault : IsDoubtful s es taking

-- what is found of a transcript: lawful is lawful, and a place is the first fault; but a take may be named instead of a later
-- fault, or of none, where a pattern is read through it whose hits aren't told
abbrev pub IsFound : Script → List ℕ → List (Option Matches) → Transcript → Verdict → Type 0
IsFound script opening told t verdict.Lawful = IsLawful script opening told t
IsFound script opening told t (verdict.Unlawful place.Form) = IsFirstFault script opening told t place.Form
IsFound script opening told t (verdict.Unlawful (place.Call n)) = IsFirstFault script opening told t (place.Call n)
IsFound script opening told t (verdict.Unlawful (place.Snapshot session command)) = HasForm script t × CallsAreLawful script opening t
    × IsFirstDoubt (opened opening) (entries script.sessions t.sessions) (all_takings told 1 script.sessions t.sessions) session command
IsFound script opening told t (verdict.Unlawful place.End) = IsFirstFault script opening told t place.End

-- the hits of each pattern of the script are told
pub record AreAllTold (script : Script) (told : List (Option Matches)) : Type 0 where
  pub all : sum_by patterns_of script.sessions ≤ length told
  pub each : AllByRecursion (λ m. IsSome m) told

-- the versions behind the first calls, from none of them on
pub record AreVersions (s : State) (es : List Entry) (n : ℕ) (versions : List ℕ) : Type 0 where
  pub long : length versions ≡ n
  pub each : (m : ℕ) → m < n → get_or versions m 0 ≡ (state_after s es m).version

-- the takes with versions below n were judged by the text behind the call of their version
abbrev pub AreSettled : State → List Entry → List (Option Matches) → List Spot → ℕ → List Bool → Type 0
AreSettled s es told spots n right = (i : ℕ) → i < length spots → version_at spots i < n → IsJudgedAt told spots right (state_after s es (version_at spots i)).text i

-- a pass saw the versions behind the first calls, and judged the takes that show the number of one of them
pub record IsPassed (s : State) (es : List Entry) (told : List (Option Matches)) (spots : List Spot) (n : ℕ) (vs : List ℕ) (marks : List Bool) : Type 0 where
  pub versions : AreVersions s es n vs
  pub right : AreSettled s es told spots n marks
  pub long : length marks ≡ length spots
