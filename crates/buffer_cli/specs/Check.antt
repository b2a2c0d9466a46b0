-- What a check of a transcript says: each status with its cause.
use Rattle.std.specs.Prelude.{◌≡◌, ◌⊎◌, ℕ, ◌≤◌, List, [], ◌∷◌, ◌++◌, length, codes, decimal, Bool, true, false, Option, Some, None, Result, Ok, Err, IsSome}
use Rattle.std.specs.List.{AllByRecursion}
use Rattle.points.specs.declared.limits.TheConstants.{MAX_UNITS}
use Rattle.outer.specs.Folder.{Files, bytes_of, KeepsOthers, KeepsAll}
use Rattle.outer.specs.Sink.{Appends, AppendsPrefix}
use Rattle.machine.specs.declared.command.Opening.{Opening}
use Rattle.machine.specs.declared.command.Opening.TheVariants as opening
use Rattle.machine.specs.declared.command.Script.{Script}
use Rattle.machine.specs.declared.reads.Encoding.{Encoding}
use Rattle.machine.specs.declared.reply.Transcript.{Transcript}
use Rattle.machine.specs.declared.verdict.Place.{Place}
use Rattle.machine.specs.declared.verdict.Place.TheVariants as place
use Rattle.machine.specs.declared.verdict.Verdict.{Verdict}
use Rattle.machine.specs.declared.verdict.Verdict.TheVariants as verdict
use Rattle.machine.specs.Answers.{Matches}
use Rattle.machine.specs.FirstFault.{IsVerdict}
use Rattle.codecs.specs.Decoding.{decoded}
use Rattle.script.specs.declared.refusal.ScriptRefusal.{ScriptRefusal}
use Rattle.script.specs.declared.refusal.ScriptRefusal.TheVariants as refusal
use Rattle.script.specs.ScriptDocument.{script_in, script_place}
use Rattle.transcripts.specs.Exact.{IsReadOf}
use Rattle.transcript_check.specs.Found.{IsFound}
use Rattle.buffer_cli.specs.Input.{max_input}
use Rattle.buffer_cli.specs.declared.input.InputFault.{InputFault}
use Rattle.buffer_cli.specs.declared.input.InputFault.TheVariants as fault
use Rattle.buffer_cli.specs.Load.{opened_with, IsFileOf, IsFile, IsLongFile, OpensFile}
use Rattle.buffer_cli.specs.declared.load.Unloaded.{Unloaded}
use Rattle.buffer_cli.specs.declared.load.Unloaded.TheVariants as unloaded
use Rattle.buffer_cli.specs.Patterns.{told_hits, IsPatternAt}
use Rattle.buffer_cli.specs.Run.{IsPatternRefused, IsFileTooLong, IsTextTooLong}
use Rattle.buffer_cli.specs.declared.check.Documents.{Documents}
use Rattle.buffer_cli.specs.declared.status.Status.{Status}
use Rattle.buffer_cli.specs.declared.status.Status.TheVariants as status

-- ---- a verdict

-- the words of a place
abbrev pub place_words : Place → List ℕ
place_words place.Form = codes "form"
place_words (place.Call number) = codes "call " ++ decimal number
place_words (place.Snapshot session command) = codes "snapshot " ++ (decimal session ++ (codes " " ++ decimal command))
place_words place.End = codes "end"

-- the line of a verdict, with its line feed
abbrev pub verdict_text : Verdict → List ℕ
verdict_text verdict.Lawful = codes "lawful" ++ 10 ∷ []
verdict_text (verdict.Unlawful where_) = codes "unlawful " ++ place_words where_ ++ 10 ∷ []

abbrev pub status_of_verdict : Verdict → Status
status_of_verdict verdict.Lawful = status.Done
status_of_verdict (verdict.Unlawful where_) = status.Unlawful where_

abbrev pub is_verdict : Status → Bool
is_verdict status.Done = true
is_verdict (status.Unlawful where_) = true
is_verdict _ = false

-- what the check finds of a transcript, where these hits are told of the script's patterns; where all are told, it is the verdict
abbrev pub Judges : List (Option Matches) → List ℕ → Script → Transcript → Verdict → Type 0
Judges told opening script t v = IsFound script opening told t v × (AllByRecursion (λ m. IsSome m) told → IsVerdict script opening told t v)

-- the verdict on a transcript of a script that opens with its own text, or with what all bytes of its file are read as
pub record IsJudged (tells : List ℕ → Option Matches) (files : Option Files) (script : Script) (t : Transcript) (v : Verdict) : Type 0 where
  pub file : List ℕ
  pub opens : IsFile script.opening files file
  pub short : length (opened_with script.opening file) ≤ MAX_UNITS
  pub judged : Judges (told_hits tells script) (opened_with script.opening file) script t v

-- bytes that are no transcript fail in their form
abbrev pub IsFinding : (List ℕ → Option Matches) → Option Files → Script → Option Transcript → Verdict → Type 0
IsFinding tells files script None v = v ≡ verdict.Unlawful place.Form
IsFinding tells files script (Some t) v = IsJudged tells files script t v

-- the verdict on these bytes as a transcript of the script with those
pub record IsVerdictOf (tells : List ℕ → Option Matches) (files : Option Files) (script_bytes bytes : List ℕ) (v : Verdict) : Type 0 where
  pub script : Script
  pub is_script : script_in script_bytes ≡ Some script
  pub transcript : Option Transcript
  pub is_transcript : IsReadOf bytes transcript
  pub finding : IsFinding tells files script transcript v

-- the verdict on all bytes of the files with these names
pub record IsVerdictOn (tells : List ℕ → Option Matches) (script transcript : List ℕ) (files : Option Files) (v : Verdict) : Type 0 where
  pub script_bytes : List ℕ
  pub script_file : IsFileOf script files script_bytes
  pub bytes : List ℕ
  pub transcript_file : IsFileOf transcript files bytes
  pub verdict : IsVerdictOf tells files script_bytes bytes v

-- ---- no verdict

-- something holds of all bytes of the file with this name
pub record HasBytes (name : List ℕ) (files : Option Files) (Holds : List ℕ → Type 0) : Type 0 where
  pub bytes : List ℕ
  pub is : IsFileOf name files bytes
  pub holds : Holds bytes

-- the bytes are a script's that opens a file with this name
abbrev pub IsOpenedBy : List ℕ → List ℕ → Type 0
IsOpenedBy name bytes = (encoding : Encoding) × OpensFile bytes name encoding

-- The reading of a file failed, and every other name is as it was: the file is one of the two, or that which the script opens.
pub record IsUnread (script transcript : List ℕ) (files after : Option Files) : Type 0 where
  pub name : List ℕ
  pub asked : (name ≡ script) ⊎ ((name ≡ transcript) ⊎ HasBytes script files (IsOpenedBy name))
  pub others : KeepsOthers name files after

-- one of the two files has too many bytes, or that which the script opens
abbrev pub IsTooLong : List ℕ → List ℕ → Option Files → Type 0
IsTooLong script transcript files = IsLongFile script files ⊎ (IsLongFile transcript files ⊎ HasBytes script files (λ bytes. IsFileTooLong bytes files))

-- Why there is no verdict on the files with these names. Every file that the folder still tells is as it was, but the one that couldn't be read.
abbrev pub IsStop : List ℕ → List ℕ → Option (List ℕ) → Option Files → Option Files → Status → Type 0
IsStop script transcript last files after (status.ScriptRefused session command why) = HasBytes script after (λ bytes. script_place bytes ≡ Some (session, command, why)) × KeepsAll files after
IsStop script transcript last files after (status.PatternRefused session command) = HasBytes script after (λ bytes. IsPatternRefused bytes last session command) × KeepsAll files after
IsStop script transcript last files after status.LoadFault = IsUnread script transcript files after
IsStop script transcript last files after status.InputTooLong = IsTooLong script transcript after × KeepsAll files after
IsStop script transcript last files after status.TextTooLong = HasBytes script after (λ bytes. IsTextTooLong bytes after) × KeepsAll files after
IsStop script transcript last files after status.NoMemory = KeepsAll files after
IsStop script transcript last files after _ = ⊥

-- so where one of the two files wasn't read
abbrev pub IsFetchStop : List ℕ → List ℕ → Option Files → Option Files → Status → Type 0
IsFetchStop script transcript files after status.LoadFault = (name : List ℕ) × ((name ≡ script) ⊎ (name ≡ transcript)) × KeepsOthers name files after
IsFetchStop script transcript files after status.InputTooLong = (IsLongFile script after ⊎ IsLongFile transcript after) × KeepsAll files after
IsFetchStop script transcript files after status.NoMemory = KeepsAll files after
IsFetchStop script transcript files after _ = ⊥

-- all bytes of both files, the first as they were before the second was read
abbrev pub AreRead : List ℕ → List ℕ → Option Files → Option Files → Result Documents Status → Type 0
AreRead script transcript files after (Ok d) = IsFileOf script files d.script.items × IsFileOf transcript after d.transcript.items × KeepsAll files after
AreRead script transcript files after (Err s) = IsFetchStop script transcript files after s

-- why there is no verdict on a script with these bytes
abbrev pub IsRefusal : List ℕ → Option (List ℕ) → Option Files → Option Files → Status → Type 0
IsRefusal bytes last files after (status.ScriptRefused session command why) = (script_place bytes ≡ Some (session, command, why)) × KeepsAll files after
IsRefusal bytes last files after (status.PatternRefused session command) = IsPatternRefused bytes last session command × KeepsAll files after
IsRefusal bytes last files after status.LoadFault = (name : List ℕ) × IsOpenedBy name bytes × KeepsOthers name files after
IsRefusal bytes last files after status.InputTooLong = IsFileTooLong bytes files × KeepsAll files after
IsRefusal bytes last files after status.TextTooLong = IsTextTooLong bytes files × KeepsAll files after
IsRefusal bytes last files after status.NoMemory = KeepsAll files after
IsRefusal bytes last files after _ = ⊥

-- and over its text
abbrev pub IsRunStop : Script → Option (List ℕ) → Status → Type 0
IsRunStop script last (status.PatternRefused session command) = IsPatternAt script last session command
IsRunStop script last status.NoMemory = Unit {0}
IsRunStop script last _ = ⊥

abbrev pub of_script : ScriptRefusal → Status
of_script (refusal.Refused session command why) = status.ScriptRefused session command why
of_script refusal.NoMemory = status.NoMemory

abbrev pub of_input : InputFault → Status
of_input fault.Failed = status.LoadFault
of_input fault.TooLong = status.InputTooLong
of_input fault.NoMemory = status.NoMemory

abbrev pub of_file : Unloaded → Status
of_file unloaded.Failed = status.LoadFault
of_file unloaded.TooLong = status.InputTooLong
of_file unloaded.TextTooLong = status.TextTooLong
of_file unloaded.NoMemory = status.NoMemory

-- ---- the whole check

-- what a check did outside: the names of its two files, what the maker of matchers tells of patterns and which it refused last, the
-- files that the folder tells before the check and after it, and what the output took before it and after it
pub record Checking : Type 0 where
  pub script : List ℕ
  pub transcript : List ℕ
  pub tells : List ℕ → Option Matches
  pub last : Option (List ℕ)
  pub files : Option Files
  pub files_after : Option Files
  pub before : Option (List ℕ)
  pub after : Option (List ℕ)

-- what a status says of the writing of a verdict
abbrev pub Writes : Status → Verdict → Option (List ℕ) → Option (List ℕ) → Type 0
Writes status.WriteFault v before after = AppendsPrefix (verdict_text v) before after
Writes status.NoMemory v before after = after ≡ before
Writes s v before after = (s ≡ status_of_verdict v) × Appends (verdict_text v) before after

-- this verdict is that on the two files, and no file was changed
abbrev pub IsChecked : Verdict → Checking → Type 0
IsChecked v o = IsVerdictOn o.tells o.script o.transcript o.files_after v × KeepsAll o.files o.files_after

-- there is no verdict, for this reason, and nothing was written
abbrev pub IsStopped : Status → Checking → Type 0
IsStopped s o = IsStop o.script o.transcript o.last o.files o.files_after s × (o.after ≡ o.before)

-- What a status says of what the check did outside. No other status comes.
abbrev pub Checks : Status → Checking → Type 0
Checks status.Done o = IsChecked verdict.Lawful o × Appends (verdict_text verdict.Lawful) o.before o.after
Checks (status.Unlawful where_) o = IsChecked (verdict.Unlawful where_) o × Appends (verdict_text (verdict.Unlawful where_)) o.before o.after
Checks status.WriteFault o = (v : Verdict) × IsChecked v o × AppendsPrefix (verdict_text v) o.before o.after
Checks s o = IsStopped s o

-- ---- what is asked for a verdict

-- a file has no more bytes than are read, and its text no more units than a text may have
abbrev pub IsFitFile : List ℕ → Encoding → Type 0
IsFitFile file encoding = (length file ≤ max_input) × (length (decoded encoding file) ≤ MAX_UNITS)

abbrev pub IsFitOpening : Files → Opening → Type 0
IsFitOpening files (opening.Text text) = Unit {0}
IsFitOpening files (opening.File name encoding) = IsFitFile (bytes_of files name) encoding

-- Both files have no more bytes than are read, the one is a script's, and so is the file that it opens, if it opens one.
pub record IsFit (files : Files) (script transcript : List ℕ) : Type 0 where
  pub script_short : length (bytes_of files script) ≤ max_input
  pub transcript_short : length (bytes_of files transcript) ≤ max_input
  pub of : Script
  pub is_script : script_in (bytes_of files script) ≡ Some of
  pub opening : IsFitOpening files of.opening
