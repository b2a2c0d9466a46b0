-- What a run of the program says: each status with its cause.
use Rattle.std.specs.Prelude.{◌≡◌, ◌⊎◌, ℕ, ◌+◌, ◌≤◌, ◌<◌, nat_lt, List, [], length, Bool, true, false, if◌then◌else◌, Option, Some, None}
use Rattle.outer.specs.Source.{IsAtEnd}
use Rattle.outer.specs.Sink.{Appends, AppendsPrefix}
use Rattle.points.specs.declared.limits.TheConstants.{MAX_UNITS}
use Rattle.outer.specs.Folder.{Files, bytes_of, KeepsOthers, KeepsAll}
use Rattle.std.specs.List.{AllByRecursion}
use Rattle.drafts.specs.Drafts.{KeepsBut}
use Rattle.machine.specs.declared.command.Opening.{Opening}
use Rattle.machine.specs.declared.command.Opening.TheVariants as opening
use Rattle.machine.specs.declared.command.Script.{Script}
use Rattle.machine.specs.declared.reads.Encoding.{Encoding}
use Rattle.machine.specs.declared.reply.Transcript.{Transcript}
use Rattle.machine.specs.Answers.{Matches}
use Rattle.machine.specs.Lawful.{IsLawful}
use Rattle.machine.specs.Machine.{opened}
use Rattle.script.specs.declared.refusal.ScriptRefusal.{ScriptRefusal}
use Rattle.script.specs.declared.refusal.ScriptRefusal.TheVariants as refusal
use Rattle.script.specs.declared.refusal.ScriptRule.{ScriptRule}
use Rattle.script.specs.Limits.{saved_names}
use Rattle.script.specs.ScriptDocument.{document, script_in, script_place}
use Rattle.script.specs.TranscriptDocument.{transcript_value, transcript_text}
use Rattle.buffer_cli.specs.declared.answer.Unanswered.{Unanswered}
use Rattle.buffer_cli.specs.declared.answer.Unanswered.TheVariants as unanswered
use Rattle.buffer_cli.specs.declared.status.Status.{Status}
use Rattle.buffer_cli.specs.declared.status.Status.TheVariants as status
use Rattle.codecs.specs.Decoding.{decoded}
use Rattle.buffer_cli.specs.declared.load.Unloaded.{Unloaded}
use Rattle.buffer_cli.specs.declared.load.Unloaded.TheVariants as unloaded
use Rattle.buffer_cli.specs.Input.{max_input}
use Rattle.buffer_cli.specs.Load.{opened_with, IsFile, IsLongFile, IsLongText, OpensFile}
use Rattle.buffer_cli.specs.Patterns.{told_hits, IsPatternAt}
use Rattle.buffer_cli.specs.Saved.{saved_files, names_saved, names_of, HoldFiles}

-- The text is that of a transcript that is lawful for a script that opens with these units, where these hits are told of its patterns. It
-- has the transcript's JSON value.
pub record IsWritten (script : Script) (opening : List ℕ) (told : List (Option Matches)) (text : List ℕ) : Type 0 where
  pub transcript : Transcript
  pub lawful : IsLawful script opening told transcript
  pub written : text ≡ transcript_text transcript
  pub reads_back : document text ≡ Some (transcript_value transcript)

-- Each name that the script saves under holds the whole encoding of the text that its snapshot had at its taking, where the folder
-- tells its files; the script opens with these units.
abbrev pub AreSaved : Script → List ℕ → Option Files → Type 0
AreSaved script opening told = AllByRecursion (λ cs. HoldFiles (saved_names cs) (saved_files (opened opening) [] cs) told) script.sessions

-- The bytes are a script's, and the text is that of a transcript that is lawful for it over the text that it opened with, by the
-- hits that `tells` tells of its patterns. A script that opens a file opens with what all bytes of that file are read as, in the
-- encoding that it names; these are the bytes that the name had before the run, where the folder tells them. Its saves stand in the
-- folder after the run.
pub record IsAnswer (tells : List ℕ → Option Matches) (files after : Option Files) (bytes text : List ℕ) : Type 0 where
  pub script : Script
  pub read : script_in bytes ≡ Some script
  pub file : List ℕ
  pub opens : IsFile script.opening files file
  pub short : length (opened_with script.opening file) ≤ MAX_UNITS
  pub written : IsWritten script (opened_with script.opening file) (told_hits tells script) text
  pub saved : AreSaved script (opened_with script.opening file) after

-- the bytes are a script's that saves a file
pub record IsSaving (bytes : List ℕ) : Type 0 where
  pub script : Script
  pub read : script_in bytes ≡ Some script
  pub some : 0 < length (names_saved script.sessions)

-- the bytes are a script's that reads a pattern at this place, the one that was refused last where that is told
pub record IsPatternRefused (bytes : List ℕ) (last : Option (List ℕ)) (session command : ℕ) : Type 0 where
  pub script : Script
  pub read : script_in bytes ≡ Some script
  pub at : IsPatternAt script last session command

-- what a run did outside: the bytes that it read, what the input has left, what the maker of matchers tells of patterns and which
-- it refused last, the files that the folder tells before the run and after it, and what the output took before it and after it
pub record Outside : Type 0 where
  pub bytes : List ℕ
  pub left : Option (List ℕ)
  pub tells : List ℕ → Option Matches
  pub last : Option (List ℕ)
  pub files : Option Files
  pub files_after : Option Files
  pub before : Option (List ℕ)
  pub after : Option (List ℕ)

-- the source was read to its end, within the limit
abbrev pub IsWhole : Outside → Type 0
IsWhole o = (length o.bytes ≤ max_input) × IsAtEnd o.left

-- nothing was written
abbrev pub IsUnwritten : Outside → Type 0
IsUnwritten o = o.after ≡ o.before

-- no file was changed
abbrev pub IsUnsaved : Outside → Type 0
IsUnsaved o = KeepsAll o.files o.files_after

-- no file was changed but those that the script saves
abbrev pub IsBeside : Outside → Type 0
IsBeside o = KeepsBut (names_of (script_in o.bytes)) o.files o.files_after

-- neither was anything written nor a file changed
abbrev pub IsUntouched : Outside → Type 0
IsUntouched o = IsUnwritten o × IsUnsaved o

-- the script opens a file, whose reading failed: every other name is as it was
pub record IsUnloaded (o : Outside) : Type 0 where
  pub name : List ℕ
  pub encoding : Encoding
  pub opens : OpensFile o.bytes name encoding
  pub others : KeepsOthers name o.files o.files_after

-- the script opens a file that has too many bytes
pub record IsFileTooLong (bytes : List ℕ) (files : Option Files) : Type 0 where
  pub name : List ℕ
  pub encoding : Encoding
  pub opens : OpensFile bytes name encoding
  pub long : IsLongFile name files

-- the script opens a file whose text has too many units
pub record IsTextTooLong (bytes : List ℕ) (files : Option Files) : Type 0 where
  pub name : List ℕ
  pub encoding : Encoding
  pub opens : OpensFile bytes name encoding
  pub long : IsLongText name encoding files

-- What a status says of what the run did outside.
abbrev pub Explains : Status → Outside → Type 0
Explains status.Done o = IsWhole o × ((text : List ℕ) × IsAnswer o.tells o.files o.files_after o.bytes text × Appends text o.before o.after) × IsBeside o
Explains (status.Unlawful place) o = ⊥
Explains status.Usage o = (o.bytes ≡ []) × IsUntouched o
Explains (status.ScriptRefused session command why) o = IsWhole o × (script_place o.bytes ≡ Some (session, command, why)) × IsUntouched o
Explains status.ReadFault o = (length o.bytes ≤ max_input) × IsUntouched o
Explains status.WriteFault o = IsWhole o × ((text : List ℕ) × IsAnswer o.tells o.files o.files_after o.bytes text × AppendsPrefix text o.before o.after) × IsBeside o
Explains status.SaveFault o = IsWhole o × IsSaving o.bytes × IsUnwritten o × IsBeside o
Explains (status.PatternRefused session command) o = IsWhole o × IsPatternRefused o.bytes o.last session command × IsUntouched o
Explains status.InputTooLong o = ((length o.bytes ≡ max_input + 1) ⊎ (IsWhole o × IsFileTooLong o.bytes o.files)) × IsUntouched o
Explains status.NoMemory o = (length o.bytes ≤ max_input + 1) × IsUnwritten o × IsBeside o
Explains status.LoadFault o = IsWhole o × IsUnloaded o × IsUnwritten o
Explains status.TextTooLong o = IsWhole o × IsTextTooLong o.bytes o.files × IsUntouched o

-- a pattern was refused
abbrev pub refuses_pattern : Status → Bool
refuses_pattern (status.PatternRefused session command) = true
refuses_pattern _ = false

-- the status of a script that opens a file with these bytes, in this encoding
abbrev pub status_of_file : Encoding → List ℕ → Status
status_of_file encoding file = if nat_lt max_input (length file) then status.InputTooLong else (if nat_lt MAX_UNITS (length (decoded encoding file)) then status.TextTooLong else status.Done)

-- the status of a script that breaks no rule: a file gives one where the folder tells its files
abbrev pub status_of_opening : Option Files → Opening → Option Status
status_of_opening told (opening.Text text) = Some status.Done
status_of_opening None (opening.File name encoding) = None
status_of_opening (Some files) (opening.File name encoding) = Some (status_of_file encoding (bytes_of files name))

-- the status of a script, by the place where it is refused
abbrev pub status_of : Option Files → Option (ℕ × ℕ × ScriptRule) → Option Script → Option Status
status_of told (Some place) script = Some (status.ScriptRefused place.0 place.1 place.2)
status_of told None None = Some status.Done
status_of told None (Some script) = status_of_opening told script.opening

-- The status of an input where nothing fails, by the files that the folder tells. There is none where the script opens a file, and
-- the folder tells none.
abbrev pub expected : List ℕ → Option Files → Option Status
expected bytes told = if nat_lt max_input (length bytes) then Some status.InputTooLong else status_of told (script_place bytes) (script_in bytes)

-- Why a script has no answer: the place that breaks a rule, that of a pattern that was refused, the file that it opens, or one that it
-- saves. Every name of the folder is as it was, but for the name of a file whose reading failed, and those of saves that were begun.
abbrev pub IsCause : List ℕ → Option (List ℕ) → Option Files → Option Files → Unanswered → Type 0
IsCause bytes last files after (unanswered.ScriptRefused session command why) = (script_place bytes ≡ Some (session, command, why)) × KeepsAll files after
IsCause bytes last files after (unanswered.PatternRefused session command) = IsPatternRefused bytes last session command × KeepsAll files after
IsCause bytes last files after unanswered.LoadFault = (name : List ℕ) × (encoding : Encoding) × OpensFile bytes name encoding × KeepsOthers name files after
IsCause bytes last files after unanswered.InputTooLong = IsFileTooLong bytes files × KeepsAll files after
IsCause bytes last files after unanswered.TextTooLong = IsTextTooLong bytes files × KeepsAll files after
IsCause bytes last files after unanswered.SaveFault = IsSaving bytes × KeepsBut (names_of (script_in bytes)) files after
IsCause bytes last files after unanswered.NoMemory = KeepsBut (names_of (script_in bytes)) files after

-- why a script that was read, over its text, has no answer
abbrev pub IsRunCause : Script → Option (List ℕ) → Option Files → Option Files → Unanswered → Type 0
IsRunCause script last files after (unanswered.PatternRefused session command) = IsPatternAt script last session command × KeepsAll files after
IsRunCause script last files after unanswered.SaveFault = (0 < length (names_saved script.sessions)) × KeepsBut (names_saved script.sessions) files after
IsRunCause script last files after unanswered.NoMemory = KeepsBut (names_saved script.sessions) files after
IsRunCause script last files after _ = ⊥

-- it was a pattern
abbrev pub is_of_pattern : Unanswered → Bool
is_of_pattern (unanswered.PatternRefused session command) = true
is_of_pattern _ = false

abbrev pub of_script : ScriptRefusal → Unanswered
of_script (refusal.Refused session command why) = unanswered.ScriptRefused session command why
of_script refusal.NoMemory = unanswered.NoMemory

abbrev pub of_file : Unloaded → Unanswered
of_file unloaded.Failed = unanswered.LoadFault
of_file unloaded.TooLong = unanswered.InputTooLong
of_file unloaded.TextTooLong = unanswered.TextTooLong
of_file unloaded.NoMemory = unanswered.NoMemory

abbrev pub of_answer : Unanswered → Status
of_answer (unanswered.ScriptRefused session command why) = status.ScriptRefused session command why
of_answer (unanswered.PatternRefused session command) = status.PatternRefused session command
of_answer unanswered.SaveFault = status.SaveFault
of_answer unanswered.LoadFault = status.LoadFault
of_answer unanswered.InputTooLong = status.InputTooLong
of_answer unanswered.TextTooLong = status.TextTooLong
of_answer unanswered.NoMemory = status.NoMemory
