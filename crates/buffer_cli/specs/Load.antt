-- The file that a script opens: what was read of it, and the units that it gives.
use Rattle.std.specs.Prelude.{◌≡◌, ℕ, ◌+◌, ◌<◌, ◌≤◌, List, [], ◌++◌, length, Option, Some, Result, Ok, Err, IfSome, String, Vec, string_bytes}
use Rattle.std.specs.declared.alloc.Global.{Global}
use Rattle.points.specs.Text.{utf16_of}
use Rattle.points.specs.declared.limits.TheConstants.{MAX_UNITS}
use Rattle.outer.specs.Folder.{Files, bytes_of, KeepsOthers, KeepsAll}
use Rattle.machine.specs.declared.command.Opening.{Opening}
use Rattle.machine.specs.declared.command.Opening.TheVariants as opening
use Rattle.machine.specs.declared.command.Script.{Script}
use Rattle.machine.specs.declared.reads.Encoding.{Encoding}
use Rattle.codecs.specs.Decoding.{decoded}
use Rattle.script.specs.ScriptDocument.{script_in}
use Rattle.buffer_cli.specs.Input.{max_input}
use Rattle.buffer_cli.specs.declared.input.InputFault.{InputFault}
use Rattle.buffer_cli.specs.declared.input.InputFault.TheVariants as fault
use Rattle.buffer_cli.specs.declared.load.Unloaded.{Unloaded}
use Rattle.buffer_cli.specs.declared.load.Unloaded.TheVariants as unloaded

-- the units that a script opens with: its own text, or what the bytes of its file are read as, in its encoding
abbrev pub opened_with : Opening → List ℕ → List ℕ
opened_with (opening.Text text) file = utf16_of text
opened_with (opening.File name encoding) file = decoded encoding file

-- all bytes of the file with this name; where the folder tells its files, they are those that the name has
abbrev pub IsFileOf : List ℕ → Option Files → List ℕ → Type 0
IsFileOf name told file = (length file ≤ max_input) × IfSome told (λ files. bytes_of files name ≡ file)

-- of the file that a script opens, if it opens one
abbrev pub IsFile : Opening → Option Files → List ℕ → Type 0
IsFile (opening.Text text) told file = file ≡ []
IsFile (opening.File name encoding) told file = IsFileOf name told file

-- the file with this name has more bytes than are read: one more than the limit were read, where the folder tells its files from the front of those that the name has
pub record IsLongFile (name : List ℕ) (told : Option Files) : Type 0 where
  pub file : List ℕ
  pub over : length file ≡ max_input + 1
  pub front : IfSome told (λ files. (rest : List ℕ) × (bytes_of files name ≡ file ++ rest))

-- the text of the file with this name has more units than a text may have
pub record IsLongText (name : List ℕ) (encoding : Encoding) (told : Option Files) : Type 0 where
  pub file : List ℕ
  pub is : IsFileOf name told file
  pub over : MAX_UNITS < length (decoded encoding file)

-- a text of no more units than it may have was read from that file
pub record IsLoaded (name : List ℕ) (encoding : Encoding) (told : Option Files) (units : List ℕ) : Type 0 where
  pub file : List ℕ
  pub is : IsFileOf name told file
  pub read : units ≡ decoded encoding file
  pub short : length units ≤ MAX_UNITS

-- what a read of the whole file says
abbrev pub IsFetched : List ℕ → Option Files → Option Files → Result (Vec ℕ Global) InputFault → Type 0
IsFetched name before after (Ok v) = IsFileOf name before v.items × KeepsAll before after
IsFetched name before after (Err fault.Failed) = KeepsOthers name before after
IsFetched name before after (Err fault.TooLong) = IsLongFile name before × KeepsAll before after
IsFetched name before after (Err fault.NoMemory) = KeepsAll before after

-- and what the text that is read from it says
abbrev pub Loads : List ℕ → Encoding → Option Files → Option Files → Result (String Global) Unloaded → Type 0
Loads name encoding before after (Ok text) = IsLoaded name encoding before (utf16_of (string_bytes text)) × KeepsAll before after
Loads name encoding before after (Err unloaded.Failed) = KeepsOthers name before after
Loads name encoding before after (Err unloaded.TooLong) = IsLongFile name before × KeepsAll before after
Loads name encoding before after (Err unloaded.TextTooLong) = IsLongText name encoding before × KeepsAll before after
Loads name encoding before after (Err unloaded.NoMemory) = KeepsAll before after

-- the bytes are a script's that opens the file with this name, in this encoding
pub record OpensFile (bytes name : List ℕ) (encoding : Encoding) : Type 0 where
  pub script : Script
  pub read : script_in bytes ≡ Some script
  pub opens : script.opening ≡ opening.File name encoding
