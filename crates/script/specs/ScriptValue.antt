-- The JSON value of a script, and the scripts that break no rule.
use Rattle.std.specs.Prelude.{◌≡◌, ℕ, List, ◌&&◌, ◌==◌, length, codes, Bool, None}
use Rattle.std.specs.List.{list_all}
use Rattle.points.specs.declared.range.Range.{Range}
use Rattle.machine.specs.declared.command.BatchEdit.{BatchEdit}
use Rattle.machine.specs.declared.command.Command.{Command}
use Rattle.machine.specs.declared.command.Command.TheVariants as command
use Rattle.machine.specs.declared.command.How.{How}
use Rattle.machine.specs.declared.command.How.TheVariants as how
use Rattle.machine.specs.declared.command.Opening.{Opening}
use Rattle.machine.specs.declared.command.Opening.TheVariants as opening
use Rattle.machine.specs.declared.command.Script.{Script}
use Rattle.machine.specs.declared.reads.Encoding.{Encoding}
use Rattle.machine.specs.declared.reads.Encoding.TheVariants as encoding
use Rattle.machine.specs.declared.reads.Read.{Read}
use Rattle.machine.specs.declared.reads.Read.TheVariants as read
use Rattle.script.specs.Limits.{has_built_word}
use Rattle.script.specs.Rules.{value_place}
use Rattle.script.specs.TranscriptDocument.{whole, list_value}
use Rattle.serde_json.specs.Data.{Data, boolean, string, array, object, no_items, item, Members, no_members, member}

-- a range: the row and the column of its start and of its end
abbrev pub range_value : Range → Data
range_value r = array (item (whole r.start.row) (item (whole r.start.column) (item (whole r.end.row) (item (whole r.end.column) no_items))))

abbrev pub encoding_word : Encoding → List ℕ
encoding_word encoding.Utf8 = codes "utf8"
encoding_word encoding.Utf16Le = codes "utf16le"
encoding_word encoding.Utf16Be = codes "utf16be"
encoding_word encoding.Latin1 = codes "latin1"

abbrev pub how_word : How → List ℕ
how_word how.Intersecting = codes "intersecting"
how_word how.Containing = codes "containing"
how_word how.ContainedIn = codes "contained_in"
how_word how.StartingIn = codes "starting_in"
how_word how.StartingAt = codes "starting_at"
how_word how.EndingIn = codes "ending_in"
how_word how.EndingAt = codes "ending_at"

abbrev pub batch_edit_value : BatchEdit → Data
batch_edit_value e = object (member (codes "range") (range_value e.range) (member (codes "text") (string e.text) no_members))

-- one case a read, with the keys in the order of their bytes
abbrev pub read_value : Read → Data
read_value read.Size = object (member (codes "get") (string (codes "size")) no_members)
read_value (read.Text range limit) = object (member (codes "get") (string (codes "text")) (member (codes "limit") (whole limit) (member (codes "range") (range_value range) no_members)))
read_value (read.Find needle limit) = object (member (codes "get") (string (codes "find")) (member (codes "limit") (whole limit) (member (codes "needle") (string needle) no_members)))
read_value (read.Pattern pattern limit) = object (member (codes "get") (string (codes "pattern")) (member (codes "limit") (whole limit) (member (codes "pattern") (string pattern) no_members)))
read_value (read.Save name e) = object (member (codes "encoding") (string (encoding_word e)) (member (codes "get") (string (codes "save")) (member (codes "name") (string name) no_members)))

-- a command whose word comes first
abbrev pub doing : List ℕ → Members → Data
doing word ms = object (member (codes "do") (string word) ms)

-- one case a command, with the keys in the order of their bytes
abbrev pub command_value : Command → Data
command_value (command.Edit range text) = doing (codes "edit") (member (codes "range") (range_value range) (member (codes "text") (string text) no_members))
command_value (command.Batch edits) = doing (codes "batch") (member (codes "edits") (list_value batch_edit_value edits) no_members)
command_value command.Undo = doing (codes "undo") no_members
command_value command.Redo = doing (codes "redo") no_members
command_value (command.Text range limit) = doing (codes "text") (member (codes "limit") (whole limit) (member (codes "range") (range_value range) no_members))
command_value (command.Mark id range exclusive) = doing (codes "mark") (member (codes "exclusive") (boolean exclusive) (member (codes "id") (whole id) (member (codes "range") (range_value range) no_members)))
command_value (command.Unmark id) = doing (codes "unmark") (member (codes "id") (whole id) no_members)
command_value (command.Exclusive id value) = doing (codes "exclusive") (member (codes "id") (whole id) (member (codes "value") (boolean value) no_members))
command_value (command.Range id) = doing (codes "range") (member (codes "id") (whole id) no_members)
command_value (command.Marks h range) = doing (codes "marks") (member (codes "how") (string (how_word h)) (member (codes "range") (range_value range) no_members))
command_value (command.Compare a b) = object (member (codes "a") (whole a) (member (codes "b") (whole b) (member (codes "do") (string (codes "compare")) no_members)))
command_value (command.Watch id) = doing (codes "watch") (member (codes "id") (whole id) no_members)
command_value (command.Unwatch id) = doing (codes "unwatch") (member (codes "id") (whole id) no_members)
command_value (command.Take snapshot) = doing (codes "take") (member (codes "snapshot") (whole snapshot) no_members)
command_value (command.Read snapshot reads) = doing (codes "read") (member (codes "reads") (list_value read_value reads) (member (codes "snapshot") (whole snapshot) no_members))
command_value (command.Send snapshot reads) = doing (codes "send") (member (codes "reads") (list_value read_value reads) (member (codes "snapshot") (whole snapshot) no_members))
command_value (command.Release snapshot) = doing (codes "release") (member (codes "snapshot") (whole snapshot) no_members)
command_value command.Squash = doing (codes "squash") no_members

-- a session: its commands
abbrev pub session_value : List Command → Data
session_value cs = list_value command_value cs

abbrev pub opening_value : Opening → Data
opening_value (opening.Text text) = object (member (codes "text") (string text) no_members)
opening_value (opening.File name e) = object (member (codes "encoding") (string (encoding_word e)) (member (codes "file") (string name) no_members))

-- the JSON value of a script
abbrev pub script_value : Script → Data
script_value s =
    object (member (codes "open") (opening_value s.opening) (member (codes "sessions") (list_value session_value s.sessions)
    (member (codes "version") (whole s.version) no_members)))

-- a script breaks no rule: its value has no place that does
abbrev pub BreaksNoRule : Script → Type 0
BreaksNoRule s = value_place (script_value s) ≡ None

-- a script of what is built: one session, of commands whose words are built
abbrev pub is_built : Script → Bool
is_built s = (length s.sessions == 1) && list_all (list_all has_built_word) s.sessions
