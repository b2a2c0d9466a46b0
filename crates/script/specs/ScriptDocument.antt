-- Which JSON values are scripts, and which script each is.
use Rattle.std.specs.Prelude.{◌≡◌, ℕ, ◌==◌, ◌&&◌, List, [], ◌∷◌, codes, if◌then◌else◌, Option, Some, None, is_some, option_map, option_and_then}
use Rattle.std.specs.Str.{is_utf8, bytes_eq}
use Rattle.machine.specs.declared.command.Command.{Command}
use Rattle.machine.specs.declared.command.Command.TheVariants as command
use Rattle.machine.specs.declared.command.How.{How}
use Rattle.machine.specs.declared.command.How.TheVariants as how
use Rattle.machine.specs.declared.command.Opening.{Opening}
use Rattle.machine.specs.declared.command.Opening.TheVariants as opening
use Rattle.machine.specs.declared.command.Script.{Script}
use Rattle.machine.specs.declared.reads.Encoding.{Encoding}
use Rattle.machine.specs.declared.reads.Encoding.TheVariants as encoding
use Rattle.machine.specs.declared.reads.Read.{Read}
use Rattle.machine.specs.declared.reads.Read.TheVariants as read
use Rattle.script.specs.declared.refusal.ScriptRefusal.{ScriptRefusal}
use Rattle.script.specs.declared.refusal.ScriptRefusal.TheVariants.{Refused, NoMemory}
use Rattle.script.specs.declared.refusal.ScriptRule.TheVariants.{NotJson}
use Rattle.script.specs.Parts.{member_count, item_count, string_in, whole_in, flag_in, is_word, range_in}
use Rattle.script.specs.declared.limits.TheConstants.{MAX_SHOWN, MAX_HITS, MAX_ID}
use Rattle.script.specs.Rules.{Fault, is_on_marks, is_on_snapshots, is_version_one, built_place}
use Rattle.serde_json.specs.Data.{Data, Items, no_items, item}
use Rattle.serde_json.specs.Find.{get, at, as_array}
use Rattle.serde_json.specs.Read as json

-- ---- reading: a case for each word that is built

unfoldable pub edit_of : Data → Option Command
edit_of d = option_and_then (λ range. option_map (command.Edit range) (string_in (codes "text") d)) (range_in d)

unfoldable pub look_of : Data → Option Command
look_of d = option_and_then (λ range. option_map (command.Text range) (whole_in MAX_SHOWN (codes "limit") d)) (range_in d)

-- with two members beside the word, one a range
unfoldable pub ranged_of : Data → Option Command
ranged_of d =
    if is_word (string_in (codes "do") d) (codes "edit") then edit_of d
    else (if is_word (string_in (codes "do") d) (codes "text") then look_of d else None)

-- with no member beside the word
unfoldable pub bare_of : Data → Option Command
bare_of d =
    if is_word (string_in (codes "do") d) (codes "undo") then Some command.Undo
    else (if is_word (string_in (codes "do") d) (codes "redo") then Some command.Redo
    else (if is_word (string_in (codes "do") d) (codes "squash") then Some command.Squash else None))

-- on marks, each with the members that its word asks for
unfoldable pub unmark_of : Data → Option Command
unmark_of d = if member_count d == 2 then option_map command.Unmark (whole_in MAX_ID (codes "id") d) else None

unfoldable pub mark_range_of : Data → Option Command
mark_range_of d = if member_count d == 2 then option_map command.Range (whole_in MAX_ID (codes "id") d) else None

unfoldable pub exclusive_of : Data → Option Command
exclusive_of d = if member_count d == 3 then option_and_then (λ id. option_map (command.Exclusive id) (flag_in (codes "value") d)) (whole_in MAX_ID (codes "id") d) else None

unfoldable pub compare_of : Data → Option Command
compare_of d = if member_count d == 3 then option_and_then (λ a. option_map (command.Compare a) (whole_in MAX_ID (codes "b") d)) (whole_in MAX_ID (codes "a") d) else None

unfoldable pub mark_of : Data → Option Command
mark_of d = if member_count d == 4 then option_and_then (λ id. option_and_then (λ range. option_map (command.Mark id range) (flag_in (codes "exclusive") d)) (range_in d)) (whole_in MAX_ID (codes "id") d) else None

-- the marks that stand so to a range
unfoldable pub how_of : List ℕ → Option How
how_of s =
    if bytes_eq s (codes "intersecting") then Some how.Intersecting
    else (if bytes_eq s (codes "containing") then Some how.Containing
    else (if bytes_eq s (codes "contained_in") then Some how.ContainedIn
    else (if bytes_eq s (codes "starting_in") then Some how.StartingIn
    else (if bytes_eq s (codes "starting_at") then Some how.StartingAt
    else (if bytes_eq s (codes "ending_in") then Some how.EndingIn
    else (if bytes_eq s (codes "ending_at") then Some how.EndingAt else None))))))

unfoldable pub marks_of : Data → Option Command
marks_of d = if member_count d == 3 then option_and_then (λ h. option_map (command.Marks h) (range_in d)) (option_and_then how_of (string_in (codes "how") d)) else None

unfoldable pub watch_of : Data → Option Command
watch_of d = if member_count d == 2 then option_map command.Watch (whole_in MAX_ID (codes "id") d) else None

unfoldable pub unwatch_of : Data → Option Command
unwatch_of d = if member_count d == 2 then option_map command.Unwatch (whole_in MAX_ID (codes "id") d) else None

unfoldable pub on_marks_of : Data → Option Command
on_marks_of d =
    if is_word (string_in (codes "do") d) (codes "unmark") then unmark_of d
    else (if is_word (string_in (codes "do") d) (codes "range") then mark_range_of d
    else (if is_word (string_in (codes "do") d) (codes "exclusive") then exclusive_of d
    else (if is_word (string_in (codes "do") d) (codes "compare") then compare_of d
    else (if is_word (string_in (codes "do") d) (codes "mark") then mark_of d
    else (if is_word (string_in (codes "do") d) (codes "marks") then marks_of d
    else (if is_word (string_in (codes "do") d) (codes "watch") then watch_of d
    else (if is_word (string_in (codes "do") d) (codes "unwatch") then unwatch_of d else None)))))))

-- the encoding with a word
unfoldable pub encoding_of : List ℕ → Option Encoding
encoding_of s =
    if bytes_eq s (codes "utf8") then Some encoding.Utf8
    else (if bytes_eq s (codes "utf16le") then Some encoding.Utf16Le
    else (if bytes_eq s (codes "utf16be") then Some encoding.Utf16Be
    else (if bytes_eq s (codes "latin1") then Some encoding.Latin1 else None)))

abbrev pub encoding_in : Data → Option Encoding
encoding_in d = option_and_then encoding_of (string_in (codes "encoding") d)

-- a read: an object with `get` and the members that its word asks for
unfoldable pub size_of : Data → Option Read
size_of d = if member_count d == 1 then Some read.Size else None

unfoldable pub look_read_of : Data → Option Read
look_read_of d = if member_count d == 3 then option_and_then (λ range. option_map (read.Text range) (whole_in MAX_SHOWN (codes "limit") d)) (range_in d) else None

unfoldable pub find_of : Data → Option Read
find_of d = if member_count d == 3 then option_and_then (λ needle. option_map (read.Find needle) (whole_in MAX_HITS (codes "limit") d)) (string_in (codes "needle") d) else None

unfoldable pub pattern_of : Data → Option Read
pattern_of d = if member_count d == 3 then option_and_then (λ pattern. option_map (read.Pattern pattern) (whole_in MAX_HITS (codes "limit") d)) (string_in (codes "pattern") d) else None

unfoldable pub save_of : Data → Option Read
save_of d = if member_count d == 3 then option_and_then (λ e. option_map (λ name. read.Save name e) (string_in (codes "name") d)) (encoding_in d) else None

unfoldable pub read_of : Data → Option Read
read_of d =
    if is_word (string_in (codes "get") d) (codes "size") then size_of d
    else (if is_word (string_in (codes "get") d) (codes "text") then look_read_of d
    else (if is_word (string_in (codes "get") d) (codes "find") then find_of d
    else (if is_word (string_in (codes "get") d) (codes "pattern") then pattern_of d
    else (if is_word (string_in (codes "get") d) (codes "save") then save_of d else None))))

abbrev pub reads_of : Items → Option (List Read)
reads_of no_items = Some []
reads_of (item d ds) = option_and_then (λ r. option_map (λ rs. r ∷ rs) (reads_of ds)) (read_of d)

-- on snapshots, each with the members that its word asks for
unfoldable pub take_of : Data → Option Command
take_of d = if member_count d == 2 then option_map command.Take (whole_in MAX_ID (codes "snapshot") d) else None

unfoldable pub release_of : Data → Option Command
release_of d = if member_count d == 2 then option_map command.Release (whole_in MAX_ID (codes "snapshot") d) else None

abbrev pub listed_reads : Data → Option (List Read)
listed_reads d = option_and_then reads_of (option_and_then as_array (get (codes "reads") d))

-- a number and reads, for a `read` or a `send`
unfoldable pub asking_of : Data → Option (ℕ × List Read)
asking_of d = if member_count d == 3 then option_and_then (λ k. option_map (λ rs. (k, rs)) (listed_reads d)) (whole_in MAX_ID (codes "snapshot") d) else None

unfoldable pub on_snapshots_of : Data → Option Command
on_snapshots_of d =
    if is_word (string_in (codes "do") d) (codes "take") then take_of d
    else (if is_word (string_in (codes "do") d) (codes "read") then option_map (λ a. command.Read a.0 a.1) (asking_of d)
    else (if is_word (string_in (codes "do") d) (codes "send") then option_map (λ a. command.Send a.0 a.1) (asking_of d)
    else (if is_word (string_in (codes "do") d) (codes "release") then release_of d else None)))

-- on the text and its steps
unfoldable pub on_text_of : Data → Option Command
on_text_of d = if member_count d == 3 then ranged_of d else (if member_count d == 1 then bare_of d else None)

-- a command: an object with `do` and the members that its word asks for
unfoldable pub command_of : Data → Option Command
command_of d = if is_on_marks d then on_marks_of d else (if is_on_snapshots d then on_snapshots_of d else on_text_of d)

abbrev pub commands_of : Items → Option (List Command)
commands_of no_items = Some []
commands_of (item d ds) = option_and_then (λ c. option_map (λ cs. c ∷ cs) (commands_of ds)) (command_of d)

unfoldable pub session_of : Data → Option (List Command)
session_of d = option_and_then commands_of (as_array d)

-- the sessions: a list of one session
unfoldable pub sessions_of : Data → Option (List (List Command))
sessions_of d = if item_count d == 1 then option_map (λ session. session ∷ []) (option_and_then session_of (at 0 d)) else None

-- what a script opens: an object with the one member `text`, or with the two members `file` and `encoding`
unfoldable pub text_opening_of : Data → Option Opening
text_opening_of d = if member_count d == 1 then option_map opening.Text (string_in (codes "text") d) else None

unfoldable pub file_opening_of : Data → Option Opening
file_opening_of d = if member_count d == 2 then option_and_then (λ e. option_map (λ name. opening.File name e) (string_in (codes "file") d)) (encoding_in d) else None

unfoldable pub opening_of : Data → Option Opening
opening_of d = if is_some (get (codes "text") d) then text_opening_of d else file_opening_of d

-- the script that a JSON value reads as: an object with the three members `version`, which is 1, `open` and `sessions`
unfoldable pub reading : Data → Option Script
reading d = if (member_count d == 3) && is_version_one d then option_and_then (λ o. option_map (λ sessions. record { version = 1; opening = o; sessions = sessions }) (option_and_then sessions_of (get (codes "sessions") d))) (option_and_then opening_of (get (codes "open") d)) else None

-- the script that a JSON value is: the one that it reads as, where no place breaks a rule
unfoldable pub script_of : Data → Option Script
script_of d = if is_some (built_place d) then None else reading d

-- the opening of a script, and the commands of its session, where the document has the shape of what is built
abbrev pub session_in : Data → Option Items
session_in d = if item_count d == 1 then option_and_then as_array (at 0 d) else None

unfoldable pub head_of : Data → Option (Data × Items)
head_of d = if (member_count d == 3) && is_version_one d then option_and_then (λ o. option_map (λ ds. (o, ds)) (option_and_then session_in (get (codes "sessions") d))) (get (codes "open") d) else None

-- ---- from bytes to a script

-- the JSON value of a document: UTF-8 that is one JSON value
unfoldable pub document : List ℕ → Option Data
document bytes = if is_utf8 bytes then json.read bytes else None

-- the script that these bytes are
abbrev pub script_in : List ℕ → Option Script
script_in bytes = option_and_then script_of (document bytes)

-- The fault that is told: NotJson where the bytes hold no value, and else the first place that breaks a rule, what isn't built with them.
abbrev pub place_in : Option Data → Option Fault
place_in None = Some (0, 0, NotJson)
place_in (Some d) = built_place d

abbrev pub script_place : List ℕ → Option Fault
script_place bytes = place_in (document bytes)

-- a script was refused there, or memory ran out
abbrev pub IsRefusalAt : Option Fault → ScriptRefusal → Type 0
IsRefusalAt place (Refused session command why) = place ≡ Some (session, command, why)
IsRefusalAt place NoMemory = Unit {0}
