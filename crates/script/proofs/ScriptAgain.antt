-- A script of what is built is read again from its JSON value.
use Rattle.std.proofs.Common.{◌≡◌, ◌+◌, ◌≤◌, ℕ, List, [], ◌∷◌, length, map, Some, refl, arith}
use Rattle.std.specs.List.{AllByRecursion}
use Rattle.std.proofs.lemmas.Bool.{le-leb}
use Rattle.points.specs.declared.limits.TheConstants.{MAX_COORD}
use Rattle.points.specs.declared.point.Point.{Point}
use Rattle.points.specs.declared.range.Range.{Range}
use Rattle.machine.specs.declared.command.Command.{Command}
use Rattle.machine.specs.declared.command.Command.TheVariants as command
use Rattle.machine.specs.declared.command.How.{How}
use Rattle.machine.specs.declared.command.How.TheVariants as how
use Rattle.machine.specs.declared.reads.Read.{Read}
use Rattle.machine.specs.declared.reads.Read.TheVariants as read
use Rattle.machine.specs.declared.command.Opening.{Opening}
use Rattle.machine.specs.declared.command.Opening.TheVariants as opening
use Rattle.machine.specs.declared.command.Script.{Script}
use Rattle.machine.specs.declared.reads.Encoding.{Encoding}
use Rattle.machine.specs.declared.reads.Encoding.TheVariants as encoding
use Rattle.script.specs.Limits.{IsRangeWithin, IsReadableRead, IsReadable}
use Rattle.script.specs.declared.limits.TheConstants.{MAX_SHOWN, MAX_HITS, MAX_ID}
use Rattle.script.specs.Parts.{within, coordinate, point_from, range_of}
use Rattle.script.specs.ScriptDocument.{edit_of, look_of, ranged_of, bare_of, unmark_of, mark_range_of, exclusive_of, compare_of, mark_of, how_of, marks_of, watch_of, unwatch_of, on_marks_of, size_of, look_read_of, find_of, pattern_of, save_of, read_of, reads_of, take_of, asking_of, release_of, on_snapshots_of, on_text_of, command_of, commands_of, session_of, sessions_of, encoding_of, text_opening_of, file_opening_of, opening_of, reading}
use Rattle.script.specs.ScriptValue.{encoding_word, how_word, read_value, range_value, command_value, session_value, opening_value, script_value}
use Rattle.script.specs.TranscriptDocument.{list_value}
use Rattle.script.proofs.Counting.{range_in_order}
use Rattle.script.proofs.Readable.{IsReadableScript}
use Rattle.serde_json.specs.Data.{Data}
use Rattle.serde_json.specs.View.{items_of}

within_le : (limit n : ℕ) → n ≤ limit → within limit n ≡ Some n
within_le limit n le = rw (le-leb n limit le)

point_again : (d : Data) (i : ℕ) (p : Point) → coordinate d i ≡ Some p.row → coordinate d (i + 1) ≡ Some p.column → point_from d i ≡ Some p
point_again d i p row column = rw (row, column) refl

pub range_again : (r : Range) → IsRangeWithin r → range_of (range_value r) ≡ Some r
unfolding range_of
range_again r h =
    let start = point_again (range_value r) 0 r.start (within_le MAX_COORD r.start.row h.start.row) (within_le MAX_COORD r.start.column h.start.column) in
    let end = point_again (range_value r) 2 r.end (within_le MAX_COORD r.end.row h.end.row) (within_le MAX_COORD r.end.column h.end.column) in
    rw (start, end) (range_in_order r.start r.end r.ordered)

how_again : (h : How) → how_of (how_word h) ≡ Some h
unfolding how_of
how_again how.Intersecting = refl
how_again how.Containing = refl
how_again how.ContainedIn = refl
how_again how.StartingIn = refl
how_again how.StartingAt = refl
how_again how.EndingIn = refl
how_again how.EndingAt = refl

encoding_again : (e : Encoding) → encoding_of (encoding_word e) ≡ Some e
unfolding encoding_of
encoding_again encoding.Utf8 = refl
encoding_again encoding.Utf16Le = refl
encoding_again encoding.Utf16Be = refl
encoding_again encoding.Latin1 = refl

read_again : (r : Read) → IsReadableRead r → read_of (read_value r) ≡ Some r
unfolding read_of size_of look_read_of find_of pattern_of save_of
read_again read.Size h = refl
read_again (read.Text range limit) h = rw (range_again range h.0, le-leb limit MAX_SHOWN h.1) refl
read_again (read.Find needle limit) h = rw (le-leb limit MAX_HITS h) refl
read_again (read.Pattern pattern limit) h = rw (le-leb limit MAX_HITS h) refl
read_again (read.Save name e) h = rw (encoding_again e) refl

reads_again : (rs : List Read) → AllByRecursion IsReadableRead rs → reads_of (items_of (map read_value rs)) ≡ Some rs
reads_again [] h = refl
reads_again (r ∷ rs) h = rw (read_again r h.0, reads_again rs h.1) refl

command_again : (c : Command) → IsReadable c → command_of (command_value c) ≡ Some c
unfolding command_of on_text_of on_marks_of ranged_of bare_of edit_of look_of unmark_of mark_range_of exclusive_of compare_of mark_of marks_of watch_of unwatch_of on_snapshots_of take_of asking_of release_of
command_again (command.Edit range text) h = rw (range_again range h) refl
command_again (command.Text range limit) h = rw (range_again range h.0, le-leb limit MAX_SHOWN h.1) refl
command_again command.Undo h = refl
command_again command.Redo h = refl
command_again command.Squash h = refl
command_again (command.Unmark id) h = rw (le-leb id MAX_ID h) refl
command_again (command.Range id) h = rw (le-leb id MAX_ID h) refl
command_again (command.Exclusive id value) h = rw (le-leb id MAX_ID h) refl
command_again (command.Compare a b) h = rw (le-leb a MAX_ID h.0, le-leb b MAX_ID h.1) refl
command_again (command.Mark id range exclusive) h = rw (le-leb id MAX_ID h.0, range_again range h.1) refl
command_again (command.Marks how range) h = rw (how_again how, range_again range h) refl
command_again (command.Watch id) h = rw (le-leb id MAX_ID h) refl
command_again (command.Unwatch id) h = rw (le-leb id MAX_ID h) refl
command_again (command.Take snapshot) h = rw (le-leb snapshot MAX_ID h) refl
command_again (command.Read snapshot reads) h = rw (le-leb snapshot MAX_ID h.0, reads_again reads h.1) refl
command_again (command.Send snapshot reads) h = rw (le-leb snapshot MAX_ID h.0, reads_again reads h.1) refl
command_again (command.Release snapshot) h = rw (le-leb snapshot MAX_ID h) refl
command_again c h = absurd h

commands_again : (cs : List Command) → AllByRecursion IsReadable cs → commands_of (items_of (map command_value cs)) ≡ Some cs
commands_again [] h = refl
commands_again (c ∷ cs) h = rw (command_again c h.0, commands_again cs h.1) refl

session_again : (cs : List Command) → AllByRecursion IsReadable cs → session_of (session_value cs) ≡ Some cs
unfolding session_of
session_again cs h = commands_again cs h

sessions_again : (sessions : List (List Command)) → length sessions ≡ 1 → AllByRecursion (AllByRecursion IsReadable) sessions → sessions_of (list_value session_value sessions) ≡ Some sessions
unfolding sessions_of
sessions_again [] one h = absurd (omega arith)
sessions_again (cs ∷ []) one h = rw (session_again cs h.0) refl
sessions_again (cs ∷ ds ∷ rest) one h = absurd (omega arith)

opening_again : (o : Opening) → opening_of (opening_value o) ≡ Some o
unfolding opening_of text_opening_of file_opening_of
opening_again (opening.Text text) = refl
opening_again (opening.File name e) = rw (encoding_again e) refl

pub reading_again : (s : Script) → IsReadableScript s → reading (script_value s) ≡ Some s
unfolding reading
reading_again s h = rw (h.version, opening_again s.opening, sessions_again s.sessions h.one h.commands) refl
