-- The plain machine's calls and answers in the words of commands and replies, and what the reads of a snapshot answer.
use Rattle.std.specs.Prelude.{ℕ, ◌+◌, ◌-◌, ◌==◌, List, [], ◌∷◌, length, map, take, if◌then◌else◌, Option, Some, None}
use Rattle.points.specs.declared.point.Point.{Point}
use Rattle.points.specs.declared.mark.HitCounts.{HitCounts}
use Rattle.points.specs.Text.{utf16_of, text_of}
use Rattle.points.specs.Place.{point_at, extent, span}
use Rattle.machine.specs.declared.command.BatchEdit.{BatchEdit}
use Rattle.machine.specs.declared.command.Command.{Command}
use Rattle.machine.specs.declared.command.Command.TheVariants as command
use Rattle.machine.specs.declared.command.Opening.{Opening}
use Rattle.machine.specs.declared.command.Opening.TheVariants as opening
use Rattle.machine.specs.declared.reads.Read.{Read}
use Rattle.machine.specs.declared.reads.Read.TheVariants as read
use Rattle.machine.specs.declared.reads.ReadAnswer.{ReadAnswer}
use Rattle.machine.specs.declared.reads.ReadAnswer.TheVariants as answer
use Rattle.machine.specs.declared.reply.HitNumbers.{HitNumbers}
use Rattle.machine.specs.declared.reply.ReplyPart.{ReplyPart}
use Rattle.machine.specs.declared.reply.Reply.{Reply}
use Rattle.machine.specs.declared.reply.Reply.TheVariants as reply
use Rattle.machine.specs.declared.reply.Span.{Span}
use Rattle.machine.specs.Machine.{Part, Call, Answer, Edit, no_hits, edit, batch, undo, redo, look, add_mark, remove_mark, set_exclusive, mark_range, find_marks, compare_marks, watch, unwatch, Edited, Batched, Shown, Done, Ranged, Found, Compared, Heard, Refused, shown, between}
use Rattle.points.specs.Literal.{hits}
use Rattle.machine.specs.Encodings.{encode}

-- the edit that a member of a batch makes
abbrev pub edit_of : BatchEdit → Edit
edit_of e = (e.range, utf16_of e.text)

-- the numbered call that a command makes, where it makes one
abbrev pub call_of : Command → Option Call
call_of (command.Edit range new) = Some (edit (range, utf16_of new))
call_of (command.Batch edits) = Some (batch (map edit_of edits))
call_of command.Undo = Some undo
call_of command.Redo = Some redo
call_of (command.Text range limit) = Some (look range limit)
call_of (command.Mark id range exclusive) = Some (add_mark id range exclusive)
call_of (command.Unmark id) = Some (remove_mark id)
call_of (command.Exclusive id value) = Some (set_exclusive id value)
call_of (command.Range id) = Some (mark_range id)
call_of (command.Marks how range) = Some (find_marks how range)
call_of (command.Compare a b) = Some (compare_marks a b)
call_of (command.Watch id) = Some (watch id)
call_of (command.Unwatch id) = Some (unwatch id)
call_of (command.Take snapshot) = None
call_of (command.Read snapshot reads) = None
call_of (command.Send snapshot reads) = None
call_of (command.Release snapshot) = None
call_of command.Squash = None

abbrev pub hit_numbers : HitCounts → HitNumbers
hit_numbers h = record { touch = h.touch; inside = h.inside; overlap = h.overlap; surround = h.surround }

abbrev pub reply_part : Part → ReplyPart
reply_part p = record { end = p.end; from = p.from; hits = hit_numbers p.hits; to = p.to }

abbrev pub edited_reply : ℕ → Part → Reply
edited_reply at p = reply.Edited at p.end p.from (hit_numbers p.hits) p.to

-- the one part of an undo or a redo in a script of version 1; there always is one
abbrev pub first_part : List Part → Part
first_part [] = let p : Point = record { row = 0; column = 0 } in record { from = p; to = p; end = p; hits = no_hits }
first_part (p ∷ ps) = p

-- changes under one number: in version 1 in the form of an edit's reply, else as a list
abbrev pub batched_reply : ℕ → ℕ → List Part → Reply
batched_reply version at ps = if version == 1 then edited_reply at (first_part ps) else reply.Batched at (map reply_part ps)

-- the reply to the call with this number, in a transcript of this version
abbrev pub reply_of : ℕ → ℕ → Answer → Reply
reply_of version at (Edited p) = edited_reply at p
reply_of version at (Batched ps) = batched_reply version at ps
reply_of version at (Shown units n) = reply.Text at (text_of units) n
reply_of version at Done = reply.Numbered at
reply_of version at (Ranged start end exclusive) = reply.Range at exclusive (record { start = start; end = end })
reply_of version at (Found ids) = reply.Marks at ids
reply_of version at (Compared order) = reply.Order at order
reply_of version at (Heard heard) = reply.Heard at heard
reply_of version at (Refused why) = reply.Refused at why

-- the units that a script opens with, where it opens with a text
abbrev pub opening_text : Opening → Option (List ℕ)
opening_text (opening.Text bytes) = Some (utf16_of bytes)
opening_text (opening.File name encoding) = None

-- the number of the call that a reply answers, where it answers one
abbrev pub number_of : Reply → Option ℕ
number_of (reply.Edited at end from hits to) = Some at
number_of (reply.Batched at edits) = Some at
number_of (reply.Text at text units) = Some at
number_of (reply.Numbered at) = Some at
number_of (reply.Range at exclusive range) = Some at
number_of (reply.Marks at ids) = Some at
number_of (reply.Order at order) = Some at
number_of (reply.Heard at heard) = Some at
number_of (reply.Refused at why) = Some at
number_of (reply.Taken version) = None
number_of (reply.Answered answers) = None
number_of reply.Nothing = None

-- the hits of a pattern: for the bytes of a text in UTF-8, each hit as the byte offsets of its start and its end
abbrev pub Matches : Type 0
Matches = List ℕ → List (ℕ × ℕ)

-- the point of a byte offset in the bytes of a text in UTF-8
abbrev pub point_of_byte : List ℕ → ℕ → Point
point_of_byte bytes b = extent (utf16_of (take b bytes))

-- the stretch of n units from offset i on
abbrev pub span_at : List ℕ → ℕ → ℕ → Span
span_at t n i = record { start = point_at t i; end = point_at t (i + n) }

abbrev pub span_of_bytes : List ℕ → ℕ × ℕ → Span
span_of_bytes bytes hit = record { start = point_of_byte bytes hit.0; end = point_of_byte bytes hit.1 }

-- the number of all hits, and the first of them
abbrev pub found : ℕ → List Span → ReadAnswer
found limit spans = answer.Found (length spans) (take limit spans)

abbrev pub text_answer : List ℕ → ℕ → ℕ × ℕ → ReadAnswer
text_answer t limit ends = answer.Text (text_of (shown limit (between t ends.0 ends.1))) (ends.1 - ends.0)

abbrev pub pattern_answer : List ℕ → ℕ → Matches → ReadAnswer
pattern_answer t limit told = let bytes = text_of t in found limit (map (span_of_bytes bytes) (told bytes))

-- what a read of the text t answers; of a pattern's hits only where they are told
abbrev pub read_answer : List ℕ → Option Matches → Read → Option ReadAnswer
read_answer t told read.Size = Some (answer.Size (extent t) (length t))
read_answer t told (read.Text range limit) = Some (text_answer t limit (span t range.start range.end))
read_answer t told (read.Find needle limit) = let units = utf16_of needle in Some (found limit (map (span_at t (length units)) (hits t units)))
read_answer t None (read.Pattern pattern limit) = None
read_answer t (Some matches) (read.Pattern pattern limit) = Some (pattern_answer t limit matches)
read_answer t told (read.Save name encoding) = Some (answer.Saved (length (encode encoding t)))
