-- The JSON value of a transcript, and its text.
use Rattle.std.specs.Prelude.{ℕ, List, [], ◌∷◌, ◌++◌, map, codes}
use Rattle.points.specs.declared.point.Point.{Point}
use Rattle.points.specs.declared.mark.MarkOrder.{MarkOrder}
use Rattle.points.specs.declared.mark.MarkOrder.TheVariants as order
use Rattle.machine.specs.declared.reads.ReadAnswer.{ReadAnswer}
use Rattle.machine.specs.declared.reads.ReadAnswer.TheVariants as answer
use Rattle.machine.specs.declared.reply.CallRefusal.{CallRefusal}
use Rattle.machine.specs.declared.reply.CallRefusal.TheVariants as no
use Rattle.machine.specs.declared.reply.HitNumbers.{HitNumbers}
use Rattle.machine.specs.declared.reply.Reply.{Reply}
use Rattle.machine.specs.declared.reply.Reply.TheVariants as reply
use Rattle.machine.specs.declared.reply.ReplyPart.{ReplyPart}
use Rattle.machine.specs.declared.reply.Span.{Span}
use Rattle.machine.specs.declared.reply.Transcript.{Transcript}
use Rattle.machine.specs.declared.reply.TranscriptEnd.{TranscriptEnd}
use Rattle.serde_json.specs.Data.{Data, null, boolean, unsigned, number, string, array, object, no_items, item, Members, no_members, member}
use Rattle.serde_json.specs.View.{items_of}
use Rattle.serde_json.specs.Written.{compact_text}

abbrev pub whole : ℕ → Data
whole n = number (unsigned n)

-- a list, with the value of each member
abbrev pub list_value : {A : Type 0} → (A → Data) → List A → Data
list_value value members = array (items_of (map value members))

-- a point: its row and its column
abbrev pub point_value : Point → Data
point_value p = array (item (whole p.row) (item (whole p.column) no_items))

-- two points: the row and the column of the one and of the other
abbrev pub span_value : Span → Data
span_value s = array (item (whole s.start.row) (item (whole s.start.column) (item (whole s.end.row) (item (whole s.end.column) no_items))))

abbrev pub hits_value : HitNumbers → Data
hits_value h = array (item (whole h.touch) (item (whole h.inside) (item (whole h.overlap) (item (whole h.surround) no_items))))

-- the word of a refusal
abbrev pub refusal_word : CallRefusal → List ℕ
refusal_word no.TooLong = codes "TooLong"
refusal_word no.Nothing = codes "Nothing"
refusal_word no.MarkTaken = codes "MarkTaken"
refusal_word no.MarkUnknown = codes "MarkUnknown"
refusal_word no.MarksFull = codes "MarksFull"
refusal_word no.WatchTaken = codes "WatchTaken"
refusal_word no.WatchFull = codes "WatchFull"
refusal_word no.WatchUnknown = codes "WatchUnknown"

-- the word of how one mark stands to another
abbrev pub order_word : MarkOrder → List ℕ
order_word order.Before = codes "before"
order_word order.Same = codes "same"
order_word order.After = codes "after"

-- a change: the end of its new text, the replaced range, and the marks that it hit
abbrev pub change_members : Point → Point → HitNumbers → Point → Members
change_members end from hits to = member (codes "end") (point_value end) (member (codes "from") (point_value from) (member (codes "hits") (hits_value hits) (member (codes "to") (point_value to) no_members)))

abbrev pub part_value : ReplyPart → Data
part_value p = object (change_members p.end p.from p.hits p.to)

-- one case an answer, with the keys in the order of their bytes
abbrev pub answer_value : ReadAnswer → Data
answer_value (answer.Size extent units) = object (member (codes "extent") (point_value extent) (member (codes "units") (whole units) no_members))
answer_value (answer.Text text units) = object (member (codes "text") (string text) (member (codes "units") (whole units) no_members))
answer_value (answer.Found count hits) = object (member (codes "count") (whole count) (member (codes "hits") (list_value span_value hits) no_members))
answer_value (answer.Saved bytes) = object (member (codes "bytes") (whole bytes) no_members)

-- one case a reply, with the keys in the order of their bytes
abbrev pub reply_value : Reply → Data
reply_value (reply.Edited at end from hits to) = object (member (codes "at") (whole at) (change_members end from hits to))
reply_value (reply.Batched at edits) = object (member (codes "at") (whole at) (member (codes "edits") (list_value part_value edits) no_members))
reply_value (reply.Text at text units) = object (member (codes "at") (whole at) (member (codes "text") (string text) (member (codes "units") (whole units) no_members)))
reply_value (reply.Numbered at) = object (member (codes "at") (whole at) no_members)
reply_value (reply.Range at exclusive range) = object (member (codes "at") (whole at) (member (codes "exclusive") (boolean exclusive) (member (codes "range") (span_value range) no_members)))
reply_value (reply.Marks at ids) = object (member (codes "at") (whole at) (member (codes "ids") (list_value whole ids) no_members))
reply_value (reply.Order at o) = object (member (codes "at") (whole at) (member (codes "order") (string (order_word o)) no_members))
reply_value (reply.Heard at heard) = object (member (codes "at") (whole at) (member (codes "heard") (whole heard) no_members))
reply_value (reply.Refused at why) = object (member (codes "at") (whole at) (member (codes "no") (string (refusal_word why)) no_members))
reply_value (reply.Taken version) = object (member (codes "version") (whole version) no_members)
reply_value (reply.Answered answers) = object (member (codes "answers") (list_value answer_value answers) no_members)
reply_value reply.Nothing = null

-- a session: its replies
abbrev pub replies_value : List Reply → Data
replies_value rs = list_value reply_value rs

abbrev pub end_value : TranscriptEnd → Data
end_value e = object (member (codes "count") (whole e.count) (member (codes "text") (string e.text) no_members))

-- the JSON value of a transcript
abbrev pub transcript_value : Transcript → Data
transcript_value t =
    object (member (codes "end") (end_value t.end) (member (codes "sessions") (list_value replies_value t.sessions)
    (member (codes "version") (whole t.version) no_members)))

-- the text of a transcript: its compact JSON text, and a line feed
unfoldable pub transcript_text : Transcript → List ℕ
transcript_text t = compact_text (transcript_value t) ++ 10 ∷ []
