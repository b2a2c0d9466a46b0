-- A transcript is read again from its JSON value.
use Rattle.std.proofs.Common.{◌≡◌, ◌+◌, ◌≤◌, ℕ, List, [], ◌∷◌, map, Option, Some, refl, ap}
use Rattle.std.specs.List.{AllByRecursion}
use Rattle.std.proofs.lemmas.Bool.{le-leb}
use Rattle.points.specs.declared.mark.MarkOrder.{MarkOrder}
use Rattle.points.specs.declared.mark.MarkOrder.TheVariants as order
use Rattle.points.specs.declared.point.Point.{Point}
use Rattle.machine.specs.declared.reads.ReadAnswer.{ReadAnswer}
use Rattle.machine.specs.declared.reads.ReadAnswer.TheVariants as answer
use Rattle.machine.specs.declared.reply.CallRefusal.{CallRefusal}
use Rattle.machine.specs.declared.reply.CallRefusal.TheVariants as no
use Rattle.machine.specs.declared.reply.HitNumbers.{HitNumbers}
use Rattle.machine.specs.declared.reply.Reply.{Reply}
use Rattle.machine.specs.declared.reply.Reply.TheVariants as reply
use Rattle.machine.specs.declared.reply.ReplyPart.{ReplyPart}
use Rattle.machine.specs.declared.reply.Span.{Span}
use Rattle.machine.specs.declared.reply.Transcript.{Transcript}
use Rattle.machine.specs.declared.reply.TranscriptEnd.{TranscriptEnd}
use Rattle.script.specs.TranscriptDocument.{whole, list_value, point_value, span_value, hits_value, refusal_word, order_word, part_value, answer_value, reply_value, replies_value, end_value, transcript_value}
use Rattle.serde_json.specs.Data.{Data}
use Rattle.serde_json.specs.View.{items_of}
use Rattle.transcripts.specs.Exact.{IsShort, IsShortPoint, IsShortSpan, IsShortChange, IsShortPart, IsShortAnswer, IsShortReply, IsOfVersionOne}
use Rattle.transcripts.specs.Reading.{short_of, short_at, all_of, list_of, refusal_by, order_by, point_at, point_of, span_of, hits_of, part_of, answer_of, one_replied, two_replied, three_replied, five_replied, numbered_reply, reply_of, end_of, transcript_of}

short_again : (n : ℕ) → IsShort n → short_of (whole n) ≡ Some n
short_again n h = rw (le-leb n 4294967295 h) refl

pair_again : (d : Data) (i : ℕ) (p : Point) → short_at d i ≡ Some p.row → short_at d (i + 1) ≡ Some p.column → point_at d i ≡ Some p
pair_again d i p row column = rw (row, column) refl

point_again : (p : Point) → IsShortPoint p → point_of (point_value p) ≡ Some p
unfolding point_of
point_again p h = pair_again (point_value p) 0 p (short_again p.row h.row) (short_again p.column h.column)

span_again : (s : Span) → IsShortSpan s → span_of (span_value s) ≡ Some s
unfolding span_of
span_again s h =
    let start = pair_again (span_value s) 0 s.start (short_again s.start.row h.start.row) (short_again s.start.column h.start.column) in
    let end = pair_again (span_value s) 2 s.end (short_again s.end.row h.end.row) (short_again s.end.column h.end.column) in
    rw (start, end) refl

hits_again : (h : HitNumbers) → hits_of (hits_value h) ≡ Some h
unfolding hits_of
hits_again h = refl

refusal_again : (a : CallRefusal) → refusal_by (refusal_word a) ≡ Some a
refusal_again no.TooLong = refl
refusal_again no.Nothing = refl
refusal_again no.MarkTaken = refl
refusal_again no.MarkUnknown = refl
refusal_again no.MarksFull = refl
refusal_again no.WatchTaken = refl
refusal_again no.WatchFull = refl
refusal_again no.WatchUnknown = refl

order_again : (a : MarkOrder) → order_by (order_word a) ≡ Some a
order_again order.Before = refl
order_again order.Same = refl
order_again order.After = refl

-- lists, where each member is read again
all_again : {A : Type 0} (reads : Data → Option A) (value : A → Data) (P : A → Type 0) → ((x : A) → P x → reads (value x) ≡ Some x) → (xs : List A) → AllByRecursion P xs → all_of reads (items_of (map value xs)) ≡ Some xs
all_again reads value P again [] h = refl
all_again reads value P again (x ∷ xs) h = rw (again x h.0, all_again reads value P again xs h.1) refl

part_again : (p : ReplyPart) → IsShortPart p → part_of (part_value p) ≡ Some p
unfolding part_of
part_again p h = rw (point_again p.end h.end, point_again p.from h.from, hits_again p.hits, point_again p.to h.to) refl

answer_again : (a : ReadAnswer) → IsShortAnswer a → answer_of (answer_value a) ≡ Some a
unfolding answer_of
answer_again (answer.Size extent units) h = rw (point_again extent h) refl
answer_again (answer.Text text units) h = refl
answer_again (answer.Found count hits) h = rw (all_again span_of span_value IsShortSpan span_again hits h) refl
answer_again (answer.Saved bytes) h = refl

reply_again : (r : Reply) → IsShortReply r → reply_of (reply_value r) ≡ Some r
unfolding reply_of one_replied numbered_reply two_replied three_replied five_replied
reply_again (reply.Edited at end from hits to) h = rw (point_again end h.end, point_again from h.from, hits_again hits, point_again to h.to) refl
reply_again (reply.Batched at edits) h = rw (all_again part_of part_value IsShortPart part_again edits h) refl
reply_again (reply.Text at text units) h = refl
reply_again (reply.Numbered at) h = refl
reply_again (reply.Range at exclusive range) h = rw (span_again range h) refl
reply_again (reply.Marks at ids) h = rw (all_again short_of whole IsShort short_again ids h) refl
reply_again (reply.Order at o) h = rw (order_again o) refl
reply_again (reply.Heard at heard) h = refl
reply_again (reply.Refused at why) h = rw (refusal_again why) refl
reply_again (reply.Taken version) h = refl
reply_again (reply.Answered answers) h = rw (all_again answer_of answer_value IsShortAnswer answer_again answers h) refl
reply_again reply.Nothing h = refl

end_again : (e : TranscriptEnd) → end_of (end_value e) ≡ Some e
unfolding end_of
end_again e = refl

session_again : (rs : List Reply) → AllByRecursion IsShortReply rs → list_of reply_of (replies_value rs) ≡ Some rs
session_again rs h = all_again reply_of reply_value IsShortReply reply_again rs h

pub transcript_again : (t : Transcript) → IsOfVersionOne t → transcript_of (transcript_value t) ≡ Some t
unfolding transcript_of
transcript_again t h =
    let sessions = all_again (list_of reply_of) replies_value (AllByRecursion IsShortReply) session_again t.sessions h.short in
    rw (h.version, end_again t.end, sessions) refl
