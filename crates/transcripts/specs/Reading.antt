-- Which transcript a JSON value reads as.
use Rattle.std.specs.Prelude.{◌≡◌, ℕ, ◌+◌, ◌==◌, List, [], ◌∷◌, codes, Bool, true, false, if◌then◌else◌, Option, Some, None, option_map, option_and_then, Result, Ok, Err}
use Rattle.std.specs.Str.{bytes_eq}
use Rattle.points.specs.declared.point.Point.{Point}
use Rattle.points.specs.declared.mark.MarkOrder.{MarkOrder}
use Rattle.points.specs.declared.mark.MarkOrder.TheVariants as order
use Rattle.machine.specs.declared.reads.ReadAnswer.{ReadAnswer}
use Rattle.machine.specs.declared.reads.ReadAnswer.TheVariants as answer
use Rattle.machine.specs.declared.reply.CallRefusal.{CallRefusal}
use Rattle.machine.specs.declared.reply.CallRefusal.TheVariants as no
use Rattle.machine.specs.declared.reply.HitNumbers.{HitNumbers}
use Rattle.machine.specs.declared.reply.Reply.{Reply}
use Rattle.machine.specs.declared.reply.Reply.TheVariants as reply
use Rattle.machine.specs.declared.reply.ReplyPart.{ReplyPart}
use Rattle.machine.specs.declared.reply.Span.{Span}
use Rattle.machine.specs.declared.reply.Transcript.{Transcript}
use Rattle.machine.specs.declared.reply.TranscriptEnd.{TranscriptEnd}
use Rattle.script.specs.Parts.{member_count, item_count, whole_of}
use Rattle.serde_json.specs.Data.{Data, null, boolean, number, string, array, object, Items, no_items, item}
use Rattle.serde_json.specs.Find.{get, at, as_u64, as_number, as_str, as_bool, as_array}
use Rattle.transcripts.specs.declared.misfit.Misfit.{Misfit}
use Rattle.transcripts.specs.declared.misfit.Misfit.TheVariants as misfit

-- ---- what a function that reads a value answers

-- the value has another form, or memory ran out
abbrev pub Fails : {X : Type 0} → Misfit → Option X → Type 0
Fails misfit.Form part = part ≡ None
Fails misfit.NoMemory part = Unit {0}

-- the answer is this part, unless memory ran out
abbrev pub Gives : {X : Type 0} → Result X Misfit → Option X → Type 0
Gives (Ok x) part = part ≡ Some x
Gives (Err why) part = Fails why part

-- the answer, seen by `seen`, is this part, unless memory ran out
abbrev pub GivesAs : {X Y : Type 0} → (X → Y) → Result X Misfit → Option Y → Type 0
GivesAs seen (Ok x) part = part ≡ Some (seen x)
GivesAs seen (Err why) part = Fails why part

-- ---- numbers, words and lists

-- a number of 64 bits, and one of 32 bits
abbrev pub long_of : Data → Option ℕ
long_of d = option_and_then as_u64 (as_number d)

abbrev pub short_of : Data → Option ℕ
short_of d = whole_of 4294967295 d

-- what a member reads as
abbrev pub member_of : {A : Type 0} → (Data → Option A) → List ℕ → Data → Option A
member_of reads key d = option_and_then reads (get key d)

abbrev pub all_of : {A : Type 0} → (Data → Option A) → Items → Option (List A)
all_of reads no_items = Some []
all_of reads (item d ds) = option_and_then (λ x. option_map (λ xs. x ∷ xs) (all_of reads ds)) (reads d)

abbrev pub list_of : {A : Type 0} → (Data → Option A) → Data → Option (List A)
list_of reads d = option_and_then (all_of reads) (as_array d)

abbrev pub refusal_by : List ℕ → Option CallRefusal
refusal_by w =
    if bytes_eq w (codes "TooLong") then Some no.TooLong
    else (if bytes_eq w (codes "Nothing") then Some no.Nothing
    else (if bytes_eq w (codes "MarkTaken") then Some no.MarkTaken
    else (if bytes_eq w (codes "MarkUnknown") then Some no.MarkUnknown
    else (if bytes_eq w (codes "MarksFull") then Some no.MarksFull
    else (if bytes_eq w (codes "WatchTaken") then Some no.WatchTaken
    else (if bytes_eq w (codes "WatchFull") then Some no.WatchFull
    else (if bytes_eq w (codes "WatchUnknown") then Some no.WatchUnknown else None)))))))

abbrev pub refusal_of : Data → Option CallRefusal
refusal_of d = option_and_then refusal_by (as_str d)

abbrev pub order_by : List ℕ → Option MarkOrder
order_by w =
    if bytes_eq w (codes "before") then Some order.Before
    else (if bytes_eq w (codes "same") then Some order.Same
    else (if bytes_eq w (codes "after") then Some order.After else None))

abbrev pub order_of : Data → Option MarkOrder
order_of d = option_and_then order_by (as_str d)

-- ---- lists of two or four numbers

abbrev pub short_at : Data → ℕ → Option ℕ
short_at d i = option_and_then short_of (at i d)

abbrev pub long_at : Data → ℕ → Option ℕ
long_at d i = option_and_then long_of (at i d)

abbrev pub point_at : Data → ℕ → Option Point
point_at d i = option_and_then (λ row. option_map (λ column. record { row = row; column = column }) (short_at d (i + 1))) (short_at d i)

unfoldable pub point_of : Data → Option Point
point_of d = if item_count d == 2 then point_at d 0 else None

unfoldable pub span_of : Data → Option Span
span_of d = if item_count d == 4 then option_and_then (λ start. option_map (λ end. record { start = start; end = end }) (point_at d 2)) (point_at d 0) else None

unfoldable pub hits_of : Data → Option HitNumbers
hits_of d =
    if item_count d == 4 then
    option_and_then (λ touch. option_and_then (λ inside. option_and_then (λ overlap. option_map (λ surround.
    record { touch = touch; inside = inside; overlap = overlap; surround = surround })
    (long_at d 3)) (long_at d 2)) (long_at d 1)) (long_at d 0)
    else None

-- ---- objects

-- where the member is there, what is read by it, and else this
abbrev pub by_member : {A : Type 0} → Option Data → (Data → Option A) → Option A → Option A
by_member None reads other = other
by_member (Some d) reads other = reads d

unfoldable pub part_of : Data → Option ReplyPart
part_of d =
    if member_count d == 4 then
    option_and_then (λ end. option_and_then (λ from. option_and_then (λ hits. option_map (λ to.
    record { end = end; from = from; hits = hits; to = to })
    (member_of point_of (codes "to") d)) (member_of hits_of (codes "hits") d)) (member_of point_of (codes "from") d)) (member_of point_of (codes "end") d)
    else None

-- the answer to a read, with two members
abbrev pub two_answered : Data → Option ReadAnswer
two_answered d =
    by_member (get (codes "extent") d) (λ v. option_and_then (λ extent. option_map (answer.Size extent) (member_of long_of (codes "units") d)) (point_of v))
    (by_member (get (codes "text") d) (λ v. option_and_then (λ text. option_map (answer.Text text) (member_of long_of (codes "units") d)) (as_str v))
    (option_and_then (λ count. option_map (answer.Found count) (member_of (list_of span_of) (codes "hits") d)) (member_of long_of (codes "count") d)))

unfoldable pub answer_of : Data → Option ReadAnswer
answer_of d =
    if member_count d == 1 then option_map answer.Saved (member_of long_of (codes "bytes") d)
    else (if member_count d == 2 then two_answered d else None)

-- a reply with one member, with two, with three, and with five
unfoldable pub one_replied : Data → Option Reply
one_replied d =
    by_member (get (codes "at") d) (λ v. option_map reply.Numbered (long_of v))
    (by_member (get (codes "version") d) (λ v. option_map reply.Taken (long_of v))
    (option_map reply.Answered (member_of (list_of answer_of) (codes "answers") d)))

unfoldable pub two_replied : ℕ → Data → Option Reply
two_replied n d =
    by_member (get (codes "edits") d) (λ v. option_map (reply.Batched n) (list_of part_of v))
    (by_member (get (codes "ids") d) (λ v. option_map (reply.Marks n) (list_of short_of v))
    (by_member (get (codes "order") d) (λ v. option_map (reply.Order n) (order_of v))
    (by_member (get (codes "heard") d) (λ v. option_map (reply.Heard n) (long_of v))
    (option_map (reply.Refused n) (member_of refusal_of (codes "no") d)))))

unfoldable pub three_replied : ℕ → Data → Option Reply
three_replied n d =
    by_member (get (codes "text") d) (λ v. option_and_then (λ text. option_map (reply.Text n text) (member_of long_of (codes "units") d)) (as_str v))
    (option_and_then (λ exclusive. option_map (reply.Range n exclusive) (member_of span_of (codes "range") d)) (member_of as_bool (codes "exclusive") d))

abbrev pub edited_by : ℕ → ReplyPart → Reply
edited_by n p = reply.Edited n p.end p.from p.hits p.to

unfoldable pub five_replied : ℕ → Data → Option Reply
five_replied n d =
    option_and_then (λ end. option_and_then (λ from. option_and_then (λ hits. option_map (λ to. reply.Edited n end from hits to)
    (member_of point_of (codes "to") d)) (member_of hits_of (codes "hits") d)) (member_of point_of (codes "from") d)) (member_of point_of (codes "end") d)

unfoldable pub numbered_reply : Data → Option Reply
numbered_reply d =
    option_and_then (λ n.
    if member_count d == 2 then two_replied n d
    else (if member_count d == 3 then three_replied n d
    else (if member_count d == 5 then five_replied n d else None))) (member_of long_of (codes "at") d)

abbrev pub is_null : Data → Bool
is_null null = true
is_null _ = false

unfoldable pub reply_of : Data → Option Reply
reply_of d =
    if is_null d then Some reply.Nothing
    else (if member_count d == 1 then one_replied d else numbered_reply d)

-- ---- the document

unfoldable pub end_of : Data → Option TranscriptEnd
end_of d =
    if member_count d == 2 then
    option_and_then (λ count. option_map (λ text. record { count = count; text = text }) (member_of as_str (codes "text") d)) (member_of long_of (codes "count") d)
    else None

-- its version is 1
abbrev pub version_one : Data → Option ℕ
version_one d = option_and_then (λ n. if n == 1 then Some n else None) (long_of d)

unfoldable pub transcript_of : Data → Option Transcript
transcript_of d =
    if member_count d == 3 then
    option_and_then (λ version. option_and_then (λ end. option_map (λ sessions. record { end = end; sessions = sessions; version = version })
    (member_of (list_of (list_of reply_of)) (codes "sessions") d)) (member_of end_of (codes "end") d)) (member_of version_one (codes "version") d)
    else None
