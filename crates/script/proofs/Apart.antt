-- Different transcripts have different JSON values.
use Rattle.std.proofs.Common.{◌≡◌, ℕ, List, [], ◌∷◌, map, Option, Some, None, refl, sym, ap, ap₂, ◌∙◌}
use Rattle.std.specs.Prelude.{codes, if◌then◌else◌}
use Rattle.std.specs.Str.{bytes_eq}
use Rattle.std.proofs.lemmas.Option.{same_Some}
use Rattle.points.specs.declared.mark.MarkOrder.{MarkOrder}
use Rattle.points.specs.declared.mark.MarkOrder.TheVariants as order
use Rattle.points.specs.declared.point.Point.{Point}
use Rattle.machine.specs.declared.reads.ReadAnswer.{ReadAnswer}
use Rattle.machine.specs.declared.reads.ReadAnswer.TheVariants as answer
use Rattle.machine.specs.declared.reply.CallRefusal.{CallRefusal}
use Rattle.machine.specs.declared.reply.CallRefusal.TheVariants as no
use Rattle.machine.specs.declared.reply.HitNumbers.{HitNumbers}
use Rattle.machine.specs.declared.reply.Reply.{Reply}
use Rattle.machine.specs.declared.reply.Reply.TheVariants as reply
use Rattle.machine.specs.declared.reply.ReplyPart.{ReplyPart}
use Rattle.machine.specs.declared.reply.Span.{Span}
use Rattle.machine.specs.declared.reply.Transcript.{Transcript}
use Rattle.machine.specs.declared.reply.TranscriptEnd.{TranscriptEnd}
use Rattle.script.specs.TranscriptDocument.{whole, point_value, span_value, hits_value, refusal_word, order_word, part_value, answer_value, reply_value, replies_value, end_value, transcript_value}
use Rattle.serde_json.specs.Data.{Data}
use Rattle.serde_json.specs.View.{items_of}

-- lists are told by their values where their members are
list_apart : {A : Type 0} (value : A → Data) → ((x y : A) → value x ≡ value y → x ≡ y) → (xs ys : List A) → items_of (map value xs) ≡ items_of (map value ys) → xs ≡ ys
list_apart value apart [] [] e = refl
list_apart value apart [] (y ∷ ys) e = absurd cc
list_apart value apart (x ∷ xs) [] e = absurd cc
list_apart value apart (x ∷ xs) (y ∷ ys) e = ap₂ (λ z zs. z ∷ zs) (apart x y cc) (list_apart value apart xs ys cc)

whole_apart : (n m : ℕ) → whole n ≡ whole m → n ≡ m
whole_apart n m e = cc

point_apart : (p q : Point) → point_value p ≡ point_value q → p ≡ q
point_apart p q e =
    let row : p.row ≡ q.row = cc in
    let column : p.column ≡ q.column = cc in
    ap₂ (λ (r c : ℕ). record { row = r; column = c }) row column

span_apart : (a b : Span) → span_value a ≡ span_value b → a ≡ b
span_apart a b e =
    let start : a.start ≡ b.start = point_apart a.start b.start cc in
    let end : a.end ≡ b.end = point_apart a.end b.end cc in
    ap₂ (λ (s t : Point). record { start = s; end = t }) start end

hits_apart : (h k : HitNumbers) → hits_value h ≡ hits_value k → h ≡ k
hits_apart h k e =
    let touch : h.touch ≡ k.touch = cc in
    let inside : h.inside ≡ k.inside = cc in
    let overlap : h.overlap ≡ k.overlap = cc in
    let surround : h.surround ≡ k.surround = cc in
    λ i. record { touch = touch i; inside = inside i; overlap = overlap i; surround = surround i }

part_apart : (p q : ReplyPart) → part_value p ≡ part_value q → p ≡ q
part_apart p q e =
    let end : p.end ≡ q.end = point_apart p.end q.end cc in
    let from : p.from ≡ q.from = point_apart p.from q.from cc in
    let hits : p.hits ≡ q.hits = hits_apart p.hits q.hits cc in
    let to : p.to ≡ q.to = point_apart p.to q.to cc in
    λ i. record { end = end i; from = from i; hits = hits i; to = to i }

-- the refusal and the order that a word stands for
refusal_of : List ℕ → Option CallRefusal
refusal_of w =
    if bytes_eq w (codes "TooLong") then Some no.TooLong
    else (if bytes_eq w (codes "Nothing") then Some no.Nothing
    else (if bytes_eq w (codes "MarkTaken") then Some no.MarkTaken
    else (if bytes_eq w (codes "MarkUnknown") then Some no.MarkUnknown
    else (if bytes_eq w (codes "MarksFull") then Some no.MarksFull
    else (if bytes_eq w (codes "WatchTaken") then Some no.WatchTaken
    else (if bytes_eq w (codes "WatchFull") then Some no.WatchFull
    else (if bytes_eq w (codes "WatchUnknown") then Some no.WatchUnknown else None)))))))

order_of : List ℕ → Option MarkOrder
order_of w = if bytes_eq w (codes "before") then Some order.Before else (if bytes_eq w (codes "same") then Some order.Same else (if bytes_eq w (codes "after") then Some order.After else None))

refusal_again : (a : CallRefusal) → refusal_of (refusal_word a) ≡ Some a
unfolding refusal_of
refusal_again no.TooLong = refl
refusal_again no.Nothing = refl
refusal_again no.MarkTaken = refl
refusal_again no.MarkUnknown = refl
refusal_again no.MarksFull = refl
refusal_again no.WatchTaken = refl
refusal_again no.WatchFull = refl
refusal_again no.WatchUnknown = refl

order_again : (a : MarkOrder) → order_of (order_word a) ≡ Some a
unfolding order_of
order_again order.Before = refl
order_again order.Same = refl
order_again order.After = refl

refusal_apart : (a b : CallRefusal) → refusal_word a ≡ refusal_word b → a ≡ b
refusal_apart a b e = same_Some a b (sym (refusal_again a) ∙ ap refusal_of e ∙ refusal_again b)

order_apart : (a b : MarkOrder) → order_word a ≡ order_word b → a ≡ b
order_apart a b e = same_Some a b (sym (order_again a) ∙ ap order_of e ∙ order_again b)

answer_apart : (a b : ReadAnswer) → answer_value a ≡ answer_value b → a ≡ b
answer_apart (answer.Size extent units) (answer.Size extent' units') e = ap₂ answer.Size (point_apart extent extent' cc) cc
answer_apart (answer.Text text units) (answer.Text text' units') e = cc
answer_apart (answer.Found count hits) (answer.Found count' hits') e =
    let n : count ≡ count' = cc in
    ap₂ answer.Found n (list_apart span_value span_apart hits hits' cc)
answer_apart (answer.Saved bytes) (answer.Saved bytes') e = cc
answer_apart a b e = absurd cc

reply_apart : (r s : Reply) → reply_value r ≡ reply_value s → r ≡ s
reply_apart (reply.Edited at end from hits to) (reply.Edited at' end' from' hits' to') e =
    let a : at ≡ at' = cc in
    let b : end ≡ end' = point_apart end end' cc in
    let c : from ≡ from' = point_apart from from' cc in
    let d : hits ≡ hits' = hits_apart hits hits' cc in
    let f : to ≡ to' = point_apart to to' cc in
    cc
reply_apart (reply.Batched at edits) (reply.Batched at' edits') e =
    let a : at ≡ at' = cc in
    let b : edits ≡ edits' = list_apart part_value part_apart edits edits' cc in
    cc
reply_apart (reply.Text at text units) (reply.Text at' text' units') e = cc
reply_apart (reply.Numbered at) (reply.Numbered at') e = cc
reply_apart (reply.Range at exclusive range) (reply.Range at' exclusive' range') e =
    let a : at ≡ at' = cc in
    let b : exclusive ≡ exclusive' = cc in
    let c : range ≡ range' = span_apart range range' cc in
    cc
reply_apart (reply.Marks at ids) (reply.Marks at' ids') e =
    let a : at ≡ at' = cc in
    let b : ids ≡ ids' = list_apart whole whole_apart ids ids' cc in
    cc
reply_apart (reply.Order at o) (reply.Order at' o') e =
    let a : at ≡ at' = cc in
    let b : o ≡ o' = order_apart o o' cc in
    cc
reply_apart (reply.Heard at heard) (reply.Heard at' heard') e = cc
reply_apart (reply.Refused at why) (reply.Refused at' why') e =
    let a : at ≡ at' = cc in
    let b : why ≡ why' = refusal_apart why why' cc in
    cc
reply_apart (reply.Taken version) (reply.Taken version') e = cc
reply_apart (reply.Answered answers) (reply.Answered answers') e =
    let a : answers ≡ answers' = list_apart answer_value answer_apart answers answers' cc in
    cc
reply_apart reply.Nothing reply.Nothing e = refl
reply_apart r s e = absurd cc

replies_apart : (rs ss : List Reply) → replies_value rs ≡ replies_value ss → rs ≡ ss
replies_apart rs ss e = list_apart reply_value reply_apart rs ss cc

end_apart : (a b : TranscriptEnd) → end_value a ≡ end_value b → a ≡ b
end_apart a b e =
    let count : a.count ≡ b.count = cc in
    let text : a.text ≡ b.text = cc in
    ap₂ (λ (n : ℕ) (s : List ℕ). record { count = n; text = s }) count text

pub transcripts_apart : (t u : Transcript) → transcript_value t ≡ transcript_value u → t ≡ u
transcripts_apart t u e =
    let end : t.end ≡ u.end = end_apart t.end u.end cc in
    let sessions : t.sessions ≡ u.sessions = list_apart replies_value replies_apart t.sessions u.sessions cc in
    let version : t.version ≡ u.version = cc in
    λ i. record { end = end i; sessions = sessions i; version = version i }
