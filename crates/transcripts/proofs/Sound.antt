-- What is read as a transcript is that transcript's JSON value.
use Rattle.std.proofs.Common.{Less, ◌≡◌, ◌+◌, ◌≤◌, ◌⊎◌, inl, inr, ℕ, suc, List, [], ◌∷◌, map, Bool, true, false, cond, Option, Some, None, refl, sym, ap, ap₂, subst, ◌∙◌, arith}
use Rattle.std.specs.Prelude.{codes, ◌==◌, option_map, option_and_then}
use Rattle.std.specs.List.{AllByRecursion}
use Rattle.std.specs.Str.{bytes_eq}
use Rattle.std.proofs.lemmas.Bool.{eqb-true}
use Rattle.std.proofs.lemmas.Option.{option_and_then_some, none-some, same_Some}
use Rattle.std.proofs.lemmas.Slice.Eq.{bytes_eq-Decides}
use Rattle.points.specs.Point.{IsWithin}
use Rattle.points.specs.declared.mark.MarkOrder.{MarkOrder}
use Rattle.points.specs.declared.mark.MarkOrder.TheVariants as order
use Rattle.points.specs.declared.point.Point.{Point}
use Rattle.machine.specs.declared.reads.ReadAnswer.{ReadAnswer}
use Rattle.machine.specs.declared.reads.ReadAnswer.TheVariants as answer
use Rattle.machine.specs.declared.reply.CallRefusal.{CallRefusal}
use Rattle.machine.specs.declared.reply.CallRefusal.TheVariants as no
use Rattle.machine.specs.declared.reply.HitNumbers.{HitNumbers}
use Rattle.machine.specs.declared.reply.Reply.{Reply}
use Rattle.machine.specs.declared.reply.Reply.TheVariants as reply
use Rattle.machine.specs.declared.reply.ReplyPart.{ReplyPart}
use Rattle.machine.specs.declared.reply.Span.{Span}
use Rattle.machine.specs.declared.reply.Transcript.{Transcript}
use Rattle.machine.specs.declared.reply.TranscriptEnd.{TranscriptEnd}
use Rattle.script.specs.Parts.{member_count, item_count, whole_of}
use Rattle.script.specs.TranscriptDocument.{whole, list_value, point_value, span_value, hits_value, refusal_word, order_word, part_value, answer_value, reply_value, replies_value, end_value, transcript_value}
use Rattle.script.proofs.KeyLemmas.{key_cmp, Ascend}
use Rattle.script.proofs.KeyOrder.{IsInKeyOrder, ItemsInKeyOrder}
use Rattle.script.proofs.LimitLemmas.{behind_map}
use Rattle.script.proofs.ScriptExact.{test_some, either_some, whole_exact, string_exact, flag_exact}
use Rattle.serde_json.specs.Data.{Data, null, boolean, number, string, array, object, unsigned, negative, float, Items, no_items, item, no_members, member}
use Rattle.serde_json.specs.View.{items_of}
use Rattle.serde_json.specs.Find.{get, at, as_str, as_bool, as_array}
use Rattle.transcripts.proofs.Members.{Field, object_is, get_in_order}
use Rattle.transcripts.specs.Exact.{IsShort, IsShortPoint, IsShortSpan, IsShortChange, IsShortPart, IsShortAnswer, IsShortReply, IsOfVersionOne}
use Rattle.transcripts.specs.Reading.{long_of, short_of, short_at, long_at, member_of, all_of, list_of, refusal_by, refusal_of, order_by, order_of, point_at, point_of, span_of, hits_of, by_member, part_of, two_answered, answer_of, one_replied, two_replied, three_replied, five_replied, numbered_reply, is_null, reply_of, end_of, version_one, transcript_of}

-- a value in order that is read as x is x's value, and x is good
abbrev pub IsExact : {A : Type 0} → (Data → Option A) → (A → Data) → (A → Type 0) → Type 0
IsExact {A} reads value Good = (d : Data) (x : A) → IsInKeyOrder d → reads d ≡ Some x → (d ≡ value x) × Good x

abbrev Any : {A : Type 0} → A → Type 0
Any x = Unit {0}

-- ---- numbers, texts and words

long_is : (d : Data) (n : ℕ) → long_of d ≡ Some n → d ≡ whole n
long_is null n e = absurd (none-some n e)
long_is (boolean b) n e = absurd (none-some n e)
long_is (number (unsigned m)) n e = ap whole (same_Some m n e)
long_is (number (negative z)) n e = absurd (none-some n e)
long_is (number (float x)) n e = absurd (none-some n e)
long_is (string s) n e = absurd (none-some n e)
long_is (array ds) n e = absurd (none-some n e)
long_is (object ms) n e = absurd (none-some n e)

long_exact : IsExact long_of whole Any
long_exact d n order e = (long_is d n e, tt)

short_exact : IsExact short_of whole IsShort
short_exact d n order e = whole_exact 4294967295 n d e

text_exact : IsExact as_str string Any
text_exact d s order e = (string_exact d s e, tt)

bool_exact : IsExact as_bool boolean Any
bool_exact d b order e = (flag_exact d b e, tt)

-- a word, or one of those behind it
word_step : {A : Type 0} (w v : List ℕ) (a x : A) (rest : Option A) (word : A → List ℕ) → v ≡ word a → (rest ≡ Some x → w ≡ word x) → (cond (bytes_eq w v) (Some a) rest ≡ Some x) → w ≡ word x
word_step w v a x rest word is more e =
    elim (either_some (bytes_eq w v) (Some a) rest x e) [
      | inl this ↦ (bytes_eq-Decides w v).0 this.0 ∙ is ∙ ap word (same_Some a x this.1)
      | inr other ↦ more other
    ]

refusal_is : (w : List ℕ) (a : CallRefusal) → refusal_by w ≡ Some a → w ≡ refusal_word a
refusal_is w a =
    word_step w (codes "TooLong") no.TooLong a _ refusal_word refl
    (word_step w (codes "Nothing") no.Nothing a _ refusal_word refl
    (word_step w (codes "MarkTaken") no.MarkTaken a _ refusal_word refl
    (word_step w (codes "MarkUnknown") no.MarkUnknown a _ refusal_word refl
    (word_step w (codes "MarksFull") no.MarksFull a _ refusal_word refl
    (word_step w (codes "WatchTaken") no.WatchTaken a _ refusal_word refl
    (word_step w (codes "WatchFull") no.WatchFull a _ refusal_word refl
    (word_step w (codes "WatchUnknown") no.WatchUnknown a _ refusal_word refl (λ e. absurd (none-some a e)))))))))

order_is : (w : List ℕ) (a : MarkOrder) → order_by w ≡ Some a → w ≡ order_word a
order_is w a =
    word_step w (codes "before") order.Before a _ order_word refl
    (word_step w (codes "same") order.Same a _ order_word refl
    (word_step w (codes "after") order.After a _ order_word refl (λ e. absurd (none-some a e))))

abbrev refusal_value : CallRefusal → Data
refusal_value a = string (refusal_word a)

abbrev mark_order_value : MarkOrder → Data
mark_order_value a = string (order_word a)

refusal_exact : IsExact refusal_of refusal_value Any
refusal_exact d a order e = (option_and_then_some refusal_by (as_str d) a e (λ w w_is rest. string_exact d w w_is ∙ ap string (refusal_is w a rest)), tt)

order_exact : IsExact order_of mark_order_value Any
order_exact d a order e = (option_and_then_some order_by (as_str d) a e (λ w w_is rest. string_exact d w w_is ∙ ap string (order_is w a rest)), tt)

-- ---- lists of two and of four numbers

two_items : (d : Data) → item_count d ≡ 2 → (a b : Data) × (d ≡ array (item a (item b no_items)))
two_items null n = absurd (omega arith)
two_items (boolean x) n = absurd (omega arith)
two_items (number x) n = absurd (omega arith)
two_items (string s) n = absurd (omega arith)
two_items (object ms) n = absurd (omega arith)
two_items (array no_items) n = absurd (omega arith)
two_items (array (item a no_items)) n = absurd (omega arith)
two_items (array (item a (item b no_items))) n = (a, b, refl)
two_items (array (item a (item b (item c ds)))) n = absurd (omega arith)

four_items : (d : Data) → item_count d ≡ 4 → (a b c e : Data) × (d ≡ array (item a (item b (item c (item e no_items)))))
four_items null n = absurd (omega arith)
four_items (boolean x) n = absurd (omega arith)
four_items (number x) n = absurd (omega arith)
four_items (string s) n = absurd (omega arith)
four_items (object ms) n = absurd (omega arith)
four_items (array no_items) n = absurd (omega arith)
four_items (array (item a no_items)) n = absurd (omega arith)
four_items (array (item a (item b no_items))) n = absurd (omega arith)
four_items (array (item a (item b (item c no_items)))) n = absurd (omega arith)
four_items (array (item a (item b (item c (item e no_items))))) n = (a, b, c, e, refl)
four_items (array (item a (item b (item c (item e (item f ds)))))) n = absurd (omega arith)

-- the row and the column that a point was read from
record IsPair (a b : Data) (p : Point) : Type 0 where
  row : a ≡ whole p.row
  column : b ≡ whole p.column
  short : IsShortPoint p

pair_is : (d : Data) (i : ℕ) (a b : Data) (p : Point) → at i d ≡ Some a → at (i + 1) d ≡ Some b → point_at d i ≡ Some p → IsPair a b p
pair_is d i a b p first second e =
    option_and_then_some (λ row. option_map (λ column. record { row = row; column = column }) (short_at d (i + 1))) (short_at d i) p e (λ row row_is rest.
    behind_map (λ column. record { row = row; column = column }) (short_at d (i + 1)) p rest (λ column column_is is.
    let r = whole_exact 4294967295 row a (ap (option_and_then short_of) (sym first) ∙ row_is) in
    let c = whole_exact 4294967295 column b (ap (option_and_then short_of) (sym second) ∙ column_is) in
    subst (IsPair a b) is (record { row = r.0; column = c.0; short = record { row = r.1; column = c.1 } })))

point_made : (a b : Data) (p : Point) → IsPair a b p → array (item a (item b no_items)) ≡ point_value p
point_made a b p h = rw (h.row, h.column) refl

point_exact : IsExact point_of point_value IsShortPoint
unfolding point_of
point_exact d p order e =
    let t = test_some (item_count d == 2) _ p e in
    let f = two_items d (eqb-true (item_count d) 2 t.0) in
    let h = pair_is (array (item f.0 (item f.1 no_items))) 0 f.0 f.1 p refl refl (subst (λ x. point_at x 0 ≡ Some p) f.2 t.1) in
    (f.2 ∙ point_made f.0 f.1 p h, h.short)

span_made : (a b c e : Data) (s : Span) → IsPair a b s.start → IsPair c e s.end → array (item a (item b (item c (item e no_items)))) ≡ span_value s
span_made a b c e s start end = rw (start.row, start.column, end.row, end.column) refl

span_exact : IsExact span_of span_value IsShortSpan
unfolding span_of
span_exact d s order e =
    let t = test_some (item_count d == 4) _ s e in
    let f = four_items d (eqb-true (item_count d) 4 t.0) in
    let listed = array (item f.0 (item f.1 (item f.2 (item f.3 no_items)))) in
    let read = subst (λ x. option_and_then (λ start. option_map (λ end. record { start = start; end = end }) (point_at x 2)) (point_at x 0) ≡ Some s) f.4 t.1 in
    option_and_then_some (λ start. option_map (λ end. record { start = start; end = end }) (point_at listed 2)) (point_at listed 0) s read (λ start start_is rest.
    behind_map (λ end. record { start = start; end = end }) (point_at listed 2) s rest (λ end end_is is.
    let a = pair_is listed 0 f.0 f.1 start refl refl start_is in
    let b = pair_is listed 2 f.2 f.3 end refl refl end_is in
    subst (λ x. (d ≡ span_value x) × IsShortSpan x) is (f.4 ∙ span_made f.0 f.1 f.2 f.3 (record { start = start; end = end }) a b, record { start = a.short; end = b.short })))

hits_exact : IsExact hits_of hits_value Any
unfolding hits_of
hits_exact d h order e =
    let t = test_some (item_count d == 4) _ h e in
    let f = four_items d (eqb-true (item_count d) 4 t.0) in
    let listed = array (item f.0 (item f.1 (item f.2 (item f.3 no_items)))) in
    let read = subst (λ x. option_and_then (λ a. option_and_then (λ b. option_and_then (λ c. option_map (λ g. record { touch = a; inside = b; overlap = c; surround = g })
    (long_at x 3)) (long_at x 2)) (long_at x 1)) (long_at x 0) ≡ Some h) f.4 t.1 in
    option_and_then_some _ (long_at listed 0) h read (λ a a_is rest_a.
    option_and_then_some _ (long_at listed 1) h rest_a (λ b b_is rest_b.
    option_and_then_some _ (long_at listed 2) h rest_b (λ c c_is rest_c.
    behind_map _ (long_at listed 3) h rest_c (λ g g_is is.
    let made : listed ≡ hits_value (record { touch = a; inside = b; overlap = c; surround = g }) = rw (long_is f.0 a a_is, long_is f.1 b b_is, long_is f.2 c c_is, long_is f.3 g g_is) refl in
    (f.4 ∙ subst (λ x. listed ≡ hits_value x) is made, tt)))))

-- ---- lists

items_exact : {A : Type 0} (reads : Data → Option A) (value : A → Data) (Good : A → Type 0) → IsExact reads value Good → (ds : Items) (xs : List A) → ItemsInKeyOrder ds → all_of reads ds ≡ Some xs
    → (ds ≡ items_of (map value xs)) × AllByRecursion Good xs
items_exact reads value Good exact no_items xs order e = subst (λ ys. (no_items ≡ items_of (map value ys)) × AllByRecursion Good ys) (same_Some [] xs e) (refl, tt)
items_exact reads value Good exact (item d ds) xs order e =
    option_and_then_some (λ x. option_map (λ ys. x ∷ ys) (all_of reads ds)) (reads d) xs e (λ x x_is rest.
    behind_map (λ ys. x ∷ ys) (all_of reads ds) xs rest (λ ys ys_is is.
    let h = exact d x order.0 x_is in
    let t = items_exact reads value Good exact ds ys order.1 ys_is in
    subst (λ zs. (item d ds ≡ items_of (map value zs)) × AllByRecursion Good zs) is (ap₂ item h.0 t.0, (h.1, t.1))))

list_exact : {A : Type 0} (reads : Data → Option A) (value : A → Data) (Good : A → Type 0) → IsExact reads value Good → IsExact (list_of reads) (list_value value) (AllByRecursion Good)
list_exact reads value Good exact null xs order e = absurd (none-some xs e)
list_exact reads value Good exact (boolean b) xs order e = absurd (none-some xs e)
list_exact reads value Good exact (number n) xs order e = absurd (none-some xs e)
list_exact reads value Good exact (string s) xs order e = absurd (none-some xs e)
list_exact reads value Good exact (object ms) xs order e = absurd (none-some xs e)
list_exact reads value Good exact (array ds) xs order e = let h = items_exact reads value Good exact ds xs order e in (ap array h.0, h.1)

-- ---- members

abbrev field : List ℕ → Data → Field
field k v = record { key = k; value = v }

-- a member that is there, and read
value_exact : {A : Type 0} (reads : Data → Option A) (value : A → Data) (Good : A → Type 0) → IsExact reads value Good → (key : List ℕ) (d v : Data) (x : A) → IsInKeyOrder d → get key d ≡ Some v → reads v ≡ Some x
    → (get key d ≡ Some (value x)) × Good x
value_exact reads value Good exact key d v x order there read = let h = exact v x (get_in_order key d v order there) read in (there ∙ ap Some h.0, h.1)

member_exact : {A : Type 0} (reads : Data → Option A) (value : A → Data) (Good : A → Type 0) → IsExact reads value Good → (key : List ℕ) (d : Data) (x : A) → IsInKeyOrder d → member_of reads key d ≡ Some x
    → (get key d ≡ Some (value x)) × Good x
member_exact reads value Good exact key d x order e = option_and_then_some reads (get key d) x e (λ v there read. value_exact reads value Good exact key d v x order there read)

member_cases : {A P : Type 0} (o : Option Data) (reads : Data → Option A) (other : Option A) (x : A) → by_member o reads other ≡ Some x → ((v : Data) → o ≡ Some v → reads v ≡ Some x → P) → (other ≡ Some x → P) → P
member_cases None reads other x e found missing = missing e
member_cases (Some v) reads other x e found missing = found v refl e

one_is : (key : List ℕ) (d v : Data) → IsInKeyOrder d → member_count d ≡ 1 → get key d ≡ Some v → d ≡ object (member key v no_members)
one_is key d v order n a = object_is (field key v) [] d (tt, tt) order n (a, tt)

two_are : (k l : List ℕ) (d v w : Data) → key_cmp k l ≡ Less → IsInKeyOrder d → member_count d ≡ 2 → get k d ≡ Some v → get l d ≡ Some w → d ≡ object (member k v (member l w no_members))
two_are k l d v w up order n a b = object_is (field k v) (field l w ∷ []) d ((up, tt), (tt, tt)) order n (a, (b, tt))

part_exact : IsExact part_of part_value IsShortPart
unfolding part_of
part_exact d p order e =
    let t = test_some (member_count d == 4) _ p e in
    option_and_then_some _ (member_of point_of (codes "end") d) p t.1 (λ end end_is rest_a.
    option_and_then_some _ (member_of point_of (codes "from") d) p rest_a (λ from from_is rest_b.
    option_and_then_some _ (member_of hits_of (codes "hits") d) p rest_b (λ hits hits_is rest_c.
    behind_map _ (member_of point_of (codes "to") d) p rest_c (λ to to_is is.
    let a = member_exact point_of point_value IsShortPoint point_exact (codes "end") d end order end_is in
    let b = member_exact point_of point_value IsShortPoint point_exact (codes "from") d from order from_is in
    let c = member_exact hits_of hits_value Any hits_exact (codes "hits") d hits order hits_is in
    let f = member_exact point_of point_value IsShortPoint point_exact (codes "to") d to order to_is in
    let made = object_is (field (codes "end") (point_value end)) (field (codes "from") (point_value from) ∷ field (codes "hits") (hits_value hits) ∷ field (codes "to") (point_value to) ∷ []) d
    ((refl, (refl, (refl, tt))), ((refl, (refl, tt)), ((refl, tt), (tt, tt)))) order (eqb-true (member_count d) 4 t.0) (a.0, (b.0, (c.0, (f.0, tt)))) in
    subst (λ q. (d ≡ part_value q) × IsShortPart q) is (made, record { end = a.1; from = b.1; to = f.1 })))))

-- ---- answers and replies

answer_two : (d : Data) (a : ReadAnswer) → IsInKeyOrder d → member_count d ≡ 2 → two_answered d ≡ Some a → (d ≡ answer_value a) × IsShortAnswer a
answer_two d a order n e =
    member_cases (get (codes "extent") d) _ _ a e
    (λ v there read. option_and_then_some _ (point_of v) a read (λ extent extent_is rest. behind_map (answer.Size extent) (member_of long_of (codes "units") d) a rest (λ units units_is is.
    let p = value_exact point_of point_value IsShortPoint point_exact (codes "extent") d v extent order there extent_is in
    let q = member_exact long_of whole Any long_exact (codes "units") d units order units_is in
    subst (λ x. (d ≡ answer_value x) × IsShortAnswer x) is (two_are (codes "extent") (codes "units") d _ _ refl order n p.0 q.0, p.1))))
    (λ other. member_cases (get (codes "text") d) _ _ a other
    (λ v there read. option_and_then_some _ (as_str v) a read (λ text text_is rest. behind_map (answer.Text text) (member_of long_of (codes "units") d) a rest (λ units units_is is.
    let p = value_exact as_str string Any text_exact (codes "text") d v text order there text_is in
    let q = member_exact long_of whole Any long_exact (codes "units") d units order units_is in
    subst (λ x. (d ≡ answer_value x) × IsShortAnswer x) is (two_are (codes "text") (codes "units") d _ _ refl order n p.0 q.0, tt))))
    (λ last. option_and_then_some _ (member_of long_of (codes "count") d) a last (λ count count_is rest. behind_map (answer.Found count) (member_of (list_of span_of) (codes "hits") d) a rest (λ hits hits_is is.
    let p = member_exact long_of whole Any long_exact (codes "count") d count order count_is in
    let q = member_exact (list_of span_of) (list_value span_value) (AllByRecursion IsShortSpan) (list_exact span_of span_value IsShortSpan span_exact) (codes "hits") d hits order hits_is in
    subst (λ x. (d ≡ answer_value x) × IsShortAnswer x) is (two_are (codes "count") (codes "hits") d _ _ refl order n p.0 q.0, q.1)))))

saved_is : (d : Data) (a : ReadAnswer) → IsInKeyOrder d → member_count d ≡ 1 → option_map answer.Saved (member_of long_of (codes "bytes") d) ≡ Some a → (d ≡ answer_value a) × IsShortAnswer a
saved_is d a order n e =
    behind_map answer.Saved (member_of long_of (codes "bytes") d) a e (λ bytes bytes_is is.
    let p = member_exact long_of whole Any long_exact (codes "bytes") d bytes order bytes_is in
    subst (λ x. (d ≡ answer_value x) × IsShortAnswer x) is (one_is (codes "bytes") d _ order n p.0, tt))

answer_exact : IsExact answer_of answer_value IsShortAnswer
unfolding answer_of
answer_exact d a order e =
    elim (either_some (member_count d == 1) _ _ a e) [
      | inl one ↦ saved_is d a order (eqb-true (member_count d) 1 one.0) one.1
      | inr other ↦ let t = test_some (member_count d == 2) _ a other in answer_two d a order (eqb-true (member_count d) 2 t.0) t.1
    ]

reply_one : (d : Data) (r : Reply) → IsInKeyOrder d → member_count d ≡ 1 → one_replied d ≡ Some r → (d ≡ reply_value r) × IsShortReply r
unfolding one_replied
reply_one d r order n e =
    member_cases (get (codes "at") d) _ _ r e
    (λ v there read. behind_map reply.Numbered (long_of v) r read (λ k k_is is.
    let p = value_exact long_of whole Any long_exact (codes "at") d v k order there k_is in
    subst (λ x. (d ≡ reply_value x) × IsShortReply x) is (one_is (codes "at") d _ order n p.0, tt)))
    (λ other. member_cases (get (codes "version") d) _ _ r other
    (λ v there read. behind_map reply.Taken (long_of v) r read (λ k k_is is.
    let p = value_exact long_of whole Any long_exact (codes "version") d v k order there k_is in
    subst (λ x. (d ≡ reply_value x) × IsShortReply x) is (one_is (codes "version") d _ order n p.0, tt)))
    (λ last. behind_map reply.Answered (member_of (list_of answer_of) (codes "answers") d) r last (λ answers answers_is is.
    let p = member_exact (list_of answer_of) (list_value answer_value) (AllByRecursion IsShortAnswer) (list_exact answer_of answer_value IsShortAnswer answer_exact) (codes "answers") d answers order answers_is in
    subst (λ x. (d ≡ reply_value x) × IsShortReply x) is (one_is (codes "answers") d _ order n p.0, p.1))))

-- the number of the reply is there
abbrev IsAt : ℕ → Data → Type 0
IsAt n d = get (codes "at") d ≡ Some (whole n)

reply_two : (k : ℕ) (d : Data) (r : Reply) → IsInKeyOrder d → member_count d ≡ 2 → IsAt k d → two_replied k d ≡ Some r → (d ≡ reply_value r) × IsShortReply r
unfolding two_replied
reply_two k d r order n first e =
    member_cases (get (codes "edits") d) _ _ r e
    (λ v there read. behind_map (reply.Batched k) (list_of part_of v) r read (λ x x_is is.
    let p = value_exact (list_of part_of) (list_value part_value) (AllByRecursion IsShortPart) (list_exact part_of part_value IsShortPart part_exact) (codes "edits") d v x order there x_is in
    subst (λ y. (d ≡ reply_value y) × IsShortReply y) is (two_are (codes "at") (codes "edits") d _ _ refl order n first p.0, p.1)))
    (λ no_edits. member_cases (get (codes "ids") d) _ _ r no_edits
    (λ v there read. behind_map (reply.Marks k) (list_of short_of v) r read (λ x x_is is.
    let p = value_exact (list_of short_of) (list_value whole) (AllByRecursion IsShort) (list_exact short_of whole IsShort short_exact) (codes "ids") d v x order there x_is in
    subst (λ y. (d ≡ reply_value y) × IsShortReply y) is (two_are (codes "at") (codes "ids") d _ _ refl order n first p.0, p.1)))
    (λ no_ids. member_cases (get (codes "order") d) _ _ r no_ids
    (λ v there read. behind_map (reply.Order k) (order_of v) r read (λ x x_is is.
    let p = value_exact order_of mark_order_value Any order_exact (codes "order") d v x order there x_is in
    subst (λ y. (d ≡ reply_value y) × IsShortReply y) is (two_are (codes "at") (codes "order") d _ _ refl order n first p.0, tt)))
    (λ no_order. member_cases (get (codes "heard") d) _ _ r no_order
    (λ v there read. behind_map (reply.Heard k) (long_of v) r read (λ x x_is is.
    let p = value_exact long_of whole Any long_exact (codes "heard") d v x order there x_is in
    subst (λ y. (d ≡ reply_value y) × IsShortReply y) is (two_are (codes "at") (codes "heard") d _ _ refl order n first p.0, tt)))
    (λ last. behind_map (reply.Refused k) (member_of refusal_of (codes "no") d) r last (λ x x_is is.
    let p = member_exact refusal_of refusal_value Any refusal_exact (codes "no") d x order x_is in
    subst (λ y. (d ≡ reply_value y) × IsShortReply y) is (two_are (codes "at") (codes "no") d _ _ refl order n first p.0, tt))))))

three_are : (k l m : List ℕ) (d v w x : Data) → key_cmp k l ≡ Less → key_cmp k m ≡ Less → key_cmp l m ≡ Less → IsInKeyOrder d → member_count d ≡ 3 → get k d ≡ Some v → get l d ≡ Some w → get m d ≡ Some x
    → d ≡ object (member k v (member l w (member m x no_members)))
three_are k l m d v w x kl km lm order n a b c = object_is (field k v) (field l w ∷ field m x ∷ []) d ((kl, (km, tt)), ((lm, tt), (tt, tt))) order n (a, (b, (c, tt)))

reply_three : (k : ℕ) (d : Data) (r : Reply) → IsInKeyOrder d → member_count d ≡ 3 → IsAt k d → three_replied k d ≡ Some r → (d ≡ reply_value r) × IsShortReply r
unfolding three_replied
reply_three k d r order n first e =
    member_cases (get (codes "text") d) _ _ r e
    (λ v there read. option_and_then_some _ (as_str v) r read (λ text text_is rest. behind_map (reply.Text k text) (member_of long_of (codes "units") d) r rest (λ units units_is is.
    let p = value_exact as_str string Any text_exact (codes "text") d v text order there text_is in
    let q = member_exact long_of whole Any long_exact (codes "units") d units order units_is in
    subst (λ y. (d ≡ reply_value y) × IsShortReply y) is (three_are (codes "at") (codes "text") (codes "units") d _ _ _ refl refl refl order n first p.0 q.0, tt))))
    (λ last. option_and_then_some _ (member_of as_bool (codes "exclusive") d) r last (λ flag flag_is rest. behind_map (reply.Range k flag) (member_of span_of (codes "range") d) r rest (λ range range_is is.
    let p = member_exact as_bool boolean Any bool_exact (codes "exclusive") d flag order flag_is in
    let q = member_exact span_of span_value IsShortSpan span_exact (codes "range") d range order range_is in
    subst (λ y. (d ≡ reply_value y) × IsShortReply y) is (three_are (codes "at") (codes "exclusive") (codes "range") d _ _ _ refl refl refl order n first p.0 q.0, q.1))))

reply_five : (k : ℕ) (d : Data) (r : Reply) → IsInKeyOrder d → member_count d ≡ 5 → IsAt k d → five_replied k d ≡ Some r → (d ≡ reply_value r) × IsShortReply r
unfolding five_replied
reply_five k d r order n first e =
    option_and_then_some _ (member_of point_of (codes "end") d) r e (λ end end_is rest_a.
    option_and_then_some _ (member_of point_of (codes "from") d) r rest_a (λ from from_is rest_b.
    option_and_then_some _ (member_of hits_of (codes "hits") d) r rest_b (λ hits hits_is rest_c.
    behind_map _ (member_of point_of (codes "to") d) r rest_c (λ to to_is is.
    let a = member_exact point_of point_value IsShortPoint point_exact (codes "end") d end order end_is in
    let b = member_exact point_of point_value IsShortPoint point_exact (codes "from") d from order from_is in
    let c = member_exact hits_of hits_value Any hits_exact (codes "hits") d hits order hits_is in
    let f = member_exact point_of point_value IsShortPoint point_exact (codes "to") d to order to_is in
    let made = object_is (field (codes "at") (whole k))
    (field (codes "end") (point_value end) ∷ field (codes "from") (point_value from) ∷ field (codes "hits") (hits_value hits) ∷ field (codes "to") (point_value to) ∷ []) d
    ((refl, (refl, (refl, (refl, tt)))), ((refl, (refl, (refl, tt))), ((refl, (refl, tt)), ((refl, tt), (tt, tt))))) order n (first, (a.0, (b.0, (c.0, (f.0, tt))))) in
    subst (λ y. (d ≡ reply_value y) × IsShortReply y) is (made, record { end = a.1; from = b.1; to = f.1 })))))

numbered_exact : (d : Data) (r : Reply) → IsInKeyOrder d → numbered_reply d ≡ Some r → (d ≡ reply_value r) × IsShortReply r
unfolding numbered_reply
numbered_exact d r order e =
    option_and_then_some _ (member_of long_of (codes "at") d) r e (λ k k_is rest.
    let first = member_exact long_of whole Any long_exact (codes "at") d k order k_is in
    elim (either_some (member_count d == 2) _ _ r rest) [
      | inl two ↦ reply_two k d r order (eqb-true (member_count d) 2 two.0) first.0 two.1
      | inr more ↦ elim (either_some (member_count d == 3) _ _ r more) [
        | inl three ↦ reply_three k d r order (eqb-true (member_count d) 3 three.0) first.0 three.1
        | inr last ↦ let t = test_some (member_count d == 5) _ r last in reply_five k d r order (eqb-true (member_count d) 5 t.0) first.0 t.1
      ]
    ])

null_is : (d : Data) → is_null d ≡ true → d ≡ null
null_is null e = refl
null_is (boolean b) e = absurd cc
null_is (number n) e = absurd cc
null_is (string s) e = absurd cc
null_is (array ds) e = absurd cc
null_is (object ms) e = absurd cc

reply_exact : IsExact reply_of reply_value IsShortReply
unfolding reply_of
reply_exact d r order e =
    elim (either_some (is_null d) _ _ r e) [
      | inl nothing ↦ subst (λ x. (d ≡ reply_value x) × IsShortReply x) (same_Some _ r nothing.1) (null_is d nothing.0, tt)
      | inr other ↦ elim (either_some (member_count d == 1) _ _ r other) [
        | inl one ↦ reply_one d r order (eqb-true (member_count d) 1 one.0) one.1
        | inr more ↦ numbered_exact d r order more
      ]
    ]

-- ---- the document

end_exact : IsExact end_of end_value Any
unfolding end_of
end_exact d x order e =
    let t = test_some (member_count d == 2) _ x e in
    option_and_then_some _ (member_of long_of (codes "count") d) x t.1 (λ count count_is rest.
    behind_map _ (member_of as_str (codes "text") d) x rest (λ text text_is is.
    let p = member_exact long_of whole Any long_exact (codes "count") d count order count_is in
    let q = member_exact as_str string Any text_exact (codes "text") d text order text_is in
    (two_are (codes "count") (codes "text") d _ _ refl order (eqb-true (member_count d) 2 t.0) p.0 q.0 ∙ ap end_value is, tt)))

abbrev IsOne : ℕ → Type 0
IsOne n = n ≡ 1

version_exact : IsExact version_one whole IsOne
version_exact d n order e =
    option_and_then_some _ (long_of d) n e (λ m m_is rest.
    let t = test_some (m == 1) (Some m) n rest in
    let same = same_Some m n t.1 in
    (long_is d m m_is ∙ ap whole same, sym same ∙ eqb-true m 1 t.0))

pub transcript_exact : IsExact transcript_of transcript_value IsOfVersionOne
unfolding transcript_of
transcript_exact d x order e =
    let t = test_some (member_count d == 3) _ x e in
    option_and_then_some _ (member_of version_one (codes "version") d) x t.1 (λ version version_is rest_a.
    option_and_then_some _ (member_of end_of (codes "end") d) x rest_a (λ end end_is rest_b.
    behind_map _ (member_of (list_of (list_of reply_of)) (codes "sessions") d) x rest_b (λ sessions sessions_is is.
    let p = member_exact version_one whole IsOne version_exact (codes "version") d version order version_is in
    let q = member_exact end_of end_value Any end_exact (codes "end") d end order end_is in
    let s = member_exact (list_of (list_of reply_of)) (list_value replies_value) (AllByRecursion (AllByRecursion IsShortReply))
    (list_exact (list_of reply_of) replies_value (AllByRecursion IsShortReply) (list_exact reply_of reply_value IsShortReply reply_exact)) (codes "sessions") d sessions order sessions_is in
    subst (λ y. (d ≡ transcript_value y) × IsOfVersionOne y) is
    (three_are (codes "end") (codes "sessions") (codes "version") d _ _ _ refl refl refl order (eqb-true (member_count d) 3 t.0) q.0 s.0 p.0, record { version = p.1; short = s.1 }))))
