-- What the row of a command's word tells where the command has the right shape.
use Rattle.std.proofs.Common.{◌≡◌, ◌+◌, ◌&&◌, ◌||◌, not, ℕ, List, [], ◌∷◌, ◌++◌, length, map, Bool, true, false, cond, Option, Some, None, option_map, option_and_then, is_some, refl, sym, ap, ap₂, subst, ◌∙◌, arith}
use Rattle.std.specs.Prelude.{◌==◌, codes, find, option_to_list, unwrap_or}
use Rattle.std.specs.List.{AllByRecursion, list_all}
use Rattle.std.specs.Str.{bytes_eq}
use Rattle.std.proofs.lemmas.Bool.{eqb-true, and_parts, not-false, false≢true, ne_eqb}
use Rattle.points.specs.declared.range.Range.{Range}
use Rattle.machine.specs.declared.command.Command.{Command}
use Rattle.machine.specs.declared.command.Command.TheVariants as command
use Rattle.machine.specs.declared.command.How.{How}
use Rattle.machine.specs.declared.command.How.TheVariants as how
use Rattle.machine.specs.declared.reads.Encoding.{Encoding}
use Rattle.machine.specs.declared.reads.Read.{Read}
use Rattle.machine.specs.declared.reads.Read.TheVariants as read
use Rattle.script.specs.declared.limits.TheConstants.{MAX_SHOWN, MAX_HITS, MAX_ID}
use Rattle.script.specs.Limits.{has_needle, has_needles}
use Rattle.script.specs.Parts.{member_count, items_in, string_in, whole_of, range_of, is_word}
use Rattle.script.specs.Rows as kind
use Rattle.script.specs.Reading.{is_unread}
use Rattle.script.specs.Rows.{Kind, Field, Row, how_words, encoding_words, read_rows}
use Rattle.script.specs.Rules.{command_breaks, read_breaks, fields_break, any_field_breaks, field_breaks, with_reads, wrong_kind, wrong_number, wrong_encoding, empty_needle, wrong_name, any_item, by_row, row_of, is_name, is_save, save_name, names_in, reads_in, snapshot_in, is_misshapen, built_words, is_one_of}
use Rattle.script.specs.ScriptDocument.{edit_of, look_of, ranged_of, bare_of, unmark_of, mark_range_of, exclusive_of, compare_of, mark_of, how_of, marks_of, watch_of, unwatch_of, on_marks_of, size_of, look_read_of, find_of, pattern_of, save_of, encoding_of, read_of, reads_of, take_of, asking_of, release_of, on_snapshots_of, on_text_of, command_of}
use Rattle.script.proofs.Openings.{encoding_there}
use Rattle.script.proofs.RuleLemmas.{or_false, there}
use Rattle.script.proofs.ScriptExact.{word_exact}
use Rattle.serde_json.specs.Data.{Data, Items, no_items, item}
use Rattle.serde_json.specs.Find.{get, as_str, as_bool, as_array}

-- ---- the members that a row asks for

-- a member is there and has the kind that is asked for
record IsThere (test : Kind → Data → Bool) (k : Kind) (o : Option Data) : Type 0 where
  value : Data
  is : o ≡ Some value
  kind : test k value ≡ false

abbrev AllThere : (Kind → Data → Bool) → Data → List Field → Type 0
AllThere test d [] = Unit {0}
AllThere test d (f ∷ fs) = IsThere test f.1 (get f.0 d) × AllThere test d fs

is_there : (test : Kind → Data → Bool) (k : Kind) (o : Option Data) → field_breaks test true k o ≡ false → IsThere test k o
is_there test k None h = absurd (false≢true (sym h))
is_there test k (Some v) h = record { value = v; is = refl; kind = h }

all_there : (test : Kind → Data → Bool) (d : Data) (fs : List Field) → any_field_breaks test true d fs ≡ false → AllThere test d fs
all_there test d [] h = tt
all_there test d (f ∷ fs) h =
    let parts = or_false (field_breaks test true f.1 (get f.0 d)) (any_field_breaks test true d fs) h in
    (is_there test f.1 (get f.0 d) parts.0, all_there test d fs parts.1)

-- so many members, and these
fields_there : (test : Kind → Data → Bool) (n : ℕ) (d : Data) (fs : List Field) → length fs + 1 ≡ n → fields_break test true 1 d fs ≡ false → (member_count d ≡ n) × AllThere test d fs
fields_there test n d fs many h =
    let parts = or_false (not (member_count d == length fs + 1)) (any_field_breaks test true d fs) h in
    (eqb-true (member_count d) (length fs + 1) (not-false (member_count d == length fs + 1) parts.0) ∙ many, all_there test d fs parts.1)

-- ---- tests that such a row can't break

-- a member that holds no encoding, needle, name or reads
abbrev is_simple : Kind → Bool
is_simple kind.encoding = false
is_simple kind.needle = false
is_simple kind.name = false
is_simple kind.reads = false
is_simple k = true

abbrev are_simple : List Field → Bool
are_simple fs = list_all (λ f. is_simple f.1) fs

-- a test that fails no such member
abbrev IsQuiet : (Kind → Data → Bool) → Type 0
IsQuiet test = (k : Kind) (v : Data) → is_simple k ≡ true → test k v ≡ false

quiet_encoding : IsQuiet wrong_encoding
quiet_encoding kind.encoding v h = absurd (false≢true h)
quiet_encoding k v h = refl

quiet_needle : IsQuiet empty_needle
quiet_needle kind.needle v h = absurd (false≢true h)
quiet_needle k v h = refl

quiet_name : IsQuiet wrong_name
quiet_name kind.name v h = absurd (false≢true h)
quiet_name k v h = refl

quiet_reads : (test : Kind → Data → Bool) → IsQuiet test → IsQuiet (with_reads test false)
quiet_reads test quiet kind.reads v h = absurd (false≢true h)
quiet_reads test quiet k v h = quiet k v h

quiet_field : (test : Kind → Data → Bool) (k : Kind) (o : Option Data) → IsQuiet test → is_simple k ≡ true → field_breaks test false k o ≡ false
quiet_field test k None quiet h = refl
quiet_field test k (Some v) quiet h = quiet k v h

quiet_fields : (test : Kind → Data → Bool) (d : Data) (fs : List Field) → IsQuiet test → are_simple fs ≡ true → any_field_breaks test false d fs ≡ false
quiet_fields test d [] quiet h = refl
quiet_fields test d (f ∷ fs) quiet h =
    let parts = and_parts (is_simple f.1) (are_simple fs) h in
    rw (quiet_field test f.1 (get f.0 d) quiet parts.0) (quiet_fields test d fs quiet parts.1)

-- ---- reads

abbrev HasReadRow : Data → List Field → Type 0
HasReadRow d fs = (test : Kind → Data → Bool) (shape : Bool) → read_breaks test shape d ≡ fields_break test shape 1 d fs

-- no needle is empty, where there is a read, or are reads
abbrev NeedleIs : Option Read → Bool → Type 0
NeedleIs None b = Unit {0}
NeedleIs (Some r) b = b ≡ not (has_needle r)

abbrev NeedlesAre : Option (List Read) → Bool → Type 0
NeedlesAre None b = Unit {0}
NeedlesAre (Some rs) b = b ≡ not (list_all has_needle rs)

-- what a read of the right shape is: this one, where its numbers and its encoding are right
record IsShapedRead (d : Data) : Type 0 where
  found : Option Read
  read : read_of d ≡ found
  fails : not (is_some found) ≡ (read_breaks wrong_number false d || read_breaks wrong_encoding false d)
  number : read_breaks wrong_number false d ≡ is_unread false d
  encoding : read_breaks wrong_encoding false d ≡ is_unread true d
  needle : NeedleIs found (read_breaks empty_needle false d)
  name : read_breaks wrong_name false d ≡ not (list_all is_name (option_to_list (save_name d)))

abbrev IsPlainRead : Option Read → Type 0
IsPlainRead None = Unit {0}
IsPlainRead (Some r) = has_needle r ≡ true

plain_needle : (o : Option Read) (b : Bool) → IsPlainRead o → b ≡ false → NeedleIs o b
plain_needle None b plain e = tt
plain_needle (Some r) b plain e = rw plain e

or_no_more : (a : Bool) → (a || false) ≡ a
or_no_more true = refl
or_no_more false = refl

-- a read that isn't a save
other_unread : (d : Data) (o : Option Read) → is_save d ≡ false → read_of d ≡ o → (is_unread false d ≡ not (is_some o)) × (is_unread true d ≡ false) × (save_name d ≡ None)
other_unread d o other e = (rw (other, e) refl, rw other refl, rw other refl)

shaped_read : (d : Data) (fs : List Field) (o : Option Read) → HasReadRow d fs → are_simple fs ≡ true → IsPlainRead o → (read_of d ≡ o) × (read_breaks wrong_number false d ≡ not (is_some o)) → is_save d ≡ false → IsShapedRead d
shaped_read d fs o row simple plain is other =
    let encoding = row wrong_encoding false ∙ quiet_fields wrong_encoding d fs quiet_encoding simple in
    let unread = other_unread d o other is.0 in
    record {
      found = o;
      read = is.0;
      fails = sym (ap₂ (λ a b. a || b) is.1 encoding ∙ or_no_more (not (is_some o)));
      number = is.1 ∙ sym unread.0;
      encoding = encoding ∙ sym unread.1;
      needle = plain_needle o _ plain (row empty_needle false ∙ quiet_fields empty_needle d fs quiet_needle simple);
      name = row wrong_name false ∙ quiet_fields wrong_name d fs quiet_name simple ∙ sym (ap (λ p. not (list_all is_name (option_to_list p))) unread.2);
    }

size_by : (d : Data) → member_count d ≡ 1 → string_in (codes "get") d ≡ Some (codes "size") → (read_of d ≡ Some read.Size) × (read_breaks wrong_number false d ≡ false)
unfolding read_of size_of
size_by d n word = (rw (n, word) refl, rw word refl)

size_shaped : (d : Data) → read_breaks wrong_kind true d ≡ false → string_in (codes "get") d ≡ Some (codes "size") → IsShapedRead d
size_shaped d kinds word =
    let row : HasReadRow d [] = λ test shape. rw word refl in
    let has = fields_there wrong_kind 1 d [] refl (sym (row wrong_kind true) ∙ kinds) in
    shaped_read d [] (Some read.Size) row refl refl (size_by d has.0 word) (rw word refl)

abbrev looked : Option Range → Option ℕ → Option Read
looked o p = option_and_then (λ range. option_map (read.Text range) p) o

looked_plain : (o : Option Range) (p : Option ℕ) → IsPlainRead (looked o p)
looked_plain None p = tt
looked_plain (Some x) None = tt
looked_plain (Some x) (Some n) = refl

look_read_by : (d r v : Data) (o : Option Range) (p : Option ℕ) → member_count d ≡ 3 → string_in (codes "get") d ≡ Some (codes "text") → get (codes "range") d ≡ Some r → get (codes "limit") d ≡ Some v → range_of r ≡ o → whole_of MAX_SHOWN v ≡ p
    → (read_of d ≡ looked o p) × (read_breaks wrong_number false d ≡ not (is_some (looked o p)))
unfolding read_of look_read_of
look_read_by d r v None p n word range limit is at = (rw (n, word, range, is) refl, rw (word, range, is) refl)
look_read_by d r v (Some x) None n word range limit is at = (rw (n, word, range, limit, is, at) refl, rw (word, range, limit, is, at) refl)
look_read_by d r v (Some x) (Some m) n word range limit is at = (rw (n, word, range, limit, is, at) refl, rw (word, range, limit, is, at) refl)

look_read_shaped : (d : Data) → read_breaks wrong_kind true d ≡ false → string_in (codes "get") d ≡ Some (codes "text") → IsShapedRead d
look_read_shaped d kinds word =
    let fs : List Field = (codes "range", kind.range) ∷ (codes "limit", kind.whole MAX_SHOWN) ∷ [] in
    let row : HasReadRow d fs = λ test shape. rw word refl in
    let has = fields_there wrong_kind 3 d fs refl (sym (row wrong_kind true) ∙ kinds) in
    let r = has.1.0 in
    let v = has.1.1.0 in
    shaped_read d fs _ row refl (looked_plain (range_of r.value) (whole_of MAX_SHOWN v.value)) (look_read_by d r.value v.value _ _ has.0 word r.is v.is refl refl) (rw word refl)

-- searches, whose text or pattern is a string
find_by : (d s v : Data) (t : List ℕ) (p : Option ℕ) → member_count d ≡ 3 → string_in (codes "get") d ≡ Some (codes "find") → get (codes "needle") d ≡ Some s → get (codes "limit") d ≡ Some v → as_str s ≡ Some t → whole_of MAX_HITS v ≡ p
    → (read_of d ≡ option_map (read.Find t) p) × (read_breaks wrong_number false d ≡ not (is_some (option_map (read.Find t) p)))
unfolding read_of find_of
find_by d s v t None n word needle limit is at = (rw (n, word, needle, limit, is, at) refl, rw (word, needle, limit, at) refl)
find_by d s v t (Some m) n word needle limit is at = (rw (n, word, needle, limit, is, at) refl, rw (word, needle, limit, at) refl)

empty_is : (t : List ℕ) → (bytes_eq t [] || false) ≡ not (not (length t == 0))
empty_is [] = refl
empty_is (b ∷ bytes) = let some_units : (length (b ∷ bytes) == 0) ≡ false = ne_eqb (length (b ∷ bytes)) 0 (λ h. omega (arith, h)) in rw some_units refl

find_needle : (t : List ℕ) (p : Option ℕ) (b : Bool) → b ≡ (bytes_eq t [] || false) → NeedleIs (option_map (read.Find t) p) b
find_needle t None b e = tt
find_needle t (Some n) b e = e ∙ empty_is t

record IsFindOf (d : Data) (t : List ℕ) : Type 0 where
  encoding : read_breaks wrong_encoding false d ≡ false
  needle : read_breaks empty_needle false d ≡ (bytes_eq t [] || false)
  name : read_breaks wrong_name false d ≡ false
  other : is_save d ≡ false

find_tests : (d s v : Data) (t : List ℕ) → string_in (codes "get") d ≡ Some (codes "find") → get (codes "needle") d ≡ Some s → get (codes "limit") d ≡ Some v → as_str s ≡ Some t → IsFindOf d t
find_tests d s v t word needle limit is = record { encoding = rw (word, needle, limit) refl; needle = rw (word, needle, limit, is) refl; name = rw (word, needle, limit) refl; other = rw word refl }

find_shaped : (d : Data) → read_breaks wrong_kind true d ≡ false → string_in (codes "get") d ≡ Some (codes "find") → IsShapedRead d
find_shaped d kinds word =
    let fs : List Field = (codes "needle", kind.needle) ∷ (codes "limit", kind.whole MAX_HITS) ∷ [] in
    let row : HasReadRow d fs = λ test shape. rw word refl in
    let has = fields_there wrong_kind 3 d fs refl (sym (row wrong_kind true) ∙ kinds) in
    let s = has.1.0 in
    let v = has.1.1.0 in
    let t = there (as_str s.value) s.kind in
    let by = find_by d s.value v.value t.0 _ has.0 word s.is v.is t.1 refl in
    let tests = find_tests d s.value v.value t.0 word s.is v.is t.1 in
    let o = option_map (read.Find t.0) (whole_of MAX_HITS v.value) in
    let unread = other_unread d o tests.other by.0 in
    record {
      found = o;
      read = by.0;
      fails = sym (ap₂ (λ a b. a || b) by.1 tests.encoding ∙ or_no_more (not (is_some o)));
      number = by.1 ∙ sym unread.0;
      encoding = tests.encoding ∙ sym unread.1;
      needle = find_needle t.0 (whole_of MAX_HITS v.value) _ tests.needle;
      name = tests.name ∙ sym (ap (λ p. not (list_all is_name (option_to_list p))) unread.2);
    }

pattern_by : (d s v : Data) (t : List ℕ) (p : Option ℕ) → member_count d ≡ 3 → string_in (codes "get") d ≡ Some (codes "pattern") → get (codes "pattern") d ≡ Some s → get (codes "limit") d ≡ Some v → as_str s ≡ Some t → whole_of MAX_HITS v ≡ p
    → (read_of d ≡ option_map (read.Pattern t) p) × (read_breaks wrong_number false d ≡ not (is_some (option_map (read.Pattern t) p)))
unfolding read_of pattern_of
pattern_by d s v t None n word pattern limit is at = (rw (n, word, pattern, limit, is, at) refl, rw (word, pattern, limit, at) refl)
pattern_by d s v t (Some m) n word pattern limit is at = (rw (n, word, pattern, limit, is, at) refl, rw (word, pattern, limit, at) refl)

pattern_plain : (t : List ℕ) (p : Option ℕ) → IsPlainRead (option_map (read.Pattern t) p)
pattern_plain t None = tt
pattern_plain t (Some n) = refl

pattern_shaped : (d : Data) → read_breaks wrong_kind true d ≡ false → string_in (codes "get") d ≡ Some (codes "pattern") → IsShapedRead d
pattern_shaped d kinds word =
    let fs : List Field = (codes "pattern", kind.text) ∷ (codes "limit", kind.whole MAX_HITS) ∷ [] in
    let row : HasReadRow d fs = λ test shape. rw word refl in
    let has = fields_there wrong_kind 3 d fs refl (sym (row wrong_kind true) ∙ kinds) in
    let s = has.1.0 in
    let v = has.1.1.0 in
    let t = there (as_str s.value) s.kind in
    shaped_read d fs _ row refl (pattern_plain t.0 (whole_of MAX_HITS v.value)) (pattern_by d s.value v.value t.0 _ has.0 word s.is v.is t.1 refl) (rw word refl)

-- one of these words
one_word : (P : Type 0) (o : Option (List ℕ)) (w : List ℕ) (rest b : Bool) → is_word o w ≡ b → (o ≡ Some w → P) → (rest ≡ true → P) → (b || rest) ≡ true → P
one_word P o w rest true is first others h = first (word_exact o w is)
one_word P o w rest false is first others h = others h

by_words : (P : Type 0) (o : Option (List ℕ)) (words : List (List ℕ)) → AllByRecursion (λ w. o ≡ Some w → P) words → is_one_of words o ≡ true → P
by_words P o [] each h = absurd (false≢true h)
by_words P o (w ∷ ws) each h = one_word P o w (is_one_of ws o) (is_word o w) refl each.0 (by_words P o ws each.1) h

-- a save, whose name and encoding are strings
save_by : (d n w : Data) (name word : List ℕ) (o : Option Encoding) → member_count d ≡ 3 → string_in (codes "get") d ≡ Some (codes "save") → get (codes "name") d ≡ Some n → get (codes "encoding") d ≡ Some w → as_str n ≡ Some name → as_str w ≡ Some word → encoding_of word ≡ o
    → read_of d ≡ option_map (λ e. read.Save name e) o
unfolding read_of save_of
save_by d n w name word None count get name_in word_in name_is word_is is = rw (count, get, word_in, word_is, is) refl
save_by d n w name word (Some e) count get name_in word_in name_is word_is is = rw (count, get, word_in, word_is, is, name_in, name_is) refl

record IsSaveOf (d : Data) (name word : List ℕ) : Type 0 where
  number : read_breaks wrong_number false d ≡ false
  encoding : read_breaks wrong_encoding false d ≡ (not (is_one_of encoding_words (Some word)) || false)
  needle : read_breaks empty_needle false d ≡ false
  name_is : read_breaks wrong_name false d ≡ (not (is_some (cond (is_name name) (Some name) None)) || false)
  save : is_save d ≡ true
  named : save_name d ≡ Some name

save_tests : (d n w : Data) (name word : List ℕ) → string_in (codes "get") d ≡ Some (codes "save") → get (codes "name") d ≡ Some n → get (codes "encoding") d ≡ Some w → as_str n ≡ Some name → as_str w ≡ Some word → IsSaveOf d name word
save_tests d n w name word get name_in word_in name_is word_is = record {
  number = rw (get, name_in, word_in) refl;
  encoding = rw (get, name_in, word_in, word_is) refl;
  needle = rw (get, name_in, word_in) refl;
  name_is = rw (get, name_in, word_in, name_is) refl;
  save = rw get refl;
  named = rw (get, name_in, name_is) refl;
}

save_unread : (d : Data) (name : List ℕ) (o : Option Encoding) → is_save d ≡ true → read_of d ≡ option_map (λ e. read.Save name e) o → (is_unread false d ≡ false) × (is_unread true d ≡ not (is_some o))
save_unread d name None save e = (rw save refl, rw (save, e) refl)
save_unread d name (Some x) save e = (rw save refl, rw (save, e) refl)

save_plain : (name : List ℕ) (o : Option Encoding) (b : Bool) → b ≡ false → NeedleIs (option_map (λ e. read.Save name e) o) b
save_plain name None b e = tt
save_plain name (Some x) b e = e

same_there : (name : List ℕ) (o : Option Encoding) → not (is_some (option_map (λ e. read.Save name e) o)) ≡ not (is_some o)
same_there name None = refl
same_there name (Some x) = refl

name_test : (b : Bool) (name : List ℕ) → (not (is_some (cond b (Some name) None)) || false) ≡ not (b && true)
name_test true name = refl
name_test false name = refl

save_shaped : (d : Data) → read_breaks wrong_kind true d ≡ false → string_in (codes "get") d ≡ Some (codes "save") → IsShapedRead d
save_shaped d kinds word =
    let fs : List Field = (codes "name", kind.name) ∷ (codes "encoding", kind.encoding) ∷ [] in
    let row : HasReadRow d fs = λ test shape. rw word refl in
    let has = fields_there wrong_kind 3 d fs refl (sym (row wrong_kind true) ∙ kinds) in
    let n = has.1.0 in
    let w = has.1.1.0 in
    let name = there (as_str n.value) n.kind in
    let said = there (as_str w.value) w.kind in
    let o = encoding_of said.0 in
    let by = save_by d n.value w.value name.0 said.0 o has.0 word n.is w.is name.1 said.1 refl in
    let tests = save_tests d n.value w.value name.0 said.0 word n.is w.is name.1 said.1 in
    let wrong : read_breaks wrong_encoding false d ≡ not (is_some o) = tests.encoding ∙ or_no_more _ ∙ ap not (encoding_there said.0) in
    let unread = save_unread d name.0 o tests.save by in
    record {
      found = option_map (λ e. read.Save name.0 e) o;
      read = by;
      fails = same_there name.0 o ∙ sym (ap₂ (λ a b. a || b) tests.number wrong);
      number = tests.number ∙ sym unread.0;
      encoding = wrong ∙ sym unread.1;
      needle = save_plain name.0 o _ tests.needle;
      name = tests.name_is ∙ name_test (is_name name.0) name.0 ∙ sym (ap (λ p. not (list_all is_name (option_to_list p))) tests.named);
    }

-- the word of a row that is found is one of the words
first_or_more : (b : Bool) (row : Row) (found : Option Row) (rest : Bool) → (is_some found ≡ true → rest ≡ true) → is_some (cond b (Some row) found) ≡ true → (b || rest) ≡ true
first_or_more true row found rest more h = refl
first_or_more false row found rest more h = more h

word_found : (o : Option (List ℕ)) (rows : List Row) → is_some (find (λ row. is_word o row.0) rows) ≡ true → is_one_of (map (λ row. row.0) rows) o ≡ true
word_found o [] h = h
word_found o (row ∷ rows) h = first_or_more (is_word o row.0) row _ (is_one_of (map (λ row. row.0) rows) o) (word_found o rows) h

row_found : (d : Data) (o : Option Row) → by_row wrong_kind true d o ≡ false → is_some o ≡ true
row_found d None h = absurd (false≢true (sym h))
row_found d (Some row) h = refl

read_shaped : (d : Data) → read_breaks wrong_kind true d ≡ false → IsShapedRead d
read_shaped d kinds =
    by_words (IsShapedRead d) (string_in (codes "get") d) (map (λ row. row.0) read_rows) (size_shaped d kinds, (look_read_shaped d kinds, (find_shaped d kinds, (pattern_shaped d kinds, (save_shaped d kinds, tt)))))
    (word_found (string_in (codes "get") d) read_rows (row_found d (row_of read_rows (codes "get") d) kinds))

-- what reads of the right shape are
record AreShapedReads (ds : Items) : Type 0 where
  found : Option (List Read)
  read : reads_of ds ≡ found
  fails : not (is_some found) ≡ (any_item (read_breaks wrong_number false) ds || any_item (read_breaks wrong_encoding false) ds)
  number : any_item (read_breaks wrong_number false) ds ≡ any_item (is_unread false) ds
  encoding : any_item (read_breaks wrong_encoding false) ds ≡ any_item (is_unread true) ds
  needle : NeedlesAre found (any_item (read_breaks empty_needle false) ds)
  name : any_item (read_breaks wrong_name false) ds ≡ not (list_all is_name (names_in ds))

abbrev one_more : Option Read → Option (List Read) → Option (List Read)
one_more o p = option_and_then (λ r. option_map (λ rs. r ∷ rs) p) o

either_none : (o : Option Read) (p : Option (List Read)) → (not (is_some o) || not (is_some p)) ≡ not (is_some (one_more o p))
either_none None p = refl
either_none (Some r) None = refl
either_none (Some r) (Some rs) = refl

not_both : (x y : Bool) → (not x || not y) ≡ not (x && y)
not_both true y = refl
not_both false y = refl

needle_more : (o : Option Read) (p : Option (List Read)) (x y : Bool) → NeedleIs o x → NeedlesAre p y → NeedlesAre (one_more o p) (x || y)
needle_more None p x y h k = tt
needle_more (Some r) None x y h k = tt
needle_more (Some r) (Some rs) x y h k = rw (h, k) (not_both (has_needle r) (list_all has_needle rs))

four_or : (a b c d : Bool) → ((a || b) || (c || d)) ≡ ((a || c) || (b || d))
four_or true b c d = refl
four_or false true true d = refl
four_or false true false d = refl
four_or false false c d = refl

-- the names of one read, and of more
one_name : (x y : Bool) → (not (x && true) || not y) ≡ not (x && y)
one_name true y = refl
one_name false y = refl

names_more : (p : Option (List ℕ)) (names : List (List ℕ)) → (not (list_all is_name (option_to_list p)) || not (list_all is_name names)) ≡ not (list_all is_name (option_to_list p ++ names))
names_more None names = refl
names_more (Some s) names = one_name (is_name s) (list_all is_name names)

reads_shaped : (ds : Items) → any_item (read_breaks wrong_kind true) ds ≡ false → AreShapedReads ds
reads_shaped no_items kinds = record { found = Some []; read = refl; fails = refl; number = refl; encoding = refl; needle = refl; name = refl }
reads_shaped (item d ds) kinds =
    let k = or_false (read_breaks wrong_kind true d) (any_item (read_breaks wrong_kind true) ds) kinds in
    let one = read_shaped d k.0 in
    let more = reads_shaped ds k.1 in
    record {
      found = one_more one.found more.found;
      read = rw (one.read, more.read) refl;
      fails = sym (either_none one.found more.found) ∙ ap₂ (λ a b. a || b) one.fails more.fails
          ∙ four_or (read_breaks wrong_number false d) (read_breaks wrong_encoding false d) (any_item (read_breaks wrong_number false) ds) (any_item (read_breaks wrong_encoding false) ds);
      number = ap₂ (λ a b. a || b) one.number more.number;
      encoding = ap₂ (λ a b. a || b) one.encoding more.encoding;
      needle = needle_more one.found more.found _ _ one.needle more.needle;
      name = ap₂ (λ a b. a || b) one.name more.name ∙ names_more (save_name d) (names_in ds);
    }

-- ---- commands

abbrev HasRow : Data → List Field → Type 0
HasRow d fs = (test : Kind → Data → Bool) (shape : Bool) → command_breaks test shape d ≡ fields_break (with_reads test shape) shape 1 d fs

-- no needle of the command is empty, where there is one
abbrev pub HasNeedles : Option Command → Bool → Type 0
HasNeedles None b = Unit {0}
HasNeedles (Some c) b = b ≡ not (has_needles c)

-- what a command of the right shape is: this one, where its numbers and its encodings are right
pub record IsShaped (d : Data) : Type 0 where
  pub found : Option Command
  pub read : command_of d ≡ found
  pub fails : not (is_some found) ≡ (command_breaks wrong_number false d || command_breaks wrong_encoding false d)
  pub number : any_item (is_unread true) (reads_in d) ≡ true → command_breaks wrong_number false d ≡ (not (is_some (snapshot_in d)) || any_item (is_unread false) (reads_in d))
  pub encoding : command_breaks wrong_encoding false d ≡ any_item (is_unread true) (reads_in d)
  pub needle : HasNeedles found (command_breaks empty_needle false d)
  pub name : command_breaks wrong_name false d ≡ not (list_all is_name (names_in (reads_in d)))

-- it is so read, and its numbers are right where it is
abbrev IsReadAs : Data → Option Command → Type 0
IsReadAs d o = (command_of d ≡ o) × (command_breaks wrong_number false d ≡ not (is_some o))

abbrev IsPlain : Option Command → Type 0
IsPlain None = Unit {0}
IsPlain (Some c) = has_needles c ≡ true

no_needle : (o : Option Command) (b : Bool) → IsPlain o → b ≡ false → HasNeedles o b
no_needle None b plain e = tt
no_needle (Some c) b plain e = rw plain e

shaped : (d : Data) (fs : List Field) (o : Option Command) → HasRow d fs → are_simple fs ≡ true → IsPlain o → IsReadAs d o → reads_in d ≡ no_items → IsShaped d
shaped d fs o row simple plain is none =
    let encoding = row wrong_encoding false ∙ quiet_fields (with_reads wrong_encoding false) d fs (quiet_reads wrong_encoding quiet_encoding) simple in
    record {
      found = o;
      read = is.0;
      fails = sym (ap₂ (λ a b. a || b) is.1 encoding ∙ or_no_more (not (is_some o)));
      number = λ h. absurd (false≢true (sym (ap (any_item (is_unread true)) none) ∙ h));
      encoding = encoding ∙ sym (ap (any_item (is_unread true)) none);
      needle = no_needle o _ plain (row empty_needle false ∙ quiet_fields (with_reads empty_needle false) d fs (quiet_reads empty_needle quiet_needle) simple);
      name = row wrong_name false ∙ quiet_fields (with_reads wrong_name false) d fs (quiet_reads wrong_name quiet_name) simple ∙ sym (ap (λ ds. not (list_all is_name (names_in ds))) none);
    }

-- the members of such a command
row_there : (n : ℕ) (d : Data) (fs : List Field) → length fs + 1 ≡ n → HasRow d fs → command_breaks wrong_kind true d ≡ false → (member_count d ≡ n) × AllThere (with_reads wrong_kind true) d fs
row_there n d fs many row kinds = fields_there (with_reads wrong_kind true) n d fs many (sym (row wrong_kind true) ∙ kinds)

undo_by : (d : Data) → member_count d ≡ 1 → string_in (codes "do") d ≡ Some (codes "undo") → IsReadAs d (Some command.Undo)
unfolding command_of on_text_of bare_of
undo_by d n word = (rw (n, word) refl, rw word refl)

undo_shaped : (d : Data) → command_breaks wrong_kind true d ≡ false → string_in (codes "do") d ≡ Some (codes "undo") → IsShaped d
undo_shaped d kinds word =
    let row : HasRow d [] = λ test shape. rw word refl in
    shaped d [] (Some command.Undo) row refl refl (undo_by d (row_there 1 d [] refl row kinds).0 word) (rw word refl)

redo_by : (d : Data) → member_count d ≡ 1 → string_in (codes "do") d ≡ Some (codes "redo") → IsReadAs d (Some command.Redo)
unfolding command_of on_text_of bare_of
redo_by d n word = (rw (n, word) refl, rw word refl)

redo_shaped : (d : Data) → command_breaks wrong_kind true d ≡ false → string_in (codes "do") d ≡ Some (codes "redo") → IsShaped d
redo_shaped d kinds word =
    let row : HasRow d [] = λ test shape. rw word refl in
    shaped d [] (Some command.Redo) row refl refl (redo_by d (row_there 1 d [] refl row kinds).0 word) (rw word refl)

squash_by : (d : Data) → member_count d ≡ 1 → string_in (codes "do") d ≡ Some (codes "squash") → IsReadAs d (Some command.Squash)
unfolding command_of on_text_of bare_of
squash_by d n word = (rw (n, word) refl, rw word refl)

squash_shaped : (d : Data) → command_breaks wrong_kind true d ≡ false → string_in (codes "do") d ≡ Some (codes "squash") → IsShaped d
squash_shaped d kinds word =
    let row : HasRow d [] = λ test shape. rw word refl in
    shaped d [] (Some command.Squash) row refl refl (squash_by d (row_there 1 d [] refl row kinds).0 word) (rw word refl)

-- one whole number
one_plain : (make : ℕ → Command) → ((n : ℕ) → has_needles (make n) ≡ true) → (o : Option ℕ) → IsPlain (option_map make o)
one_plain make each None = tt
one_plain make each (Some n) = each n

unmark_by : (d v : Data) (o : Option ℕ) → member_count d ≡ 2 → string_in (codes "do") d ≡ Some (codes "unmark") → get (codes "id") d ≡ Some v → whole_of MAX_ID v ≡ o → IsReadAs d (option_map command.Unmark o)
unfolding command_of on_marks_of unmark_of
unmark_by d v None n word id is = (rw (n, word, id, is) refl, rw (word, id, is) refl)
unmark_by d v (Some x) n word id is = (rw (n, word, id, is) refl, rw (word, id, is) refl)

unmark_shaped : (d : Data) → command_breaks wrong_kind true d ≡ false → string_in (codes "do") d ≡ Some (codes "unmark") → IsShaped d
unmark_shaped d kinds word =
    let fs : List Field = (codes "id", kind.whole MAX_ID) ∷ [] in
    let row : HasRow d fs = λ test shape. rw word refl in
    let has = row_there 2 d fs refl row kinds in
    shaped d fs _ row refl (one_plain command.Unmark (λ n. refl) (whole_of MAX_ID has.1.0.value)) (unmark_by d has.1.0.value _ has.0 word has.1.0.is refl) (rw word refl)

range_by : (d v : Data) (o : Option ℕ) → member_count d ≡ 2 → string_in (codes "do") d ≡ Some (codes "range") → get (codes "id") d ≡ Some v → whole_of MAX_ID v ≡ o → IsReadAs d (option_map command.Range o)
unfolding command_of on_marks_of mark_range_of
range_by d v None n word id is = (rw (n, word, id, is) refl, rw (word, id, is) refl)
range_by d v (Some x) n word id is = (rw (n, word, id, is) refl, rw (word, id, is) refl)

range_shaped : (d : Data) → command_breaks wrong_kind true d ≡ false → string_in (codes "do") d ≡ Some (codes "range") → IsShaped d
range_shaped d kinds word =
    let fs : List Field = (codes "id", kind.whole MAX_ID) ∷ [] in
    let row : HasRow d fs = λ test shape. rw word refl in
    let has = row_there 2 d fs refl row kinds in
    shaped d fs _ row refl (one_plain command.Range (λ n. refl) (whole_of MAX_ID has.1.0.value)) (range_by d has.1.0.value _ has.0 word has.1.0.is refl) (rw word refl)

watch_by : (d v : Data) (o : Option ℕ) → member_count d ≡ 2 → string_in (codes "do") d ≡ Some (codes "watch") → get (codes "id") d ≡ Some v → whole_of MAX_ID v ≡ o → IsReadAs d (option_map command.Watch o)
unfolding command_of on_marks_of watch_of
watch_by d v None n word id is = (rw (n, word, id, is) refl, rw (word, id, is) refl)
watch_by d v (Some x) n word id is = (rw (n, word, id, is) refl, rw (word, id, is) refl)

watch_shaped : (d : Data) → command_breaks wrong_kind true d ≡ false → string_in (codes "do") d ≡ Some (codes "watch") → IsShaped d
watch_shaped d kinds word =
    let fs : List Field = (codes "id", kind.whole MAX_ID) ∷ [] in
    let row : HasRow d fs = λ test shape. rw word refl in
    let has = row_there 2 d fs refl row kinds in
    shaped d fs _ row refl (one_plain command.Watch (λ n. refl) (whole_of MAX_ID has.1.0.value)) (watch_by d has.1.0.value _ has.0 word has.1.0.is refl) (rw word refl)

unwatch_by : (d v : Data) (o : Option ℕ) → member_count d ≡ 2 → string_in (codes "do") d ≡ Some (codes "unwatch") → get (codes "id") d ≡ Some v → whole_of MAX_ID v ≡ o → IsReadAs d (option_map command.Unwatch o)
unfolding command_of on_marks_of unwatch_of
unwatch_by d v None n word id is = (rw (n, word, id, is) refl, rw (word, id, is) refl)
unwatch_by d v (Some x) n word id is = (rw (n, word, id, is) refl, rw (word, id, is) refl)

unwatch_shaped : (d : Data) → command_breaks wrong_kind true d ≡ false → string_in (codes "do") d ≡ Some (codes "unwatch") → IsShaped d
unwatch_shaped d kinds word =
    let fs : List Field = (codes "id", kind.whole MAX_ID) ∷ [] in
    let row : HasRow d fs = λ test shape. rw word refl in
    let has = row_there 2 d fs refl row kinds in
    shaped d fs _ row refl (one_plain command.Unwatch (λ n. refl) (whole_of MAX_ID has.1.0.value)) (unwatch_by d has.1.0.value _ has.0 word has.1.0.is refl) (rw word refl)

take_by : (d v : Data) (o : Option ℕ) → member_count d ≡ 2 → string_in (codes "do") d ≡ Some (codes "take") → get (codes "snapshot") d ≡ Some v → whole_of MAX_ID v ≡ o → IsReadAs d (option_map command.Take o)
unfolding command_of on_snapshots_of take_of
take_by d v None n word id is = (rw (n, word, id, is) refl, rw (word, id, is) refl)
take_by d v (Some x) n word id is = (rw (n, word, id, is) refl, rw (word, id, is) refl)

take_shaped : (d : Data) → command_breaks wrong_kind true d ≡ false → string_in (codes "do") d ≡ Some (codes "take") → IsShaped d
take_shaped d kinds word =
    let fs : List Field = (codes "snapshot", kind.whole MAX_ID) ∷ [] in
    let row : HasRow d fs = λ test shape. rw word refl in
    let has = row_there 2 d fs refl row kinds in
    shaped d fs _ row refl (one_plain command.Take (λ n. refl) (whole_of MAX_ID has.1.0.value)) (take_by d has.1.0.value _ has.0 word has.1.0.is refl) (rw word refl)

release_by : (d v : Data) (o : Option ℕ) → member_count d ≡ 2 → string_in (codes "do") d ≡ Some (codes "release") → get (codes "snapshot") d ≡ Some v → whole_of MAX_ID v ≡ o → IsReadAs d (option_map command.Release o)
unfolding command_of on_snapshots_of release_of
release_by d v None n word id is = (rw (n, word, id, is) refl, rw (word, id, is) refl)
release_by d v (Some x) n word id is = (rw (n, word, id, is) refl, rw (word, id, is) refl)

release_shaped : (d : Data) → command_breaks wrong_kind true d ≡ false → string_in (codes "do") d ≡ Some (codes "release") → IsShaped d
release_shaped d kinds word =
    let fs : List Field = (codes "snapshot", kind.whole MAX_ID) ∷ [] in
    let row : HasRow d fs = λ test shape. rw word refl in
    let has = row_there 2 d fs refl row kinds in
    shaped d fs _ row refl (one_plain command.Release (λ n. refl) (whole_of MAX_ID has.1.0.value)) (release_by d has.1.0.value _ has.0 word has.1.0.is refl) (rw word refl)

-- two parts, each read or not
two_plain : {A B : Type 0} (make : A → B → Command) → ((a : A) (b : B) → has_needles (make a b) ≡ true) → (o : Option A) (p : Option B) → IsPlain (option_and_then (λ a. option_map (make a) p) o)
two_plain make each None p = tt
two_plain make each (Some a) None = tt
two_plain make each (Some a) (Some b) = each a b

edit_by : (d r v : Data) (o : Option Range) (s : List ℕ) → member_count d ≡ 3 → string_in (codes "do") d ≡ Some (codes "edit") → get (codes "range") d ≡ Some r → get (codes "text") d ≡ Some v → range_of r ≡ o → as_str v ≡ Some s
    → IsReadAs d (option_and_then (λ x. option_map (command.Edit x) (Some s)) o)
unfolding command_of on_text_of ranged_of edit_of
edit_by d r v None s n word range text is at = (rw (n, word, range, is) refl, rw (word, range, text, is) refl)
edit_by d r v (Some x) s n word range text is at = (rw (n, word, range, text, is, at) refl, rw (word, range, text, is) refl)

edit_shaped : (d : Data) → command_breaks wrong_kind true d ≡ false → string_in (codes "do") d ≡ Some (codes "edit") → IsShaped d
edit_shaped d kinds word =
    let fs : List Field = (codes "range", kind.range) ∷ (codes "text", kind.text) ∷ [] in
    let row : HasRow d fs = λ test shape. rw word refl in
    let has = row_there 3 d fs refl row kinds in
    let r = has.1.0 in
    let v = has.1.1.0 in
    let s = there (as_str v.value) v.kind in
    shaped d fs _ row refl (two_plain command.Edit (λ x y. refl) (range_of r.value) (Some s.0)) (edit_by d r.value v.value _ s.0 has.0 word r.is v.is refl s.1) (rw word refl)

look_by : (d r v : Data) (o : Option Range) (p : Option ℕ) → member_count d ≡ 3 → string_in (codes "do") d ≡ Some (codes "text") → get (codes "range") d ≡ Some r → get (codes "limit") d ≡ Some v → range_of r ≡ o → whole_of MAX_SHOWN v ≡ p
    → IsReadAs d (option_and_then (λ x. option_map (command.Text x) p) o)
unfolding command_of on_text_of ranged_of look_of
look_by d r v None p n word range limit is at = (rw (n, word, range, is) refl, rw (word, range, is) refl)
look_by d r v (Some x) None n word range limit is at = (rw (n, word, range, limit, is, at) refl, rw (word, range, limit, is, at) refl)
look_by d r v (Some x) (Some m) n word range limit is at = (rw (n, word, range, limit, is, at) refl, rw (word, range, limit, is, at) refl)

look_shaped : (d : Data) → command_breaks wrong_kind true d ≡ false → string_in (codes "do") d ≡ Some (codes "text") → IsShaped d
look_shaped d kinds word =
    let fs : List Field = (codes "range", kind.range) ∷ (codes "limit", kind.whole MAX_SHOWN) ∷ [] in
    let row : HasRow d fs = λ test shape. rw word refl in
    let has = row_there 3 d fs refl row kinds in
    let r = has.1.0 in
    let v = has.1.1.0 in
    shaped d fs _ row refl (two_plain command.Text (λ x y. refl) (range_of r.value) (whole_of MAX_SHOWN v.value)) (look_by d r.value v.value _ _ has.0 word r.is v.is refl refl) (rw word refl)

exclusive_by : (d v w : Data) (o : Option ℕ) (b : Bool) → member_count d ≡ 3 → string_in (codes "do") d ≡ Some (codes "exclusive") → get (codes "id") d ≡ Some v → get (codes "value") d ≡ Some w → whole_of MAX_ID v ≡ o → as_bool w ≡ Some b
    → IsReadAs d (option_and_then (λ id. option_map (command.Exclusive id) (Some b)) o)
unfolding command_of on_marks_of exclusive_of
exclusive_by d v w None b n word id value is at = (rw (n, word, id, is) refl, rw (word, id, value, is) refl)
exclusive_by d v w (Some x) b n word id value is at = (rw (n, word, id, value, is, at) refl, rw (word, id, value, is) refl)

exclusive_shaped : (d : Data) → command_breaks wrong_kind true d ≡ false → string_in (codes "do") d ≡ Some (codes "exclusive") → IsShaped d
exclusive_shaped d kinds word =
    let fs : List Field = (codes "id", kind.whole MAX_ID) ∷ (codes "value", kind.flag) ∷ [] in
    let row : HasRow d fs = λ test shape. rw word refl in
    let has = row_there 3 d fs refl row kinds in
    let v = has.1.0 in
    let w = has.1.1.0 in
    let b = there (as_bool w.value) w.kind in
    shaped d fs _ row refl (two_plain command.Exclusive (λ x y. refl) (whole_of MAX_ID v.value) (Some b.0)) (exclusive_by d v.value w.value _ b.0 has.0 word v.is w.is refl b.1) (rw word refl)

compare_by : (d v w : Data) (o p : Option ℕ) → member_count d ≡ 3 → string_in (codes "do") d ≡ Some (codes "compare") → get (codes "a") d ≡ Some v → get (codes "b") d ≡ Some w → whole_of MAX_ID v ≡ o → whole_of MAX_ID w ≡ p
    → IsReadAs d (option_and_then (λ a. option_map (command.Compare a) p) o)
unfolding command_of on_marks_of compare_of
compare_by d v w None p n word a b is at = (rw (n, word, a, is) refl, rw (word, a, b, is) refl)
compare_by d v w (Some x) None n word a b is at = (rw (n, word, a, b, is, at) refl, rw (word, a, b, is, at) refl)
compare_by d v w (Some x) (Some y) n word a b is at = (rw (n, word, a, b, is, at) refl, rw (word, a, b, is, at) refl)

compare_shaped : (d : Data) → command_breaks wrong_kind true d ≡ false → string_in (codes "do") d ≡ Some (codes "compare") → IsShaped d
compare_shaped d kinds word =
    let fs : List Field = (codes "a", kind.whole MAX_ID) ∷ (codes "b", kind.whole MAX_ID) ∷ [] in
    let row : HasRow d fs = λ test shape. rw word refl in
    let has = row_there 3 d fs refl row kinds in
    let v = has.1.0 in
    let w = has.1.1.0 in
    shaped d fs _ row refl (two_plain command.Compare (λ x y. refl) (whole_of MAX_ID v.value) (whole_of MAX_ID w.value)) (compare_by d v.value w.value _ _ has.0 word v.is w.is refl refl) (rw word refl)

mark_by : (d v r w : Data) (o : Option ℕ) (p : Option Range) (b : Bool) → member_count d ≡ 4 → string_in (codes "do") d ≡ Some (codes "mark") → get (codes "id") d ≡ Some v → get (codes "range") d ≡ Some r → get (codes "exclusive") d ≡ Some w
    → whole_of MAX_ID v ≡ o → range_of r ≡ p → as_bool w ≡ Some b → IsReadAs d (option_and_then (λ id. option_map (λ range. command.Mark id range b) p) o)
unfolding command_of on_marks_of mark_of
mark_by d v r w None p b n word id range value is at flag = (rw (n, word, id, is) refl, rw (word, id, is) refl)
mark_by d v r w (Some x) None b n word id range value is at flag = (rw (n, word, id, range, is, at) refl, rw (word, id, range, is, at) refl)
mark_by d v r w (Some x) (Some y) b n word id range value is at flag = (rw (n, word, id, range, value, is, at, flag) refl, rw (word, id, range, value, is, at) refl)

mark_shaped : (d : Data) → command_breaks wrong_kind true d ≡ false → string_in (codes "do") d ≡ Some (codes "mark") → IsShaped d
mark_shaped d kinds word =
    let fs : List Field = (codes "id", kind.whole MAX_ID) ∷ (codes "range", kind.range) ∷ (codes "exclusive", kind.flag) ∷ [] in
    let row : HasRow d fs = λ test shape. rw word refl in
    let has = row_there 4 d fs refl row kinds in
    let v = has.1.0 in
    let r = has.1.1.0 in
    let w = has.1.1.1.0 in
    let b = there (as_bool w.value) w.kind in
    shaped d fs _ row refl (two_plain (λ id range. command.Mark id range b.0) (λ x y. refl) (whole_of MAX_ID v.value) (range_of r.value)) (mark_by d v.value r.value w.value _ _ b.0 has.0 word v.is r.is w.is refl refl b.1) (rw word refl)

-- a word of a find of marks is one
first_how : (b rest : Bool) (x : How) (o : Option How) → (rest ≡ true → (h : How) × (o ≡ Some h)) → (b || rest) ≡ true → (h : How) × (cond b (Some x) o ≡ Some h)
first_how true rest x o more h = (x, refl)
first_how false rest x o more h = more h

how_there : (s : List ℕ) → is_one_of how_words (Some s) ≡ true → (h : How) × (how_of s ≡ Some h)
unfolding how_of
how_there s h =
    first_how (bytes_eq s (codes "intersecting")) _ how.Intersecting _ (λ h.
    first_how (bytes_eq s (codes "containing")) _ how.Containing _ (λ h.
    first_how (bytes_eq s (codes "contained_in")) _ how.ContainedIn _ (λ h.
    first_how (bytes_eq s (codes "starting_in")) _ how.StartingIn _ (λ h.
    first_how (bytes_eq s (codes "starting_at")) _ how.StartingAt _ (λ h.
    first_how (bytes_eq s (codes "ending_in")) _ how.EndingIn _ (λ h.
    first_how (bytes_eq s (codes "ending_at")) false how.EndingAt None (λ h. absurd (false≢true h)) h) h) h) h) h) h) h

marks_by : (d v r : Data) (s : List ℕ) (h : How) (p : Option Range) → member_count d ≡ 3 → string_in (codes "do") d ≡ Some (codes "marks") → get (codes "how") d ≡ Some v → get (codes "range") d ≡ Some r → as_str v ≡ Some s → how_of s ≡ Some h → range_of r ≡ p
    → IsReadAs d (option_and_then (λ x. option_map (command.Marks x) p) (Some h))
unfolding command_of on_marks_of marks_of
marks_by d v r s h None n word how range is of at = (rw (n, word, how, range, is, of, at) refl, rw (word, how, range, at) refl)
marks_by d v r s h (Some x) n word how range is of at = (rw (n, word, how, range, is, of, at) refl, rw (word, how, range, at) refl)

word_there : (o : Option (List ℕ)) → not (is_one_of how_words o) ≡ false → (s : List ℕ) × (o ≡ Some s) × (is_one_of how_words (Some s) ≡ true)
word_there None h = absurd (false≢true (sym h))
word_there (Some s) h = (s, refl, not-false (is_one_of how_words (Some s)) h)

marks_shaped : (d : Data) → command_breaks wrong_kind true d ≡ false → string_in (codes "do") d ≡ Some (codes "marks") → IsShaped d
marks_shaped d kinds word =
    let fs : List Field = (codes "how", kind.how) ∷ (codes "range", kind.range) ∷ [] in
    let row : HasRow d fs = λ test shape. rw word refl in
    let has = row_there 3 d fs refl row kinds in
    let v = has.1.0 in
    let r = has.1.1.0 in
    let s = word_there (as_str v.value) v.kind in
    let h = how_there s.0 s.2 in
    shaped d fs _ row refl (two_plain command.Marks (λ x y. refl) (Some h.0) (range_of r.value)) (marks_by d v.value r.value s.0 h.0 _ has.0 word v.is r.is s.1 h.1 refl) (rw word refl)

-- the command of a number and reads
abbrev made_of : (ℕ → List Read → Command) → ℕ × List Read → Command
made_of make a = make a.0 a.1

-- a number and reads, each read or not
asking_by : (d v w : Data) (ds : Items) (o : Option ℕ) (p : Option (List Read)) → member_count d ≡ 3 → get (codes "snapshot") d ≡ Some v → get (codes "reads") d ≡ Some w → as_array w ≡ Some ds → whole_of MAX_ID v ≡ o → reads_of ds ≡ p
    → asking_of d ≡ option_and_then (λ k. option_map (λ rs. (k, rs)) p) o
unfolding asking_of
asking_by d v w ds None p n snapshot reads list is at = rw (n, snapshot, is) refl
asking_by d v w ds (Some k) None n snapshot reads list is at = rw (n, snapshot, reads, list, is, at) refl
asking_by d v w ds (Some k) (Some rs) n snapshot reads list is at = rw (n, snapshot, reads, list, is, at) refl

-- the number of the snapshot is wrong, or a number or an encoding of the reads
asking_fails : (o : Option ℕ) (p : Option (List Read)) (make : ℕ → List Read → Command) (n e : Bool) → not (is_some p) ≡ (n || e)
    → not (is_some (option_map (made_of make) (option_and_then (λ k. option_map (λ rs. (k, rs)) p) o))) ≡ ((not (is_some o) || (n || false)) || e)
asking_fails None p make n e h = refl
asking_fails (Some k) None make n e h = h ∙ ap (λ b. b || e) (sym (or_no_more n))
asking_fails (Some k) (Some rs) make n e h = h ∙ ap (λ b. b || e) (sym (or_no_more n))

asking_needles : (make : ℕ → List Read → Command) → ((k : ℕ) (rs : List Read) → has_needles (make k rs) ≡ list_all has_needle rs) → (o : Option ℕ) (p : Option (List Read)) (a b : Bool) → NeedlesAre p a → b ≡ a
    → HasNeedles (option_map (made_of make) (option_and_then (λ k. option_map (λ rs. (k, rs)) p) o)) b
asking_needles make each None p a b h e = tt
asking_needles make each (Some k) None a b h e = tt
asking_needles make each (Some k) (Some rs) a b h e = e ∙ h ∙ ap not (sym (each k rs))

listed : (d w : Data) (ds : Items) → get (codes "reads") d ≡ Some w → as_array w ≡ Some ds → unwrap_or (option_and_then as_array (get (codes "reads") d)) no_items ≡ ds
listed d w ds reads list = rw (reads, list) refl

inner_reads : (w : Data) (ds : Items) → as_array w ≡ Some ds → any_item (read_breaks wrong_kind true) (items_in w) ≡ false → any_item (read_breaks wrong_kind true) ds ≡ false
inner_reads w ds list e = subst (λ o. any_item (read_breaks wrong_kind true) (unwrap_or o no_items) ≡ false) list e

abbrev asking_fields : List Field
asking_fields = (codes "snapshot", kind.whole MAX_ID) ∷ (codes "reads", kind.reads) ∷ []

record IsReadOf (d v : Data) (ds : Items) : Type 0 where
  snapshot : snapshot_in d ≡ whole_of MAX_ID v
  number : fields_break (with_reads wrong_number false) false 1 d asking_fields ≡ (not (is_some (whole_of MAX_ID v)) || (any_item (read_breaks wrong_number false) ds || false))
  encoding : fields_break (with_reads wrong_encoding false) false 1 d asking_fields ≡ (any_item (read_breaks wrong_encoding false) ds || false)
  needle : fields_break (with_reads empty_needle false) false 1 d asking_fields ≡ (any_item (read_breaks empty_needle false) ds || false)
  name : fields_break (with_reads wrong_name false) false 1 d asking_fields ≡ (any_item (read_breaks wrong_name false) ds || false)

asking_tests : (d v w : Data) (ds : Items) → get (codes "snapshot") d ≡ Some v → get (codes "reads") d ≡ Some w → as_array w ≡ Some ds → IsReadOf d v ds
asking_tests d v w ds snapshot reads list =
    record { snapshot = rw snapshot refl; number = rw (snapshot, reads, list) refl; encoding = rw (snapshot, reads, list) refl; needle = rw (snapshot, reads, list) refl; name = rw (snapshot, reads, list) refl }

-- a command that has a number and reads, and no more: what its word is for, given by the three equations
asking_shaped : (make : ℕ → List Read → Command) (d : Data) → ((k : ℕ) (rs : List Read) → has_needles (make k rs) ≡ list_all has_needle rs) → HasRow d asking_fields → command_of d ≡ option_map (made_of make) (asking_of d)
    → reads_in d ≡ unwrap_or (option_and_then as_array (get (codes "reads") d)) no_items → command_breaks wrong_kind true d ≡ false → IsShaped d
asking_shaped make d each row of reads_are kinds =
    let has = row_there 3 d asking_fields refl row kinds in
    let v = has.1.0 in
    let w = has.1.1.0 in
    let parts = or_false (not (is_some (as_array w.value))) (any_item (read_breaks wrong_kind true) (items_in w.value)) w.kind in
    let ds = there (as_array w.value) parts.0 in
    let is : reads_in d ≡ ds.0 = reads_are ∙ listed d w.value ds.0 w.is ds.1 in
    let reads = reads_shaped ds.0 (inner_reads w.value ds.0 ds.1 parts.1) in
    let by = asking_by d v.value w.value ds.0 _ _ has.0 v.is w.is ds.1 refl reads.read in
    let tests = asking_tests d v.value w.value ds.0 v.is w.is ds.1 in
    let encoding = row wrong_encoding false ∙ tests.encoding ∙ or_no_more _ in
    let number = row wrong_number false ∙ tests.number in
    record {
      found = _;
      read = of ∙ ap (option_map (made_of make)) by;
      fails = asking_fails (whole_of MAX_ID v.value) reads.found make _ _ reads.fails ∙ sym (ap₂ (λ a b. a || b) number encoding);
      number = λ h. number ∙ ap₂ (λ (o : Option ℕ) (b : Bool). not (is_some o) || b) (sym tests.snapshot) (or_no_more _ ∙ reads.number ∙ sym (ap (any_item (is_unread false)) is));
      encoding = encoding ∙ reads.encoding ∙ sym (ap (any_item (is_unread true)) is);
      needle = asking_needles make each (whole_of MAX_ID v.value) reads.found _ _ reads.needle (row empty_needle false ∙ tests.needle ∙ or_no_more _);
      name = row wrong_name false ∙ tests.name ∙ or_no_more _ ∙ reads.name ∙ sym (ap (λ ds. not (list_all is_name (names_in ds))) is);
    }

read_is : (d : Data) → string_in (codes "do") d ≡ Some (codes "read") → command_of d ≡ option_map (made_of command.Read) (asking_of d)
unfolding command_of on_snapshots_of
read_is d word = rw word refl

read_command_shaped : (d : Data) → command_breaks wrong_kind true d ≡ false → string_in (codes "do") d ≡ Some (codes "read") → IsShaped d
read_command_shaped d kinds word = asking_shaped command.Read d (λ k rs. refl) (λ test shape. rw word refl) (read_is d word) (rw word refl) kinds

send_is : (d : Data) → string_in (codes "do") d ≡ Some (codes "send") → command_of d ≡ option_map (made_of command.Send) (asking_of d)
unfolding command_of on_snapshots_of
send_is d word = rw word refl

send_shaped : (d : Data) → command_breaks wrong_kind true d ≡ false → string_in (codes "do") d ≡ Some (codes "send") → IsShaped d
send_shaped d kinds word = asking_shaped command.Send d (λ k rs. refl) (λ test shape. rw word refl) (send_is d word) (rw word refl) kinds

-- ---- each word

right_shape : (a z : Bool) → ((not a && true) || z) ≡ false → (a ≡ true) × (z ≡ false)
right_shape true z h = (refl, h)
right_shape false z h = absurd (false≢true (sym h))

-- a command whose shape is right
pub command_shaped : (d : Data) → is_misshapen false d ≡ false → IsShaped d
command_shaped d shape =
    let parts = right_shape (is_one_of built_words (string_in (codes "do") d)) (command_breaks wrong_kind true d) shape in
    let k = parts.1 in
    by_words (IsShaped d) (string_in (codes "do") d) built_words (
      edit_shaped d k,
      (
        look_shaped d k,
        (
          unmark_shaped d k,
          (
            range_shaped d k,
            (
              exclusive_shaped d k,
              (
                compare_shaped d k,
                (
                  mark_shaped d k,
                  (
                    marks_shaped d k,
                    (
                      watch_shaped d k,
                      (
                        unwatch_shaped d k,
                        (take_shaped d k, (read_command_shaped d k, (send_shaped d k, (release_shaped d k, (undo_shaped d k, (redo_shaped d k, (squash_shaped d k, tt))))))),
                      ),
                    ),
                  ),
                ),
              ),
            ),
          ),
        ),
      ),
    ) parts.0
