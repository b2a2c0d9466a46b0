-- What is read as a script is that script's JSON value.
use Rattle.std.proofs.Common.{◌≡◌, ◌+◌, ◌≤◌, ℕ, List, [], ◌∷◌, length, map, Bool, true, false, cond, Option, Some, None, option_map, option_and_then, refl, sym, ap, ap₂, subst, ◌∙◌, ◌⊎◌, inl, inr, arith}
use Rattle.std.specs.Prelude.{codes, is_some, nat_le, ◌==◌, ◌&&◌}
use Rattle.std.specs.List.{AllByRecursion}
use Rattle.std.specs.Str.{bytes_eq}
use Rattle.std.proofs.lemmas.Bool.{leb-true, eqb-true, and_parts, true≢false}
use Rattle.std.proofs.lemmas.Option.{option_and_then_some, cond_some, none-some, same_Some}
use Rattle.std.proofs.lemmas.Slice.Eq.{bytes_eq-Decides}
use Rattle.points.specs.declared.point.Point.{Point}
use Rattle.points.specs.declared.range.Range.{Range}
use Rattle.points.specs.Point.{point_le, IsWithin}
use Rattle.machine.specs.declared.command.Command.{Command}
use Rattle.machine.specs.declared.command.Command.TheVariants as command
use Rattle.machine.specs.declared.command.How.{How}
use Rattle.machine.specs.declared.command.How.TheVariants as how
use Rattle.machine.specs.declared.reads.Read.{Read}
use Rattle.machine.specs.declared.reads.Read.TheVariants as read
use Rattle.machine.specs.declared.command.Opening.{Opening}
use Rattle.machine.specs.declared.command.Opening.TheVariants as opening
use Rattle.machine.specs.declared.command.Script.{Script}
use Rattle.machine.specs.declared.reads.Encoding.{Encoding}
use Rattle.machine.specs.declared.reads.Encoding.TheVariants as encoding
use Rattle.points.specs.declared.limits.TheConstants.{MAX_COORD}
use Rattle.script.specs.Limits.{IsRangeWithin, IsReadableRead, IsReadable}
use Rattle.script.specs.declared.limits.TheConstants.{MAX_SHOWN, MAX_HITS, MAX_ID}
use Rattle.script.specs.ScriptDocument.{edit_of, look_of, ranged_of, bare_of, unmark_of, mark_range_of, exclusive_of, compare_of, mark_of, how_of, marks_of, watch_of, unwatch_of, on_marks_of, size_of, look_read_of, find_of, pattern_of, save_of, read_of, reads_of, take_of, listed_reads, asking_of, release_of, on_snapshots_of, on_text_of, command_of, commands_of, session_of, sessions_of, encoding_of, encoding_in, text_opening_of, file_opening_of, opening_of, reading}
use Rattle.script.specs.Parts.{member_count, item_count, string_in, whole_of, whole_in, flag_in, coordinate, point_from, range_by, range_between, range_of, range_in, is_word}
use Rattle.script.specs.Rules.{is_on_marks, is_on_snapshots, is_version_one, is_one}
use Rattle.script.specs.ScriptValue.{encoding_word, how_word, read_value, range_value, command_value, session_value, opening_value, script_value}
use Rattle.script.specs.TranscriptDocument.{whole, list_value}
use Rattle.script.proofs.KeyLemmas.{Ascend, all_keys, two_members, three_members, four_members, one_member}
use Rattle.script.proofs.KeyOrder.{IsInKeyOrder, ItemsInKeyOrder}
use Rattle.script.proofs.LimitLemmas.{behind_map}
use Rattle.script.proofs.Readable.{IsReadableScript}
use Rattle.serde_json.specs.Data.{Data, null, boolean, number, string, array, object, unsigned, negative, float, Items, no_items, item, no_members, member}
use Rattle.serde_json.specs.View.{items_of}
use Rattle.serde_json.specs.Find.{get, at, as_str, as_bool, as_array, as_number, as_u64}

-- a test that passed, and what stands behind it
pub test_some : {A : Type 0} (b : Bool) (o : Option A) (y : A) → cond b o None ≡ Some y → (b ≡ true) × (o ≡ Some y)
test_some true o y e = (refl, e)
test_some false o y e = absurd (none-some y e)

some_there : {A : Type 0} (o : Option A) (x : A) → o ≡ Some x → is_some o ≡ true
some_there o x e = ap is_some e

-- ---- numbers and strings

pub whole_exact : (limit n : ℕ) (d : Data) → whole_of limit d ≡ Some n → (d ≡ whole n) × (n ≤ limit)
whole_exact limit n null e = absurd (none-some n e)
whole_exact limit n (boolean b) e = absurd (none-some n e)
whole_exact limit n (number (unsigned m)) e =
    let parts : (nat_le m limit ≡ true) × (m ≡ n) = cond_some _ m n e in
    (ap whole parts.1, subst (λ k. k ≤ limit) parts.1 (leb-true m limit parts.0))
whole_exact limit n (number (negative z)) e = absurd (none-some n e)
whole_exact limit n (number (float x)) e = absurd (none-some n e)
whole_exact limit n (string s) e = absurd (none-some n e)
whole_exact limit n (array ds) e = absurd (none-some n e)
whole_exact limit n (object ms) e = absurd (none-some n e)

pub string_exact : (d : Data) (s : List ℕ) → as_str d ≡ Some s → d ≡ string s
string_exact null s e = absurd (none-some s e)
string_exact (boolean b) s e = absurd (none-some s e)
string_exact (number n) s e = absurd (none-some s e)
string_exact (string t) s e = ap string (same_Some t s e)
string_exact (array ds) s e = absurd (none-some s e)
string_exact (object ms) s e = absurd (none-some s e)

pub array_exact : (d : Data) (ds : Items) → as_array d ≡ Some ds → d ≡ array ds
array_exact null ds e = absurd (none-some ds e)
array_exact (boolean b) ds e = absurd (none-some ds e)
array_exact (number n) ds e = absurd (none-some ds e)
array_exact (string s) ds e = absurd (none-some ds e)
array_exact (array es) ds e = ap array (same_Some es ds e)
array_exact (object ms) ds e = absurd (none-some ds e)

-- ---- lists and objects of a known size

four_items : (d : Data) → item_count d ≡ 4 → (a b c e : Data) × (d ≡ array (item a (item b (item c (item e no_items)))))
four_items null n = absurd (omega arith)
four_items (boolean x) n = absurd (omega arith)
four_items (number x) n = absurd (omega arith)
four_items (string s) n = absurd (omega arith)
four_items (object ms) n = absurd (omega arith)
four_items (array no_items) n = absurd (omega arith)
four_items (array (item a no_items)) n = absurd (omega arith)
four_items (array (item a (item b no_items))) n = absurd (omega arith)
four_items (array (item a (item b (item c no_items)))) n = absurd (omega arith)
four_items (array (item a (item b (item c (item e no_items))))) n = (a, b, c, e, refl)
four_items (array (item a (item b (item c (item e (item f ds)))))) n = absurd (omega arith)

pub one_item : (d : Data) → item_count d ≡ 1 → (a : Data) × (d ≡ array (item a no_items))
one_item null n = absurd (omega arith)
one_item (boolean x) n = absurd (omega arith)
one_item (number x) n = absurd (omega arith)
one_item (string s) n = absurd (omega arith)
one_item (object ms) n = absurd (omega arith)
one_item (array no_items) n = absurd (omega arith)
one_item (array (item a no_items)) n = (a, refl)
one_item (array (item a (item b ds))) n = absurd (omega arith)

-- an object with the members of these three keys and no other
record IsThree (a b c : List ℕ) (d : Data) : Type 0 where
  first : Data
  second : Data
  third : Data
  is : d ≡ object (member a first (member b second (member c third no_members)))

three_made : (a b c : List ℕ) (d : Data) (parts : IsThree a b c d) (x y z : Data) → parts.first ≡ x → parts.second ≡ y → parts.third ≡ z → d ≡ object (member a x (member b y (member c z no_members)))
three_made a b c d parts x y z p q r = parts.is ∙ cc (p, q, r)

-- an object with three members that has these three keys
three_of : (a b c : List ℕ) (d : Data) → Ascend (a ∷ b ∷ c ∷ []) → IsInKeyOrder d → member_count d ≡ 3 → is_some (get a d) ≡ true → is_some (get b d) ≡ true → is_some (get c d) ≡ true
    → IsThree a b c d
three_of a b c null up sorted n h i j = absurd (omega arith)
three_of a b c (boolean v) up sorted n h i j = absurd (omega arith)
three_of a b c (number v) up sorted n h i j = absurd (omega arith)
three_of a b c (string s) up sorted n h i j = absurd (omega arith)
three_of a b c (array ds) up sorted n h i j = absurd (omega arith)
three_of a b c (object ms) up sorted n h i j =
    let found = three_members a b c ms (all_keys (a ∷ b ∷ c ∷ []) ms up sorted.0 (h, (i, (j, tt))) (sym n)) in
    record { first = found.0; second = found.1; third = found.2; is = ap object found.3 }

one_of : (a : List ℕ) (d : Data) → IsInKeyOrder d → member_count d ≡ 1 → is_some (get a d) ≡ true → (x : Data) × (d ≡ object (member a x no_members))
one_of a null sorted n h = absurd (omega arith)
one_of a (boolean v) sorted n h = absurd (omega arith)
one_of a (number v) sorted n h = absurd (omega arith)
one_of a (string s) sorted n h = absurd (omega arith)
one_of a (array ds) sorted n h = absurd (omega arith)
one_of a (object ms) sorted n h =
    let found = one_member a ms (all_keys (a ∷ []) ms (tt, tt) sorted.0 (h, tt) (sym n)) in
    (found.0, ap object found.1)

-- ---- ranges

-- the row and the column that a point was read from
record IsPointFrom (a b : Data) (p : Point) : Type 0 where
  row : a ≡ whole p.row
  column : b ≡ whole p.column
  within : IsWithin MAX_COORD p

point_exact : (d : Data) (i : ℕ) (a b : Data) (p : Point) → at i d ≡ Some a → at (i + 1) d ≡ Some b → point_from d i ≡ Some p → IsPointFrom a b p
point_exact d i a b p first second e =
    option_and_then_some (λ row. option_map (λ column. record { row = row; column = column }) (coordinate d (i + 1))) (coordinate d i) p e (λ row row_is rest.
    behind_map (λ column. record { row = row; column = column }) (coordinate d (i + 1)) p rest (λ column column_is is.
    let r = whole_exact MAX_COORD row a (ap (option_and_then (whole_of MAX_COORD)) (sym first) ∙ row_is) in
    let c = whole_exact MAX_COORD column b (ap (option_and_then (whole_of MAX_COORD)) (sym second) ∙ column_is) in
    subst (IsPointFrom a b) is (record { row = r.0; column = c.0; within = record { row = r.1; column = c.1 } })))

between_exact : (start end : Point) (b : Bool) (h : point_le start end ≡ b) (r : Range) → range_by start end b h ≡ Some r → (start ≡ r.start) × (end ≡ r.end)
between_exact start end true h r e = (ap (λ (x : Range). x.start) (same_Some _ r e), ap (λ (x : Range). x.end) (same_Some _ r e))
between_exact start end false h r e = absurd (none-some r e)

range_items : (a b c e : Data) (r : Range) → IsPointFrom a b r.start → IsPointFrom c e r.end → array (item a (item b (item c (item e no_items)))) ≡ range_value r
range_items a b c e r start end = rw (start.row, start.column, end.row, end.column) refl

pub range_exact : (d : Data) (r : Range) → range_of d ≡ Some r → (d ≡ range_value r) × IsRangeWithin r
unfolding range_of
range_exact d r e =
    let t = test_some (item_count d == 4) _ r e in
    let f = four_items d (eqb-true (item_count d) 4 t.0) in
    let listed = array (item f.0 (item f.1 (item f.2 (item f.3 no_items)))) in
    let read = subst (λ x. option_and_then (λ start. option_and_then (range_between start) (point_from x 2)) (point_from x 0) ≡ Some r) f.4 t.1 in
    option_and_then_some (λ start. option_and_then (range_between start) (point_from listed 2)) (point_from listed 0) r read (λ start start_is rest.
    option_and_then_some (range_between start) (point_from listed 2) r rest (λ end end_is between.
    let ends = between_exact start end (point_le start end) refl r between in
    let s = subst (IsPointFrom f.0 f.1) ends.0 (point_exact listed 0 f.0 f.1 start refl refl start_is) in
    let t = subst (IsPointFrom f.2 f.3) ends.1 (point_exact listed 2 f.2 f.3 end refl refl end_is) in
    (f.4 ∙ range_items f.0 f.1 f.2 f.3 r s t, record { start = s.within; end = t.within })))

-- ---- commands

there : {A B : Type 0} (f : A → Option B) (o : Option A) (y : B) → option_and_then f o ≡ Some y → is_some o ≡ true
there f o y e = option_and_then_some f o y e (λ x is rest. some_there o x is)

pub word_exact : (o : Option (List ℕ)) (word : List ℕ) → is_word o word ≡ true → o ≡ Some word
word_exact None word e = absurd (true≢false (sym e))
word_exact (Some s) word e = ap Some ((bytes_eq-Decides s word).0 e)

edit_parts : (d : Data) (range : Range) (text : List ℕ) (parts : IsThree (codes "do") (codes "range") (codes "text") d) → string_in (codes "do") d ≡ Some (codes "edit") → range_in d ≡ Some range → string_in (codes "text") d ≡ Some text
    → (d ≡ command_value (command.Edit range text)) × IsRangeWithin range
edit_parts d range text parts word range_is text_is =
    let x = string_exact parts.first (codes "edit") (subst (λ v. string_in (codes "do") v ≡ Some (codes "edit")) parts.is word) in
    let y = range_exact parts.second range (subst (λ v. range_in v ≡ Some range) parts.is range_is) in
    let z = string_exact parts.third text (subst (λ v. string_in (codes "text") v ≡ Some text) parts.is text_is) in
    (three_made (codes "do") (codes "range") (codes "text") d parts _ _ _ x y.0 z, y.1)

edit_exact : (d : Data) (c : Command) → IsInKeyOrder d → member_count d ≡ 3 → string_in (codes "do") d ≡ Some (codes "edit") → edit_of d ≡ Some c → (d ≡ command_value c) × IsReadable c
unfolding edit_of
edit_exact d c sorted n word e =
    option_and_then_some (λ range. option_map (command.Edit range) (string_in (codes "text") d)) (range_in d) c e (λ range range_is rest.
    behind_map (command.Edit range) (string_in (codes "text") d) c rest (λ text text_is is.
    let parts = three_of (codes "do") (codes "range") (codes "text") d ((refl, (refl, tt)), ((refl, tt), (tt, tt))) sorted n (there as_str _ _ word) (there range_of _ _ range_is) (there as_str _ _ text_is) in
    subst (λ v. (d ≡ command_value v) × IsReadable v) is (edit_parts d range text parts word range_is text_is)))

look_parts : (d : Data) (range : Range) (limit : ℕ) (parts : IsThree (codes "do") (codes "limit") (codes "range") d) → string_in (codes "do") d ≡ Some (codes "text") → range_in d ≡ Some range → whole_in MAX_SHOWN (codes "limit") d ≡ Some limit
    → (d ≡ command_value (command.Text range limit)) × (IsRangeWithin range × (limit ≤ MAX_SHOWN))
look_parts d range limit parts word range_is limit_is =
    let x = string_exact parts.first (codes "text") (subst (λ v. string_in (codes "do") v ≡ Some (codes "text")) parts.is word) in
    let y = whole_exact MAX_SHOWN limit parts.second (subst (λ v. whole_in MAX_SHOWN (codes "limit") v ≡ Some limit) parts.is limit_is) in
    let z = range_exact parts.third range (subst (λ v. range_in v ≡ Some range) parts.is range_is) in
    (three_made (codes "do") (codes "limit") (codes "range") d parts _ _ _ x y.0 z.0, (z.1, y.1))

look_exact : (d : Data) (c : Command) → IsInKeyOrder d → member_count d ≡ 3 → string_in (codes "do") d ≡ Some (codes "text") → look_of d ≡ Some c → (d ≡ command_value c) × IsReadable c
unfolding look_of
look_exact d c sorted n word e =
    option_and_then_some (λ range. option_map (command.Text range) (whole_in MAX_SHOWN (codes "limit") d)) (range_in d) c e (λ range range_is rest.
    behind_map (command.Text range) (whole_in MAX_SHOWN (codes "limit") d) c rest (λ limit limit_is is.
    let parts = three_of (codes "do") (codes "limit") (codes "range") d ((refl, (refl, tt)), ((refl, tt), (tt, tt))) sorted n (there as_str _ _ word) (there (whole_of MAX_SHOWN) _ _ limit_is) (there range_of _ _ range_is) in
    subst (λ v. (d ≡ command_value v) × IsReadable v) is (look_parts d range limit parts word range_is limit_is)))

-- one of two ways
pub either_some : {A : Type 0} (b : Bool) (o p : Option A) (y : A) → cond b o p ≡ Some y → ((b ≡ true) × (o ≡ Some y)) ⊎ (p ≡ Some y)
either_some true o p y e = inl (refl, e)
either_some false o p y e = inr e

ranged_exact : (d : Data) (c : Command) → IsInKeyOrder d → member_count d ≡ 3 → ranged_of d ≡ Some c → (d ≡ command_value c) × IsReadable c
unfolding ranged_of
ranged_exact d c sorted n e =
    elim (either_some (is_word (string_in (codes "do") d) (codes "edit")) (edit_of d) _ c e) [
      | inl edit ↦ edit_exact d c sorted n (word_exact _ _ edit.0) edit.1
      | inr other ↦ let look = test_some (is_word (string_in (codes "do") d) (codes "text")) (look_of d) c other in look_exact d c sorted n (word_exact _ _ look.0) look.1
    ]

-- the commands without members, by their words
redo_or_squash : (d : Data) (c : Command) (P : Command → Type 0) → cond (is_word (string_in (codes "do") d) (codes "redo")) (Some command.Redo) (cond (is_word (string_in (codes "do") d) (codes "squash")) (Some command.Squash) None) ≡ Some c
    → (string_in (codes "do") d ≡ Some (codes "redo") → P command.Redo) → (string_in (codes "do") d ≡ Some (codes "squash") → P command.Squash) → P c
redo_or_squash d c P e redo squash =
    elim (either_some (is_word (string_in (codes "do") d) (codes "redo")) (Some command.Redo) _ c e) [
      | inl is ↦ subst P (same_Some _ _ is.1) (redo (word_exact _ _ is.0))
      | inr other ↦ let is = test_some (is_word (string_in (codes "do") d) (codes "squash")) (Some command.Squash) c other in subst P (same_Some _ _ is.1) (squash (word_exact _ _ is.0))
    ]

pub bare_cases : (d : Data) (c : Command) (P : Command → Type 0) → bare_of d ≡ Some c → (string_in (codes "do") d ≡ Some (codes "undo") → P command.Undo)
    → (string_in (codes "do") d ≡ Some (codes "redo") → P command.Redo) → (string_in (codes "do") d ≡ Some (codes "squash") → P command.Squash) → P c
unfolding bare_of
bare_cases d c P e undo redo squash =
    elim (either_some (is_word (string_in (codes "do") d) (codes "undo")) (Some command.Undo) _ c e) [
      | inl is ↦ subst P (same_Some _ _ is.1) (undo (word_exact _ _ is.0))
      | inr other ↦ redo_or_squash d c P other redo squash
    ]

word_alone : (d : Data) (word : List ℕ) → IsInKeyOrder d → member_count d ≡ 1 → string_in (codes "do") d ≡ Some word → d ≡ object (member (codes "do") (string word) no_members)
word_alone d word sorted n is =
    let part = one_of (codes "do") d sorted n (there as_str _ _ is) in
    let x = string_exact part.0 word (subst (λ v. string_in (codes "do") v ≡ Some word) part.1 is) in
    part.1 ∙ ap (λ v. object (member (codes "do") v no_members)) x

bare_exact : (d : Data) (c : Command) → IsInKeyOrder d → member_count d ≡ 1 → bare_of d ≡ Some c → (d ≡ command_value c) × IsReadable c
bare_exact d c sorted n e =
    bare_cases d c (λ v. (d ≡ command_value v) × IsReadable v) e (λ word. (word_alone d (codes "undo") sorted n word, tt)) (λ word. (word_alone d (codes "redo") sorted n word, tt))
    (λ word. (word_alone d (codes "squash") sorted n word, tt))

-- the commands on marks, by their words
pub mark_cases : (d : Data) (c : Command) (P : Type 0) → on_marks_of d ≡ Some c
    → (string_in (codes "do") d ≡ Some (codes "unmark") → unmark_of d ≡ Some c → P)
    → (string_in (codes "do") d ≡ Some (codes "range") → mark_range_of d ≡ Some c → P)
    → (string_in (codes "do") d ≡ Some (codes "exclusive") → exclusive_of d ≡ Some c → P)
    → (string_in (codes "do") d ≡ Some (codes "compare") → compare_of d ≡ Some c → P)
    → (string_in (codes "do") d ≡ Some (codes "mark") → mark_of d ≡ Some c → P)
    → (string_in (codes "do") d ≡ Some (codes "marks") → marks_of d ≡ Some c → P)
    → (string_in (codes "do") d ≡ Some (codes "watch") → watch_of d ≡ Some c → P)
    → (string_in (codes "do") d ≡ Some (codes "unwatch") → unwatch_of d ≡ Some c → P)
    → P
unfolding on_marks_of
mark_cases d c P e k1 k2 k3 k4 k5 k6 k7 k8 =
    elim (either_some (is_word (string_in (codes "do") d) (codes "unmark")) (unmark_of d) _ c e) [
      | inl is ↦ k1 (word_exact _ _ is.0) is.1
      | inr rest1 ↦ elim (either_some (is_word (string_in (codes "do") d) (codes "range")) (mark_range_of d) _ c rest1) [
        | inl is ↦ k2 (word_exact _ _ is.0) is.1
        | inr rest2 ↦ elim (either_some (is_word (string_in (codes "do") d) (codes "exclusive")) (exclusive_of d) _ c rest2) [
          | inl is ↦ k3 (word_exact _ _ is.0) is.1
          | inr rest3 ↦ elim (either_some (is_word (string_in (codes "do") d) (codes "compare")) (compare_of d) _ c rest3) [
            | inl is ↦ k4 (word_exact _ _ is.0) is.1
            | inr rest4 ↦ elim (either_some (is_word (string_in (codes "do") d) (codes "mark")) (mark_of d) _ c rest4) [
              | inl is ↦ k5 (word_exact _ _ is.0) is.1
              | inr rest5 ↦ elim (either_some (is_word (string_in (codes "do") d) (codes "marks")) (marks_of d) _ c rest5) [
                | inl is ↦ k6 (word_exact _ _ is.0) is.1
                | inr rest6 ↦ elim (either_some (is_word (string_in (codes "do") d) (codes "watch")) (watch_of d) _ c rest6) [
                  | inl is ↦ k7 (word_exact _ _ is.0) is.1
                  | inr rest7 ↦ let is = test_some (is_word (string_in (codes "do") d) (codes "unwatch")) (unwatch_of d) c rest7 in k8 (word_exact _ _ is.0) is.1
                ]
              ]
            ]
          ]
        ]
      ]
    ]

pub flag_exact : (d : Data) (b : Bool) → as_bool d ≡ Some b → d ≡ boolean b
flag_exact null b e = absurd (none-some b e)
flag_exact (boolean x) b e = ap boolean (same_Some x b e)
flag_exact (number n) b e = absurd (none-some b e)
flag_exact (string t) b e = absurd (none-some b e)
flag_exact (array ds) b e = absurd (none-some b e)
flag_exact (object ms) b e = absurd (none-some b e)

-- objects with two and with four members that have these keys
two_of : (a b : List ℕ) (d : Data) → Ascend (a ∷ b ∷ []) → IsInKeyOrder d → member_count d ≡ 2 → is_some (get a d) ≡ true → is_some (get b d) ≡ true → (x y : Data) × (d ≡ object (member a x (member b y no_members)))
two_of a b null up sorted n h i = absurd (omega arith)
two_of a b (boolean v) up sorted n h i = absurd (omega arith)
two_of a b (number v) up sorted n h i = absurd (omega arith)
two_of a b (string s) up sorted n h i = absurd (omega arith)
two_of a b (array ds) up sorted n h i = absurd (omega arith)
two_of a b (object ms) up sorted n h i =
    let found = two_members a b ms (all_keys (a ∷ b ∷ []) ms up sorted.0 (h, (i, tt)) (sym n)) in
    (found.0, found.1, ap object found.2)

four_of : (a b c k : List ℕ) (d : Data) → Ascend (a ∷ b ∷ c ∷ k ∷ []) → IsInKeyOrder d → member_count d ≡ 4 → is_some (get a d) ≡ true → is_some (get b d) ≡ true → is_some (get c d) ≡ true → is_some (get k d) ≡ true
    → (x y z w : Data) × (d ≡ object (member a x (member b y (member c z (member k w no_members)))))
four_of a b c k null up sorted n h i j l = absurd (omega arith)
four_of a b c k (boolean v) up sorted n h i j l = absurd (omega arith)
four_of a b c k (number v) up sorted n h i j l = absurd (omega arith)
four_of a b c k (string s) up sorted n h i j l = absurd (omega arith)
four_of a b c k (array ds) up sorted n h i j l = absurd (omega arith)
four_of a b c k (object ms) up sorted n h i j l =
    let found = four_members a b c k ms (all_keys (a ∷ b ∷ c ∷ k ∷ []) ms up sorted.0 (h, (i, (j, (l, tt)))) (sym n)) in
    (found.0, found.1, found.2, found.3, ap object found.4)

-- a command with one id, and one with the number of a snapshot
id_exact : (word : List ℕ) (d : Data) (n : ℕ) → IsInKeyOrder d → (member_count d == 2) ≡ true → string_in (codes "do") d ≡ Some word → whole_in MAX_ID (codes "id") d ≡ Some n
    → (d ≡ object (member (codes "do") (string word) (member (codes "id") (whole n) no_members))) × (n ≤ MAX_ID)
id_exact word d n sorted two is n_is =
    let p = two_of (codes "do") (codes "id") d ((refl, tt), (tt, tt)) sorted (eqb-true (member_count d) 2 two) (there as_str _ _ is) (there (whole_of MAX_ID) _ _ n_is) in
    let x = string_exact p.0 word (subst (λ v. string_in (codes "do") v ≡ Some word) p.2 is) in
    let y = whole_exact MAX_ID n p.1 (subst (λ v. whole_in MAX_ID (codes "id") v ≡ Some n) p.2 n_is) in
    (p.2 ∙ cc (x, y.0), y.1)

snapshot_exact : (word : List ℕ) (d : Data) (n : ℕ) → IsInKeyOrder d → (member_count d == 2) ≡ true → string_in (codes "do") d ≡ Some word → whole_in MAX_ID (codes "snapshot") d ≡ Some n
    → (d ≡ object (member (codes "do") (string word) (member (codes "snapshot") (whole n) no_members))) × (n ≤ MAX_ID)
snapshot_exact word d n sorted two is n_is =
    let p = two_of (codes "do") (codes "snapshot") d ((refl, tt), (tt, tt)) sorted (eqb-true (member_count d) 2 two) (there as_str _ _ is) (there (whole_of MAX_ID) _ _ n_is) in
    let x = string_exact p.0 word (subst (λ v. string_in (codes "do") v ≡ Some word) p.2 is) in
    let y = whole_exact MAX_ID n p.1 (subst (λ v. whole_in MAX_ID (codes "snapshot") v ≡ Some n) p.2 n_is) in
    (p.2 ∙ cc (x, y.0), y.1)

unmark_mark_exact : (d : Data) (c : Command) → IsInKeyOrder d → string_in (codes "do") d ≡ Some (codes "unmark") → unmark_of d ≡ Some c → (d ≡ command_value c) × IsReadable c
unfolding unmark_of
unmark_mark_exact d c sorted word e =
    let t = test_some (member_count d == 2) _ c e in
    behind_map command.Unmark (whole_in MAX_ID (codes "id") d) c t.1 (λ n n_is is. subst (λ v. (d ≡ command_value v) × IsReadable v) is (id_exact (codes "unmark") d n sorted t.0 word n_is))

range_mark_exact : (d : Data) (c : Command) → IsInKeyOrder d → string_in (codes "do") d ≡ Some (codes "range") → mark_range_of d ≡ Some c → (d ≡ command_value c) × IsReadable c
unfolding mark_range_of
range_mark_exact d c sorted word e =
    let t = test_some (member_count d == 2) _ c e in
    behind_map command.Range (whole_in MAX_ID (codes "id") d) c t.1 (λ n n_is is. subst (λ v. (d ≡ command_value v) × IsReadable v) is (id_exact (codes "range") d n sorted t.0 word n_is))

watch_exact : (d : Data) (c : Command) → IsInKeyOrder d → string_in (codes "do") d ≡ Some (codes "watch") → watch_of d ≡ Some c → (d ≡ command_value c) × IsReadable c
unfolding watch_of
watch_exact d c sorted word e =
    let t = test_some (member_count d == 2) _ c e in
    behind_map command.Watch (whole_in MAX_ID (codes "id") d) c t.1 (λ n n_is is. subst (λ v. (d ≡ command_value v) × IsReadable v) is (id_exact (codes "watch") d n sorted t.0 word n_is))

unwatch_exact : (d : Data) (c : Command) → IsInKeyOrder d → string_in (codes "do") d ≡ Some (codes "unwatch") → unwatch_of d ≡ Some c → (d ≡ command_value c) × IsReadable c
unfolding unwatch_of
unwatch_exact d c sorted word e =
    let t = test_some (member_count d == 2) _ c e in
    behind_map command.Unwatch (whole_in MAX_ID (codes "id") d) c t.1 (λ n n_is is. subst (λ v. (d ≡ command_value v) × IsReadable v) is (id_exact (codes "unwatch") d n sorted t.0 word n_is))

take_exact : (d : Data) (c : Command) → IsInKeyOrder d → string_in (codes "do") d ≡ Some (codes "take") → take_of d ≡ Some c → (d ≡ command_value c) × IsReadable c
unfolding take_of
take_exact d c sorted word e =
    let t = test_some (member_count d == 2) _ c e in
    behind_map command.Take (whole_in MAX_ID (codes "snapshot") d) c t.1 (λ n n_is is. subst (λ v. (d ≡ command_value v) × IsReadable v) is (snapshot_exact (codes "take") d n sorted t.0 word n_is))

release_exact : (d : Data) (c : Command) → IsInKeyOrder d → string_in (codes "do") d ≡ Some (codes "release") → release_of d ≡ Some c → (d ≡ command_value c) × IsReadable c
unfolding release_of
release_exact d c sorted word e =
    let t = test_some (member_count d == 2) _ c e in
    behind_map command.Release (whole_in MAX_ID (codes "snapshot") d) c t.1 (λ n n_is is. subst (λ v. (d ≡ command_value v) × IsReadable v) is (snapshot_exact (codes "release") d n sorted t.0 word n_is))

exclusive_exact : (d : Data) (c : Command) → IsInKeyOrder d → string_in (codes "do") d ≡ Some (codes "exclusive") → exclusive_of d ≡ Some c → (d ≡ command_value c) × IsReadable c
unfolding exclusive_of
exclusive_exact d c sorted word e =
    let t = test_some (member_count d == 3) _ c e in
    option_and_then_some (λ id. option_map (command.Exclusive id) (flag_in (codes "value") d)) (whole_in MAX_ID (codes "id") d) c t.1 (λ n n_is rest.
    behind_map (command.Exclusive n) (flag_in (codes "value") d) c rest (λ b b_is is.
    let p = three_of (codes "do") (codes "id") (codes "value") d ((refl, (refl, tt)), ((refl, tt), (tt, tt))) sorted (eqb-true (member_count d) 3 t.0) (there as_str _ _ word) (there (whole_of MAX_ID) _ _ n_is) (there as_bool _ _ b_is) in
    let x = string_exact p.first (codes "exclusive") (subst (λ v. string_in (codes "do") v ≡ Some (codes "exclusive")) p.is word) in
    let y = whole_exact MAX_ID n p.second (subst (λ v. whole_in MAX_ID (codes "id") v ≡ Some n) p.is n_is) in
    let z = flag_exact p.third b (subst (λ v. flag_in (codes "value") v ≡ Some b) p.is b_is) in
    subst (λ v. (d ≡ command_value v) × IsReadable v) is (three_made (codes "do") (codes "id") (codes "value") d p _ _ _ x y.0 z, y.1)))

compare_exact : (d : Data) (c : Command) → IsInKeyOrder d → string_in (codes "do") d ≡ Some (codes "compare") → compare_of d ≡ Some c → (d ≡ command_value c) × IsReadable c
unfolding compare_of
compare_exact d c sorted word e =
    let t = test_some (member_count d == 3) _ c e in
    option_and_then_some (λ a. option_map (command.Compare a) (whole_in MAX_ID (codes "b") d)) (whole_in MAX_ID (codes "a") d) c t.1 (λ n n_is rest.
    behind_map (command.Compare n) (whole_in MAX_ID (codes "b") d) c rest (λ m m_is is.
    let p = three_of (codes "a") (codes "b") (codes "do") d ((refl, (refl, tt)), ((refl, tt), (tt, tt))) sorted (eqb-true (member_count d) 3 t.0) (there (whole_of MAX_ID) _ _ n_is) (there (whole_of MAX_ID) _ _ m_is) (there as_str _ _ word) in
    let x = whole_exact MAX_ID n p.first (subst (λ v. whole_in MAX_ID (codes "a") v ≡ Some n) p.is n_is) in
    let y = whole_exact MAX_ID m p.second (subst (λ v. whole_in MAX_ID (codes "b") v ≡ Some m) p.is m_is) in
    let z = string_exact p.third (codes "compare") (subst (λ v. string_in (codes "do") v ≡ Some (codes "compare")) p.is word) in
    subst (λ v. (d ≡ command_value v) × IsReadable v) is (three_made (codes "a") (codes "b") (codes "do") d p _ _ _ x.0 y.0 z, (x.1, y.1))))

mark_exact : (d : Data) (c : Command) → IsInKeyOrder d → string_in (codes "do") d ≡ Some (codes "mark") → mark_of d ≡ Some c → (d ≡ command_value c) × IsReadable c
unfolding mark_of
mark_exact d c sorted word e =
    let t = test_some (member_count d == 4) _ c e in
    option_and_then_some (λ id. option_and_then (λ range. option_map (command.Mark id range) (flag_in (codes "exclusive") d)) (range_in d)) (whole_in MAX_ID (codes "id") d) c t.1 (λ n n_is more.
    option_and_then_some (λ range. option_map (command.Mark n range) (flag_in (codes "exclusive") d)) (range_in d) c more (λ r r_is rest.
    behind_map (command.Mark n r) (flag_in (codes "exclusive") d) c rest (λ b b_is is.
    let p = four_of (codes "do") (codes "exclusive") (codes "id") (codes "range") d ((refl, (refl, (refl, tt))), ((refl, (refl, tt)), ((refl, tt), (tt, tt)))) sorted (eqb-true (member_count d) 4 t.0)
    (there as_str _ _ word) (there as_bool _ _ b_is) (there (whole_of MAX_ID) _ _ n_is) (there range_of _ _ r_is) in
    let x = string_exact p.0 (codes "mark") (subst (λ v. string_in (codes "do") v ≡ Some (codes "mark")) p.4 word) in
    let y = flag_exact p.1 b (subst (λ v. flag_in (codes "exclusive") v ≡ Some b) p.4 b_is) in
    let z = whole_exact MAX_ID n p.2 (subst (λ v. whole_in MAX_ID (codes "id") v ≡ Some n) p.4 n_is) in
    let w = range_exact p.3 r (subst (λ v. range_in v ≡ Some r) p.4 r_is) in
    subst (λ v. (d ≡ command_value v) × IsReadable v) is (p.4 ∙ cc (x, y, z.0, w.0), (z.1, w.1)))))

-- one word of a table
word_step : {A : Type 0} (spelled : A → List ℕ) (s word : List ℕ) (x h : A) (o : Option A) → cond (bytes_eq s word) (Some x) o ≡ Some h → spelled x ≡ word → (o ≡ Some h → s ≡ spelled h) → s ≡ spelled h
word_step spelled s word x h o e is rest =
    elim (either_some (bytes_eq s word) (Some x) o h e) [
      | inl one ↦ (bytes_eq-Decides s word).0 one.0 ∙ sym is ∙ ap spelled (same_Some _ _ one.1)
      | inr other ↦ rest other
    ]

how_exact : (s : List ℕ) (h : How) → how_of s ≡ Some h → s ≡ how_word h
unfolding how_of
how_exact s h e =
    word_step how_word s (codes "intersecting") how.Intersecting h _ e refl (λ e.
    word_step how_word s (codes "containing") how.Containing h _ e refl (λ e.
    word_step how_word s (codes "contained_in") how.ContainedIn h _ e refl (λ e.
    word_step how_word s (codes "starting_in") how.StartingIn h _ e refl (λ e.
    word_step how_word s (codes "starting_at") how.StartingAt h _ e refl (λ e.
    word_step how_word s (codes "ending_in") how.EndingIn h _ e refl (λ e.
    word_step how_word s (codes "ending_at") how.EndingAt h _ e refl (λ e. absurd (none-some h e))))))))

marks_exact : (d : Data) (c : Command) → IsInKeyOrder d → string_in (codes "do") d ≡ Some (codes "marks") → marks_of d ≡ Some c → (d ≡ command_value c) × IsReadable c
unfolding marks_of
marks_exact d c sorted word e =
    let t = test_some (member_count d == 3) _ c e in
    option_and_then_some (λ h. option_map (command.Marks h) (range_in d)) (option_and_then how_of (string_in (codes "how") d)) c t.1 (λ h h_is rest.
    option_and_then_some how_of (string_in (codes "how") d) h h_is (λ s s_is of.
    behind_map (command.Marks h) (range_in d) c rest (λ r r_is is.
    let p = three_of (codes "do") (codes "how") (codes "range") d ((refl, (refl, tt)), ((refl, tt), (tt, tt))) sorted (eqb-true (member_count d) 3 t.0) (there as_str _ _ word) (there as_str _ _ s_is) (there range_of _ _ r_is) in
    let x = string_exact p.first (codes "marks") (subst (λ v. string_in (codes "do") v ≡ Some (codes "marks")) p.is word) in
    let y = string_exact p.second s (subst (λ v. string_in (codes "how") v ≡ Some s) p.is s_is) in
    let z = range_exact p.third r (subst (λ v. range_in v ≡ Some r) p.is r_is) in
    subst (λ v. (d ≡ command_value v) × IsReadable v) is (three_made (codes "do") (codes "how") (codes "range") d p _ _ _ x (y ∙ ap string (how_exact s h of)) z.0, z.1))))

-- ---- reads

size_exact : (d : Data) (r : Read) → IsInKeyOrder d → string_in (codes "get") d ≡ Some (codes "size") → size_of d ≡ Some r → (d ≡ read_value r) × IsReadableRead r
unfolding size_of
size_exact d r sorted word e =
    let t = test_some (member_count d == 1) _ r e in
    let part = one_of (codes "get") d sorted (eqb-true (member_count d) 1 t.0) (there as_str _ _ word) in
    let x = string_exact part.0 (codes "size") (subst (λ v. string_in (codes "get") v ≡ Some (codes "size")) part.1 word) in
    subst (λ v. (d ≡ read_value v) × IsReadableRead v) (same_Some _ _ t.1) (part.1 ∙ ap (λ v. object (member (codes "get") v no_members)) x, tt)

look_read_exact : (d : Data) (r : Read) → IsInKeyOrder d → string_in (codes "get") d ≡ Some (codes "text") → look_read_of d ≡ Some r → (d ≡ read_value r) × IsReadableRead r
unfolding look_read_of
look_read_exact d r sorted word e =
    let t = test_some (member_count d == 3) _ r e in
    option_and_then_some (λ range. option_map (read.Text range) (whole_in MAX_SHOWN (codes "limit") d)) (range_in d) r t.1 (λ range range_is rest.
    behind_map (read.Text range) (whole_in MAX_SHOWN (codes "limit") d) r rest (λ n n_is is.
    let p = three_of (codes "get") (codes "limit") (codes "range") d ((refl, (refl, tt)), ((refl, tt), (tt, tt))) sorted (eqb-true (member_count d) 3 t.0) (there as_str _ _ word) (there (whole_of MAX_SHOWN) _ _ n_is) (there range_of _ _ range_is) in
    let x = string_exact p.first (codes "text") (subst (λ v. string_in (codes "get") v ≡ Some (codes "text")) p.is word) in
    let y = whole_exact MAX_SHOWN n p.second (subst (λ v. whole_in MAX_SHOWN (codes "limit") v ≡ Some n) p.is n_is) in
    let z = range_exact p.third range (subst (λ v. range_in v ≡ Some range) p.is range_is) in
    subst (λ v. (d ≡ read_value v) × IsReadableRead v) is (three_made (codes "get") (codes "limit") (codes "range") d p _ _ _ x y.0 z.0, (z.1, y.1))))

find_exact : (d : Data) (r : Read) → IsInKeyOrder d → string_in (codes "get") d ≡ Some (codes "find") → find_of d ≡ Some r → (d ≡ read_value r) × IsReadableRead r
unfolding find_of
find_exact d r sorted word e =
    let t = test_some (member_count d == 3) _ r e in
    option_and_then_some (λ needle. option_map (read.Find needle) (whole_in MAX_HITS (codes "limit") d)) (string_in (codes "needle") d) r t.1 (λ s s_is rest.
    behind_map (read.Find s) (whole_in MAX_HITS (codes "limit") d) r rest (λ n n_is is.
    let p = three_of (codes "get") (codes "limit") (codes "needle") d ((refl, (refl, tt)), ((refl, tt), (tt, tt))) sorted (eqb-true (member_count d) 3 t.0) (there as_str _ _ word) (there (whole_of MAX_HITS) _ _ n_is) (there as_str _ _ s_is) in
    let x = string_exact p.first (codes "find") (subst (λ v. string_in (codes "get") v ≡ Some (codes "find")) p.is word) in
    let y = whole_exact MAX_HITS n p.second (subst (λ v. whole_in MAX_HITS (codes "limit") v ≡ Some n) p.is n_is) in
    let z = string_exact p.third s (subst (λ v. string_in (codes "needle") v ≡ Some s) p.is s_is) in
    subst (λ v. (d ≡ read_value v) × IsReadableRead v) is (three_made (codes "get") (codes "limit") (codes "needle") d p _ _ _ x y.0 z, y.1)))

pattern_exact : (d : Data) (r : Read) → IsInKeyOrder d → string_in (codes "get") d ≡ Some (codes "pattern") → pattern_of d ≡ Some r → (d ≡ read_value r) × IsReadableRead r
unfolding pattern_of
pattern_exact d r sorted word e =
    let t = test_some (member_count d == 3) _ r e in
    option_and_then_some (λ pattern. option_map (read.Pattern pattern) (whole_in MAX_HITS (codes "limit") d)) (string_in (codes "pattern") d) r t.1 (λ s s_is rest.
    behind_map (read.Pattern s) (whole_in MAX_HITS (codes "limit") d) r rest (λ n n_is is.
    let p = three_of (codes "get") (codes "limit") (codes "pattern") d ((refl, (refl, tt)), ((refl, tt), (tt, tt))) sorted (eqb-true (member_count d) 3 t.0) (there as_str _ _ word) (there (whole_of MAX_HITS) _ _ n_is) (there as_str _ _ s_is) in
    let x = string_exact p.first (codes "pattern") (subst (λ v. string_in (codes "get") v ≡ Some (codes "pattern")) p.is word) in
    let y = whole_exact MAX_HITS n p.second (subst (λ v. whole_in MAX_HITS (codes "limit") v ≡ Some n) p.is n_is) in
    let z = string_exact p.third s (subst (λ v. string_in (codes "pattern") v ≡ Some s) p.is s_is) in
    subst (λ v. (d ≡ read_value v) × IsReadableRead v) is (three_made (codes "get") (codes "limit") (codes "pattern") d p _ _ _ x y.0 z, y.1)))

-- the word of an encoding
encoding_exact : (s : List ℕ) (e : Encoding) → encoding_of s ≡ Some e → s ≡ encoding_word e
unfolding encoding_of
encoding_exact s e h =
    word_step encoding_word s (codes "utf8") encoding.Utf8 e _ h refl (λ h.
    word_step encoding_word s (codes "utf16le") encoding.Utf16Le e _ h refl (λ h.
    word_step encoding_word s (codes "utf16be") encoding.Utf16Be e _ h refl (λ h.
    word_step encoding_word s (codes "latin1") encoding.Latin1 e _ h refl (λ h. absurd (none-some e h)))))

save_exact : (d : Data) (r : Read) → IsInKeyOrder d → string_in (codes "get") d ≡ Some (codes "save") → save_of d ≡ Some r → (d ≡ read_value r) × IsReadableRead r
unfolding save_of
save_exact d r sorted word e =
    let t = test_some (member_count d == 3) _ r e in
    option_and_then_some (λ e. option_map (λ name. read.Save name e) (string_in (codes "name") d)) (encoding_in d) r t.1 (λ e e_is rest.
    behind_map (λ name. read.Save name e) (string_in (codes "name") d) r rest (λ name name_is is.
    option_and_then_some encoding_of (string_in (codes "encoding") d) e e_is (λ s s_is s_e.
    let p = three_of (codes "encoding") (codes "get") (codes "name") d ((refl, (refl, tt)), ((refl, tt), (tt, tt))) sorted (eqb-true (member_count d) 3 t.0) (there as_str _ _ s_is) (there as_str _ _ word) (there as_str _ _ name_is) in
    let x = string_exact p.first s (subst (λ v. string_in (codes "encoding") v ≡ Some s) p.is s_is) in
    let y = string_exact p.second (codes "save") (subst (λ v. string_in (codes "get") v ≡ Some (codes "save")) p.is word) in
    let z = string_exact p.third name (subst (λ v. string_in (codes "name") v ≡ Some name) p.is name_is) in
    subst (λ v. (d ≡ read_value v) × IsReadableRead v) is (three_made (codes "encoding") (codes "get") (codes "name") d p _ _ _ (x ∙ ap string (encoding_exact s e s_e)) y z, tt))))

read_exact : (d : Data) (r : Read) → IsInKeyOrder d → read_of d ≡ Some r → (d ≡ read_value r) × IsReadableRead r
unfolding read_of
read_exact d r sorted e =
    elim (either_some (is_word (string_in (codes "get") d) (codes "size")) (size_of d) _ r e) [
      | inl is ↦ size_exact d r sorted (word_exact _ _ is.0) is.1
      | inr rest1 ↦ elim (either_some (is_word (string_in (codes "get") d) (codes "text")) (look_read_of d) _ r rest1) [
        | inl is ↦ look_read_exact d r sorted (word_exact _ _ is.0) is.1
        | inr rest2 ↦ elim (either_some (is_word (string_in (codes "get") d) (codes "find")) (find_of d) _ r rest2) [
          | inl is ↦ find_exact d r sorted (word_exact _ _ is.0) is.1
          | inr rest3 ↦ elim (either_some (is_word (string_in (codes "get") d) (codes "pattern")) (pattern_of d) _ r rest3) [
            | inl is ↦ pattern_exact d r sorted (word_exact _ _ is.0) is.1
            | inr rest4 ↦ let is = test_some (is_word (string_in (codes "get") d) (codes "save")) (save_of d) r rest4 in save_exact d r sorted (word_exact _ _ is.0) is.1
          ]
        ]
      ]
    ]

reads_exact : (ds : Items) (rs : List Read) → ItemsInKeyOrder ds → reads_of ds ≡ Some rs → (ds ≡ items_of (map read_value rs)) × AllByRecursion IsReadableRead rs
reads_exact no_items rs sorted e = subst (λ xs. (no_items ≡ items_of (map read_value xs)) × AllByRecursion IsReadableRead xs) (same_Some [] rs e) (refl, tt)
reads_exact (item d ds) rs sorted e =
    option_and_then_some (λ r. option_map (λ xs. r ∷ xs) (reads_of ds)) (read_of d) rs e (λ r first rest.
    behind_map (λ xs. r ∷ xs) (reads_of ds) rs rest (λ xs others is.
    let one = read_exact d r sorted.0 first in
    let more = reads_exact ds xs sorted.1 others in
    subst (λ ys. (item d ds ≡ items_of (map read_value ys)) × AllByRecursion IsReadableRead ys) is (ap₂ item one.0 more.0, (one.1, more.1))))

-- a number and reads are of three members, so a command that has them with this word is its value
asking_exact : (make : ℕ → List Read → Command) (say : List ℕ) (d : Data) (c : Command)
    → ((k : ℕ) (rs : List Read) → command_value (make k rs) ≡ object (member (codes "do") (string say) (member (codes "reads") (list_value read_value rs) (member (codes "snapshot") (whole k) no_members))))
    → ((k : ℕ) (rs : List Read) → (k ≤ MAX_ID) × AllByRecursion IsReadableRead rs → IsReadable (make k rs))
    → IsInKeyOrder d → string_in (codes "do") d ≡ Some say → option_map (λ a. make a.0 a.1) (asking_of d) ≡ Some c → (d ≡ command_value c) × IsReadable c
unfolding asking_of
asking_exact make say d c value_is readable sorted word e =
    behind_map (λ a. make a.0 a.1) (asking_of d) c e (λ a a_is made_is.
    let t = test_some (member_count d == 3) _ a a_is in
    option_and_then_some (λ k. option_map (λ rs. (k, rs)) (listed_reads d)) (whole_in MAX_ID (codes "snapshot") d) a t.1 (λ k k_is more.
    behind_map (λ rs. (k, rs)) (listed_reads d) a more (λ rs rs_is is.
    option_and_then_some reads_of (option_and_then as_array (get (codes "reads") d)) rs rs_is (λ ds ds_is of.
    let p = three_of (codes "do") (codes "reads") (codes "snapshot") d ((refl, (refl, tt)), ((refl, tt), (tt, tt))) sorted (eqb-true (member_count d) 3 t.0) (there as_str _ _ word) (there as_array _ _ ds_is) (there (whole_of MAX_ID) _ _ k_is) in
    let within : IsInKeyOrder (object (member (codes "do") p.first (member (codes "reads") p.second (member (codes "snapshot") p.third no_members)))) = subst IsInKeyOrder p.is sorted in
    let x = string_exact p.first say (subst (λ v. string_in (codes "do") v ≡ Some say) p.is word) in
    let y = array_exact p.second ds (subst (λ v. option_and_then as_array (get (codes "reads") v) ≡ Some ds) p.is ds_is) in
    let z = whole_exact MAX_ID k p.third (subst (λ v. whole_in MAX_ID (codes "snapshot") v ≡ Some k) p.is k_is) in
    let exact = reads_exact ds rs (subst IsInKeyOrder y within.1.1.0) of in
    let made = three_made (codes "do") (codes "reads") (codes "snapshot") d p _ _ _ x (y ∙ ap array exact.0) z.0 in
    subst (λ v. (d ≡ command_value v) × IsReadable v) (ap (λ b. make b.0 b.1) is ∙ made_is) (made ∙ sym (value_is k rs), readable k rs (z.1, exact.1))))))

on_snapshots_exact : (d : Data) (c : Command) → IsInKeyOrder d → on_snapshots_of d ≡ Some c → (d ≡ command_value c) × IsReadable c
unfolding on_snapshots_of
on_snapshots_exact d c sorted e =
    elim (either_some (is_word (string_in (codes "do") d) (codes "take")) (take_of d) _ c e) [
      | inl is ↦ take_exact d c sorted (word_exact _ _ is.0) is.1
      | inr rest1 ↦ elim (either_some (is_word (string_in (codes "do") d) (codes "read")) (option_map (λ a. command.Read a.0 a.1) (asking_of d)) _ c rest1) [
        | inl is ↦ asking_exact command.Read (codes "read") d c (λ k rs. refl) (λ k rs h. h) sorted (word_exact _ _ is.0) is.1
        | inr rest2 ↦ elim (either_some (is_word (string_in (codes "do") d) (codes "send")) (option_map (λ a. command.Send a.0 a.1) (asking_of d)) _ c rest2) [
          | inl is ↦ asking_exact command.Send (codes "send") d c (λ k rs. refl) (λ k rs h. h) sorted (word_exact _ _ is.0) is.1
          | inr rest3 ↦ let is = test_some (is_word (string_in (codes "do") d) (codes "release")) (release_of d) c rest3 in release_exact d c sorted (word_exact _ _ is.0) is.1
        ]
      ]
    ]

on_text_exact : (d : Data) (c : Command) → IsInKeyOrder d → on_text_of d ≡ Some c → (d ≡ command_value c) × IsReadable c
unfolding on_text_of
on_text_exact d c sorted e =
    elim (either_some (member_count d == 3) (ranged_of d) _ c e) [
      | inl ranged ↦ ranged_exact d c sorted (eqb-true (member_count d) 3 ranged.0) ranged.1
      | inr other ↦ let bare = test_some (member_count d == 1) (bare_of d) c other in bare_exact d c sorted (eqb-true (member_count d) 1 bare.0) bare.1
    ]

command_exact : (d : Data) (c : Command) → IsInKeyOrder d → command_of d ≡ Some c → (d ≡ command_value c) × IsReadable c
unfolding command_of
command_exact d c sorted e =
    elim (either_some (is_on_marks d) (on_marks_of d) _ c e) [
      | inl marks ↦ mark_cases d c ((d ≡ command_value c) × IsReadable c) marks.1 (unmark_mark_exact d c sorted) (range_mark_exact d c sorted) (exclusive_exact d c sorted) (compare_exact d c sorted) (mark_exact d c sorted)
          (marks_exact d c sorted) (watch_exact d c sorted) (unwatch_exact d c sorted)
      | inr other ↦ elim (either_some (is_on_snapshots d) (on_snapshots_of d) _ c other) [ inl snapshots ↦ on_snapshots_exact d c sorted snapshots.1 | inr text ↦ on_text_exact d c sorted text ]
    ]

commands_exact : (ds : Items) (cs : List Command) → ItemsInKeyOrder ds → commands_of ds ≡ Some cs → (ds ≡ items_of (map command_value cs)) × AllByRecursion IsReadable cs
commands_exact no_items cs sorted e = subst (λ xs. (no_items ≡ items_of (map command_value xs)) × AllByRecursion IsReadable xs) (same_Some [] cs e) (refl, tt)
commands_exact (item d ds) cs sorted e =
    option_and_then_some (λ c. option_map (λ xs. c ∷ xs) (commands_of ds)) (command_of d) cs e (λ c first rest.
    behind_map (λ xs. c ∷ xs) (commands_of ds) cs rest (λ xs others is.
    let one = command_exact d c sorted.0 first in
    let more = commands_exact ds xs sorted.1 others in
    subst (λ ys. (item d ds ≡ items_of (map command_value ys)) × AllByRecursion IsReadable ys) is (ap₂ item one.0 more.0, (one.1, more.1))))

-- ---- sessions, the opening and the whole

session_exact : (d : Data) (cs : List Command) → IsInKeyOrder d → session_of d ≡ Some cs → (d ≡ session_value cs) × AllByRecursion IsReadable cs
unfolding session_of
session_exact d cs sorted e =
    option_and_then_some commands_of (as_array d) cs e (λ ds ds_is commands.
    let listed = array_exact d ds ds_is in
    let exact = commands_exact ds cs (subst IsInKeyOrder listed sorted) commands in
    (listed ∙ ap array exact.0, exact.1))

-- one session, and what it is
record IsOneSession (d : Data) (sessions : List (List Command)) : Type 0 where
  is : d ≡ list_value session_value sessions
  one : length sessions ≡ 1
  commands : AllByRecursion (AllByRecursion IsReadable) sessions

sessions_exact : (d : Data) (sessions : List (List Command)) → IsInKeyOrder d → sessions_of d ≡ Some sessions → IsOneSession d sessions
unfolding sessions_of
sessions_exact d sessions sorted e =
    let t = test_some (item_count d == 1) _ sessions e in
    let f = one_item d (eqb-true (item_count d) 1 t.0) in
    behind_map (λ session. session ∷ []) (option_and_then session_of (at 0 d)) sessions t.1 (λ session found is.
    let inner : session_of f.0 ≡ Some session = subst (λ v. option_and_then session_of (at 0 v) ≡ Some session) f.1 found in
    let sorted_inner : IsInKeyOrder (array (item f.0 no_items)) = subst IsInKeyOrder f.1 sorted in
    let one = session_exact f.0 session sorted_inner.0 inner in
    subst (IsOneSession d) is (record { is = f.1 ∙ ap (λ v. array (item v no_items)) one.0; one = refl; commands = (one.1, tt) }))

text_opening_exact : (d : Data) (o : Opening) → IsInKeyOrder d → text_opening_of d ≡ Some o → d ≡ opening_value o
unfolding text_opening_of
text_opening_exact d o sorted e =
    let t = test_some (member_count d == 1) _ o e in
    behind_map opening.Text (string_in (codes "text") d) o t.1 (λ text text_is is.
    let part = one_of (codes "text") d sorted (eqb-true (member_count d) 1 t.0) (there as_str _ _ text_is) in
    let x = string_exact part.0 text (subst (λ v. string_in (codes "text") v ≡ Some text) part.1 text_is) in
    subst (λ v. d ≡ opening_value v) is (part.1 ∙ rw x refl))

file_opening_exact : (d : Data) (o : Opening) → IsInKeyOrder d → file_opening_of d ≡ Some o → d ≡ opening_value o
unfolding file_opening_of
file_opening_exact d o sorted h =
    let t = test_some (member_count d == 2) _ o h in
    option_and_then_some (λ e. option_map (λ name. opening.File name e) (string_in (codes "file") d)) (encoding_in d) o t.1 (λ e e_is rest.
    behind_map (λ name. opening.File name e) (string_in (codes "file") d) o rest (λ name name_is is.
    option_and_then_some encoding_of (string_in (codes "encoding") d) e e_is (λ word word_is word_e.
    let parts = two_of (codes "encoding") (codes "file") d ((refl, tt), (tt, tt)) sorted (eqb-true (member_count d) 2 t.0) (there as_str _ _ word_is) (there as_str _ _ name_is) in
    let x = string_exact parts.0 word (subst (λ v. string_in (codes "encoding") v ≡ Some word) parts.2 word_is) in
    let y = string_exact parts.1 name (subst (λ v. string_in (codes "file") v ≡ Some name) parts.2 name_is) in
    subst (λ v. d ≡ opening_value v) is (parts.2 ∙ rw (x, y, encoding_exact word e word_e) refl))))

opening_exact : (d : Data) (o : Opening) → IsInKeyOrder d → opening_of d ≡ Some o → d ≡ opening_value o
unfolding opening_of
opening_exact d o sorted e =
    elim (either_some (is_some (get (codes "text") d)) (text_opening_of d) _ o e) [ inl text ↦ text_opening_exact d o sorted text.1 | inr file ↦ file_opening_exact d o sorted file ]

one_exact : (o : Option ℕ) → is_one o ≡ true → o ≡ Some 1
one_exact None e = absurd (true≢false (sym e))
one_exact (Some n) e = ap Some (eqb-true n 1 e)

number_exact : (d : Data) (n : ℕ) → option_and_then as_u64 (as_number d) ≡ Some n → d ≡ whole n
number_exact null n e = absurd (none-some n e)
number_exact (boolean b) n e = absurd (none-some n e)
number_exact (number (unsigned m)) n e = ap whole (same_Some m n e)
number_exact (number (negative z)) n e = absurd (none-some n e)
number_exact (number (float x)) n e = absurd (none-some n e)
number_exact (string s) n e = absurd (none-some n e)
number_exact (array ds) n e = absurd (none-some n e)
number_exact (object ms) n e = absurd (none-some n e)

pub version_exact : (o : Option Data) → is_one (option_and_then as_u64 (option_and_then as_number o)) ≡ true → o ≡ Some (whole 1)
version_exact None e = absurd (true≢false (sym e))
version_exact (Some d) e = ap Some (number_exact d 1 (one_exact _ e))

value_parts : (d : Data) (o : Opening) (sessions : List (List Command)) (parts : IsThree (codes "open") (codes "sessions") (codes "version") d) → IsInKeyOrder d
    → option_and_then opening_of (get (codes "open") d) ≡ Some o → option_and_then sessions_of (get (codes "sessions") d) ≡ Some sessions → get (codes "version") d ≡ Some (whole 1)
    → (d ≡ script_value (record { version = 1; opening = o; sessions = sessions })) × IsReadableScript (record { version = 1; opening = o; sessions = sessions })
value_parts d o sessions parts sorted opens found version =
    let within : IsInKeyOrder (object (member (codes "open") parts.first (member (codes "sessions") parts.second (member (codes "version") parts.third no_members)))) = subst IsInKeyOrder parts.is sorted in
    let x = opening_exact parts.first o within.1.0 (subst (λ v. option_and_then opening_of (get (codes "open") v) ≡ Some o) parts.is opens) in
    let y = sessions_exact parts.second sessions within.1.1.0 (subst (λ v. option_and_then sessions_of (get (codes "sessions") v) ≡ Some sessions) parts.is found) in
    let z : parts.third ≡ whole 1 = same_Some _ _ (subst (λ v. get (codes "version") v ≡ Some (whole 1)) parts.is version) in
    (three_made (codes "open") (codes "sessions") (codes "version") d parts _ _ _ x y.is z, record { version = refl; one = y.one; commands = y.commands })

-- what is read as a script is its value, and is of what is built
pub reading_exact : (d : Data) (s : Script) → IsInKeyOrder d → reading d ≡ Some s → (d ≡ script_value s) × IsReadableScript s
unfolding reading
reading_exact d s sorted e =
    let t = test_some ((member_count d == 3) && is_version_one d) _ s e in
    let b = and_parts (member_count d == 3) (is_version_one d) t.0 in
    let version = version_exact (get (codes "version") d) b.1 in
    option_and_then_some (λ o. option_map (λ sessions. record { version = 1; opening = o; sessions = sessions }) (option_and_then sessions_of (get (codes "sessions") d)))
    (option_and_then opening_of (get (codes "open") d)) s t.1 (λ o opens rest.
    behind_map (λ sessions. record { version = 1; opening = o; sessions = sessions }) (option_and_then sessions_of (get (codes "sessions") d)) s rest (λ sessions found is.
    let parts = three_of (codes "open") (codes "sessions") (codes "version") d ((refl, (refl, tt)), ((refl, tt), (tt, tt))) sorted (eqb-true (member_count d) 3 b.0)
    (there opening_of _ _ opens) (there sessions_of _ _ found) (some_there _ _ version) in
    subst (λ v. (d ≡ script_value v) × IsReadableScript v) is (value_parts d o sessions parts sorted opens found version)))
