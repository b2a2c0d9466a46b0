-- The literal hits in the bytes of a text are, as points, those in its units.
use Rattle.std.proofs.Common.{◌≡◌, ◌⊎◌, ℕ, zero, suc, ◌+◌, ◌-◌, ◌/◌, ◌%◌, ◌<◌, ◌≤◌, List, [], ◌∷◌, ◌++◌, length, take, drop, map, flat_map, Bool, true, false, not, ◌||◌, ltb, leb, IsUtf8, chars, encode_utf8_all, refl, sym, ap, ◌∙◌, inl, inr, arith, length-append, append_assoc, take-append-drop, length-take-le}
use Rattle.std.specs.List.{AllByRecursion}
use Rattle.std.specs.Char.Escape.{encode_utf16}
use Rattle.std.specs.Char.Utf16.{is_low_surrogate}
use lib.Utf8.{scalar, scalars, encode, scalar_cases}
use Rattle.std.proofs.lemmas.Str.{chars-encodes, encodes-chars, scalars-chars, encode_same}
use Rattle.std.proofs.lemmas.Bool.{cases_lt, lt-ltb, le-ltb, cond-true, cond-false, and_parts, and_from}
use Rattle.std.proofs.lemmas.Bool.Decides.{nat_tests}
use Rattle.std.proofs.lemmas.List.{take_at}
use Rattle.std.proofs.lemmas.Grind.{flat_map-append}
use Rattle.memchr.specs.Find.{OccursAt}
use Rattle.memchr.proofs.lemmas.MatchLemmas.{OccursAt-split}
use Rattle.points.specs.declared.point.Point.{Point}
use Rattle.points.specs.Text.{utf16, utf16_of, text_of, mended}
use Rattle.points.specs.Place.{extent, point_at}
use Rattle.points.specs.Literal.{hits}
use Rattle.points.proofs.WellFormedLemmas.{encode_one, encode_two}
use Rattle.machine.specs.declared.reply.Span.{Span}
use Rattle.machine.specs.Answers.{point_of_byte, span_at, span_of_bytes}
use Rattle.outer.specs.Literal.{spans_of, literal_hits}
use Rattle.outer.specs.Leftmost.{AreApartFrom}
use Rattle.outer.proofs.HitLemmas.{hits-leftmost}
use Rattle.search.proofs.MendLemmas.{read_back}
use Rattle.search.proofs.SpellLemmas.{IsWord, IsSpelling, hits_spelled}

cons_parts : {a b : ℕ} {xs ys : List ℕ} → a ∷ xs ≡ b ∷ ys → (a ≡ b) × (xs ≡ ys)
cons_parts e = (cc, cc)

-- UTF-8: the bytes behind a character's first are from 128 up to 191
abbrev begins_utf8 : ℕ → Bool
begins_utf8 u = ltb u 128 || leb 192 u

first_low : (u : ℕ) → u < 128 → begins_utf8 u ≡ true
first_low u low = grind (arith, nat_tests)

first_high : (u : ℕ) → 192 ≤ u → begins_utf8 u ≡ true
first_high u high = grind (arith, nat_tests)

later : (u : ℕ) → 128 ≤ u → u < 192 → begins_utf8 u ≡ false
later u low high = grind (arith, nat_tests)

later_six : (n : ℕ) → begins_utf8 (128 + n % 64) ≡ false
later_six n = later (128 + n % 64) (omega arith) (omega arith)

utf8_word : (c : ℕ) → IsWord begins_utf8 (encode c)
unfolding encode
utf8_word c = elim (cases_lt c 128) [
  | inl one ↦ record { first = c; rest = []; parts = cond-true _ _ _ (lt-ltb c 128 one); begins = first_low c one; goes_on = tt }
  | inr not_one ↦ elim (cases_lt c 2048) [
    | inl two ↦ record {
      first = 192 + c / 64;
      rest = (128 + c % 64) ∷ [];
      parts = cond-false _ _ _ (le-ltb c 128 not_one) ∙ cond-true _ _ _ (lt-ltb c 2048 two);
      begins = first_high (192 + c / 64) (omega arith);
      goes_on = (later_six c, tt);
    }
    | inr not_two ↦ elim (cases_lt c 65536) [
      | inl three ↦ record {
        first = 224 + c / 4096;
        rest = (128 + (c / 64) % 64) ∷ (128 + c % 64) ∷ [];
        parts = cond-false _ _ _ (le-ltb c 128 not_one) ∙ (cond-false _ _ _ (le-ltb c 2048 not_two) ∙ cond-true _ _ _ (lt-ltb c 65536 three));
        begins = first_high (224 + c / 4096) (omega arith);
        goes_on = (later_six (c / 64), (later_six c, tt));
      }
      | inr not_three ↦ record {
        first = 240 + c / 262144;
        rest = (128 + (c / 4096) % 64) ∷ (128 + (c / 64) % 64) ∷ (128 + c % 64) ∷ [];
        parts = cond-false _ _ _ (le-ltb c 128 not_one) ∙ (cond-false _ _ _ (le-ltb c 2048 not_two) ∙ cond-false _ _ _ (le-ltb c 65536 not_three));
        begins = first_high (240 + c / 262144) (omega arith);
        goes_on = (later_six (c / 4096), (later_six (c / 64), (later_six c, tt)));
      }
    ]
  ]
]

utf8_spelling : IsSpelling encode scalar begins_utf8
utf8_spelling = record {
  words = λ c _. utf8_word c;
  apart = λ c d r t _ _ e. encode_same c d r t e;
}

-- UTF-16: the unit behind a character's first is a low surrogate
abbrev begins_utf16 : ℕ → Bool
begins_utf16 u = not (is_low_surrogate u)

no_low : (u : ℕ) → (u < 0xDC00) ⊎ (0xE000 ≤ u) → begins_utf16 u ≡ true
no_low u h = elim h [ inl below ↦ grind (arith, nat_tests) | inr above ↦ grind (arith, nat_tests) ]

low : (u : ℕ) → 0xDC00 ≤ u → u < 0xE000 → begins_utf16 u ≡ false
low u from below = grind (arith, nat_tests)

scalar_small : (c : ℕ) → scalar c ≡ true → (c < 0xDC00) ⊎ (0xE000 ≤ c)
scalar_small c e = elim (scalar_cases c e) [ inl below ↦ inl (omega arith) | inr above ↦ inr above.0 ]

scalar_below : (c : ℕ) → scalar c ≡ true → c < 0x11_0000
scalar_below c e = elim (scalar_cases c e) [ inl below ↦ omega arith | inr above ↦ above.1 ]

utf16_word : (c : ℕ) → scalar c ≡ true → IsWord begins_utf16 (encode_utf16 c)
utf16_word c e = elim (cases_lt c 0x1_0000) [
  | inl one ↦ record { first = c; rest = []; parts = encode_one c one; begins = no_low c (scalar_small c e); goes_on = tt }
  | inr two ↦ let fits = scalar_below c e in record {
    first = 0xD800 + (c - 0x1_0000) / 0x400;
    rest = (0xDC00 + (c - 0x1_0000) % 0x400) ∷ [];
    parts = encode_two c two;
    begins = no_low (0xD800 + (c - 0x1_0000) / 0x400) (inl (omega (arith, fits)));
    goes_on = (low (0xDC00 + (c - 0x1_0000) % 0x400) (omega arith) (omega arith), tt);
  }
]

one_and_two : (c d : ℕ) (r t : List ℕ) → scalar c ≡ true → scalar d ≡ true → 0x1_0000 ≤ d → c ∷ r ≡ (0xD800 + (d - 0x1_0000) / 0x400) ∷ t → ⊥
one_and_two c d r t scalar_c scalar_d two e = let same = (cons_parts e).0 in let fits = scalar_below d scalar_d in
    elim (scalar_cases c scalar_c) [ inl below ↦ omega (arith, same) | inr above ↦ omega (arith, same, fits, above.0) ]

utf16_same : (c d : ℕ) (r t : List ℕ) → scalar c ≡ true → scalar d ≡ true → encode_utf16 c ++ r ≡ encode_utf16 d ++ t → (c ≡ d) × (r ≡ t)
utf16_same c d r t scalar_c scalar_d e = elim (cases_lt c 0x1_0000) [
  | inl one ↦ let left = ap (λ (xs : List ℕ). xs ++ r) (sym (encode_one c one)) in elim (cases_lt d 0x1_0000) [
    | inl one_d ↦ cons_parts (left ∙ (e ∙ ap (λ (xs : List ℕ). xs ++ t) (encode_one d one_d)))
    | inr two_d ↦ absurd (one_and_two c d _ _ scalar_c scalar_d two_d (left ∙ (e ∙ ap (λ (xs : List ℕ). xs ++ t) (encode_two d two_d))))
  ]
  | inr two ↦ let left = ap (λ (xs : List ℕ). xs ++ r) (sym (encode_two c two)) in elim (cases_lt d 0x1_0000) [
    | inl one_d ↦ absurd (one_and_two d c _ _ scalar_d scalar_c two (sym (left ∙ (e ∙ ap (λ (xs : List ℕ). xs ++ t) (encode_one d one_d)))))
    | inr two_d ↦
        let firsts = cons_parts (left ∙ (e ∙ ap (λ (xs : List ℕ). xs ++ t) (encode_two d two_d))) in
        let seconds = cons_parts firsts.1 in
        (omega (arith, firsts.0, seconds.0, two, two_d), seconds.1)
  ]
]

utf16_spelling : IsSpelling encode_utf16 scalar begins_utf16
utf16_spelling = record { words = utf16_word; apart = utf16_same }

-- lists of scalar values
abbrev Scalars : List ℕ → Type 0
Scalars cs = AllByRecursion (λ c. scalar c ≡ true) cs

each_scalar : (cs : List ℕ) → scalars cs ≡ true → Scalars cs
each_scalar [] e = tt
each_scalar (c ∷ cs) e = let parts = and_parts (scalar c) (scalars cs) e in (parts.0, each_scalar cs parts.1)

all_scalar : (cs : List ℕ) → Scalars cs → scalars cs ≡ true
all_scalar [] h = refl
all_scalar (c ∷ cs) h = and_from (scalar c) (scalars cs) h.0 (all_scalar cs h.1)

Scalars-take : (n : ℕ) (cs : List ℕ) → Scalars cs → Scalars (take n cs)
Scalars-take zero cs h = tt
Scalars-take (suc n) [] h = tt
Scalars-take (suc n) (c ∷ cs) h = (h.0, Scalars-take n cs h.1)

abbrev utf8 : List ℕ → List ℕ
utf8 cs = flat_map encode cs

utf8-encodes : (cs : List ℕ) → encode_utf8_all cs ≡ utf8 cs
utf8-encodes [] = refl
utf8-encodes (c ∷ cs) = ap (λ (xs : List ℕ). encode c ++ xs) (utf8-encodes cs)

chars-utf8 : (cs : List ℕ) → Scalars cs → chars (utf8 cs) ≡ cs
chars-utf8 cs h = ap chars (sym (utf8-encodes cs)) ∙ chars-encodes cs (all_scalar cs h)

-- where a place in the characters is in a spelling
abbrev place_of : (ℕ → List ℕ) → List ℕ → ℕ → ℕ
place_of spell cs k = length (flat_map spell (take k cs))

front_spelled : (spell : ℕ → List ℕ) (cs : List ℕ) (k : ℕ) → take (place_of spell cs k) (flat_map spell cs) ≡ flat_map spell (take k cs)
front_spelled spell cs k = ap (λ (xs : List ℕ). take (place_of spell cs k) xs) (ap (flat_map spell) (sym (take-append-drop k cs)) ∙ flat_map-append spell (take k cs) (drop k cs))
    ∙ take_at (flat_map spell (take k cs)) (flat_map spell (drop k cs)) (place_of spell cs k) refl

point_utf8 : (cs : List ℕ) (k : ℕ) → Scalars cs → point_of_byte (utf8 cs) (place_of encode cs k) ≡ extent (utf16 (take k cs))
point_utf8 cs k h = ap (λ (xs : List ℕ). extent (utf16_of xs)) (front_spelled encode cs k) ∙ ap (λ (xs : List ℕ). extent (utf16 xs)) (chars-utf8 (take k cs) (Scalars-take k cs h))

point_utf16 : (cs : List ℕ) (k : ℕ) → point_at (utf16 cs) (place_of encode_utf16 cs k) ≡ extent (utf16 (take k cs))
point_utf16 cs k = ap extent (front_spelled encode_utf16 cs k)

-- where an occurrence ends
end_taken : (cs ns : List ℕ) (k : ℕ) → OccursAt cs ns k → take (k + length ns) cs ≡ take k cs ++ ns
end_taken cs ns k occurs =
    let rest = drop (k + length ns) cs in
    let whole : cs ≡ (take k cs ++ ns) ++ rest = sym (take-append-drop k cs) ∙ (ap (λ (xs : List ℕ). take k cs ++ xs) (OccursAt-split cs ns k occurs) ∙ sym (append_assoc (take k cs) ns rest)) in
    ap (λ (xs : List ℕ). take (k + length ns) xs) whole
    ∙ take_at (take k cs ++ ns) rest (k + length ns) (omega (arith, length-append (take k cs) ns, length-take-le k cs (omega (arith, occurs.fits))))

end_place : (spell : ℕ → List ℕ) (cs ns : List ℕ) (k : ℕ) → OccursAt cs ns k → place_of spell cs k + length (flat_map spell ns) ≡ place_of spell cs (k + length ns)
end_place spell cs ns k occurs = sym (ap (λ (xs : List ℕ). length (flat_map spell xs)) (end_taken cs ns k occurs) ∙ (ap length (flat_map-append spell (take k cs) ns) ∙ length-append (flat_map spell (take k cs)) (flat_map spell ns)))

same_span : (a b : Span) → a.start ≡ b.start → a.end ≡ b.end → a ≡ b
same_span a b start end = ap (λ (p : Point). let s : Span = record { start = p; end = a.end } in s) start ∙ ap (λ (p : Point). let s : Span = record { start = b.start; end = p } in s) end

span_same : (cs ns : List ℕ) (k : ℕ) → Scalars cs → OccursAt cs ns k
    → span_of_bytes (utf8 cs) (place_of encode cs k, place_of encode cs k + length (utf8 ns)) ≡ span_at (utf16 cs) (length (utf16 ns)) (place_of encode_utf16 cs k)
span_same cs ns k h occurs = same_span _ _
    (point_utf8 cs k h ∙ sym (point_utf16 cs k))
    (ap (point_of_byte (utf8 cs)) (end_place encode cs ns k occurs) ∙ (point_utf8 cs (k + length ns) h ∙ (sym (point_utf16 cs (k + length ns)) ∙ ap (point_at (utf16 cs)) (sym (end_place encode_utf16 cs ns k occurs)))))

spans_same : (cs ns : List ℕ) → Scalars cs → (at : ℕ) (ks : List ℕ) → AreApartFrom cs ns at ks
    → map (span_of_bytes (utf8 cs)) (spans_of (length (utf8 ns)) (map (place_of encode cs) ks)) ≡ map (span_at (utf16 cs) (length (utf16 ns))) (map (place_of encode_utf16 cs) ks)
spans_same cs ns h at [] apart = refl
spans_same cs ns h at (k ∷ ks) apart = ap (λ (s : Span). s ∷ map (span_of_bytes (utf8 cs)) (spans_of (length (utf8 ns)) (map (place_of encode cs) ks))) (span_same cs ns k h apart.1)
    ∙ ap (λ (ss : List Span). span_at (utf16 cs) (length (utf16 ns)) (place_of encode_utf16 cs k) ∷ ss) (spans_same cs ns h (k + length ns) ks apart.2)

hits_same : (cs ns : List ℕ) → Scalars cs → Scalars ns → 0 < length ns
    → map (span_of_bytes (utf8 cs)) (spans_of (length (utf8 ns)) (hits (utf8 cs) (utf8 ns))) ≡ map (span_at (utf16 cs) (length (utf16 ns))) (hits (utf16 cs) (utf16 ns))
hits_same cs ns h g some =
    ap (λ (hs : List ℕ). map (span_of_bytes (utf8 cs)) (spans_of (length (utf8 ns)) hs)) (hits_spelled encode scalar begins_utf8 utf8_spelling cs ns h g some)
    ∙ (spans_same cs ns h 0 (hits cs ns) (hits-leftmost cs ns some).apart
    ∙ ap (map (span_at (utf16 cs) (length (utf16 ns)))) (sym (hits_spelled encode_utf16 scalar begins_utf16 utf16_spelling cs ns h g some)))

some_chars : (needle : List ℕ) → utf8 (chars needle) ≡ needle → 0 < length needle → 0 < length (chars needle)
some_chars needle e some = by_chars (chars needle) e
  where
    by_chars : (cs : List ℕ) → utf8 cs ≡ needle → 0 < length cs
    by_chars [] none = absurd (omega (arith, some, ap length none))
    by_chars (c ∷ cs) e = omega arith

literal_some : (needle bytes : List ℕ) → 0 < length needle → literal_hits needle bytes ≡ spans_of (length needle) (hits bytes needle)
literal_some [] bytes some = absurd (omega (arith, some))
literal_some (b ∷ bs) bytes some = refl

pub literal_found : (t bytes needle : List ℕ) → bytes ≡ text_of t → IsUtf8 bytes → IsUtf8 needle → 0 < length needle
    → map (span_of_bytes bytes) (literal_hits needle bytes) ≡ map (span_at (mended t) (length (utf16_of needle))) (hits (mended t) (utf16_of needle))
literal_found t bytes needle e text word some =
    let whole : utf8 (chars bytes) ≡ bytes = sym (utf8-encodes (chars bytes)) ∙ encodes-chars bytes text in
    let part : utf8 (chars needle) ≡ needle = sym (utf8-encodes (chars needle)) ∙ encodes-chars needle word in
    ap (map (span_of_bytes bytes)) (literal_some needle bytes some)
    ∙ (ap (λ (xs : List ℕ). map (span_of_bytes xs) (spans_of (length needle) (hits xs needle))) (sym whole)
    ∙ (ap (λ (xs : List ℕ). map (span_of_bytes (utf8 (chars bytes))) (spans_of (length xs) (hits (utf8 (chars bytes)) xs))) (sym part)
    ∙ (hits_same (chars bytes) (chars needle) (each_scalar (chars bytes) (scalars-chars bytes text)) (each_scalar (chars needle) (scalars-chars needle word)) (some_chars needle part some)
    ∙ ap (λ (xs : List ℕ). map (span_at xs (length (utf16_of needle))) (hits xs (utf16_of needle))) (read_back t bytes e text))))
