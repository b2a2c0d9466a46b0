-- The bytes of texts in a row, of single characters, and how many there are.
use Rattle.std.proofs.Common.{◌≡◌, ℕ, ◌+◌, ◌-◌, ◌*◌, ◌/◌, ◌%◌, ◌<◌, ◌≤◌, List, [], ◌∷◌, ◌++◌, length, map, Option, Some, unwrap_or, true, false, refl, sym, ap, ◌∙◌, inl, inr, arith, length-append, append-nil}
use Rattle.std.specs.List.{flat_map}
use Rattle.std.specs.Char.{encode_utf8}
use Rattle.std.specs.Char.Escape.{encode_utf16}
use Rattle.std.specs.Char.Utf16.{is_high_surrogate, is_low_surrogate, utf16_chars, utf16_lossy_chars, lone_unit_char, surrogate_pair_char}
use Rattle.std.specs.Str.{all_scalars, encode_utf8_all}
use Rattle.std.proofs.lemmas.Str.{utf16_chars-nil, utf16_chars_lone, utf16_chars_pair, encodes-append}
use Rattle.std.proofs.lemmas.Bool.{cases_lt, lt-ltb, le-ltb}
use Rattle.std.proofs.lemmas.Bool.Decides.{nat_tests}
use Rattle.std.proofs.lemmas.Grind.{flat_map-append}
use Rattle.std.proofs.lemmas.List.{map-append, length-map}
use Rattle.points.specs.Text.{utf16, text_of, IsWellFormed}
use Rattle.points.proofs.WellFormedLemmas.{encode_one, encode_two, scalar_fits, scalar_parts}
use Rattle.machine.specs.declared.reads.Encoding.{Encoding}
use Rattle.machine.specs.declared.reads.Encoding.TheVariants.{Utf8, Utf16Le, Utf16Be, Latin1}
use Rattle.machine.specs.Encodings.{encode, low_first, high_first, latin1_byte}

-- the bytes in UTF-8 by the size of a character
pub one_byte : (c : ℕ) → c < 128 → encode_utf8 c ≡ c ∷ []
unfolding encode_utf8
one_byte c lt = rw (lt-ltb c 128 lt)

pub two_bytes : (c : ℕ) → 128 ≤ c → c < 2048 → encode_utf8 c ≡ (192 + c / 64) ∷ (128 + c % 64) ∷ []
unfolding encode_utf8
two_bytes c le lt = rw (le-ltb c 128 le, lt-ltb c 2048 lt)

pub three_bytes : (c : ℕ) → 2048 ≤ c → c < 65536 → encode_utf8 c ≡ (224 + c / 4096) ∷ (128 + c / 64 % 64) ∷ (128 + c % 64) ∷ []
unfolding encode_utf8
three_bytes c le lt = rw (le-ltb c 128 (omega arith), le-ltb c 2048 le, lt-ltb c 65536 lt)

pub four_bytes : (c : ℕ) → 65536 ≤ c → encode_utf8 c ≡ (240 + c / 262144) ∷ (128 + c / 4096 % 64) ∷ (128 + c / 64 % 64) ∷ (128 + c % 64) ∷ []
unfolding encode_utf8
four_bytes c le = rw (le-ltb c 128 (omega arith), le-ltb c 2048 (omega arith), le-ltb c 65536 le)

-- one unit that is a character
lone_char : (u : ℕ) → is_high_surrogate u ≡ false → is_low_surrogate u ≡ false → lone_unit_char u ≡ Some u
lone_char u high low = grind (arith, nat_tests)

pub lone_chars : (u : ℕ) → is_high_surrogate u ≡ false → is_low_surrogate u ≡ false → utf16_lossy_chars (u ∷ []) ≡ u ∷ []
lone_chars u high low = ap (λ (os : List (Option ℕ)). map (λ o. unwrap_or o 0xFFFD) os) (utf16_chars_lone u [] (λ pair. grind (arith, nat_tests)))
    ∙ (ap (λ (o : Option ℕ). unwrap_or o 0xFFFD ∷ map (λ x. unwrap_or x 0xFFFD) (utf16_chars [])) (lone_char u high low)
    ∙ ap (λ (os : List (Option ℕ)). u ∷ map (λ o. unwrap_or o 0xFFFD) os) utf16_chars-nil)

-- the two units of a character
pub pair_chars : (u v : ℕ) → is_high_surrogate u ≡ true → is_low_surrogate v ≡ true → utf16_lossy_chars (u ∷ v ∷ []) ≡ surrogate_pair_char u v ∷ []
pair_chars u v high low = ap (λ (os : List (Option ℕ)). map (λ o. unwrap_or o 0xFFFD) os) (utf16_chars_pair u v [] (grind (arith, nat_tests), grind (arith, nat_tests), grind (arith, nat_tests), grind (arith, nat_tests)))
    ∙ ap (λ (os : List (Option ℕ)). surrogate_pair_char u v ∷ map (λ o. unwrap_or o 0xFFFD) os) utf16_chars-nil

pub pair_is_wide : (u v : ℕ) → is_high_surrogate u ≡ true → is_low_surrogate v ≡ true → (0xD800 ≤ u) × (u < 0xDC00) × (0xDC00 ≤ v) × (v < 0xE000)
pair_is_wide u v high low = (grind (arith, nat_tests), grind (arith, nat_tests), grind (arith, nat_tests), grind (arith, nat_tests))

one_char : (t : List ℕ) (c : ℕ) → utf16_lossy_chars t ≡ c ∷ [] → text_of t ≡ encode_utf8 c
one_char t c e = ap encode_utf8_all e ∙ append-nil (encode_utf8 c)

pub lone_utf8 : (u : ℕ) → is_high_surrogate u ≡ false → is_low_surrogate u ≡ false → text_of (u ∷ []) ≡ encode_utf8 u
lone_utf8 u high low = one_char (u ∷ []) u (lone_chars u high low)

pub pair_utf8 : (u v : ℕ) → is_high_surrogate u ≡ true → is_low_surrogate v ≡ true → text_of (u ∷ v ∷ []) ≡ encode_utf8 (surrogate_pair_char u v)
pair_utf8 u v high low = one_char (u ∷ v ∷ []) (surrogate_pair_char u v) (pair_chars u v high low)

pub lone_latin1 : (u : ℕ) → is_high_surrogate u ≡ false → is_low_surrogate u ≡ false → map latin1_byte (utf16_lossy_chars (u ∷ [])) ≡ latin1_byte u ∷ []
lone_latin1 u high low = ap (λ (cs : List ℕ). map latin1_byte cs) (lone_chars u high low)

pub pair_latin1 : (u v : ℕ) → is_high_surrogate u ≡ true → is_low_surrogate v ≡ true → map latin1_byte (utf16_lossy_chars (u ∷ v ∷ [])) ≡ 63 ∷ []
pair_latin1 u v high low = ap (λ (cs : List ℕ). map latin1_byte cs) (pair_chars u v high low) ∙ wide_latin1 (surrogate_pair_char u v) (omega arith)
  where
    wide_latin1 : (c : ℕ) → 0x1_0000 ≤ c → latin1_byte c ∷ [] ≡ 63 ∷ []
    wide_latin1 c le = grind (arith, nat_tests)

-- the characters of a well-formed text in front of others
front_one : (c : ℕ) (us : List ℕ) → all_scalars (c ∷ []) ≡ true → c < 0x1_0000 → utf16_chars (c ∷ us) ≡ Some c ∷ utf16_chars us
front_one c us scalar small = utf16_chars_lone c us (λ pair. grind (arith, nat_tests)) ∙ ap (λ (o : Option ℕ). o ∷ utf16_chars us) (grind (arith, nat_tests))

front_two : (c : ℕ) (us : List ℕ) → c < 0x11_0000 → 0x1_0000 ≤ c → utf16_chars ((0xD800 + (c - 0x1_0000) / 0x400) ∷ (0xDC00 + (c - 0x1_0000) % 0x400) ∷ us) ≡ Some c ∷ utf16_chars us
front_two c us fits big = utf16_chars_pair (0xD800 + (c - 0x1_0000) / 0x400) (0xDC00 + (c - 0x1_0000) % 0x400) us (omega arith, omega arith, omega arith, omega arith)
    ∙ ap (λ (n : ℕ). Some n ∷ utf16_chars us) (omega arith)

pub chars-front : (cs us : List ℕ) → all_scalars cs ≡ true → utf16_chars (utf16 cs ++ us) ≡ map Some cs ++ utf16_chars us
chars-front [] us scalars = refl
chars-front (c ∷ cs) us scalars = let parts = scalar_parts c cs scalars in elim (cases_lt c 0x1_0000) [
  | inl small ↦ ap (λ (xs : List ℕ). utf16_chars ((xs ++ utf16 cs) ++ us)) (encode_one c small)
      ∙ (front_one c (utf16 cs ++ us) parts.0 small ∙ ap (λ (os : List (Option ℕ)). Some c ∷ os) (chars-front cs us parts.1))
  | inr big ↦ ap (λ (xs : List ℕ). utf16_chars ((xs ++ utf16 cs) ++ us)) (encode_two c big)
      ∙ (front_two c (utf16 cs ++ us) (scalar_fits c parts.0) big ∙ ap (λ (os : List (Option ℕ)). Some c ∷ os) (chars-front cs us parts.1))
]

lossy-front : (cs : List ℕ) (os : List (Option ℕ)) → map (λ o. unwrap_or o 0xFFFD) (map Some cs ++ os) ≡ cs ++ map (λ o. unwrap_or o 0xFFFD) os
lossy-front [] os = refl
lossy-front (c ∷ cs) os = ap (λ (xs : List ℕ). c ∷ xs) (lossy-front cs os)

pub lossy_chars-utf16 : (cs us : List ℕ) → all_scalars cs ≡ true → utf16_lossy_chars (utf16 cs ++ us) ≡ cs ++ utf16_lossy_chars us
lossy_chars-utf16 cs us scalars = ap (λ (os : List (Option ℕ)). map (λ o. unwrap_or o 0xFFFD) os) (chars-front cs us scalars) ∙ lossy-front cs (utf16_chars us)

-- the characters of a well-formed text are those that it encodes
pub lossy_chars-well_formed : (t : List ℕ) (h : IsWellFormed t) → utf16_lossy_chars t ≡ h.0
lossy_chars-well_formed t h = ap utf16_lossy_chars (sym h.2) ∙ (ap utf16_lossy_chars (sym (append-nil (utf16 h.0))) ∙ (lossy_chars-utf16 h.0 [] h.1
    ∙ (ap (λ (os : List (Option ℕ)). h.0 ++ map (λ o. unwrap_or o 0xFFFD) os) utf16_chars-nil ∙ append-nil h.0)))

chars-append : (a b : List ℕ) → IsWellFormed a → utf16_lossy_chars (a ++ b) ≡ utf16_lossy_chars a ++ utf16_lossy_chars b
chars-append a b h = ap (λ (xs : List ℕ). utf16_lossy_chars (xs ++ b)) (sym h.2) ∙ (lossy_chars-utf16 h.0 b h.1 ∙ ap (λ (xs : List ℕ). xs ++ utf16_lossy_chars b) (sym (lossy_chars-well_formed a h)))

-- the bytes of two texts in a row, the first of them well-formed
pub encode-append : (e : Encoding) (a b : List ℕ) → IsWellFormed a → encode e (a ++ b) ≡ encode e a ++ encode e b
encode-append Utf8 a b h = ap encode_utf8_all (chars-append a b h) ∙ encodes-append (utf16_lossy_chars a) (utf16_lossy_chars b)
encode-append Utf16Le a b h = flat_map-append low_first a b
encode-append Utf16Be a b h = flat_map-append high_first a b
encode-append Latin1 a b h = ap (λ (cs : List ℕ). map latin1_byte cs) (chars-append a b h) ∙ map-append latin1_byte (utf16_lossy_chars a) (utf16_lossy_chars b)

pub encode-nil : (e : Encoding) → encode e [] ≡ []
encode-nil Utf8 = ap (λ (os : List (Option ℕ)). encode_utf8_all (map (λ o. unwrap_or o 0xFFFD) os)) utf16_chars-nil
encode-nil Utf16Le = refl
encode-nil Utf16Be = refl
encode-nil Latin1 = ap (λ (os : List (Option ℕ)). map latin1_byte (map (λ o. unwrap_or o 0xFFFD) os)) utf16_chars-nil

-- a unit gives at most four bytes
short_char : (c : ℕ) → length (encode_utf8 c) ≤ 4
short_char c = elim (cases_lt c 128) [
  | inl a ↦ let e = ap length (one_byte c a) in omega (arith, e)
  | inr a ↦ elim (cases_lt c 2048) [
    | inl b ↦ let e = ap length (two_bytes c a b) in omega (arith, e)
    | inr b ↦ elim (cases_lt c 65536) [
      | inl d ↦ let e = ap length (three_bytes c b d) in omega (arith, e)
      | inr d ↦ let e = ap length (four_bytes c d) in omega (arith, e)
    ]
  ]
]

short_chars : (cs : List ℕ) → length (encode_utf8_all cs) ≤ 4 * length cs
short_chars [] = omega arith
short_chars (c ∷ cs) = omega (arith, short_char c, short_chars cs, length-append (encode_utf8 c) (encode_utf8_all cs))

few_chars : (cs : List ℕ) → length cs ≤ length (utf16 cs)
few_chars [] = omega arith
few_chars (c ∷ cs) = elim (cases_lt c 0x1_0000) [
  | inl small ↦ let e = ap length (encode_one c small) in omega (arith, e, few_chars cs, length-append (encode_utf16 c) (utf16 cs))
  | inr big ↦ let e = ap length (encode_two c big) in omega (arith, e, few_chars cs, length-append (encode_utf16 c) (utf16 cs))
]

chars_within : (t : List ℕ) → IsWellFormed t → length (utf16_lossy_chars t) ≤ length t
chars_within t h = let e = ap length (lossy_chars-well_formed t h) in let f = ap length h.2 in omega (arith, few_chars h.0, e, f)

two_each : (f : ℕ → List ℕ) → ((u : ℕ) → length (f u) ≡ 2) → (t : List ℕ) → length (flat_map f t) ≡ 2 * length t
two_each f two [] = refl
two_each f two (u ∷ us) = omega (arith, two u, two_each f two us, length-append (f u) (flat_map f us))

pub encode_short : (e : Encoding) (t : List ℕ) → IsWellFormed t → length (encode e t) ≤ 4 * length t
encode_short Utf8 t h = omega (arith, short_chars (utf16_lossy_chars t), chars_within t h)
encode_short Utf16Le t h = omega (arith, two_each low_first (λ u. refl) t)
encode_short Utf16Be t h = omega (arith, two_each high_first (λ u. refl) t)
encode_short Latin1 t h = omega (arith, length-map (utf16_lossy_chars t) latin1_byte, chars_within t h)
