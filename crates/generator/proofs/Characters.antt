-- The units and the line feeds of a text, character by character.
use Rattle.std.proofs.Common.{◌≡◌, ℕ, ◌+◌, ◌≤◌, List, [], ◌∷◌, ◌++◌, length, count_by, cond, ap, ◌∙◌, arith, length-append}
use Rattle.std.specs.Char.Escape.{encode_utf16}
use Rattle.std.specs.Str.{IsUtf8, chars}
use lib.Utf8.{encode, encodes}
use Rattle.std.proofs.lemmas.Bool.Decides.{nat_tests}
use Rattle.std.proofs.lemmas.List.Concat.{flat_map-cons}
use Rattle.std.proofs.lemmas.List.Sums.{sum_by-append, count_by-le-length}
use Rattle.std.proofs.lemmas.Str.{chars-nil, chars_past_char, encodes-chars, length-encode}
use Rattle.points.specs.Text.{utf16, utf16_of, is_lf}

length-encode_utf16 : (c : ℕ) → length (encode_utf16 c) ≤ length (encode c)
length-encode_utf16 c = rw length-encode (grind (arith, nat_tests))

length-utf16-le : (cs : List ℕ) → length (utf16 cs) ≤ length (encodes cs)
length-utf16-le [] = omega arith
length-utf16-le (c ∷ cs) =
    let parts : length (utf16 (c ∷ cs)) ≡ length (encode_utf16 c) + length (utf16 cs) = ap length (flat_map-cons encode_utf16 c cs) ∙ length-append (encode_utf16 c) (utf16 cs) in
    omega (arith, parts, length-encode_utf16 c, length-append (encode c) (encodes cs), length-utf16-le cs)

-- a text has at most as many units as bytes
pub utf16_of_fits : (bytes : List ℕ) → IsUtf8 bytes → length (utf16_of bytes) ≤ length bytes
utf16_of_fits bytes utf8 = omega (arith, length-utf16-le (chars bytes), ap length (encodes-chars bytes utf8))

-- the units of a text are those of its first character and those of the rest
utf16_of_next : (bytes rest : List ℕ) (c : ℕ) → IsUtf8 bytes → bytes ≡ encode c ++ rest → utf16_of bytes ≡ encode_utf16 c ++ utf16_of rest
utf16_of_next bytes rest c utf8 parts = ap utf16 (chars_past_char bytes rest c utf8 parts) ∙ flat_map-cons encode_utf16 c (chars rest)

pub units_of_next : (bytes rest : List ℕ) (c : ℕ) → IsUtf8 bytes → bytes ≡ encode c ++ rest → length (utf16_of bytes) ≡ length (encode_utf16 c) + length (utf16_of rest)
units_of_next bytes rest c utf8 parts = ap length (utf16_of_next bytes rest c utf8 parts) ∙ length-append (encode_utf16 c) (utf16_of rest)

line_feeds_of_char : (c : ℕ) → count_by is_lf (encode_utf16 c) ≡ cond (is_lf c) 1 0
line_feeds_of_char c = grind (arith, nat_tests)

pub line_feeds_of_next : (bytes rest : List ℕ) (c : ℕ) → IsUtf8 bytes → bytes ≡ encode c ++ rest → count_by is_lf (utf16_of bytes) ≡ cond (is_lf c) 1 0 + count_by is_lf (utf16_of rest)
line_feeds_of_next bytes rest c utf8 parts =
    ap (count_by is_lf) (utf16_of_next bytes rest c utf8 parts) ∙ (sum_by-append (λ u. cond (is_lf u) 1 0) (encode_utf16 c) (utf16_of rest)
    ∙ ap (λ n. n + count_by is_lf (utf16_of rest)) (line_feeds_of_char c))

pub utf16_of_nothing : (bytes : List ℕ) → length bytes ≡ 0 → length (utf16_of bytes) ≡ 0
utf16_of_nothing [] e = ap (λ cs. length (utf16 cs)) chars-nil
utf16_of_nothing (b ∷ bytes) e = absurd (omega arith)

pub line_feeds_of_nothing : (bytes : List ℕ) → length bytes ≡ 0 → count_by is_lf (utf16_of bytes) ≡ 0
line_feeds_of_nothing bytes e = omega (arith, count_by-le-length is_lf (utf16_of bytes), utf16_of_nothing bytes e)
