-- Counting the units of a text character by character.
use Rattle.std.proofs.Common.{◌≡◌, ℕ, suc, ◌+◌, ◌≤◌, ◌<◌, List, [], ◌∷◌, ◌++◌, length, refl, ap, ◌∙◌, arith, length-append, lt-ltb}
use Rattle.std.specs.Char.Escape.{encode_utf16}
use Rattle.std.specs.Prelude.{IsAscii}
use Rattle.std.specs.Str.{IsUtf8, chars}
use lib.Utf8.{encode, encodes}
use Rattle.std.proofs.lemmas.Bool.Decides.{nat_tests}
use Rattle.std.proofs.lemmas.List.Concat.{flat_map-cons}
use Rattle.std.proofs.lemmas.Str.{IsUtf8-past_char, chars-nil, chars_past_char, encodes-chars, length-encode}
use Rattle.points.specs.Text.{utf16, utf16_of}

length-encode_utf16 : (c : ℕ) → length (encode_utf16 c) ≤ length (encode c)
length-encode_utf16 c = rw length-encode (grind (arith, nat_tests))

length-utf16-le : (cs : List ℕ) → length (utf16 cs) ≤ length (encodes cs)
length-utf16-le [] = omega arith
length-utf16-le (c ∷ cs) =
    let parts : length (utf16 (c ∷ cs)) ≡ length (encode_utf16 c) + length (utf16 cs) = ap length (flat_map-cons encode_utf16 c cs) ∙ length-append (encode_utf16 c) (utf16 cs) in
    omega (arith, parts, length-encode_utf16 c, length-append (encode c) (encodes cs), length-utf16-le cs)

-- a text has at most as many units as bytes
pub utf16_of_fits : (bytes : List ℕ) → IsUtf8 bytes → length (utf16_of bytes) ≤ length bytes
utf16_of_fits bytes utf8 = omega (arith, length-utf16-le (chars bytes), ap length (encodes-chars bytes utf8))

-- the units of a text are those of its first character and those of the rest
pub utf16_of_next : (bytes rest : List ℕ) (c : ℕ) → IsUtf8 bytes → bytes ≡ encode c ++ rest → length (utf16_of bytes) ≡ length (encode_utf16 c) + length (utf16_of rest)
utf16_of_next bytes rest c utf8 parts =
    ap (λ cs. length (utf16 cs)) (chars_past_char bytes rest c utf8 parts) ∙ ap length (flat_map-cons encode_utf16 c (chars rest)) ∙ length-append (encode_utf16 c) (utf16_of rest)

pub utf16_of_nothing : (bytes : List ℕ) → length bytes ≡ 0 → length (utf16_of bytes) ≡ 0
utf16_of_nothing [] e = ap (λ cs. length (utf16 cs)) chars-nil
utf16_of_nothing (b ∷ bytes) e = absurd (omega arith)

encode_ascii : (b : ℕ) (bytes : List ℕ) → b < 128 → b ∷ bytes ≡ encode b ++ bytes
unfolding encode
encode_ascii b bytes h = rw (lt-ltb b 128 h) refl

ascii_unit : (b : ℕ) → b < 128 → length (encode_utf16 b) ≡ 1
ascii_unit b h = grind (arith, nat_tests)

-- a text of ASCII has as many units as bytes
pub utf16_of_ascii : (bytes : List ℕ) → IsUtf8 bytes → IsAscii bytes → length (utf16_of bytes) ≡ length bytes
utf16_of_ascii [] utf8 h = utf16_of_nothing [] refl
utf16_of_ascii (b ∷ bytes) utf8 h =
    let first = encode_ascii b bytes (h 0) in
    let rest = utf16_of_ascii bytes (IsUtf8-past_char (b ∷ bytes) bytes b utf8 first) (λ i. h (suc i)) in
    omega (arith, utf16_of_next (b ∷ bytes) bytes b utf8 first, ascii_unit b (h 0), rest)
