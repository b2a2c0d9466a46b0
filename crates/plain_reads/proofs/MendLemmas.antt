-- Texts that are read from units: which characters they have, and how many units at most.
use Rattle.std.proofs.Common.{◌≡◌, ℕ, ◌*◌, ◌≤◌, List, [], ◌∷◌, length, ◌&&◌, Option, unwrap_or, IsUtf8, sym, ap, inl, inr, arith, length-append}
use Rattle.std.specs.Char.Escape.{encode_utf16}
use Rattle.std.specs.Char.Utf16.{is_high_surrogate, is_low_surrogate, utf16_chars, utf16_lossy_chars}
use Rattle.std.proofs.lemmas.Str.{utf16_chars-nil, utf16_chars_lone, utf16_chars_pair, chars_from_encodes}
use Rattle.std.proofs.lemmas.List.{length-map}
use Rattle.std.proofs.lemmas.Bool.{cases_Bool, cases_lt}
use Rattle.std.proofs.lemmas.Bool.Decides.{nat_tests}
use Rattle.points.specs.Text.{utf16, utf16_of, text_of, mended}
use Rattle.points.proofs.WellFormedLemmas.{encode_one, encode_two}

few_chars : (t : List ℕ) → length (utf16_chars t) ≤ length t
few_chars [] = omega (arith, ap length utf16_chars-nil)
few_chars (u ∷ []) = omega (arith, ap length (utf16_chars_lone u [] (λ pair. omega (arith, pair.2))), ap length utf16_chars-nil)
few_chars (u ∷ v ∷ us) = elim (cases_Bool (is_high_surrogate u && is_low_surrogate v)) [
  | inl pair ↦ omega (arith, few_chars us, ap length (utf16_chars_pair u v us (grind (arith, nat_tests))))
  | inr lone ↦ omega (arith, few_chars (v ∷ us), ap length (utf16_chars_lone u (v ∷ us) (λ pair. grind (arith, nat_tests))))
]

two_units : (c : ℕ) → length (encode_utf16 c) ≤ 2
two_units c = elim (cases_lt c 0x1_0000) [
  | inl small ↦ omega (arith, ap length (encode_one c small))
  | inr big ↦ omega (arith, ap length (encode_two c big))
]

few_units : (cs : List ℕ) → length (utf16 cs) ≤ 2 * length cs
few_units [] = omega arith
few_units (c ∷ cs) = omega (arith, two_units c, few_units cs, length-append (encode_utf16 c) (utf16 cs))

pub mended_short : (t : List ℕ) → length (mended t) ≤ 2 * length t
mended_short t = omega (arith, few_units (utf16_lossy_chars t), few_chars t, length-map (utf16_chars t) (λ (o : Option ℕ). unwrap_or o 0xFFFD))

-- a text that was read from units has the characters that were read
pub read_back : (t bytes : List ℕ) → bytes ≡ text_of t → IsUtf8 bytes → utf16_of bytes ≡ mended t
read_back t bytes e text = ap utf16 (sym (chars_from_encodes (utf16_lossy_chars t) bytes text (sym e)))
