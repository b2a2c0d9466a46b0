-- Bytes read as texts.
use Rattle.std.proofs.Common.{◌≡◌, ℕ, suc, ◌+◌, ◌<◌, ◌≤◌, List, [], ◌∷◌, ◌++◌, length, take, drop, get_or, Result, Ok, Err, IfOk, String, string_bytes, encode_utf8_all, refl, sym, ap, ◌∙◌, arith, append-nil}
use Rattle.std.proofs.Math.Seq.{take-suc, drop-cons}
use Rattle.std.proofs.Math.ListN.{drop_of_length-le}
use Rattle.std.specs.Char.{encode_utf8}
use Rattle.std.proofs.lemmas.Str.{chars_from_encodes, IsUtf8-string_bytes, encodes-append}
use Rattle.points.specs.Text.{utf16, utf16_of}
use Rattle.points.proofs.WellFormedLemmas.{encode_one}
use Rattle.codecs.specs.Decoding.{paired}

-- a string of these characters has their units
of_chars : {Z : Type 0} (s : String Z) (cs t : List ℕ) → string_bytes s ≡ encode_utf8_all cs → utf16 cs ≡ t → utf16_of (string_bytes s) ≡ t
of_chars s cs t e f = ap utf16 (sym (chars_from_encodes cs (string_bytes s) (IsUtf8-string_bytes s) (sym e))) ∙ f

pub decoded_if : {Z E : Type 0} (r : Result (String Z) E) (cs t : List ℕ) → IfOk r (λ s. string_bytes s ≡ encode_utf8_all cs) → utf16 cs ≡ t → IfOk r (λ s. utf16_of (string_bytes s) ≡ t)
decoded_if (Ok s) cs t h f = of_chars s cs t h f
decoded_if (Err x) cs t h f = h

-- bytes are their own units
pub utf16_bytes : (bs : List ℕ) → ((k : ℕ) → get_or bs k 0 < 256) → utf16 bs ≡ bs
utf16_bytes [] small = refl
utf16_bytes (b ∷ bs) small = let low = small 0 in ap (λ (xs : List ℕ). xs ++ utf16 bs) (encode_one b (omega arith)) ∙ ap (λ (xs : List ℕ). b ∷ xs) (utf16_bytes bs (λ k. small (suc k)))

pub one_more : (xs : List ℕ) (i : ℕ) (old new : List ℕ) (ch : ℕ) → i < length xs → old ≡ encode_utf8_all (take i xs) → new ≡ old ++ encode_utf8 ch → ch ≡ get_or xs i 0
    → new ≡ encode_utf8_all (take (i + 1) xs)
one_more xs i old new ch within was is at = is ∙ (ap (λ (l : List ℕ). l ++ encode_utf8 ch) was ∙ (ap (λ (c : ℕ). encode_utf8_all (take i xs) ++ encode_utf8 c) at
    ∙ (ap (λ (l : List ℕ). encode_utf8_all (take i xs) ++ l) (sym (append-nil (encode_utf8 (get_or xs i 0)))) ∙ (sym (encodes-append (take i xs) (get_or xs i 0 ∷ []))
    ∙ ap encode_utf8_all (sym (take-suc xs i 0 within) ∙ ap (λ (k : ℕ). take k xs) {x = suc i} {y = i + 1} (omega arith))))))

-- the last byte of an odd number of them, and the end of an even one
pub odd_end : (f : ℕ → ℕ → ℕ) (xs : List ℕ) (at : ℕ) → at < length xs → length xs ≤ suc at → paired f (drop at xs) ≡ 0xFFFD ∷ []
odd_end f xs at within last = ap (paired f) (drop-cons xs at 0 within ∙ ap (λ (l : List ℕ). get_or xs at 0 ∷ l) (drop_of_length-le xs last))

pub even_end : (f : ℕ → ℕ → ℕ) (xs : List ℕ) (at : ℕ) → length xs ≤ at → paired f (drop at xs) ≡ []
even_end f xs at past = ap (paired f) (drop_of_length-le xs past)
