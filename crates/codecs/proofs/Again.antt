-- What was encoded is read back.
use Rattle.std.proofs.Common.{◌≡◌, ℕ, suc, ◌≤◌, List, [], ◌∷◌, ◌++◌, map, get_or, true, false, encode_utf8_all, refl, sym, ap, ◌∙◌, subst, inl, inr, arith}
use Rattle.std.specs.List.{flat_map}
use Rattle.std.specs.Str.{all_scalars}
use Rattle.std.proofs.lemmas.Bool.{cases_lt}
use Rattle.std.proofs.lemmas.Bool.Decides.{nat_tests}
use Rattle.bstr.proofs.lemmas.EncodeLemmas.{lossy_chars-encode}
use Rattle.points.specs.Text.{utf16, mended, IsWellFormed}
use Rattle.points.proofs.WellFormedLemmas.{encode_one, encode_two, scalar_parts}
use Rattle.points.proofs.MendingLemmas.{mended-well_formed}
use Rattle.machine.specs.declared.reads.Encoding.{Encoding}
use Rattle.machine.specs.declared.reads.Encoding.TheVariants.{Utf8, Utf16Le, Utf16Be, Latin1}
use Rattle.machine.specs.Encodings.{encode, low_first, high_first, latin1_byte}
use Rattle.codecs.specs.Decoding.{decoded, paired, unit_of}
use Rattle.codecs.proofs.Spelled.{lossy_chars-well_formed}

same_cons : {a b : ℕ} {xs ys : List ℕ} → a ≡ b → xs ≡ ys → a ∷ xs ≡ b ∷ ys
same_cons e f = cc

paired_low : (t : List ℕ) → paired (unit_of true) (flat_map low_first t) ≡ t
paired_low [] = refl
paired_low (u ∷ us) = same_cons (omega arith) (paired_low us)

paired_high : (t : List ℕ) → paired (unit_of false) (flat_map high_first t) ≡ t
paired_high [] = refl
paired_high (u ∷ us) = same_cons (omega arith) (paired_high us)

narrow_byte : (c : ℕ) → c ≤ 255 → latin1_byte c ≡ c
narrow_byte c le = grind (arith, nat_tests)

narrow_bytes : (cs : List ℕ) → all_scalars cs ≡ true → ((k : ℕ) → get_or (utf16 cs) k 0 ≤ 255) → map latin1_byte cs ≡ utf16 cs
narrow_bytes [] scalars narrow = refl
narrow_bytes (c ∷ cs) scalars narrow = elim (cases_lt c 0x1_0000) [
  | inl small ↦ let e = ap (λ (xs : List ℕ). xs ++ utf16 cs) (encode_one c small) in
      let low : (k : ℕ) → get_or (c ∷ utf16 cs) k 0 ≤ 255 = subst (λ (xs : List ℕ). (k : ℕ) → get_or xs k 0 ≤ 255) e narrow in
      same_cons (narrow_byte c (low 0)) (narrow_bytes cs (scalar_parts c cs scalars).1 (λ k. low (suc k))) ∙ sym e
  | inr big ↦ let e = ap (λ (xs : List ℕ). xs ++ utf16 cs) (encode_two c big) in
      let low = subst (λ (xs : List ℕ). get_or xs 0 0 ≤ 255) e (narrow 0) in absurd (omega (arith, low))
]

pub decoded-encode : (e : Encoding) (t : List ℕ) → IsWellFormed t → (e ≡ Latin1 → (k : ℕ) → get_or t k 0 ≤ 255) → decoded e (encode e t) ≡ t
decoded-encode Utf8 t h narrow = ap (λ (cs : List ℕ). decoded Utf8 (encode_utf8_all cs)) (lossy_chars-well_formed t h) ∙ (ap utf16 (lossy_chars-encode h.0 h.1) ∙ h.2)
decoded-encode Utf16Le t h narrow = ap mended (paired_low t) ∙ mended-well_formed t h
decoded-encode Utf16Be t h narrow = ap mended (paired_high t) ∙ mended-well_formed t h
decoded-encode Latin1 t h narrow = ap (λ (cs : List ℕ). map latin1_byte cs) (lossy_chars-well_formed t h)
    ∙ (narrow_bytes h.0 h.1 (subst (λ (xs : List ℕ). (k : ℕ) → get_or xs k 0 ≤ 255) (sym h.2) (narrow refl)) ∙ h.2)
