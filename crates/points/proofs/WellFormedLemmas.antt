-- Well-formed texts: joined, cut where no pair is parted, and edited between clipped points.
use Rattle.std.proofs.Common.{◌≡◌, ℕ, suc, zero, ◌+◌, ◌-◌, ◌/◌, ◌%◌, ◌<◌, ◌≤◌, List, [], ◌∷◌, ◌++◌, length, take, drop, cond, get_or, Bool, true, false, ◌&&◌, refl, sym, ap, ◌∙◌, inl, inr, subst, arith}
use Rattle.std.specs.Char.Escape.{encode_utf16}
use Rattle.std.specs.Char.Utf16.{is_high_surrogate, is_low_surrogate}
use Rattle.std.specs.Str.{all_scalars, chars, IsUtf8}
use Rattle.std.proofs.lemmas.Str.{scalars-chars}
use Rattle.std.proofs.lemmas.Bool.{and_parts, and_from, cases_lt, lt-ltb, le-ltb, both_ways}
use Rattle.std.proofs.lemmas.Bool.Decides.{nat_tests}
use Rattle.std.proofs.lemmas.List.{append-nil}
use Rattle.points.specs.Text.{utf16, utf16_of, IsWellFormed, replaced}
use Rattle.points.specs.Place.{splits_pair}
use Rattle.points.proofs.TextLemmas.{utf16-append}

all_scalars-append : (xs ys : List ℕ) → all_scalars xs ≡ true → all_scalars ys ≡ true → all_scalars (xs ++ ys) ≡ true
all_scalars-append [] ys h k = k
all_scalars-append (x ∷ xs) ys h k = let parts = and_parts _ (all_scalars xs) h in and_from _ (all_scalars (xs ++ ys)) parts.0 (all_scalars-append xs ys parts.1 k)

pub well_formed-nil : IsWellFormed []
well_formed-nil = ([], refl, refl)

pub well_formed-append : (a b : List ℕ) → IsWellFormed a → IsWellFormed b → IsWellFormed (a ++ b)
well_formed-append a b h k = (h.0 ++ k.0, all_scalars-append h.0 k.0 h.1 k.1, utf16-append h.0 k.0 ∙ (ap (λ (xs : List ℕ). xs ++ utf16 k.0) h.2 ∙ ap (λ (xs : List ℕ). a ++ xs) k.2))

-- the encoding of a text is well-formed
pub well_formed-utf16_of : (bytes : List ℕ) → IsUtf8 bytes → IsWellFormed (utf16_of bytes)
well_formed-utf16_of bytes text = (chars bytes, scalars-chars bytes text, refl)

-- a text that is cut at offset i: both parts are well-formed
pub record IsCut (t : List ℕ) (i : ℕ) : Type 0 where
  pub front : IsWellFormed (take i t)
  pub back : IsWellFormed (drop i t)

-- no pair is parted at the start, and those behind a unit are parted as in the rest
pub splits_none : (t : List ℕ) → splits_pair t 0 ≡ false
splits_none t = grind (arith, nat_tests)

splits_rest : (u : ℕ) (us : List ℕ) (i : ℕ) → splits_pair (u ∷ us) (suc i) ≡ false → splits_pair us i ≡ false
splits_rest u us zero apart = splits_none us
splits_rest u us (suc i) apart = let e : suc (suc i) - 1 ≡ suc i = omega arith in let d : suc i - 1 ≡ i = omega arith in
    subst (λ (k : ℕ). (is_high_surrogate (get_or us k 0) && is_low_surrogate (get_or us (suc i) 0)) ≡ false) (sym d)
    (subst (λ (k : ℕ). (is_high_surrogate (get_or (u ∷ us) k 0) && is_low_surrogate (get_or us (suc i) 0)) ≡ false) e apart)

-- one scalar value
well_formed_char : (c : ℕ) → all_scalars (c ∷ []) ≡ true → IsWellFormed (encode_utf16 c)
well_formed_char c scalar = (c ∷ [], scalar, append-nil (encode_utf16 c))

cut_behind : (c : ℕ) (us : List ℕ) (i : ℕ) → all_scalars (c ∷ []) ≡ true → encode_utf16 c ≡ c ∷ [] → IsCut us i → IsCut (c ∷ us) (suc i)
cut_behind c us i scalar one h = record {
  front = well_formed-append (c ∷ []) (take i us) (subst IsWellFormed one (well_formed_char c scalar)) h.front;
  back = h.back;
}

cut_behind_pair : (c high low : ℕ) (us : List ℕ) (i : ℕ) → all_scalars (c ∷ []) ≡ true → encode_utf16 c ≡ high ∷ low ∷ [] → IsCut us i → IsCut (high ∷ low ∷ us) (suc (suc i))
cut_behind_pair c high low us i scalar two h = record {
  front = well_formed-append (high ∷ low ∷ []) (take i us) (subst IsWellFormed two (well_formed_char c scalar)) h.front;
  back = h.back;
}

pub encode_one : (c : ℕ) → c < 0x1_0000 → encode_utf16 c ≡ c ∷ []
encode_one c lt = ap (λ (b : Bool). cond b (c ∷ []) ((0xD800 + (c - 0x1_0000) / 0x400) ∷ (0xDC00 + (c - 0x1_0000) % 0x400) ∷ [])) (lt-ltb c 0x1_0000 lt)

pub encode_two : (c : ℕ) → 0x1_0000 ≤ c → encode_utf16 c ≡ (0xD800 + (c - 0x1_0000) / 0x400) ∷ (0xDC00 + (c - 0x1_0000) % 0x400) ∷ []
encode_two c le = ap (λ (b : Bool). cond b (c ∷ []) ((0xD800 + (c - 0x1_0000) / 0x400) ∷ (0xDC00 + (c - 0x1_0000) % 0x400) ∷ [])) (le-ltb c 0x1_0000 le)

pub scalar_fits : (c : ℕ) → all_scalars (c ∷ []) ≡ true → c < 0x11_0000
scalar_fits c h = grind (arith, nat_tests)

pair_is_parted : (c : ℕ) (us : List ℕ) → c < 0x11_0000 → splits_pair ((0xD800 + (c - 0x1_0000) / 0x400) ∷ (0xDC00 + (c - 0x1_0000) % 0x400) ∷ us) 1 ≡ true
pair_is_parted c us lt = grind (arith, nat_tests)

cut_in_pair : (c : ℕ) (us : List ℕ) (i : ℕ) → all_scalars (c ∷ []) ≡ true → 0x1_0000 ≤ c → splits_pair ((0xD800 + (c - 0x1_0000) / 0x400) ∷ (0xDC00 + (c - 0x1_0000) % 0x400) ∷ us) (suc i) ≡ false
    → ((k : ℕ) → suc k ≡ i → splits_pair us k ≡ false → IsCut us k) → IsCut ((0xD800 + (c - 0x1_0000) / 0x400) ∷ (0xDC00 + (c - 0x1_0000) % 0x400) ∷ us) (suc i)
cut_in_pair c us zero scalar big apart rest = absurd (both_ways _ apart (pair_is_parted c us (scalar_fits c scalar)))
cut_in_pair c us (suc k) scalar big apart rest = cut_behind_pair c (0xD800 + (c - 0x1_0000) / 0x400) (0xDC00 + (c - 0x1_0000) % 0x400) us k scalar (encode_two c big)
    (rest k refl (splits_rest (0xDC00 + (c - 0x1_0000) % 0x400) us k (splits_rest (0xD800 + (c - 0x1_0000) / 0x400) ((0xDC00 + (c - 0x1_0000) % 0x400) ∷ us) (suc k) apart)))

pub scalar_parts : (c : ℕ) (cs : List ℕ) → all_scalars (c ∷ cs) ≡ true → (all_scalars (c ∷ []) ≡ true) × (all_scalars cs ≡ true)
scalar_parts c cs h = let parts = and_parts _ (all_scalars cs) h in (and_from _ true parts.0 refl, parts.1)

-- an encoding is cut wherever that parts no pair
cut_encoding : (cs : List ℕ) (i : ℕ) → all_scalars cs ≡ true → i ≤ length (utf16 cs) → splits_pair (utf16 cs) i ≡ false → IsCut (utf16 cs) i
cut_encoding [] zero scalars within apart = record { front = well_formed-nil; back = well_formed-nil }
cut_encoding [] (suc i) scalars within apart = absurd (omega arith)
cut_encoding (c ∷ cs) zero scalars within apart = record { front = well_formed-nil; back = (c ∷ cs, scalars, refl) }
cut_encoding (c ∷ cs) (suc i) scalars within apart = let parts = scalar_parts c cs scalars in elim (cases_lt c 0x1_0000) [
  | inl small ↦ let e = ap (λ (xs : List ℕ). xs ++ utf16 cs) (encode_one c small) in
      subst (λ (xs : List ℕ). IsCut xs (suc i)) (sym e) (cut_behind c (utf16 cs) i parts.0 (encode_one c small)
      (cut_encoding cs i parts.1 (let len = ap length e in omega (arith, len)) (splits_rest c (utf16 cs) i (subst (λ (xs : List ℕ). splits_pair xs (suc i) ≡ false) e apart))))
  | inr big ↦ let e = ap (λ (xs : List ℕ). xs ++ utf16 cs) (encode_two c big) in
      subst (λ (xs : List ℕ). IsCut xs (suc i)) (sym e) (cut_in_pair c (utf16 cs) i parts.0 big (subst (λ (xs : List ℕ). splits_pair xs (suc i) ≡ false) e apart)
      (λ k at k_apart. cut_encoding cs k parts.1 (let len = ap length e in omega (arith, len)) k_apart))
]

-- a well-formed text is cut wherever that parts no pair
pub well_formed_cut : (t : List ℕ) (i : ℕ) → IsWellFormed t → i ≤ length t → splits_pair t i ≡ false → IsCut t i
well_formed_cut t i h within apart = subst (λ (xs : List ℕ). IsCut xs i) h.2
    (cut_encoding h.0 i h.1 (let len = ap length h.2 in omega (arith, len)) (subst (λ (xs : List ℕ). splits_pair xs i ≡ false) (sym h.2) apart))

-- a text stays well-formed where such a text is put between two such cuts
pub well_formed-replaced : (t : List ℕ) (i j : ℕ) (s : List ℕ) → IsWellFormed t → IsWellFormed s → i ≤ length t → j ≤ length t → splits_pair t i ≡ false → splits_pair t j ≡ false → IsWellFormed (replaced t i j s)
well_formed-replaced t i j s whole new i_in j_in i_apart j_apart = well_formed-append (take i t ++ s) (drop j t)
    (well_formed-append (take i t) s (well_formed_cut t i whole i_in i_apart).front new) (well_formed_cut t j whole j_in j_apart).back
