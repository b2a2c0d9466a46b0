-- Mended texts: they are as long, well-formed, and as they were where they were well-formed before.
use Rattle.std.proofs.Common.{◌≡◌, ℕ, zero, suc, ◌+◌, ◌-◌, ◌/◌, ◌%◌, ◌<◌, ◌≤◌, List, [], ◌∷◌, ◌++◌, length, map, get_or, Option, Some, unwrap_or, is_some, cond, Bool, true, false, not, ◌&&◌, ◌||◌, refl, sym, ap, ◌∙◌, inl, inr, arith, length-append}
use Rattle.std.specs.List.{list_any}
use Rattle.std.specs.Char.Escape.{encode_utf16}
use Rattle.std.specs.Char.Utf16.{is_high_surrogate, is_low_surrogate, utf16_chars, utf16_lossy_chars, has_unpaired_surrogate, lone_unit_char, surrogate_pair_char}
use Rattle.std.specs.Str.{all_scalars}
use Rattle.std.proofs.lemmas.Str.{utf16_chars-nil, utf16_chars_lone, utf16_chars_pair, chars-encodes}
use Rattle.std.proofs.lemmas.Bool.{cases_Bool, cases_lt, and_from, and_parts}
use Rattle.std.proofs.lemmas.Bool.Decides.{nat_tests}
use Rattle.points.specs.Text.{utf16, utf16_of, text_of, mended, mended_unit, IsWellFormed, is_well_formed}
use Rattle.points.proofs.WellFormedLemmas.{encode_one, encode_two, scalar_fits, scalar_parts}

-- a scalar value is read back from its units
read_one : (c : ℕ) (us : List ℕ) → all_scalars (c ∷ []) ≡ true → c < 0x1_0000 → utf16_chars (c ∷ us) ≡ Some c ∷ utf16_chars us
read_one c us scalar small = utf16_chars_lone c us (λ pair. grind (arith, nat_tests)) ∙ ap (λ (o : Option ℕ). o ∷ utf16_chars us) (grind (arith, nat_tests))

read_two : (c : ℕ) (us : List ℕ) → c < 0x11_0000 → 0x1_0000 ≤ c → utf16_chars ((0xD800 + (c - 0x1_0000) / 0x400) ∷ (0xDC00 + (c - 0x1_0000) % 0x400) ∷ us) ≡ Some c ∷ utf16_chars us
read_two c us fits big = utf16_chars_pair (0xD800 + (c - 0x1_0000) / 0x400) (0xDC00 + (c - 0x1_0000) % 0x400) us (omega arith, omega arith, omega arith, omega arith)
    ∙ ap (λ (n : ℕ). Some n ∷ utf16_chars us) (omega arith)

pub utf16_chars-utf16 : (cs : List ℕ) → all_scalars cs ≡ true → utf16_chars (utf16 cs) ≡ map Some cs
utf16_chars-utf16 [] scalars = utf16_chars-nil
utf16_chars-utf16 (c ∷ cs) scalars = let parts = scalar_parts c cs scalars in elim (cases_lt c 0x1_0000) [
  | inl small ↦ ap (λ (xs : List ℕ). utf16_chars (xs ++ utf16 cs)) (encode_one c small) ∙ (read_one c (utf16 cs) parts.0 small ∙ ap (λ (os : List (Option ℕ)). Some c ∷ os) (utf16_chars-utf16 cs parts.1))
  | inr big ↦ ap (λ (xs : List ℕ). utf16_chars (xs ++ utf16 cs)) (encode_two c big) ∙ (read_two c (utf16 cs) (scalar_fits c parts.0) big ∙ ap (λ (os : List (Option ℕ)). Some c ∷ os) (utf16_chars-utf16 cs parts.1))
]

lossy-some : (cs : List ℕ) → map (λ o. unwrap_or o 0xFFFD) (map Some cs) ≡ cs
lossy-some [] = refl
lossy-some (c ∷ cs) = ap (λ (xs : List ℕ). c ∷ xs) (lossy-some cs)

none_unpaired : (cs : List ℕ) → list_any (λ o. not (is_some o)) (map (λ c. Some c) cs) ≡ false
none_unpaired [] = refl
none_unpaired (c ∷ cs) = none_unpaired cs

-- a well-formed text passes the test, and is its own mending
pub is_well_formed-true : (t : List ℕ) → IsWellFormed t → is_well_formed t ≡ true
is_well_formed-true t h = ap (λ (xs : List ℕ). is_well_formed xs) (sym h.2) ∙ (ap (λ (os : List (Option ℕ)). not (list_any (λ o. not (is_some o)) os)) (utf16_chars-utf16 h.0 h.1) ∙ ap not (none_unpaired h.0))

pub mended-well_formed : (t : List ℕ) → IsWellFormed t → mended t ≡ t
mended-well_formed t h = ap mended (sym h.2) ∙ (ap (λ (os : List (Option ℕ)). utf16 (map (λ o. unwrap_or o 0xFFFD) os)) (utf16_chars-utf16 h.0 h.1) ∙ (ap utf16 (lossy-some h.0) ∙ h.2))

-- what mending does to a text of units
pub record IsMended (t : List ℕ) : Type 0 where
  pub scalars : all_scalars (utf16_lossy_chars t) ≡ true
  pub same_length : length (mended t) ≡ length t
  pub kept : is_well_formed t ≡ true → mended t ≡ t

mended_nil : IsMended []
mended_nil = record {
  scalars = ap (λ (os : List (Option ℕ)). all_scalars (map (λ o. unwrap_or o 0xFFFD) os)) utf16_chars-nil;
  same_length = ap (λ (os : List (Option ℕ)). length (utf16 (map (λ o. unwrap_or o 0xFFFD) os))) utf16_chars-nil;
  kept = λ _. ap (λ (os : List (Option ℕ)). utf16 (map (λ o. unwrap_or o 0xFFFD) os)) utf16_chars-nil;
}

-- the characters of a text by its first
record IsSpelled (t : List ℕ) (o : Option ℕ) (front rest : List ℕ) : Type 0 where
  spelled : utf16_chars t ≡ o ∷ utf16_chars rest
  parts : t ≡ front ++ rest
  scalar : all_scalars (unwrap_or o 0xFFFD ∷ []) ≡ true
  same_length : length (encode_utf16 (unwrap_or o 0xFFFD)) ≡ length front
  kept : is_some o ≡ true → encode_utf16 (unwrap_or o 0xFFFD) ≡ front

by_first : (b c : Bool) → not (not b || c) ≡ true → (b ≡ true) × (not c ≡ true)
by_first b c e = grind arith

mended_more : (t : List ℕ) (o : Option ℕ) (front rest : List ℕ) → IsSpelled t o front rest → IsMended rest → IsMended t
mended_more t o front rest h m = record {
  scalars = ap (λ (os : List (Option ℕ)). all_scalars (map (λ o. unwrap_or o 0xFFFD) os)) h.spelled ∙ and_from _ (all_scalars (utf16_lossy_chars rest)) (and_parts _ true h.scalar).0 m.scalars;
  same_length = ap length mending ∙ (length-append (encode_utf16 (unwrap_or o 0xFFFD)) (mended rest) ∙ (omega (arith, h.same_length, m.same_length, length-append front rest) ∙ ap length (sym h.parts)));
  kept = λ good. let parts = good_parts good in mending ∙ (ap (λ (xs : List ℕ). xs ++ mended rest) (h.kept parts.0) ∙ (ap (λ (xs : List ℕ). front ++ xs) (m.kept parts.1) ∙ sym h.parts));
}
  where
    mending : mended t ≡ encode_utf16 (unwrap_or o 0xFFFD) ++ mended rest
    mending = ap (λ (os : List (Option ℕ)). utf16 (map (λ o. unwrap_or o 0xFFFD) os)) h.spelled

    good_parts : is_well_formed t ≡ true → (is_some o ≡ true) × (is_well_formed rest ≡ true)
    good_parts good = let e = ap (λ (os : List (Option ℕ)). not (list_any (λ o. not (is_some o)) os)) h.spelled in by_first (is_some o) (has_unpaired_surrogate rest) (sym e ∙ good)

spelled_lone : (u : ℕ) (rest : List ℕ) → u < 65536 → ((is_high_surrogate u && is_low_surrogate (get_or rest 0 0)) ≡ false) → IsSpelled (u ∷ rest) (lone_unit_char u) (u ∷ []) rest
spelled_lone u rest small apart = record {
  spelled = utf16_chars_lone u rest (λ pair. grind (arith, nat_tests));
  parts = refl;
  scalar = grind (arith, nat_tests);
  same_length = grind (arith, nat_tests);
  kept = λ e. grind (arith, nat_tests);
}

same_pair : {a b c d : ℕ} → a ≡ c → b ≡ d → a ∷ b ∷ [] ≡ c ∷ d ∷ []
same_pair e f = cc

spelled_pair : (u v : ℕ) (rest : List ℕ) → (is_high_surrogate u && is_low_surrogate v) ≡ true → IsSpelled (u ∷ v ∷ rest) (Some (surrogate_pair_char u v)) (u ∷ v ∷ []) rest
spelled_pair u v rest pair = record {
  spelled = utf16_chars_pair u v rest (grind (arith, nat_tests));
  parts = refl;
  scalar = grind (arith, nat_tests);
  same_length = grind (arith, nat_tests);
  kept = λ _. encode_two (surrogate_pair_char u v) (omega arith) ∙ same_pair (omega (arith, ranges)) (omega (arith, ranges));
}
  where
    ranges : (0xD800 ≤ u) × (u < 0xDC00) × (0xDC00 ≤ v) × (v < 0xE000)
    ranges = (grind (arith, nat_tests), grind (arith, nat_tests), grind (arith, nat_tests), grind (arith, nat_tests))

-- every text of units is mended so
pub mended_is : (t : List ℕ) → ((k : ℕ) → get_or t k 0 < 65536) → IsMended t
mended_is [] small = mended_nil
mended_is (u ∷ []) small = mended_more (u ∷ []) (lone_unit_char u) (u ∷ []) [] (spelled_lone u [] (small 0) (grind (arith, nat_tests))) mended_nil
mended_is (u ∷ v ∷ us) small = elim (cases_Bool (is_high_surrogate u && is_low_surrogate v)) [
  | inl pair ↦ mended_more (u ∷ v ∷ us) (Some (surrogate_pair_char u v)) (u ∷ v ∷ []) us (spelled_pair u v us pair) (mended_is us (λ k. small (suc (suc k))))
  | inr lone ↦ mended_more (u ∷ v ∷ us) (lone_unit_char u) (u ∷ []) (v ∷ us) (spelled_lone u (v ∷ us) (small 0) lone) (mended_is (v ∷ us) (λ k. small (suc k)))
]

-- a text of units that passes the test is well-formed, and so is every mended one
pub well_formed-is : (t : List ℕ) → ((k : ℕ) → get_or t k 0 < 65536) → is_well_formed t ≡ true → IsWellFormed t
well_formed-is t small good = let m = mended_is t small in (utf16_lossy_chars t, m.scalars, m.kept good)

pub well_formed-mended : (t : List ℕ) → ((k : ℕ) → get_or t k 0 < 65536) → IsWellFormed (mended t)
well_formed-mended t small = (utf16_lossy_chars t, (mended_is t small).scalars, refl)

-- the encoding of a text that was read from units is their mending
pub utf16_of-text_of : (t : List ℕ) → ((k : ℕ) → get_or t k 0 < 65536) → utf16_of (text_of t) ≡ mended t
utf16_of-text_of t small = ap utf16 (chars-encodes (utf16_lossy_chars t) (mended_is t small).scalars)

-- a unit between two others, mended
abbrev unit_between : ℕ → ℕ → ℕ → ℕ
unit_between before u after = cond ((is_high_surrogate u && not (is_low_surrogate after)) || (is_low_surrogate u && not (is_high_surrogate before))) 0xFFFD u

-- a unit in front of a text, and a pair, are mended by themselves
lone_encoded : (u : ℕ) (rest : List ℕ) → u < 65536 → ((is_high_surrogate u && is_low_surrogate (get_or rest 0 0)) ≡ false) → encode_utf16 (unwrap_or (lone_unit_char u) 0xFFFD) ≡ unit_between u u (get_or rest 0 0) ∷ []
lone_encoded u rest small apart = grind (arith, nat_tests)

mended_lone : (u : ℕ) (rest : List ℕ) → u < 65536 → ((is_high_surrogate u && is_low_surrogate (get_or rest 0 0)) ≡ false) → mended (u ∷ rest) ≡ unit_between u u (get_or rest 0 0) ∷ mended rest
mended_lone u rest small apart = ap (λ (os : List (Option ℕ)). utf16 (map (λ o. unwrap_or o 0xFFFD) os)) (spelled_lone u rest small apart).spelled ∙ ap (λ (xs : List ℕ). xs ++ mended rest) (lone_encoded u rest small apart)

mended_pair : (u v : ℕ) (rest : List ℕ) → (is_high_surrogate u && is_low_surrogate v) ≡ true → mended (u ∷ v ∷ rest) ≡ u ∷ v ∷ mended rest
mended_pair u v rest pair = ap (λ (os : List (Option ℕ)). utf16 (map (λ o. unwrap_or o 0xFFFD) os)) (spelled_pair u v rest pair).spelled ∙ ap (λ (xs : List ℕ). xs ++ mended rest) ((spelled_pair u v rest pair).kept refl)

-- behind a unit that is no partner of the next, a text is mended as by itself
first_alone : (u v w : ℕ) → (is_high_surrogate u && is_low_surrogate v) ≡ false → unit_between v v w ≡ unit_between u v w
first_alone u v w apart = grind (arith, nat_tests)

behind_later : (u : ℕ) (rest : List ℕ) (i : ℕ) → mended_unit rest (suc i) ≡ mended_unit (u ∷ rest) (suc (suc i))
behind_later u rest i = let before : suc (suc i - 1) ≡ suc (suc i) - 1 = omega arith in let after : suc (suc i + 1) ≡ suc (suc i) + 1 = omega arith in
    ap (λ (k : ℕ). unit_between (get_or (u ∷ rest) k 0) (get_or rest (suc i) 0) (get_or rest (suc i + 1) 0)) before
    ∙ ap (λ (k : ℕ). unit_between (get_or (u ∷ rest) (suc (suc i) - 1) 0) (get_or rest (suc i) 0) (get_or (u ∷ rest) k 0)) after

behind_unit : (u : ℕ) (rest : List ℕ) (i : ℕ) → ((is_high_surrogate u && is_low_surrogate (get_or rest 0 0)) ≡ false) → mended_unit rest i ≡ mended_unit (u ∷ rest) (suc i)
behind_unit u rest zero apart = first_alone u (get_or rest 0 0) (get_or rest 1 0) apart
behind_unit u rest (suc i) apart = behind_later u rest i

-- the two units of a pair stay
pair_stays : (u v w : ℕ) → (is_high_surrogate u && is_low_surrogate v) ≡ true → (u ≡ unit_between u u v) × (v ≡ unit_between u v w) × ((is_high_surrogate v) ≡ false)
pair_stays u v w pair = (grind (arith, nat_tests), grind (arith, nat_tests), grind (arith, nat_tests))

no_pair : (v w : ℕ) → is_high_surrogate v ≡ false → (is_high_surrogate v && is_low_surrogate w) ≡ false
no_pair v w low = ap (λ (b : Bool). b && is_low_surrogate w) low

-- mending works unit by unit
pub mended_units : (t : List ℕ) → ((k : ℕ) → get_or t k 0 < 65536) → (i : ℕ) → i < length t → get_or (mended t) i 0 ≡ mended_unit t i
mended_units [] small i within = absurd (omega arith)
mended_units (u ∷ []) small zero within = ap (λ (xs : List ℕ). get_or xs 0 0) (mended_lone u [] (small 0) (grind (arith, nat_tests)))
mended_units (u ∷ []) small (suc i) within = absurd (omega arith)
mended_units (u ∷ v ∷ us) small i within = elim (cases_Bool (is_high_surrogate u && is_low_surrogate v)) [
  | inl pair ↦ ap (λ (xs : List ℕ). get_or xs i 0) (mended_pair u v us pair) ∙ in_pair pair i within (mended_units us (λ k. small (suc (suc k))))
  | inr lone ↦ ap (λ (xs : List ℕ). get_or xs i 0) (mended_lone u (v ∷ us) (small 0) lone) ∙ behind_lone lone i within (mended_units (v ∷ us) (λ k. small (suc k)))
]
  where
    in_pair : (is_high_surrogate u && is_low_surrogate v) ≡ true → (i : ℕ) → i < length (u ∷ v ∷ us) → ((k : ℕ) → k < length us → get_or (mended us) k 0 ≡ mended_unit us k)
        → get_or (u ∷ v ∷ mended us) i 0 ≡ mended_unit (u ∷ v ∷ us) i
    in_pair pair zero within rest = (pair_stays u v 0 pair).0
    in_pair pair (suc zero) within rest = (pair_stays u v (get_or us 0 0) pair).1
    in_pair pair (suc (suc k)) within rest = rest k (omega arith) ∙ (behind_unit v us k (no_pair v (get_or us 0 0) (pair_stays u v 0 pair).2) ∙ behind_later u (v ∷ us) k)

    behind_lone : (is_high_surrogate u && is_low_surrogate v) ≡ false → (i : ℕ) → i < length (u ∷ v ∷ us) → ((k : ℕ) → k < length (v ∷ us) → get_or (mended (v ∷ us)) k 0 ≡ mended_unit (v ∷ us) k)
        → get_or (unit_between u u v ∷ mended (v ∷ us)) i 0 ≡ mended_unit (u ∷ v ∷ us) i
    behind_lone lone zero within rest = refl
    behind_lone lone (suc k) within rest = rest k (omega arith) ∙ behind_unit u (v ∷ us) k lone
