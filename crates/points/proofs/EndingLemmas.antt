-- What stands at the ends of rows, and that no clipped point parts a pair.
use Rattle.std.proofs.Common.{◌≡◌, ℕ, suc, zero, ◌+◌, ◌-◌, ◌<◌, ◌≤◌, List, [], ◌∷◌, length, take, drop, get_or, cond, min, eqb, ltb, Bool, true, false, ◌&&◌, refl, sym, ap, ◌∙◌, inl, inr, subst, arith}
use Rattle.std.specs.Char.Utf16.{is_high_surrogate, is_low_surrogate}
use Rattle.std.proofs.lemmas.List.{get_or-take, get_or-drop, get_or_past, take_min, take_all, length-take}
use Rattle.std.proofs.lemmas.List.Sums.{count_by_more_no}
use Rattle.std.proofs.lemmas.Bool.{cases_Bool, cases_lt, and_left, and_right, and_parts, false≢true}
use Rattle.std.proofs.lemmas.Bool.Decides.{nat_tests}
use Rattle.points.specs.declared.point.Point.{Point}
use Rattle.points.specs.Text.{is_lf, CR, IsWellFormed, replaced}
use Rattle.points.specs.Place.{row_start, row_of, line_of, ends_with_cr, splits_pair, clipped_column, clipped_offset}
use Rattle.points.proofs.ExtentLemmas.{feeds}
use Rattle.points.proofs.RowLemmas.{IsRowAt, row_is, row_start_next, row_end_last}
use Rattle.points.proofs.ClipLemmas.{clipped_column_le_line, line_le_row, clipped_offset_in, clipped_offset_past, clipped_at}
use Rattle.points.proofs.WellFormedLemmas.{splits_none, well_formed-replaced}

-- a row but the last is followed by its line feed
pub lf_behind_row : (t : List ℕ) (r : ℕ) → r < feeds t → is_lf (get_or t (row_start t r + length (row_of t r)) 0) ≡ true
lf_behind_row t r lt = elim (cases_Bool (is_lf (get_or t (row_start t r + length (row_of t r)) 0))) [
  | inl lf ↦ lf
  | inr no_lf ↦ absurd (omega (arith, at_end, behind, count_by_more_no is_lf t (row_start t r + length (row_of t r)) 0 within no_lf))
]
  where
    row : IsRowAt t r (row_start t r) (row_of t r)
    row = row_is t r (omega arith)

    next : IsRowAt t (r + 1) (row_start t (r + 1)) (row_of t (r + 1))
    next = row_is t (r + 1) (omega arith)

    within : row_start t r + length (row_of t r) < length t
    within = omega (arith, next.within, row_start_next t r (omega arith))

    at_end : feeds (take (row_start t r + length (row_of t r)) t) ≡ r
    at_end = ap (λ (p : Point). p.row) (row.points (length (row_of t r)) (omega arith))

    behind : feeds (take (row_start t r + length (row_of t r) + 1) t) ≡ r + 1
    behind = let e : row_start t (r + 1) + 0 ≡ row_start t r + length (row_of t r) + 1 = omega (arith, row_start_next t r (omega arith)) in
        subst (λ (k : ℕ). feeds (take k t) ≡ r + 1) e (ap (λ (p : Point). p.row) (next.points 0 (omega arith)))

-- the units of a row and of its line, in the text
pub row_unit : (t : List ℕ) (r k : ℕ) → r ≤ feeds t → k < length (row_of t r) → get_or (row_of t r) k 0 ≡ get_or t (row_start t r + k) 0
row_unit t r k in_text lt = subst (λ (xs : List ℕ). get_or xs k 0 ≡ get_or t (row_start t r + k) 0) (row_is t r in_text).units
    (get_or-take (length (row_of t r)) (drop (row_start t r) t) k 0 lt ∙ get_or-drop (row_start t r) t k 0)

front_whole : (cut : Bool) (row : List ℕ) → take (length (cond cut (take (length row - 1) row) row)) row ≡ cond cut (take (length row - 1) row) row
front_whole true row = ap (λ (n : ℕ). take n row) (length-take (length row - 1) row) ∙ take_min (length row - 1) row
front_whole false row = take_all (length row) row (omega arith)

line_front : (t : List ℕ) (r : ℕ) → take (length (line_of t r)) (row_of t r) ≡ line_of t r
line_front t r = front_whole (ltb r (feeds t) && ends_with_cr (row_of t r)) (row_of t r)

pub line_unit : (t : List ℕ) (r k : ℕ) → r ≤ feeds t → k < length (line_of t r) → get_or (line_of t r) k 0 ≡ get_or t (row_start t r + k) 0
line_unit t r k in_text lt = subst (λ (xs : List ℕ). get_or xs k 0 ≡ get_or t (row_start t r + k) 0) (line_front t r)
    (get_or-take (length (line_of t r)) (row_of t r) k 0 lt ∙ row_unit t r k in_text (omega (arith, line_le_row t r)))

high_not_low : (u : ℕ) → is_high_surrogate u ≡ true → is_low_surrogate u ≡ false
high_not_low u h = grind (arith, nat_tests)

-- a clipped column parts no pair of its line
pub clipped_column_apart : (line : List ℕ) (c : ℕ) → splits_pair line (clipped_column line c) ≡ false
clipped_column_apart line c = apart (splits_pair line (min c (length line))) (min c (length line)) refl
  where
    apart : (b : Bool) (k : ℕ) → splits_pair line k ≡ b → splits_pair line (cond b (k - 1) k) ≡ false
    apart true k e = and_right (is_high_surrogate (get_or line (k - 1 - 1) 0)) (is_low_surrogate (get_or line (k - 1) 0)) (high_not_low (get_or line (k - 1) 0) (and_parts _ _ e).0)
    apart false k e = e

no_low : (t : List ℕ) (i : ℕ) → is_low_surrogate (get_or t i 0) ≡ false → splits_pair t i ≡ false
no_low t i low = and_right (is_high_surrogate (get_or t (i - 1) 0)) (is_low_surrogate (get_or t i 0)) low

lf_not_high : (u : ℕ) → is_lf u ≡ true → is_high_surrogate u ≡ false
lf_not_high u lf = grind (arith, nat_tests)

lf_not_low : (u : ℕ) → is_lf u ≡ true → is_low_surrogate u ≡ false
lf_not_low u lf = grind (arith, nat_tests)

cr_not_low : (u : ℕ) → eqb u CR ≡ true → is_low_surrogate u ≡ false
cr_not_low u cr = grind (arith, nat_tests)

-- behind a line stands its ending, or the end of the text
behind_row : (t : List ℕ) (r : ℕ) → r ≤ feeds t → is_low_surrogate (get_or t (row_start t r + length (row_of t r)) 0) ≡ false
behind_row t r in_text = elim (cases_lt r (feeds t)) [
  | inl lt ↦ lf_not_low (get_or t (row_start t r + length (row_of t r)) 0) (lf_behind_row t r lt)
  | inr ge ↦ let last : feeds t ≡ r = omega arith in
      let at_end = subst (λ (k : ℕ). row_start t k + length (row_of t k) ≡ length t) last (row_end_last t) in
      ap is_low_surrogate (get_or_past t (row_start t r + length (row_of t r)) 0 (omega (arith, at_end)))
]

cr_stands : (row : List ℕ) → ends_with_cr row ≡ true → 0 < length row
cr_stands [] cr = absurd (false≢true cr)
cr_stands (u ∷ us) cr = omega arith

behind_line_by : (t : List ℕ) (r : ℕ) (cut : Bool) → r ≤ feeds t → (ltb r (feeds t) && ends_with_cr (row_of t r)) ≡ cut
    → is_low_surrogate (get_or t (row_start t r + length (cond cut (take (length (row_of t r) - 1) (row_of t r)) (row_of t r))) 0) ≡ false
behind_line_by t r false in_text e = behind_row t r in_text
behind_line_by t r true in_text e = let cr = (and_parts (ltb r (feeds t)) (ends_with_cr (row_of t r)) e).1 in
    let some_unit = cr_stands (row_of t r) cr in
    let len : length (row_of t r) - 1 ≡ length (take (length (row_of t r) - 1) (row_of t r)) = omega (arith, length-take (length (row_of t r) - 1) (row_of t r)) in
    subst (λ (n : ℕ). is_low_surrogate (get_or t (row_start t r + n) 0) ≡ false) len
    (subst (λ (u : ℕ). is_low_surrogate u ≡ false) (row_unit t r (length (row_of t r) - 1) in_text (omega arith)) (cr_not_low (get_or (row_of t r) (length (row_of t r) - 1) 0) cr))

behind_line : (t : List ℕ) (r : ℕ) → r ≤ feeds t → is_low_surrogate (get_or t (row_start t r + length (line_of t r)) 0) ≡ false
behind_line t r in_text = behind_line_by t r (ltb r (feeds t) && ends_with_cr (row_of t r)) in_text refl

-- before a row stands the line feed of the row before it
row_start_apart : (t : List ℕ) (r : ℕ) → r ≤ feeds t → splits_pair t (row_start t r) ≡ false
row_start_apart t zero in_text = splits_none t
row_start_apart t (suc r) in_text = let e : row_start t (suc r) - 1 ≡ row_start t r + length (row_of t r) = omega (arith, row_start_next t r (omega arith), ap (row_start t) (next r)) in
    and_left (is_high_surrogate (get_or t (row_start t (suc r) - 1) 0)) (is_low_surrogate (get_or t (row_start t (suc r)) 0))
    (subst (λ (k : ℕ). is_high_surrogate (get_or t k 0) ≡ false) (sym e) (lf_not_high (get_or t (row_start t r + length (row_of t r)) 0) (lf_behind_row t r (omega arith))))
  where
    next : (n : ℕ) → suc n ≡ n + 1
    next n = omega arith

in_line_apart : (t : List ℕ) (r c : ℕ) → r ≤ feeds t → 0 < c → c < length (line_of t r) → splits_pair (line_of t r) c ≡ false → splits_pair t (row_start t r + c) ≡ false
in_line_apart t r c in_text some_column in_line apart = let e : row_start t r + (c - 1) ≡ row_start t r + c - 1 = omega arith in
    subst (λ (u : ℕ). (is_high_surrogate (get_or t (row_start t r + c - 1) 0) && is_low_surrogate u) ≡ false) (line_unit t r c in_text in_line)
    (subst (λ (u : ℕ). (is_high_surrogate u && is_low_surrogate (get_or (line_of t r) c 0)) ≡ false) (line_unit t r (c - 1) in_text (omega arith) ∙ ap (λ (k : ℕ). get_or t k 0) e) apart)

-- a column of a line parts no pair of the text where it parts none of the line
column_apart : (t : List ℕ) (r c : ℕ) → r ≤ feeds t → c ≤ length (line_of t r) → splits_pair (line_of t r) c ≡ false → splits_pair t (row_start t r + c) ≡ false
column_apart t r zero in_text in_line apart = let e : row_start t r ≡ row_start t r + 0 = omega arith in subst (λ (k : ℕ). splits_pair t k ≡ false) e (row_start_apart t r in_text)
column_apart t r (suc c) in_text in_line apart = elim (cases_lt (suc c) (length (line_of t r))) [
  | inl lt ↦ in_line_apart t r (suc c) in_text (omega arith) lt apart
  | inr ge ↦ let e : length (line_of t r) ≡ suc c = omega arith in
      no_low t (row_start t r + suc c) (subst (λ (n : ℕ). is_low_surrogate (get_or t (row_start t r + n) 0) ≡ false) e (behind_line t r in_text))
]

-- no clipped point parts a pair
pub clipped_offset_apart : (t : List ℕ) (p : Point) → splits_pair t (clipped_offset t p) ≡ false
clipped_offset_apart t p = elim (cases_lt (feeds t) p.row) [
  | inl past ↦ subst (λ (k : ℕ). splits_pair t k ≡ false) (sym (clipped_offset_past t p past)) (no_low t (length t) (ap is_low_surrogate (get_or_past t (length t) 0 (omega arith))))
  | inr in_text ↦ subst (λ (k : ℕ). splits_pair t k ≡ false) (sym (clipped_offset_in t p in_text))
      (column_apart t p.row (clipped_column (line_of t p.row) p.column) in_text (clipped_column_le_line (line_of t p.row) p.column) (clipped_column_apart (line_of t p.row) p.column))
]

-- a well-formed text stays so where such a text replaces the units between two clipped points
pub well_formed_edit : (t : List ℕ) (p q : Point) (s : List ℕ) → IsWellFormed t → IsWellFormed s → IsWellFormed (replaced t (clipped_offset t p) (clipped_offset t q) s)
well_formed_edit t p q s whole new = well_formed-replaced t (clipped_offset t p) (clipped_offset t q) s whole new (clipped_at t p).within (clipped_at t q).within (clipped_offset_apart t p) (clipped_offset_apart t q)
