-- Where clipped points stand: at an offset of the text, in the order of the points that were clipped.
use Rattle.std.proofs.Common.{◌≡◌, ℕ, ◌+◌, ◌-◌, ◌<◌, ◌≤◌, List, length, cond, min, ltb, Option, Some, None, Bool, true, sym, ap, ◌∙◌, inl, inr, subst, arith, length-take, unwrap_or}
use Rattle.std.proofs.lemmas.Bool.{cases_Bool, cases_order, ltb-true, ltb-false, lt-ltb, le-ltb}
use Rattle.std.proofs.lemmas.Bool.Decides.{nat_tests}
use Rattle.points.specs.declared.point.Point.{Point}
use Rattle.points.specs.Point.{point_le}
use Rattle.points.specs.Place.{extent, point_at, offset_of, row_of, row_start, line_of, splits_pair, clipped_column, clip, clipped_offset}
use Rattle.points.proofs.ExtentLemmas.{feeds}
use Rattle.points.proofs.PointLemmas.{at_row_column, point_le_cases}
use Rattle.points.proofs.OffsetLemmas.{offset_of-at, offset_of-nowhere, point_at_le}
use Rattle.points.proofs.RowLemmas.{row_start_mono, row_start_next, row_is, in_row}
use Rattle.std.proofs.lemmas.List.{take_all}

-- the offset of a row's point
pub offset_of_row : (t : List ℕ) (r c : ℕ) → r ≤ feeds t → c ≤ length (row_of t r) → offset_of t (at_row_column r c) ≡ Some (row_start t r + c)
offset_of_row t r c in_text in_row = let row = row_is t r in_text in
    offset_of-at t (at_row_column r c) (row_start t r + c) (omega (arith, row.within)) (row.points c in_row)

pub offset_of_past_rows : (t : List ℕ) (p : Point) → feeds t < p.row → offset_of t p ≡ None
offset_of_past_rows t p past = offset_of-nowhere t p (λ i within e. let h = (in_row t i within).row in let rows = ap (λ (q : Point). q.row) e in omega (arith, h, rows))

pub offset_of_past_row : (t : List ℕ) (p : Point) → length (row_of t p.row) < p.column → offset_of t p ≡ None
offset_of_past_row t p past = offset_of-nowhere t p (λ i within e. let h = subst (λ (q : Point). q.column ≤ length (row_of t q.row)) e (in_row t i within).column in omega (arith, h))

-- clipped columns
pub line_le_row : (t : List ℕ) (r : ℕ) → length (line_of t r) ≤ length (row_of t r)
line_le_row t r = grind (arith, length-take (length (row_of t r) - 1) (row_of t r))

pub clipped_column_le_line : (line : List ℕ) (c : ℕ) → clipped_column line c ≤ length line
clipped_column_le_line line c = grind (arith, nat_tests)

pub clipped_column_le : (line : List ℕ) (c : ℕ) → clipped_column line c ≤ c
clipped_column_le line c = grind (arith, nat_tests)

pub clipped_column_mono : (line : List ℕ) (c d : ℕ) → c ≤ d → clipped_column line c ≤ clipped_column line d
clipped_column_mono line c d le = elim (cases_order (min c (length line)) (min d (length line))) [
  | inl e ↦ let same : clipped_column line c ≡ clipped_column line d = ap (λ (k : ℕ). cond (splits_pair line k) (k - 1) k) e in omega (arith, same)
  | inr h ↦ elim h [
    | inl lt ↦ back_step (splits_pair line (min c (length line))) (splits_pair line (min d (length line))) (min c (length line)) (min d (length line)) lt
    | inr gt ↦ absurd (omega arith)
  ]
]
  where
    back_step : (a b : Bool) (k n : ℕ) → k < n → cond a (k - 1) k ≤ cond b (n - 1) n
    back_step a b k n lt = grind arith

-- clipping past the last row, and in a row
pub clip_past : (t : List ℕ) (p : Point) → feeds t < p.row → clip t p ≡ extent t
clip_past t p past = rw (lt-ltb (feeds t) p.row past)

pub clip_in : (t : List ℕ) (p : Point) → p.row ≤ feeds t → clip t p ≡ at_row_column p.row (clipped_column (line_of t p.row) p.column)
clip_in t p in_text = rw (le-ltb (feeds t) p.row in_text)

pub clipped_offset_past : (t : List ℕ) (p : Point) → feeds t < p.row → clipped_offset t p ≡ length t
clipped_offset_past t p past = ap (λ (o : Option ℕ). unwrap_or o 0) (offset_of-at t (clip t p) (length t) (omega arith) (ap extent (take_all (length t) t (omega arith)) ∙ sym (clip_past t p past)))

pub clipped_offset_in : (t : List ℕ) (p : Point) → p.row ≤ feeds t → clipped_offset t p ≡ row_start t p.row + clipped_column (line_of t p.row) p.column
clipped_offset_in t p in_text = ap (λ (q : Point). unwrap_or (offset_of t q) 0) (clip_in t p in_text)
    ∙ ap (λ (o : Option ℕ). unwrap_or o 0) (offset_of_row t p.row (clipped_column (line_of t p.row) p.column) in_text (omega (arith, clipped_column_le_line (line_of t p.row) p.column, line_le_row t p.row)))

-- a clipped point is the point of its offset
pub record IsClippedAt (t : List ℕ) (p : Point) (i : ℕ) : Type 0 where
  pub within : i ≤ length t
  pub point : point_at t i ≡ clip t p

clipped_past : (t : List ℕ) (p : Point) → feeds t < p.row → IsClippedAt t p (length t)
clipped_past t p past = record { within = omega arith; point = ap extent (take_all (length t) t (omega arith)) ∙ sym (clip_past t p past) }

clipped_in : (t : List ℕ) (p : Point) → p.row ≤ feeds t → IsClippedAt t p (row_start t p.row + clipped_column (line_of t p.row) p.column)
clipped_in t p in_text = let row = row_is t p.row in_text in let line = clipped_column_le_line (line_of t p.row) p.column in record {
  within = omega (arith, row.within, line, line_le_row t p.row);
  point = row.points (clipped_column (line_of t p.row) p.column) (omega (arith, line, line_le_row t p.row)) ∙ sym (clip_in t p in_text);
}

pub clipped_at : (t : List ℕ) (p : Point) → IsClippedAt t p (clipped_offset t p)
clipped_at t p = elim (cases_Bool (ltb (feeds t) p.row)) [
  | inl past ↦ let h = ltb-true (feeds t) p.row past in subst (IsClippedAt t p) (sym (clipped_offset_past t p h)) (clipped_past t p h)
  | inr in_text ↦ let h = ltb-false (feeds t) p.row in_text in subst (IsClippedAt t p) (sym (clipped_offset_in t p h)) (clipped_in t p h)
]

-- a point in a row stands before every later row
row_before : (t : List ℕ) (r s c : ℕ) → r < s → s ≤ feeds t → c ≤ length (row_of t r) → row_start t r + c ≤ row_start t s
row_before t r s c lt in_text in_row = omega (arith, row_start_next t r (omega arith), row_start_mono t (r + 1) s (omega arith))

clipped_offset_mono_in : (t : List ℕ) (p q : Point) → point_le p q ≡ true → p.row ≤ feeds t → q.row ≤ feeds t → clipped_offset t p ≤ clipped_offset t q
clipped_offset_mono_in t p q le p_in q_in = elim (point_le_cases p q le) [
  | inl rows ↦ let before = row_before t p.row q.row (clipped_column (line_of t p.row) p.column) rows q_in (omega (arith, clipped_column_le_line (line_of t p.row) p.column, line_le_row t p.row)) in
      omega (arith, before, clipped_offset_in t p p_in, clipped_offset_in t q q_in)
  | inr columns ↦ let same = subst (λ (r : ℕ). row_start t r + clipped_column (line_of t r) p.column ≤ row_start t q.row + clipped_column (line_of t q.row) q.column) (sym columns.0) (omega (arith, clipped_column_mono (line_of t q.row) p.column q.column columns.1)) in
      omega (arith, same, clipped_offset_in t p p_in, clipped_offset_in t q q_in)
]

-- clipping keeps the order of points, as offsets and as points
pub clipped_offset_mono : (t : List ℕ) (p q : Point) → point_le p q ≡ true → clipped_offset t p ≤ clipped_offset t q
clipped_offset_mono t p q le = elim (cases_Bool (ltb (feeds t) q.row)) [
  | inl past ↦ omega (arith, clipped_offset_past t q (ltb-true (feeds t) q.row past), (clipped_at t p).within)
  | inr in_text ↦ let q_in = ltb-false (feeds t) q.row in_text in clipped_offset_mono_in t p q le (elim (point_le_cases p q le) [ inl rows ↦ omega arith | inr columns ↦ let e = columns.0 in omega (arith, e) ]) q_in
]

pub clip_mono : (t : List ℕ) (p q : Point) → point_le p q ≡ true → point_le (clip t p) (clip t q) ≡ true
clip_mono t p q le = let a = clipped_at t p in let b = clipped_at t q in
    subst (λ (x : Point). point_le x (clip t q) ≡ true) a.point (subst (λ (x : Point). point_le (point_at t (clipped_offset t p)) x ≡ true) b.point
    (point_at_le t (clipped_offset t p) (clipped_offset t q) (clipped_offset_mono t p q le) b.within))
