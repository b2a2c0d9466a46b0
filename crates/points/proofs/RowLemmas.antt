-- The rows of a text: where each starts, which units it has, and which points lie in it.
use Rattle.std.proofs.Common.{◌≡◌, ℕ, suc, zero, ◌+◌, ◌<◌, ◌≤◌, List, [], ◌∷◌, length, take, drop, sum_by, true, false, refl, sym, ap, ◌∙◌, inl, inr, subst, arith}
use Rattle.std.specs.List.{onto_first, slice_index_or}
use Rattle.std.proofs.lemmas.List.{take-take}
use Rattle.std.proofs.lemmas.List.Splits.{slice_split-cons_yes, slice_split-cons_no, length-slice_split}
use Rattle.std.proofs.lemmas.List.Sums.{sum_by-cons, sum_by-take-le, sum_by_more}
use Rattle.std.proofs.lemmas.Bool.{cases_Bool}
use Rattle.std.proofs.lemmas.Bool.Decides.{nat_tests}
use Rattle.points.specs.declared.point.Point.{Point}
use Rattle.points.specs.Text.{is_lf}
use Rattle.points.specs.Place.{extent, point_at, rows_of, row_of, row_start}
use Rattle.points.proofs.ExtentLemmas.{feeds, behind, feeds-cons, extent-append}
use Rattle.points.proofs.PointLemmas.{at_row_column}

-- how far a row and its line feed reach
abbrev pub row_size : List ℕ → ℕ
row_size row = length row + 1

-- the rows of a text by its first unit
rows_lf : (u : ℕ) (us : List ℕ) → is_lf u ≡ true → rows_of (u ∷ us) ≡ [] ∷ rows_of us
rows_lf u us lf = slice_split-cons_yes is_lf u us lf

rows_unit : (u : ℕ) (us : List ℕ) → is_lf u ≡ false → rows_of (u ∷ us) ≡ onto_first u (rows_of us)
rows_unit u us no_lf = slice_split-cons_no is_lf u us no_lf

pub row_of_lf : (u : ℕ) (us : List ℕ) → is_lf u ≡ true → row_of (u ∷ us) 0 ≡ []
row_of_lf u us lf = ap (λ (rows : List (List ℕ)). slice_index_or rows 0 []) (rows_lf u us lf)

pub row_of_behind_lf : (u : ℕ) (us : List ℕ) (r : ℕ) → is_lf u ≡ true → row_of (u ∷ us) (suc r) ≡ row_of us r
row_of_behind_lf u us r lf = ap (λ (rows : List (List ℕ)). slice_index_or rows (suc r) []) (rows_lf u us lf)

pub row_start_behind_lf : (u : ℕ) (us : List ℕ) (r : ℕ) → is_lf u ≡ true → row_start (u ∷ us) (suc r) ≡ suc (row_start us r)
row_start_behind_lf u us r lf = ap (λ (rows : List (List ℕ)). sum_by row_size (take (suc r) rows)) (rows_lf u us lf) ∙ (sum_by-cons row_size [] (take r (rows_of us)) ∙ omega arith)

first_onto : (u : ℕ) (rows : List (List ℕ)) → slice_index_or (onto_first u rows) 0 [] ≡ u ∷ slice_index_or rows 0 []
first_onto u [] = refl
first_onto u (row ∷ rows) = refl

later_onto : (u : ℕ) (rows : List (List ℕ)) (r : ℕ) → slice_index_or (onto_first u rows) (suc r) [] ≡ slice_index_or rows (suc r) []
later_onto u [] r = refl
later_onto u (row ∷ rows) r = refl

start_onto : (u : ℕ) (rows : List (List ℕ)) (r : ℕ) → 0 < length rows → sum_by row_size (take (suc r) (onto_first u rows)) ≡ suc (sum_by row_size (take (suc r) rows))
start_onto u [] r some_row = absurd (omega arith)
start_onto u (row ∷ rows) r some_row = omega (arith, sum_by-cons row_size (u ∷ row) (take r rows), sum_by-cons row_size row (take r rows))

pub row_of_first : (u : ℕ) (us : List ℕ) → is_lf u ≡ false → row_of (u ∷ us) 0 ≡ u ∷ row_of us 0
row_of_first u us no_lf = ap (λ (rows : List (List ℕ)). slice_index_or rows 0 []) (rows_unit u us no_lf) ∙ first_onto u (rows_of us)

pub row_of_later : (u : ℕ) (us : List ℕ) (r : ℕ) → is_lf u ≡ false → row_of (u ∷ us) (suc r) ≡ row_of us (suc r)
row_of_later u us r no_lf = ap (λ (rows : List (List ℕ)). slice_index_or rows (suc r) []) (rows_unit u us no_lf) ∙ later_onto u (rows_of us) r

pub row_start_later : (u : ℕ) (us : List ℕ) (r : ℕ) → is_lf u ≡ false → row_start (u ∷ us) (suc r) ≡ suc (row_start us (suc r))
row_start_later u us r no_lf = ap (λ (rows : List (List ℕ)). sum_by row_size (take (suc r) rows)) (rows_unit u us no_lf) ∙ start_onto u (rows_of us) r (omega (arith, length-slice_split is_lf us))

pub row_start_mono : (t : List ℕ) (a b : ℕ) → a ≤ b → row_start t a ≤ row_start t b
row_start_mono t a b le = subst (λ (rows : List (List ℕ)). sum_by row_size rows ≤ row_start t b) (take-take a b (rows_of t) le) (sum_by-take-le row_size (take b (rows_of t)) a)

-- the extent of a text by its first unit
pub extent_lf : (u : ℕ) (us : List ℕ) → is_lf u ≡ true → extent (u ∷ us) ≡ at_row_column (suc (feeds us)) (behind us)
extent_lf u us lf = grind (arith, nat_tests, extent-append (u ∷ []) us)

pub extent_unit : (u : ℕ) (us : List ℕ) → is_lf u ≡ false → feeds us ≡ 0 → extent (u ∷ us) ≡ at_row_column 0 (suc (behind us))
extent_unit u us no_lf none = grind (arith, nat_tests, extent-append (u ∷ []) us)

pub extent_unit_before_lf : (u : ℕ) (us : List ℕ) → is_lf u ≡ false → 0 < feeds us → extent (u ∷ us) ≡ extent us
extent_unit_before_lf u us no_lf some_lf = grind (arith, nat_tests, extent-append (u ∷ []) us)

-- the units `row` stand at offset s of t, and the points of row r lie in them
pub record IsRowAt (t : List ℕ) (r s : ℕ) (row : List ℕ) : Type 0 where
  pub within : s + length row ≤ length t
  pub units : take (length row) (drop s t) ≡ row
  pub points : (c : ℕ) → c ≤ length row → point_at t (s + c) ≡ at_row_column r c

row_nil : IsRowAt [] 0 0 []
row_nil = record {
  within = omega arith;
  units = refl;
  points = λ c le. let c_is : 0 ≡ c = omega arith in subst (λ (k : ℕ). point_at [] (0 + k) ≡ at_row_column 0 k) c_is refl;
}

row_first_lf : (u : ℕ) (us : List ℕ) → IsRowAt (u ∷ us) 0 0 []
row_first_lf u us = record {
  within = omega arith;
  units = refl;
  points = λ c le. let c_is : 0 ≡ c = omega arith in subst (λ (k : ℕ). point_at (u ∷ us) (0 + k) ≡ at_row_column 0 k) c_is refl;
}

row_behind_lf : (u : ℕ) (us : List ℕ) (r s : ℕ) (row : List ℕ) → is_lf u ≡ true → IsRowAt us r s row → IsRowAt (u ∷ us) (suc r) (suc s) row
row_behind_lf u us r s row lf h = record {
  within = omega (arith, h.within);
  units = h.units;
  points = λ c le. let next : suc (s + c) ≡ suc s + c = omega arith in subst (λ (k : ℕ). point_at (u ∷ us) k ≡ at_row_column (suc r) c) next
      (extent_lf u (take (s + c) us) lf ∙ ap (λ (p : Point). at_row_column (suc p.row) p.column) (h.points c le));
}

row_first : (u : ℕ) (us : List ℕ) (row : List ℕ) → is_lf u ≡ false → IsRowAt us 0 0 row → IsRowAt (u ∷ us) 0 0 (u ∷ row)
row_first u us row no_lf h = record {
  within = omega (arith, h.within);
  units = ap (λ (xs : List ℕ). u ∷ xs) h.units;
  points = point_in;
}
  where
    in_rest : (c : ℕ) → c ≤ length row → extent (take c us) ≡ at_row_column 0 c
    in_rest c le = let at_zero : 0 + c ≡ c = omega arith in subst (λ (k : ℕ). point_at us k ≡ at_row_column 0 c) at_zero (h.points c le)

    at_offset : (c : ℕ) → c ≤ suc (length row) → point_at (u ∷ us) c ≡ at_row_column 0 c
    at_offset zero le = refl
    at_offset (suc c) le = let e = in_rest c (omega arith) in extent_unit u (take c us) no_lf (ap (λ (p : Point). p.row) e) ∙ ap (λ (p : Point). at_row_column 0 (suc p.column)) e

    point_in : (c : ℕ) → c ≤ length (u ∷ row) → point_at (u ∷ us) (0 + c) ≡ at_row_column 0 c
    point_in c le = let at_zero : c ≡ 0 + c = omega arith in subst (λ (k : ℕ). point_at (u ∷ us) k ≡ at_row_column 0 c) at_zero (at_offset c (omega arith))

row_later : (u : ℕ) (us : List ℕ) (r s : ℕ) (row : List ℕ) → is_lf u ≡ false → IsRowAt us (suc r) s row → IsRowAt (u ∷ us) (suc r) (suc s) row
row_later u us r s row no_lf h = record {
  within = omega (arith, h.within);
  units = h.units;
  points = λ c le. let next : suc (s + c) ≡ suc s + c = omega arith in subst (λ (k : ℕ). point_at (u ∷ us) k ≡ at_row_column (suc r) c) next
      (let e = h.points c le in extent_unit_before_lf u (take (s + c) us) no_lf (let rows = ap (λ (p : Point). p.row) e in omega (arith, rows)) ∙ e);
}

-- every row stands where it starts
pub row_is : (t : List ℕ) (r : ℕ) → r ≤ feeds t → IsRowAt t r (row_start t r) (row_of t r)
row_is [] zero le = row_nil
row_is [] (suc r) le = absurd (omega arith)
row_is (u ∷ us) zero le = elim (cases_Bool (is_lf u)) [
  | inl lf ↦ subst (IsRowAt (u ∷ us) 0 0) (sym (row_of_lf u us lf)) (row_first_lf u us)
  | inr no_lf ↦ subst (IsRowAt (u ∷ us) 0 0) (sym (row_of_first u us no_lf)) (row_first u us (row_of us 0) no_lf (row_is us 0 (omega arith)))
]
row_is (u ∷ us) (suc r) le = elim (cases_Bool (is_lf u)) [
  | inl lf ↦ subst (IsRowAt (u ∷ us) (suc r) (row_start (u ∷ us) (suc r))) (sym (row_of_behind_lf u us r lf)) (subst (λ (s : ℕ). IsRowAt (u ∷ us) (suc r) s (row_of us r)) (sym (row_start_behind_lf u us r lf))
      (row_behind_lf u us r (row_start us r) (row_of us r) lf (row_is us r (grind (arith, nat_tests, feeds-cons u us)))))
  | inr no_lf ↦ subst (IsRowAt (u ∷ us) (suc r) (row_start (u ∷ us) (suc r))) (sym (row_of_later u us r no_lf)) (subst (λ (s : ℕ). IsRowAt (u ∷ us) (suc r) s (row_of us (suc r))) (sym (row_start_later u us r no_lf))
      (row_later u us r (row_start us (suc r)) (row_of us (suc r)) no_lf (row_is us (suc r) (grind (arith, nat_tests, feeds-cons u us)))))
]

-- one row starts behind the line feed of the row before it, and the last row ends with the text
pub row_start_next : (t : List ℕ) (r : ℕ) → r ≤ feeds t → row_start t (r + 1) ≡ row_start t r + length (row_of t r) + 1
row_start_next t r le = sum_by_more row_size (rows_of t) r [] (omega (arith, length-slice_split is_lf t)) ∙ omega arith

rows_total : (t : List ℕ) → row_start t (suc (feeds t)) ≡ suc (length t)
rows_total [] = refl
rows_total (u ∷ us) = elim (cases_Bool (is_lf u)) [
  | inl lf ↦ let n : suc (feeds us) ≡ feeds (u ∷ us) = grind (arith, nat_tests, feeds-cons u us) in
      subst (λ (k : ℕ). row_start (u ∷ us) (suc k) ≡ suc (suc (length us))) n (row_start_behind_lf u us (suc (feeds us)) lf ∙ ap suc (rows_total us))
  | inr no_lf ↦ let n : feeds us ≡ feeds (u ∷ us) = grind (arith, nat_tests, feeds-cons u us) in
      subst (λ (k : ℕ). row_start (u ∷ us) (suc k) ≡ suc (suc (length us))) n (row_start_later u us (feeds us) no_lf ∙ ap suc (rows_total us))
]

pub row_end_last : (t : List ℕ) → row_start t (feeds t) + length (row_of t (feeds t)) ≡ length t
row_end_last t = let n : suc (feeds t) ≡ feeds t + 1 = omega arith in omega (arith, subst (λ (k : ℕ). row_start t k ≡ suc (length t)) n (rows_total t), row_start_next t (feeds t) (omega arith))

-- p is the point of an offset i: i lies in row p.row, p.column units behind its start
pub record IsInRow (t : List ℕ) (i : ℕ) (p : Point) : Type 0 where
  pub row : p.row ≤ feeds t
  pub column : p.column ≤ length (row_of t p.row)
  pub offset : i ≡ row_start t p.row + p.column

in_row_lf : (u : ℕ) (us : List ℕ) (i : ℕ) (p : Point) → is_lf u ≡ true → IsInRow us i p → IsInRow (u ∷ us) (suc i) (at_row_column (suc p.row) p.column)
in_row_lf u us i p lf h = record {
  row = grind (arith, nat_tests, feeds-cons u us, h.row);
  column = rw (row_of_behind_lf u us p.row lf) h.column;
  offset = rw (row_start_behind_lf u us p.row lf) (omega (arith, h.offset));
}

in_row_first : (u : ℕ) (us : List ℕ) (i : ℕ) (p : Point) → is_lf u ≡ false → p.row ≡ 0 → IsInRow us i p → IsInRow (u ∷ us) (suc i) (at_row_column 0 (suc p.column))
in_row_first u us i p no_lf first h = record {
  row = omega arith;
  column = rw (row_of_first u us no_lf) (let le = subst (λ (r : ℕ). p.column ≤ length (row_of us r)) first h.column in omega (arith, le));
  offset = let e = subst (λ (r : ℕ). i ≡ row_start us r + p.column) first h.offset in omega (arith, e);
}

in_row_later : (u : ℕ) (us : List ℕ) (i r c : ℕ) → is_lf u ≡ false → IsInRow us i (at_row_column (suc r) c) → IsInRow (u ∷ us) (suc i) (at_row_column (suc r) c)
in_row_later u us i r c no_lf h = record {
  row = grind (arith, nat_tests, feeds-cons u us, h.row);
  column = rw (row_of_later u us r no_lf) h.column;
  offset = rw (row_start_later u us r no_lf) (omega (arith, h.offset));
}

in_row_unit : (u : ℕ) (us : List ℕ) (i r c : ℕ) → is_lf u ≡ false → IsInRow us i (at_row_column r c) → extent (take i us) ≡ at_row_column r c → IsInRow (u ∷ us) (suc i) (extent (u ∷ take i us))
in_row_unit u us i zero c no_lf h e = subst (IsInRow (u ∷ us) (suc i)) (sym (extent_unit u (take i us) no_lf (ap (λ (p : Point). p.row) e) ∙ ap (λ (p : Point). at_row_column 0 (suc p.column)) e))
    (in_row_first u us i (at_row_column 0 c) no_lf refl h)
in_row_unit u us i (suc r) c no_lf h e = subst (IsInRow (u ∷ us) (suc i)) (sym (extent_unit_before_lf u (take i us) no_lf (let rows = ap (λ (p : Point). p.row) e in omega (arith, rows)) ∙ e))
    (in_row_later u us i r c no_lf h)

-- every offset lies in the row of its point
pub in_row : (t : List ℕ) (i : ℕ) → i ≤ length t → IsInRow t i (point_at t i)
in_row t zero le = record { row = omega arith; column = omega arith; offset = refl }
in_row [] (suc i) le = absurd (omega arith)
in_row (u ∷ us) (suc i) le = let h = in_row us i (omega arith) in elim (cases_Bool (is_lf u)) [
  | inl lf ↦ subst (IsInRow (u ∷ us) (suc i)) (sym (extent_lf u (take i us) lf)) (in_row_lf u us i (point_at us i) lf h)
  | inr no_lf ↦ in_row_unit u us i (feeds (take i us)) (behind (take i us)) no_lf h refl
]
