-- Rows of a text without their endings, single units, and what a point is clipped to.
use Rattle.std.proofs.Common.{◌≡◌, ℕ, ◌+◌, ◌-◌, ◌<◌, ◌≤◌, List, length, take, drop, slice_range, get_or, min, cond, eqb, ltb, Bool, true, false, ◌&&◌, refl, sym, ap, ◌∙◌, subst, arith, length-take}
use Rattle.std.specs.Char.Utf16.{is_high_surrogate, is_low_surrogate}
use Rattle.std.proofs.lemmas.List.{get_or-take, get_or-drop, get_or_past, take_all}
use Rattle.std.proofs.lemmas.Bool.{and_right, eq-eqb, ne_eqb, le-ltb, lt-ltb}
use Rattle.points.specs.declared.point.Point.{Point}
use Rattle.points.specs.Text.{CR}
use Rattle.points.specs.MarkText.{IsPointOf}
use Rattle.points.specs.Place.{extent, point_at, row_of, row_start, line_of, ends_with_cr, splits_pair, clipped_column, clipped_offset}
use Rattle.points.proofs.ExtentLemmas.{feeds}
use Rattle.points.proofs.PointLemmas.{at_row_column}
use Rattle.points.proofs.RowLemmas.{row_is, row_start_next, row_end_last}
use Rattle.points.proofs.ClipLemmas.{line_le_row, clip_in, clipped_offset_in, clipped_offset_past, clipped_at}
use Rattle.points.proofs.EndingLemmas.{line_unit, row_unit}
use Rattle.points.proofs.WellFormedLemmas.{splits_none}
use Rattle.chains.specs.declared.spot.Spot.{Spot}
use Rattle.chains.specs.Overlay.{end_of}
use Rattle.chains.specs.Spots.{spot_in}

-- the first unit of a range is that of the text where it begins
pub first_unit : (t us : List ℕ) (i j : ℕ) → slice_range t i j ≡ us → i < j → get_or us 0 0 ≡ get_or t i 0
first_unit t us i j is order = let e : i + 0 ≡ i = omega arith in
    ap (λ (xs : List ℕ). get_or xs 0 0) (sym is) ∙ (get_or-take (j - i) (drop i t) 0 0 (omega arith) ∙ (get_or-drop i t 0 0 ∙ ap (λ (k : ℕ). get_or t k 0) e))

-- a row starts at its first point
pub row_begins : (t : List ℕ) (r : ℕ) → r ≤ feeds t → (row_start t r ≤ length t) × (point_at t (row_start t r) ≡ at_row_column r 0)
row_begins t r in_text = let row = row_is t r in_text in let e : row_start t r + 0 ≡ row_start t r = omega arith in
    (omega (arith, row.within), subst (λ (k : ℕ). point_at t k ≡ at_row_column r 0) e (row.points 0 (omega arith)))

pub row_point : (t : List ℕ) (r : ℕ) → r ≤ feeds t → IsPointOf t (at_row_column r 0)
row_point t r in_text = let begins = row_begins t r in_text in record { offset = row_start t r; within = begins.0; is = begins.1 }

-- the place of a row's first point, and that of the next row's, which stands behind the line feed
pub starts_at : (t : List ℕ) (r : ℕ) (x : Spot) → r ≤ feeds t → ((i : ℕ) → i ≤ length t → point_at t i ≡ at_row_column r 0 → x ≡ spot_in t i) → x.offset ≡ row_start t r
starts_at t r x in_text found = let begins = row_begins t r in_text in ap (λ (y : Spot). y.offset) (found (row_start t r) begins.0 begins.1)

pub next_at : (t : List ℕ) (r : ℕ) (x : Spot) → r < feeds t → ((i : ℕ) → i ≤ length t → point_at t i ≡ at_row_column (r + 1) 0 → x ≡ spot_in t i) → x.offset ≡ row_start t r + length (row_of t r) + 1
next_at t r x in_text found = starts_at t (r + 1) x (omega arith) found ∙ row_start_next t r (omega arith)

-- the last row has no ending
pub line_last : (t : List ℕ) (r : ℕ) → r ≡ feeds t → row_start t r + length (line_of t r) ≡ length t
line_last t r last = ap (λ (xs : List ℕ). row_start t r + length xs) whole
    ∙ (ap (λ (k : ℕ). row_start t k + length (row_of t k)) last ∙ row_end_last t)
  where
    whole : line_of t r ≡ row_of t r
    whole = ap (λ (b : Bool). cond (b && ends_with_cr (row_of t r)) (take (length (row_of t r) - 1) (row_of t r)) (row_of t r)) (le-ltb r (feeds t) (omega (arith, last)))

pub line_ends_text : (t : List ℕ) (end : Spot) (r : ℕ) → end ≡ end_of t → r ≡ end.point.row → end.offset ≡ row_start t r + length (line_of t r)
line_ends_text t end r is last = ap (λ (x : Spot). x.offset) is ∙ sym (line_last t r (last ∙ ap (λ (x : Spot). x.point.row) is))

-- a row with no unit before its line feed
pub line_none : (t : List ℕ) (r : ℕ) → length (row_of t r) ≡ 0 → length (line_of t r) ≡ 0
line_none t r none = omega (arith, none, line_le_row t r)

ends_by : (t : List ℕ) (r : ℕ) → r ≤ feeds t → 0 < length (row_of t r) → ends_with_cr (row_of t r) ≡ eqb (get_or t (row_start t r + length (row_of t r) - 1) 0) CR
ends_by t r in_text some_unit = let e : row_start t r + (length (row_of t r) - 1) ≡ row_start t r + length (row_of t r) - 1 = omega arith in
    ap (λ (u : ℕ). eqb u CR) (row_unit t r (length (row_of t r) - 1) in_text (omega arith) ∙ ap (λ (k : ℕ). get_or t k 0) e)

-- a carriage return before the line feed belongs to the ending
pub line_cr : (t : List ℕ) (r : ℕ) → r < feeds t → 0 < length (row_of t r) → get_or t (row_start t r + length (row_of t r) - 1) 0 ≡ CR → length (line_of t r) + 1 ≡ length (row_of t r)
line_cr t r in_text some_unit cr = ap (λ (xs : List ℕ). length xs + 1) shorter ∙ omega (arith, length-take (length (row_of t r) - 1) (row_of t r))
  where
    ends : ends_with_cr (row_of t r) ≡ true
    ends = ends_by t r (omega arith) some_unit ∙ eq-eqb (get_or t (row_start t r + length (row_of t r) - 1) 0) CR cr

    shorter : line_of t r ≡ take (length (row_of t r) - 1) (row_of t r)
    shorter = ap (λ (b : Bool). cond (b && ends_with_cr (row_of t r)) (take (length (row_of t r) - 1) (row_of t r)) (row_of t r)) (lt-ltb r (feeds t) in_text)
        ∙ ap (λ (b : Bool). cond b (take (length (row_of t r) - 1) (row_of t r)) (row_of t r)) ends

-- any other unit is one of the line
pub line_whole : (t : List ℕ) (r : ℕ) → r ≤ feeds t → 0 < length (row_of t r) → (get_or t (row_start t r + length (row_of t r) - 1) 0 ≡ CR → ⊥) → line_of t r ≡ row_of t r
line_whole t r in_text some_unit no_cr = ap (λ (b : Bool). cond (ltb r (feeds t) && b) (take (length (row_of t r) - 1) (row_of t r)) (row_of t r))
    (ends_by t r in_text some_unit ∙ ne_eqb (get_or t (row_start t r + length (row_of t r) - 1) 0) CR no_cr)
    ∙ ap (λ (b : Bool). cond b (take (length (row_of t r) - 1) (row_of t r)) (row_of t r)) (and_right (ltb r (feeds t)) false refl)

-- the end of a line before its line feed, with a carriage return there or without
pub cr_ends : (t : List ℕ) (r feed u : ℕ) → r < feeds t → feed ≡ row_start t r + length (row_of t r) → row_start t r < feed → u ≡ get_or t (feed - 1) 0 → u ≡ CR → feed - 1 ≡ row_start t r + length (line_of t r)
cr_ends t r feed u in_text feed_is some_unit u_is cr = omega (
  arith,
  feed_is,
  some_unit,
  line_cr t r in_text (omega (arith, feed_is, some_unit))
      (ap (λ (k : ℕ). get_or t (k - 1) 0) (sym feed_is) ∙ (sym u_is ∙ cr)),
)

pub none_ends : (t : List ℕ) (r feed : ℕ) → feed ≡ row_start t r + length (row_of t r) → feed ≤ row_start t r → feed ≡ row_start t r + length (line_of t r)
none_ends t r feed feed_is no_unit = omega (arith, feed_is, no_unit, line_none t r (omega (arith, feed_is, no_unit)))

pub other_ends : (t : List ℕ) (r feed u : ℕ) → r < feeds t → feed ≡ row_start t r + length (row_of t r) → row_start t r < feed → u ≡ get_or t (feed - 1) 0 → (u ≡ CR → ⊥) → feed ≡ row_start t r + length (line_of t r)
other_ends t r feed u in_text feed_is some_unit u_is no_cr = feed_is ∙ ap (λ (xs : List ℕ). row_start t r + length xs)
    (sym (line_whole t r (omega arith) (omega (arith, feed_is, some_unit)) (λ cr. no_cr (u_is ∙ (ap (λ (k : ℕ). get_or t (k - 1) 0) feed_is ∙ cr)))))

-- a line lies in the text
pub line_within : (t : List ℕ) (r : ℕ) → r ≤ feeds t → row_start t r + length (line_of t r) ≤ length t
line_within t r in_text = omega (arith, (row_is t r in_text).within, line_le_row t r)

-- a line parts a pair where the text does
pub splits_in : (t : List ℕ) (r c : ℕ) → r ≤ feeds t → 0 < c → c < length (line_of t r) → splits_pair (line_of t r) c ≡ splits_pair t (row_start t r + c)
splits_in t r c in_text some_column in_line = let e : row_start t r + (c - 1) ≡ row_start t r + c - 1 = omega arith in
    ap (λ (u : ℕ). is_high_surrogate u && is_low_surrogate (get_or (line_of t r) c 0)) (line_unit t r (c - 1) in_text (omega arith) ∙ ap (λ (k : ℕ). get_or t k 0) e)
    ∙ ap (λ (u : ℕ). is_high_surrogate (get_or t (row_start t r + c - 1) 0) && is_low_surrogate u) (line_unit t r c in_text in_line)

-- no pair is parted at the ends of a line
pub splits_first : (line : List ℕ) (c : ℕ) → c ≡ 0 → splits_pair line c ≡ false
splits_first line c first = ap (splits_pair line) first ∙ splits_none line

pub splits_last : (line : List ℕ) (c : ℕ) → length line ≤ c → splits_pair line c ≡ false
splits_last line c last = and_right (is_high_surrogate (get_or line (c - 1) 0)) (is_low_surrogate (get_or line c 0)) (ap is_low_surrogate (get_or_past line c 0 last))

-- the column that a column is clipped to, by that test
pub column_by : (line : List ℕ) (c k : ℕ) (b : Bool) → k ≡ min c (length line) → splits_pair line k ≡ b → clipped_column line c ≡ cond b (k - 1) k
column_by line c k b k_is is = ap (λ (n : ℕ). cond (splits_pair line n) (n - 1) n) (sym k_is) ∙ ap (λ (x : Bool). cond x (k - 1) k) is

abbrev spot : ℕ → Point → Spot
spot offset point = record { offset = offset; point = point }

-- the place of a clipped point
pub clipped_here : (t : List ℕ) (p : Point) (s c : ℕ) → p.row ≤ feeds t → s ≡ row_start t p.row → c ≡ clipped_column (line_of t p.row) p.column
    → spot (s + c) (at_row_column p.row c) ≡ spot_in t (clipped_offset t p)
clipped_here t p s c in_text s_is c_is = ap (λ (k : ℕ). spot k (at_row_column p.row c)) offset ∙ ap (λ (q : Point). spot (clipped_offset t p) q) point
  where
    offset : s + c ≡ clipped_offset t p
    offset = omega (arith, s_is, c_is, clipped_offset_in t p in_text)

    point : at_row_column p.row c ≡ point_at t (clipped_offset t p)
    point = ap (at_row_column p.row) c_is ∙ (sym (clip_in t p in_text) ∙ sym (clipped_at t p).point)

-- a point past the last row goes to the end of the text
pub clipped_behind : (t : List ℕ) (p : Point) → feeds t < p.row → end_of t ≡ spot_in t (clipped_offset t p)
clipped_behind t p past = ap (λ (xs : List ℕ). spot (length t) (extent xs)) (sym (take_all (length t) t (omega arith))) ∙ ap (spot_in t) (sym (clipped_offset_past t p past))
