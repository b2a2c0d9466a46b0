-- What the kept starts of rows tell: a row's start and end, and the row of an offset.
use Rattle.std.proofs.Common.{◌≡◌, ℕ, suc, ◌+◌, ◌-◌, ◌<◌, ◌≤◌, List, length, take, get_or, leb, true, false, ap, ◌∙◌, inl, inr, arith}
use Rattle.std.specs.List.Sorted.{IsPartitionedBy, IsPartitionPoint}
use Rattle.std.proofs.lemmas.List.{get_or_default}
use Rattle.std.proofs.lemmas.Bool.{cases_order, leb-true, leb-false, le-leb}
use Rattle.points.specs.Place.{row_of, row_start}
use Rattle.points.proofs.ExtentLemmas.{feeds}
use Rattle.points.proofs.RowLemmas.{row_start_mono, row_start_next, in_row}
use Rattle.line_text.specs.Starts.{starts_of}
use Rattle.line_text.proofs.StartLemmas.{length-starts, start_at}

module _ (t starts : List ℕ) (kept : starts ≡ starts_of t) where
  pub count_kept : length starts ≡ feeds t
  count_kept = ap length kept ∙ length-starts 0 t

  pub start_kept : (r : ℕ) → r < feeds t → get_or starts r 0 ≡ row_start t (r + 1)
  start_kept r lt = let e : suc r ≡ r + 1 = omega arith in ap (λ (xs : List ℕ). get_or xs r 0) kept ∙ (start_at 0 t r lt ∙ (omega arith ∙ ap (row_start t) e))

  pub start_behind_first : (r : ℕ) → 0 < r → r ≤ feeds t → get_or starts (r - 1) 0 ≡ row_start t r
  start_behind_first r behind_first in_text = let e : r - 1 + 1 ≡ r = omega arith in start_kept (r - 1) (omega arith) ∙ ap (row_start t) e

  pub end_kept : (r : ℕ) → r < feeds t → get_or starts r 0 ≡ row_start t r + length (row_of t r) + 1
  end_kept r lt = start_kept r lt ∙ row_start_next t r (omega arith)

  start_kept_at : (r d : ℕ) → r < feeds t → get_or starts r d ≡ row_start t (r + 1)
  start_kept_at r d lt = get_or_default starts r d 0 (omega (arith, count_kept)) ∙ start_kept r lt

  -- the starts up to an offset come first
  pub starts_partitioned : (i : ℕ) → IsPartitionedBy (λ s. leb s i) starts
  starts_partitioned i a b d le within passes = le-leb (get_or starts a d) i
      (omega (arith, leb-true (get_or starts b d) i passes, start_kept_at a d (omega (arith, count_kept)), start_kept_at b d (omega (arith, count_kept)), row_start_mono t (a + 1) (b + 1) (omega arith)))

  -- there are as many of them as line feeds before the offset
  pub row_found : (i n : ℕ) → i ≤ length t → n ≤ length starts → IsPartitionPoint (λ s. leb s i ≡ true) (λ s. leb s i ≡ false) starts n → n ≡ feeds (take i t)
  row_found i n within bound found = let at = in_row t i within in elim (cases_order n (feeds (take i t))) [
    | inl e ↦ e
    | inr h ↦ elim h [
      | inl low ↦ let above = leb-false (get_or starts n 0) i (found.1 n 0 (omega arith) (omega (arith, count_kept, at.row))) in
          absurd (omega (arith, above, start_kept n (omega (arith, at.row)), row_start_mono t (n + 1) (feeds (take i t)) (omega arith), at.offset))
      | inr high ↦ let below = leb-true (get_or starts (feeds (take i t)) 0) i (found.0 (feeds (take i t)) 0 (omega arith) high) in
          absurd (omega (arith, below, end_kept (feeds (take i t)) (omega (arith, count_kept)), at.column, at.offset))
    ]
  ]
