-- One replacement: the starts of the rows before it, in it and behind it.
use Rattle.std.proofs.Common.{◌≡◌, ℕ, suc, ◌+◌, ◌-◌, ◌<◌, ◌≤◌, ◌^◌, List, ◌++◌, length, take, drop, map, get_or, cond, sym, ap, ◌∙◌, subst, arith, length-drop}
use Rattle.std.proofs.lemmas.List.{take-take, take_at, drop_at, length-take-le, get_or_default, append_assoc}
use Rattle.std.proofs.lemmas.List.Sums.{sum_by-take-le}
use Rattle.points.specs.Text.{is_lf, replaced}
use Rattle.points.specs.Place.{row_start}
use Rattle.points.proofs.ExtentLemmas.{feeds}
use Rattle.points.proofs.RowLemmas.{row_is}
use Rattle.line_text.specs.Starts.{starts_from, starts_of, CanMove}
use Rattle.line_text.proofs.StartLemmas.{length-starts, start_at, starts-moved, starts-replaced, take-starts, drop-starts}

pub feeds-take_mono : (t : List ℕ) (i j : ℕ) → i ≤ j → feeds (take i t) ≤ feeds (take j t)
feeds-take_mono t i j le = subst (λ (xs : List ℕ). feeds xs ≤ feeds (take j t)) (take-take i j t le) (sum_by-take-le (λ u. cond (is_lf u) 1 0) (take j t) i)

pub feeds-take-le : (t : List ℕ) (i : ℕ) → feeds (take i t) ≤ feeds t
feeds-take-le t i = sum_by-take-le (λ u. cond (is_lf u) 1 0) t i

-- starts stand behind the offset of the text, within it
pub starts_stand : (k : ℕ) (t : List ℕ) (r d : ℕ) → r < length (starts_from k t) → (k ≤ get_or (starts_from k t) r d) × (get_or (starts_from k t) r d ≤ k + length t)
starts_stand k t r d lt = (omega (arith, at), omega (arith, at, (row_is t (suc r) (omega (arith, length-starts k t))).within))
  where
    at : get_or (starts_from k t) r d ≡ k + row_start t (suc r)
    at = get_or_default (starts_from k t) r d 0 lt ∙ start_at k t r (omega (arith, length-starts k t))

pub can_move : (t starts : List ℕ) (j to last : ℕ) → starts ≡ starts_of t → j ≤ length t → last ≡ feeds (take j t) → length t - j + to < 2 ^ 32 → CanMove j to (drop last starts)
can_move t starts j to last kept within last_is small = subst (CanMove j to) (sym tail) record {
  behind = λ k d lt. (starts_stand j (drop j t) k d lt).0;
  small = λ k d lt. omega (arith, (starts_stand j (drop j t) k d lt).1, length-drop j t);
}
  where
    tail : drop last starts ≡ starts_from j (drop j t)
    tail = ap (λ (n : ℕ). drop n starts) last_is ∙ (ap (drop (feeds (take j t))) kept ∙ drop-starts t j within)

-- the new units stand in the new text where they were written
pub written_is : (t : List ℕ) (i j n : ℕ) (s units : List ℕ) → i ≤ length t → n ≡ length s → units ≡ replaced t i j s → take (i + n - i) (drop i units) ≡ s
written_is t i j n s units within len e = ap (λ (xs : List ℕ). take (i + n - i) (drop i xs)) e
    ∙ (ap (λ (xs : List ℕ). take (i + n - i) (drop i xs)) (append_assoc (take i t) s (drop j t))
    ∙ (ap (take (i + n - i)) (drop_at (take i t) (s ++ drop j t) i (length-take-le i t within)) ∙ take_at s (drop j t) (i + n - i) (omega arith)))

pub starts_edited : (t starts s written : List ℕ) (i j first last : ℕ) → starts ≡ starts_of t → i ≤ j → j ≤ length t → first ≡ feeds (take i t) → last ≡ feeds (take j t) → written ≡ s
    → take first starts ++ starts_from i written ++ map (λ x. x - j + (i + length written)) (drop last starts) ≡ starts_of (replaced t i j s)
starts_edited t starts s written i j first last kept order within first_is last_is written_s =
    ap (λ (xs : List ℕ). xs ++ starts_from i written ++ map (λ x. x - j + (i + length written)) (drop last starts)) head
    ∙ (ap (λ (xs : List ℕ). starts_of (take i t) ++ starts_from i xs ++ map (λ x. x - j + (i + length xs)) (drop last starts)) written_s
    ∙ (ap (λ (xs : List ℕ). starts_of (take i t) ++ starts_from i s ++ xs) tail ∙ sym (starts-replaced t i j s (omega arith))))
  where
    head : take first starts ≡ starts_of (take i t)
    head = ap (λ (n : ℕ). take n starts) first_is ∙ (ap (take (feeds (take i t))) kept ∙ take-starts t i (omega arith))

    tail : map (λ x. x - j + (i + length s)) (drop last starts) ≡ starts_from (i + length s) (drop j t)
    tail = ap (map (λ x. x - j + (i + length s))) (ap (λ (n : ℕ). drop n starts) last_is ∙ (ap (drop (feeds (take j t))) kept ∙ drop-starts t j within))
        ∙ starts-moved j (i + length s) j (i + length s) (drop j t) (omega arith) (omega arith)
