-- A part of a text with its starts, and a text with a part put at its end.
use Rattle.std.proofs.Common.{◌≡◌, ℕ, ◌+◌, ◌-◌, ◌<◌, ◌≤◌, ◌^◌, List, ◌++◌, length, take, drop, map, sym, ap, ◌∙◌, subst, arith, length-drop}
use Rattle.std.proofs.lemmas.List.{take-append-drop, take_at, take-take, drop-take, length-take-le}
use Rattle.points.proofs.ExtentLemmas.{feeds, feeds-append}
use Rattle.line_text.specs.Starts.{starts_from, starts_of, CanMove}
use Rattle.line_text.proofs.StartLemmas.{length-starts, starts-append, starts-moved, drop-starts}
use Rattle.line_text.proofs.ReplaceLemmas.{starts_stand}

-- the starts in the front of a text that stands at offset k
take_first : (k n : ℕ) (t : List ℕ) → take (feeds (take n t)) (starts_from k t) ≡ starts_from k (take n t)
take_first k n t = ap (λ (xs : List ℕ). take (feeds (take n t)) (starts_from k xs)) (sym (take-append-drop n t))
    ∙ (ap (take (feeds (take n t))) (starts-append k (take n t) (drop n t))
    ∙ take_at (starts_from k (take n t)) (starts_from (k + length (take n t)) (drop n t)) (feeds (take n t)) (length-starts k (take n t)))

-- as many line feeds stand before offset j as before offset i and from there to j
feeds_between : (t : List ℕ) (i j : ℕ) → i ≤ j → feeds (take j t) ≡ feeds (take i t) + feeds (take (j - i) (drop i t))
feeds_between t i j le = let e : j ≡ i + (j - i) = omega arith in ap feeds (sym (take-append-drop i (take j t)))
    ∙ (feeds-append (take i (take j t)) (drop i (take j t))
    ∙ (ap (λ (xs : List ℕ). feeds xs + feeds (drop i (take j t))) (take-take i j t le)
    ∙ (ap (λ (n : ℕ). feeds (take i t) + feeds (drop i (take n t))) e
    ∙ ap (λ (xs : List ℕ). feeds (take i t) + feeds xs) (drop-take i (j - i) t))))

pub part_starts : (t starts : List ℕ) (i j first last : ℕ) → starts ≡ starts_of t → i ≤ j → j ≤ length t → first ≡ feeds (take i t) → last ≡ feeds (take j t)
    → take (last - first) (drop first starts) ≡ starts_from i (take (j - i) (drop i t))
part_starts t starts i j first last kept order within first_is last_is =
    ap (λ (xs : List ℕ). take (last - first) (drop first xs)) kept
    ∙ (ap (λ (n : ℕ). take (last - first) (drop n (starts_of t))) first_is
    ∙ (ap (take (last - first)) (drop-starts t i (omega arith))
    ∙ (ap (λ (n : ℕ). take n (starts_from i (drop i t))) count ∙ take_first i (j - i) (drop i t))))
  where
    count : last - first ≡ feeds (take (j - i) (drop i t))
    count = omega (arith, first_is, last_is, feeds_between t i j order)

pub part_within : (t : List ℕ) (i j m : ℕ) → i ≤ j → j ≤ length t → length t ≤ m → i + length (take (j - i) (drop i t)) ≤ m
part_within t i j m order within short = let here : j - i ≤ length (drop i t) = omega (arith, length-drop i t) in
    omega (arith, length-take-le (j - i) (drop i t) here)

pub part_can_move : (k : ℕ) (more starts : List ℕ) (to : ℕ) → starts ≡ starts_from k more → length more + to < 2 ^ 32 → CanMove k to starts
part_can_move k more starts to kept small = subst (CanMove k to) (sym kept) record {
  behind = λ i d lt. (starts_stand k more i d lt).0;
  small = λ i d lt. omega (arith, (starts_stand k more i d lt).1);
}

pub appended_starts : (t starts more more_starts : List ℕ) (k to : ℕ) → starts ≡ starts_of t → more_starts ≡ starts_from k more → to ≡ length t
    → starts ++ map (λ s. s - k + to) more_starts ≡ starts_of (t ++ more)
appended_starts t starts more more_starts k to kept more_kept here = ap (λ (xs : List ℕ). xs ++ map (λ s. s - k + to) more_starts) kept
    ∙ (ap (λ (xs : List ℕ). starts_of t ++ xs) (ap (map (λ s. s - k + to)) more_kept ∙ starts-moved k to k (0 + length t) more (omega arith) (omega arith))
    ∙ sym (starts-append 0 t more))
