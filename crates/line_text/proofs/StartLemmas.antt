-- The kept starts of rows: where they stand, and what they are in a text that is put together from others.
use Rattle.std.proofs.Common.{◌≡◌, ℕ, suc, zero, ◌+◌, ◌-◌, ◌<◌, ◌≤◌, List, [], ◌∷◌, ◌++◌, length, take, drop, cond, map, get_or, Bool, true, false, refl, sym, ap, ◌∙◌, inl, inr, arith, length-append}
use Rattle.std.proofs.lemmas.List.{take-append-drop, take_at, drop_at, length-take-le}
use Rattle.std.proofs.lemmas.Bool.{cases_Bool}
use Rattle.std.proofs.lemmas.Bool.Decides.{nat_tests}
use Rattle.points.specs.Text.{is_lf, replaced}
use Rattle.points.specs.Place.{row_start}
use Rattle.points.proofs.ExtentLemmas.{feeds, feeds-cons}
use Rattle.points.proofs.RowLemmas.{row_start_behind_lf, row_start_later}
use Rattle.line_text.specs.Starts.{starts_from, starts_of}

starts-append_unit : (lf : Bool) (n : ℕ) (xs ys zs : List ℕ) → xs ≡ ys ++ zs → cond lf (n ∷ xs) xs ≡ cond lf (n ∷ ys) ys ++ zs
starts-append_unit true n xs ys zs e = ap (λ (rest : List ℕ). n ∷ rest) e
starts-append_unit false n xs ys zs e = e

pub starts-append : (k : ℕ) (a b : List ℕ) → starts_from k (a ++ b) ≡ starts_from k a ++ starts_from (k + length a) b
starts-append k [] b = let e : k ≡ k + 0 = omega arith in ap (λ (n : ℕ). starts_from n b) e
starts-append k (u ∷ us) b = let e : k + 1 + length us ≡ k + suc (length us) = omega arith in
    starts-append_unit (is_lf u) (k + 1) (starts_from (k + 1) (us ++ b)) (starts_from (k + 1) us) (starts_from (k + suc (length us)) b)
    (starts-append (k + 1) us b ∙ ap (λ (n : ℕ). starts_from (k + 1) us ++ starts_from n b) e)

pub length-starts : (k : ℕ) (t : List ℕ) → length (starts_from k t) ≡ feeds t
length-starts k [] = refl
length-starts k (u ∷ us) = grind (arith, nat_tests, feeds-cons u us, length-starts (k + 1) us)

starts-moved_unit : (f : ℕ → ℕ) (lf : Bool) (k n : ℕ) (xs ys : List ℕ) → f k ≡ n → map f xs ≡ ys → map f (cond lf (k ∷ xs) xs) ≡ cond lf (n ∷ ys) ys
starts-moved_unit f true k n xs ys e rest = cc
starts-moved_unit f false k n xs ys e rest = rest

-- the starts of a text that is moved from offset j to offset m
pub starts-moved : (j m k n : ℕ) (t : List ℕ) → j ≤ k → n ≡ k - j + m → map (λ s. s - j + m) (starts_from k t) ≡ starts_from n t
starts-moved j m k n [] le e = refl
starts-moved j m k n (u ∷ us) le e = starts-moved_unit (λ s. s - j + m) (is_lf u) (k + 1) (n + 1) (starts_from (k + 1) us) (starts_from (n + 1) us) (omega arith) (starts-moved j m (k + 1) (n + 1) us (omega arith) (omega arith))

starts_lf : (k u : ℕ) (us : List ℕ) → is_lf u ≡ true → starts_from k (u ∷ us) ≡ (k + 1) ∷ starts_from (k + 1) us
starts_lf k u us lf = rw lf

starts_unit : (k u : ℕ) (us : List ℕ) → is_lf u ≡ false → starts_from k (u ∷ us) ≡ starts_from (k + 1) us
starts_unit k u us no_lf = rw no_lf

start_at_lf : (k u : ℕ) (us : List ℕ) (r : ℕ) → is_lf u ≡ true → r ≤ feeds us → ((p : ℕ) → p < feeds us → get_or (starts_from (k + 1) us) p 0 ≡ k + 1 + row_start us (suc p)) → get_or (starts_from k (u ∷ us)) r 0 ≡ k + row_start (u ∷ us) (suc r)
start_at_lf k u us zero lf within rest = ap (λ (xs : List ℕ). get_or xs 0 0) (starts_lf k u us lf) ∙ omega (arith, row_start_behind_lf u us 0 lf)
start_at_lf k u us (suc r) lf within rest = ap (λ (xs : List ℕ). get_or xs (suc r) 0) (starts_lf k u us lf) ∙ omega (arith, rest r (omega arith), row_start_behind_lf u us (suc r) lf)

-- the kept start of row r + 1 is where it starts
pub start_at : (k : ℕ) (t : List ℕ) (r : ℕ) → r < feeds t → get_or (starts_from k t) r 0 ≡ k + row_start t (suc r)
start_at k [] r lt = absurd (omega arith)
start_at k (u ∷ us) r lt = elim (cases_Bool (is_lf u)) [
  | inl lf ↦ start_at_lf k u us r lf (grind (arith, nat_tests, feeds-cons u us)) (λ p within. start_at (k + 1) us p within)
  | inr no_lf ↦ let within : r < feeds us = grind (arith, nat_tests, feeds-cons u us) in
      ap (λ (xs : List ℕ). get_or xs r 0) (starts_unit k u us no_lf) ∙ omega (arith, start_at (k + 1) us r within, row_start_later u us r no_lf)
]

-- the starts of a text in which the units from offset i up to offset j were replaced by s
pub starts-replaced : (t : List ℕ) (i j : ℕ) (s : List ℕ) → i ≤ length t → starts_of (replaced t i j s) ≡ starts_of (take i t) ++ starts_from i s ++ starts_from (i + length s) (drop j t)
starts-replaced t i j s within = starts-append 0 (take i t ++ s) (drop j t) ∙ (ap (λ (xs : List ℕ). xs ++ starts_from (0 + length (take i t ++ s)) (drop j t)) (starts-append 0 (take i t) s)
    ∙ ap (λ (n : ℕ). starts_of (take i t) ++ starts_from n s ++ starts_from (0 + length (take i t ++ s)) (drop j t)) first
    ∙ ap (λ (n : ℕ). starts_of (take i t) ++ starts_from i s ++ starts_from n (drop j t)) second)
  where
    first : 0 + length (take i t) ≡ i
    first = omega (arith, length-take-le i t within)

    second : 0 + length (take i t ++ s) ≡ i + length s
    second = omega (arith, length-take-le i t within, length-append (take i t) s)

-- the starts of a text's front and back
pub take-starts : (t : List ℕ) (i : ℕ) → i ≤ length t → take (feeds (take i t)) (starts_of t) ≡ starts_of (take i t)
take-starts t i within = ap (λ (xs : List ℕ). take (feeds (take i t)) (starts_of xs)) (sym (take-append-drop i t))
    ∙ (ap (take (feeds (take i t))) (starts-append 0 (take i t) (drop i t)) ∙ take_at (starts_of (take i t)) (starts_from (0 + length (take i t)) (drop i t)) (feeds (take i t)) (length-starts 0 (take i t)))

pub drop-starts : (t : List ℕ) (i : ℕ) → i ≤ length t → drop (feeds (take i t)) (starts_of t) ≡ starts_from i (drop i t)
drop-starts t i within = ap (λ (xs : List ℕ). drop (feeds (take i t)) (starts_of xs)) (sym (take-append-drop i t))
    ∙ (ap (drop (feeds (take i t))) (starts-append 0 (take i t) (drop i t))
    ∙ (drop_at (starts_of (take i t)) (starts_from (0 + length (take i t)) (drop i t)) (feeds (take i t)) (length-starts 0 (take i t))
    ∙ ap (λ (n : ℕ). starts_from n (drop i t)) first))
  where
    first : 0 + length (take i t) ≡ i
    first = omega (arith, length-take-le i t within)
