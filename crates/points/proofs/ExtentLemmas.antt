-- The extent of a text that is put together from others.
use Rattle.std.proofs.Common.{◌≡◌, ℕ, ◌+◌, ◌<◌, List, [], ◌∷◌, ◌++◌, length, cond, eqb, Bool, not, count_by, refl, ap, ◌∙◌, arith, reverse}
use Rattle.std.specs.List.{suffix_len, prefix_len}
use Rattle.std.proofs.lemmas.List.{reverse-append, length-reverse}
use Rattle.std.proofs.lemmas.Grind.{reverse_onto}
use Rattle.std.proofs.lemmas.List.Sums.{sum_by-append, sum_by-cons, prefix_len-le-length}
use Rattle.std.proofs.lemmas.List.Folds.{prefix_len-append}
use Rattle.std.proofs.lemmas.Bool.Decides.{nat_tests}
use Rattle.points.specs.Point.{traverse}
use Rattle.points.specs.Text.{is_lf}
use Rattle.points.specs.Place.{extent}

abbrev pub is_no_lf : ℕ → Bool
is_no_lf u = not (is_lf u)

-- how many line feeds a text has, and how many units behind the last
abbrev pub feeds : List ℕ → ℕ
feeds t = count_by is_lf t

abbrev pub behind : List ℕ → ℕ
behind t = suffix_len is_no_lf t

pub feeds-append : (a b : List ℕ) → feeds (a ++ b) ≡ feeds a + feeds b
feeds-append a b = sum_by-append (λ u. cond (is_lf u) 1 0) a b

pub feeds-cons : (u : ℕ) (us : List ℕ) → feeds (u ∷ us) ≡ cond (is_lf u) 1 0 + feeds us
feeds-cons u us = sum_by-cons (λ u. cond (is_lf u) 1 0) u us

pub feeds-reverse : (t : List ℕ) → feeds (reverse t) ≡ feeds t
feeds-reverse [] = refl
feeds-reverse (u ∷ us) = rw (reverse_onto us u []) (omega (arith, feeds-append (reverse us) (u ∷ []), feeds-cons u us, feeds-cons u [], feeds-reverse us))

-- with no line feed every unit is behind the last; with one not every unit is
prefix_len_whole : (t : List ℕ) → feeds t ≡ 0 → prefix_len is_no_lf t ≡ length t
prefix_len_whole [] none = refl
prefix_len_whole (u ∷ us) none = grind (arith, nat_tests, feeds-cons u us, prefix_len_whole us)

prefix_len_part : (t : List ℕ) → 0 < feeds t → prefix_len is_no_lf t < length t
prefix_len_part [] some_lf = omega arith
prefix_len_part (u ∷ us) some_lf = grind (arith, nat_tests, feeds-cons u us, prefix_len_part us, prefix_len-le-length is_no_lf us)

pub behind_whole : (t : List ℕ) → feeds t ≡ 0 → behind t ≡ length t
behind_whole t none = prefix_len_whole (reverse t) (feeds-reverse t ∙ none) ∙ length-reverse t

pub behind_part : (t : List ℕ) → 0 < feeds t → behind t < length t
behind_part t some_lf = omega (arith, length-reverse t, prefix_len_part (reverse t) (omega (arith, feeds-reverse t)))

behind-append_at : (a b : List ℕ) → behind (a ++ b) ≡ cond (eqb (behind b) (length b)) (length b + behind a) (behind b)
behind-append_at a b = rw (reverse-append a b) (prefix_len-append is_no_lf (reverse b) (reverse a) ∙ ap (λ n. cond (eqb (behind b) n) (n + behind a) (behind b)) (length-reverse b))

pub behind-append : (a b : List ℕ) → behind (a ++ b) ≡ cond (eqb (feeds b) 0) (behind a + length b) (behind b)
behind-append a b = grind (arith, nat_tests, behind-append_at a b, behind_whole b, behind_part b)

-- the extent of two texts in a row is the traverse of their extents
pub extent-append : (a b : List ℕ) → extent (a ++ b) ≡ traverse (extent a) (extent b)
extent-append a b = grind (arith, nat_tests, feeds-append a b, behind-append a b, behind_whole b)
