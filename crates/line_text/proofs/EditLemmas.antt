-- One replacement in place: the kept starts, written and moved item by item.
use Rattle.std.proofs.Common.{◌≡◌, ℕ, ◌+◌, ◌<◌, List, [], ◌∷◌, ◌++◌, length, take, drop, map, set, get_or, cond, Bool, refl, sym, ap, ◌∙◌, subst, arith}
use Rattle.std.proofs.lemmas.List.Sums.{count_by_more_yes, count_by_more_no, sum_by-take-le}
use Rattle.std.proofs.lemmas.List.{append-nil, take_more, take_more_set, map_more, get_or-drop, length-take-le}
use Rattle.std.proofs.lemmas.Bool.{eq-eqb, ne_eqb}
use Rattle.points.specs.Text.{is_lf}
use Rattle.points.proofs.ExtentLemmas.{feeds}
use Rattle.line_text.specs.Starts.{starts_from}
use Rattle.line_text.proofs.StartLemmas.{starts-append}

-- lists with the same rest have the same next item
same_next : (xs ys : List ℕ) (i : ℕ) → drop i xs ≡ drop i ys → get_or xs i 0 ≡ get_or ys i 0
same_next xs ys i e = let at : i + 0 ≡ i = omega arith in
    subst (λ (k : ℕ). get_or xs k 0 ≡ get_or ys k 0) at (sym (get_or-drop i xs 0 0) ∙ (ap (λ (zs : List ℕ). get_or zs 0 0) e ∙ get_or-drop i ys 0 0))

pub moved_more : (f : ℕ → ℕ) (xs ys : List ℕ) (i : ℕ) → i < length xs → i < length ys → take i ys ≡ map f (take i xs) → drop i ys ≡ drop i xs → take (i + 1) (set ys i (f (get_or ys i 0))) ≡ map f (take (i + 1) xs)
moved_more f xs ys i x_in y_in moved rest = take_more_set ys i (f (get_or ys i 0)) y_in
    ∙ (ap (λ (zs : List ℕ). zs ++ f (get_or ys i 0) ∷ []) moved
    ∙ (ap (λ (n : ℕ). map f (take i xs) ++ f n ∷ []) (same_next ys xs i rest) ∙ sym (map_more f xs i 0 x_in)))

pub next_item : (xs ys : List ℕ) (i : ℕ) → drop i ys ≡ drop i xs → get_or ys i 0 ≡ get_or xs i 0
next_item xs ys i rest = same_next ys xs i rest

-- the starts of one unit more
pub starts_more : (base : ℕ) (t : List ℕ) (i : ℕ) → i < length t → starts_from base (take (i + 1) t) ≡ starts_from base (take i t) ++ starts_from (base + i) (get_or t i 0 ∷ [])
starts_more base t i within = ap (starts_from base) (take_more t i 0 within) ∙ (starts-append base (take i t) (get_or t i 0 ∷ []) ∙ ap (λ (n : ℕ). starts_from base (take i t) ++ starts_from (base + n) (get_or t i 0 ∷ [])) (length-take-le i t (omega arith)))

pub starts_one_lf : (n u : ℕ) → u ≡ 10 → starts_from n (u ∷ []) ≡ (n + 1) ∷ []
starts_one_lf n u e = subst (λ (x : ℕ). starts_from n (x ∷ []) ≡ (n + 1) ∷ []) (sym e) refl

pub starts_one_other : (n u : ℕ) → (u ≡ 10 → ⊥) → starts_from n (u ∷ []) ≡ []
starts_one_other n u ne = ap (λ (lf : Bool). cond lf ((n + 1) ∷ []) []) (ne_eqb u 10 ne)

-- the starts of the first i units stand in the first `at` places
pub record IsWritten (base : ℕ) (units : List ℕ) (i : ℕ) (into : List ℕ) (at : ℕ) : Type 0 where
  pub counted : at ≡ feeds (take i units)
  pub written : take at into ≡ starts_from base (take i units)

pub written_lf : (base : ℕ) (units : List ℕ) (i : ℕ) (into : List ℕ) (at behind : ℕ) → i < length units → get_or units i 0 ≡ 10 → behind ≡ base + i + 1 → length into ≡ feeds units → IsWritten base units i into at → IsWritten base units (i + 1) (set into at behind) (at + 1)
written_lf base units i into at behind within lf e fits h = record {
  counted = omega (arith, h.counted, one_more);
  written = take_more_set into at behind (omega (arith, h.counted, one_more, sum_by-take-le (λ u. cond (is_lf u) 1 0) units (i + 1)))
      ∙ (ap (λ (xs : List ℕ). xs ++ behind ∷ []) h.written ∙ (ap (λ (n : ℕ). starts_from base (take i units) ++ n ∷ []) e
      ∙ sym (starts_more base units i within ∙ ap (λ (xs : List ℕ). starts_from base (take i units) ++ xs) (starts_one_lf (base + i) (get_or units i 0) lf))));
}
  where
    one_more : feeds (take (i + 1) units) ≡ feeds (take i units) + 1
    one_more = count_by_more_yes is_lf units i 0 within (eq-eqb (get_or units i 0) 10 lf)

pub written_other : (base : ℕ) (units : List ℕ) (i : ℕ) (into : List ℕ) (at : ℕ) → i < length units → (get_or units i 0 ≡ 10 → ⊥) → IsWritten base units i into at → IsWritten base units (i + 1) into at
written_other base units i into at within no_lf h = record {
  counted = h.counted ∙ sym (count_by_more_no is_lf units i 0 within (ne_eqb (get_or units i 0) 10 no_lf));
  written = h.written ∙ sym (starts_more base units i within ∙ (ap (λ (xs : List ℕ). starts_from base (take i units) ++ xs) (starts_one_other (base + i) (get_or units i 0) no_lf) ∙ append-nil (starts_from base (take i units))));
}
