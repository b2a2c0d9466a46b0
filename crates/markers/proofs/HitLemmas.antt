-- The ids of the marks that pass a test, of a list with one mark more.
use Rattle.std.proofs.Common.{◌≡◌, ◌∙◌, ap, sym, subst, ℕ, ◌+◌, ◌<◌, ◌≤◌, Bool, true, false, refl, List, [], ◌∷◌, take, length, slice_index_or, if◌then◌else◌, cond, arith}
use Rattle.std.specs.List.{filter}
use Rattle.std.proofs.lemmas.List.{length-map, length-append, length-take, get_or_default}
use Rattle.std.proofs.lemmas.List.Elements.{filter_more}
use Rattle.std.proofs.lemmas.List.Sums.{count_by-le-length}
use Rattle.points.specs.declared.mark.Mark.{Mark}
use Rattle.points.specs.declared.mark.Splice.{Splice}
use Rattle.points.specs.declared.mark.HitCounts.{HitCounts}
use Rattle.points.specs.Marks.{touches, is_inside, overlaps, surrounds}
use Rattle.points.specs.MarkList.{ids_where, hit_counts}
use Rattle.points.proofs.MarkListLemmas.{length-ids_where}

length_chosen : (m : Mark) (passes : Bool) → length (cond passes (m ∷ []) []) ≡ (if passes then 1 else 0)
length_chosen m true = refl
length_chosen m false = refl

-- one id more where the next mark passes
pub ids_more : (test : Mark → Bool) (ms : List Mark) (i : ℕ) (m : Mark) → i < length ms → slice_index_or ms i m ≡ m
    → length (ids_where test (take (i + 1) ms)) ≡ length (ids_where test (take i ms)) + (if test m then 1 else 0)
ids_more test ms i m within at =
    length-map (filter test (take (i + 1) ms)) (λ m. m.id)
    ∙ ap (λ (l : List Mark). length l) (filter_more test ms i m within)
    ∙ length-append (filter test (take i ms)) (cond (test (slice_index_or ms i m)) (slice_index_or ms i m ∷ []) [])
    ∙ ap (λ (x : Mark). length (filter test (take i ms)) + length (cond (test x) (x ∷ []) [])) at
    ∙ ap (λ (n : ℕ). length (filter test (take i ms)) + n) (length_chosen m (test m))
    ∙ ap (λ (n : ℕ). n + (if test m then 1 else 0)) (sym (length-map (filter test (take i ms)) (λ m. m.id)))

-- no more ids than marks
pub ids_within : (test : Mark → Bool) (ms : List Mark) (i : ℕ) → length (ids_where test (take i ms)) ≤ i
ids_within test ms i = grind (arith, length-ids_where test (take i ms), count_by-le-length test (take i ms), length-take i ms)

counts_by : ℕ → ℕ → ℕ → ℕ → HitCounts
counts_by a b c d = record { touch = a; inside = b; overlap = c; surround = d }

same_counts : (p q : HitCounts) → p.touch ≡ q.touch → p.inside ≡ q.inside → p.overlap ≡ q.overlap → p.surround ≡ q.surround → p ≡ q
unfolding counts_by
same_counts p q a b c d = ap (λ (n : ℕ). counts_by n p.inside p.overlap p.surround) a ∙ ap (λ (n : ℕ). counts_by q.touch n p.overlap p.surround) b
    ∙ ap (λ (n : ℕ). counts_by q.touch q.inside n p.surround) c ∙ ap (λ (n : ℕ). counts_by q.touch q.inside q.overlap n) d

-- one mark more is counted in the sets that it is in
pub counts_more : (c : Splice) (ms : List Mark) (i : ℕ) (d : Mark) (counts after : HitCounts) → i < length ms → counts ≡ hit_counts c (take i ms)
    → after.touch ≡ counts.touch + (if touches c (slice_index_or ms i d) then 1 else 0)
    → after.inside ≡ counts.inside + (if is_inside c (slice_index_or ms i d) then 1 else 0)
    → after.overlap ≡ counts.overlap + (if overlaps c (slice_index_or ms i d) then 1 else 0)
    → after.surround ≡ counts.surround + (if surrounds c (slice_index_or ms i d) then 1 else 0)
    → after ≡ hit_counts c (take (i + 1) ms)
counts_more c ms i d counts after within is touch inside overlap surround = same_counts after (hit_counts c (take (i + 1) ms))
    (touch ∙ more (λ (k : HitCounts). k.touch) (touches c) refl) (inside ∙ more (λ (k : HitCounts). k.inside) (is_inside c) refl)
    (overlap ∙ more (λ (k : HitCounts). k.overlap) (overlaps c) refl) (surround ∙ more (λ (k : HitCounts). k.surround) (surrounds c) refl) where
      more : (field : HitCounts → ℕ) (test : Mark → Bool) → field (hit_counts c (take i ms)) ≡ length (ids_where test (take i ms))
          → field counts + (if test (slice_index_or ms i d) then 1 else 0) ≡ length (ids_where test (take (i + 1) ms))
      more field test of = ap (λ (k : HitCounts). field k + (if test (slice_index_or ms i d) then 1 else 0)) is
          ∙ ap (λ (n : ℕ). n + (if test (slice_index_or ms i d) then 1 else 0)) of
          ∙ sym (ids_more test ms i (slice_index_or ms i d) within (get_or_default ms i _ _ within))

-- no count passes the number of marks
pub record CountsWithin (n : ℕ) (counts : HitCounts) : Type 0 where
  pub touch : counts.touch ≤ n
  pub inside : counts.inside ≤ n
  pub overlap : counts.overlap ≤ n
  pub surround : counts.surround ≤ n

pub counts_within : (c : Splice) (ms : List Mark) (i : ℕ) (counts : HitCounts) → counts ≡ hit_counts c (take i ms) → CountsWithin i counts
counts_within c ms i counts is = subst (λ (k : HitCounts). CountsWithin i k) (sym is)
    (record { touch = ids_within (touches c) ms i; inside = ids_within (is_inside c) ms i; overlap = ids_within (overlaps c) ms i; surround = ids_within (surrounds c) ms i })
