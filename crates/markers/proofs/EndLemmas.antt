-- The greatest end of a list with one mark more.
use Rattle.std.proofs.Common.{◌≡◌, ◌∙◌, ap, sym, ℕ, ◌+◌, ◌<◌, Bool, true, false, refl, List, [], ◌∷◌, ◌++◌, Option, Some, None, if◌then◌else◌, take, length, slice_index_or, arith}
use Rattle.std.specs.Prelude.{unwrap_or}
use Rattle.std.proofs.lemmas.Bool.Decides.{nat_tests}
use Rattle.points.specs.declared.point.Point.{Point}
use Rattle.points.specs.declared.mark.Mark.{Mark}
use Rattle.points.specs.Point.{point_le, point_lt}
use Rattle.points.specs.MarkList.{later, last_end}
use Rattle.markers.specs.Search.{later_of}
use Rattle.std.proofs.lemmas.List.{take_more}
use Rattle.points.proofs.PointLemmas.{same_coordinates, point_le_antisym, point_le-refl, point_le_trans, point_lt-false, point_le_from_lt}

-- both points stand at the later one or before it, and it is one of them
record IsLater (p q r : Point) : Type 0 where
  first : point_le p r ≡ true
  second : point_le q r ≡ true
  least : (s : Point) → point_le p s ≡ true → point_le q s ≡ true → point_le r s ≡ true

later_is_by : (p q : Point) (before : Bool) → point_lt p q ≡ before → IsLater p q (if before then q else p)
later_is_by p q true lt = record { first = point_le_from_lt p q lt; second = point_le-refl q; least = λ s a b. b }
later_is_by p q false ge = record { first = point_le-refl p; second = point_lt-false p q ge; least = λ s a b. a }

later_is : (p q : Point) → IsLater p q (later p q)
later_is p q = later_is_by p q (point_lt p q) refl

-- it doesn't matter which of two points is taken last
later_swaps : (p q r : Point) → later p (later q r) ≡ later q (later p r)
later_swaps p q r = point_le_antisym _ _ (half p q r) (half q p r) where
  half : (p q r : Point) → point_le (later p (later q r)) (later q (later p r)) ≡ true
  half p q r =
      let inner = later_is p r in
      let outer = later_is q (later p r) in
      let upto = later q (later p r) in
      (later_is p (later q r)).least upto (point_le_trans p (later p r) upto inner.first outer.second)
      ((later_is q r).least upto outer.first (point_le_trans r (later p r) upto inner.second outer.second))

later_itself : (p : Point) → later p p ≡ p
later_itself p = same_coordinates (later p p) p (grind (arith, nat_tests)) (grind (arith, nat_tests))

later_swaps_known : (p q : Point) (known : Option Point) → later p (later q (unwrap_or known q)) ≡ later q (later p (unwrap_or known p))
later_swaps_known p q (Some r) = later_swaps p q r
later_swaps_known p q None = ap (λ (r : Point). later p r) (later_itself q) ∙ later_commutes ∙ ap (λ (r : Point). later q r) (sym (later_itself p)) where
  later_commutes : later p q ≡ later q p
  later_commutes = point_le_antisym _ _ ((later_is p q).least (later q p) (later_is q p).second (later_is q p).first)
      ((later_is q p).least (later p q) (later_is p q).second (later_is p q).first)

pub last_end-more : (ms : List Mark) (m : Mark) → last_end (ms ++ m ∷ []) ≡ Some (later m.end (unwrap_or (last_end ms) m.end))
last_end-more [] m = refl
last_end-more (x ∷ xs) m = ap (λ (known : Option Point). Some (later x.end (unwrap_or known x.end))) (last_end-more xs m)
    ∙ ap (λ (p : Point). Some p) (later_swaps_known x.end m.end (last_end xs))

pub last_more : (ms : List Mark) (i : ℕ) (d : Mark) (known : Option Point) (after : Point) → i < length ms → known ≡ last_end (take i ms)
    → after ≡ later_of known (slice_index_or ms i d).end → Some after ≡ last_end (take (i + 1) ms)
last_more ms i d known after within is after_is = ap (λ (p : Point). Some p) after_is
    ∙ ap (λ (k : Option Point). Some (later (slice_index_or ms i d).end (unwrap_or k (slice_index_or ms i d).end))) is
    ∙ sym (last_end-more (take i ms) (slice_index_or ms i d)) ∙ ap (λ (l : List Mark). last_end l) (sym (take_more ms i d within))
