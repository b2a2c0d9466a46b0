-- The starts of a patch's changes rise, and so do their ends, on both sides.
use Rattle.std.proofs.Common.{◌≡◌, ℕ, suc, zero, ◌+◌, ◌<◌, ◌≤◌, List, [], ◌∷◌, length, get_or, true, false, ◌&&◌, not, None, arith}
use Rattle.std.specs.List.{All}
use Rattle.std.specs.List.Sorted.{IsPartitionedBy, IsPartitionPoint}
use Rattle.std.proofs.lemmas.Bool.{and_parts, both_ways, false_from_ne_true, not-true, not_from_false, not-false, and_from, and_left, and_right}
use Rattle.points.specs.declared.point.Point.{Point}
use Rattle.points.specs.Point.{origin, point_le}
use Rattle.points.proofs.PointLemmas.{point_le_trans, point_le-refl}
use Rattle.patch.specs.Hunk.{hunk_of, hunks_of}
use Rattle.patch.specs.ChangeList.{fault_at, fault_from, IsOrdered, IsPatch}
use Rattle.patch.specs.declared.change.Change.{Change}
use Rattle.patch.proofs.ListLemmas.{sound_from, both_none}
use Rattle.patch.proofs.SearchLemmas.{IsBetween}

-- each range begins behind the end of the one before it, or at it
abbrev pub IsChain : (Change → Point) → (Change → Point) → Point → List Change → Type 0
IsChain start end a [] = Unit {0}
IsChain start end a (c ∷ cs) = (point_le a (start c) ≡ true) × (point_le (start c) (end c) ≡ true) × IsChain start end (end c) cs

pub ordered_all : (cs : List Change) → All IsOrdered (hunks_of cs)
ordered_all [] k d lt = absurd (omega arith)
ordered_all (c ∷ cs) zero d lt = (c.old_range.ordered, c.new_range.ordered)
ordered_all (c ∷ cs) (suc k) d lt = ordered_all cs k d (omega arith)

abbrev pub old_start_of : Change → Point
old_start_of c = c.old_range.start

abbrev pub old_end_of : Change → Point
old_end_of c = c.old_range.end

abbrev pub new_start_of : Change → Point
new_start_of c = c.new_range.start

abbrev pub new_end_of : Change → Point
new_end_of c = c.new_range.end

old_chain_from : (at : ℕ) (a b : Point) (cs : List Change) → fault_from at a b (hunks_of cs) ≡ None → IsChain old_start_of old_end_of a cs
old_chain_from at a b [] none = tt
old_chain_from at a b (c ∷ cs) none = let parts = both_none (fault_at at a b (hunk_of c)) _ none in let s = sound_from at a b (hunk_of c) parts.0 in
    ((and_parts (point_le a c.old_range.start) (point_le b c.new_range.start) s.behind).0, c.old_range.ordered, old_chain_from (at + 1) c.old_range.end c.new_range.end cs parts.1)

new_chain_from : (at : ℕ) (a b : Point) (cs : List Change) → fault_from at a b (hunks_of cs) ≡ None → IsChain new_start_of new_end_of b cs
new_chain_from at a b [] none = tt
new_chain_from at a b (c ∷ cs) none = let parts = both_none (fault_at at a b (hunk_of c)) _ none in let s = sound_from at a b (hunk_of c) parts.0 in
    ((and_parts (point_le a c.old_range.start) (point_le b c.new_range.start) s.behind).1, c.new_range.ordered, new_chain_from (at + 1) c.old_range.end c.new_range.end cs parts.1)

pub old_chain : (cs : List Change) → IsPatch (hunks_of cs) → IsChain old_start_of old_end_of origin cs
old_chain cs h = old_chain_from 0 origin origin cs h.0

pub new_chain : (cs : List Change) → IsPatch (hunks_of cs) → IsChain new_start_of new_end_of origin cs
new_chain cs h = new_chain_from 0 origin origin cs h.0

module _ (start end : Change → Point) where
  start_behind : (a : Point) (cs : List Change) (k : ℕ) (d : Change) → IsChain start end a cs → k < length cs → point_le a (start (get_or cs k d)) ≡ true
  start_behind a [] k d h lt = absurd (omega arith)
  start_behind a (c ∷ cs) zero d h lt = h.0
  start_behind a (c ∷ cs) (suc k) d h lt = point_le_trans a (start c) (start (get_or cs k d)) h.0 (point_le_trans (start c) (end c) (start (get_or cs k d)) h.1 (start_behind (end c) cs k d h.2 (omega arith)))

  end_behind : (a : Point) (cs : List Change) (k : ℕ) (d : Change) → IsChain start end a cs → k < length cs → point_le a (end (get_or cs k d)) ≡ true
  end_behind a [] k d h lt = absurd (omega arith)
  end_behind a (c ∷ cs) zero d h lt = point_le_trans a (start c) (end c) h.0 h.1
  end_behind a (c ∷ cs) (suc k) d h lt = point_le_trans a (end c) (end (get_or cs k d)) (point_le_trans a (start c) (end c) h.0 h.1) (end_behind (end c) cs k d h.2 (omega arith))

  pub starts_rise : (a : Point) (cs : List Change) (i j : ℕ) (d : Change) → IsChain start end a cs → i ≤ j → j < length cs → point_le (start (get_or cs i d)) (start (get_or cs j d)) ≡ true
  starts_rise a [] i j d h le lt = absurd (omega arith)
  starts_rise a (c ∷ cs) zero zero d h le lt = point_le-refl (start c)
  starts_rise a (c ∷ cs) zero (suc j) d h le lt = point_le_trans (start c) (end c) (start (get_or cs j d)) h.1 (start_behind (end c) cs j d h.2 (omega arith))
  starts_rise a (c ∷ cs) (suc i) zero d h le lt = absurd (omega arith)
  starts_rise a (c ∷ cs) (suc i) (suc j) d h le lt = starts_rise (end c) cs i j d h.2 (omega arith) (omega arith)

  pub ends_rise : (a : Point) (cs : List Change) (i j : ℕ) (d : Change) → IsChain start end a cs → i ≤ j → j < length cs → point_le (end (get_or cs i d)) (end (get_or cs j d)) ≡ true
  ends_rise a [] i j d h le lt = absurd (omega arith)
  ends_rise a (c ∷ cs) zero zero d h le lt = point_le-refl (end c)
  ends_rise a (c ∷ cs) zero (suc j) d h le lt = end_behind (end c) cs j d h.2 (omega arith)
  ends_rise a (c ∷ cs) (suc i) zero d h le lt = absurd (omega arith)
  ends_rise a (c ∷ cs) (suc i) (suc j) d h le lt = ends_rise (end c) cs i j d h.2 (omega arith) (omega arith)

  -- those that start at the point or before it come first
  pub starts_partitioned : (a point : Point) (cs : List Change) → IsChain start end a cs → IsPartitionedBy (λ c. point_le (start c) point) cs
  starts_partitioned a point cs h i j d le lt passes = point_le_trans (start (get_or cs i d)) (start (get_or cs j d)) point (starts_rise a cs i j d h le lt) passes

  -- and those that end before it
  pub ends_partitioned : (a point : Point) (cs : List Change) → IsChain start end a cs → IsPartitionedBy (λ c. not (point_le point (end c))) cs
  ends_partitioned a point cs h i j d le lt before = not_from_false (point_le point (end (get_or cs i d))) (false_from_ne_true (point_le point (end (get_or cs i d))) (λ reaches.
      both_ways (point_le point (end (get_or cs j d))) (not-true (point_le point (end (get_or cs j d))) before) (point_le_trans point (end (get_or cs i d)) (end (get_or cs j d)) reaches (ends_rise a cs i j d h le lt))))

  -- the changes that touch a range stand between the two places that halving finds
  pub touching_between : (low high : Point) (cs : List Change) (first stop : ℕ) → first ≤ length cs → stop ≤ length cs
      → IsPartitionPoint (λ c. not (point_le low (end c)) ≡ true) (λ c. not (point_le low (end c)) ≡ false) cs first
      → IsPartitionPoint (λ c. point_le (start c) high ≡ true) (λ c. point_le (start c) high ≡ false) cs stop
      → IsBetween (λ c. point_le (start c) high && point_le low (end c)) cs first stop
  touching_between low high cs first stop first_in stop_in ends starts = record {
    first_in = first_in;
    stop_in = stop_in;
    inside = λ k d from_first below_stop. and_from (point_le (start (get_or cs k d)) high) (point_le low (end (get_or cs k d))) (starts.0 k d (omega arith) below_stop) (not-false (point_le low (end (get_or cs k d))) (ends.1 k d from_first (omega (arith, stop_in))));
    before = λ k d below_first. and_right (point_le (start (get_or cs k d)) high) (point_le low (end (get_or cs k d))) (not-true (point_le low (end (get_or cs k d))) (ends.0 k d (omega arith) below_first));
    after = λ k d from_stop lt. and_left (point_le (start (get_or cs k d)) high) (point_le low (end (get_or cs k d))) (starts.1 k d from_stop lt);
  }
