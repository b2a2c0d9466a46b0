-- Lists of marks stay in rising order of ids, and each mark a range, whatever a call makes of them.
use Rattle.std.proofs.Common.{◌≡◌, ℕ, suc, count_by, if◌then◌else◌, ◌<◌, ◌∙◌, subst, Bool, true, false, refl, List, [], ◌∷◌, ◌++◌, map, length, slice_index_or, nat_lt, ◌==◌, arith}
use Rattle.std.specs.List.{All, AllPairs, filter}
use Rattle.std.proofs.lemmas.Bool.Decides.{nat_tests}
use Rattle.std.proofs.lemmas.List.{get_or-map, length-map}
use Rattle.std.proofs.lemmas.List.Elements.{All-cons, All-append, All-filter, filter_passes}
use Rattle.std.proofs.lemmas.List.Kept.{AllPairs-cons, AllPairs-filter}
use Rattle.std.proofs.lemmas.List.Sums.{length-filter}
use Rattle.points.specs.Point.{point_le}
use Rattle.points.specs.declared.mark.Mark.{Mark}
use Rattle.points.specs.declared.mark.Splice.{Splice}
use Rattle.points.specs.Marks.{moved}
use Rattle.points.specs.MarkList.{AreMarks, IsRange, ids_where, with_mark, without_mark, made_exclusive, with_exclusive, all_moved}
use Rattle.points.proofs.MarkLemmas.{moved_is_ordered}

abbrev ByIds : Mark → Mark → Type 0
ByIds a b = a.id < b.id

-- no mark
pub marks-nil : AreMarks []
marks-nil = record { rising = λ i j d lt within. grind arith; ordered = λ k d within. grind arith }

-- a change of each mark that keeps its id and a range a range
marks-map : (f : Mark → Mark) → ((m : Mark) → (f m).id ≡ m.id) → ((m : Mark) → IsRange m → IsRange (f m)) → (ms : List Mark) → AreMarks ms → AreMarks (map f ms)
marks-map f same_id keeps ms marks = record { rising = rising; ordered = ordered } where
  at : (i : ℕ) (d : Mark) → i < length ms → slice_index_or (map f ms) i d ≡ f (slice_index_or ms i d)
  at i d within = get_or-map f ms i d d within

  len : length (map f ms) ≡ length ms
  len = length-map ms f

  rising : AllPairs ByIds (map f ms)
  rising i j d lt within =
      let inside : j < length ms = subst (λ (n : ℕ). j < n) len within in
      rw (at i d (grind arith)) (rw (at j d inside)
      (rw (same_id (slice_index_or ms i d)) (rw (same_id (slice_index_or ms j d)) (marks.rising i j d lt inside))))

  ordered : All IsRange (map f ms)
  ordered k d within =
      let inside : k < length ms = subst (λ (n : ℕ). k < n) len within in
      rw (at k d inside) (keeps (slice_index_or ms k d) (marks.ordered k d inside))

pub marks-moved : (c : Splice) → point_le c.start c.old_end ≡ true → point_le c.start c.new_end ≡ true → (ms : List Mark) → AreMarks ms → AreMarks (all_moved c ms)
marks-moved c old new ms marks = marks-map (moved c) (λ m. refl) (λ m ordered. moved_is_ordered c m old new ordered) ms marks

made_exclusive_id : (exclusive : Bool) (m : Mark) (test : Bool) → (if test then record m { exclusive = exclusive } else m).id ≡ m.id
made_exclusive_id exclusive m true = refl
made_exclusive_id exclusive m false = refl

made_exclusive_range : (exclusive : Bool) (m : Mark) (test : Bool) → IsRange m → IsRange (if test then record m { exclusive = exclusive } else m)
made_exclusive_range exclusive m true ordered = ordered
made_exclusive_range exclusive m false ordered = ordered

pub marks-exclusive : (id : ℕ) (exclusive : Bool) (ms : List Mark) → AreMarks ms → AreMarks (with_exclusive id exclusive ms)
marks-exclusive id exclusive ms marks = marks-map (made_exclusive id exclusive) (λ m. made_exclusive_id exclusive m (m.id == id))
    (λ m ordered. made_exclusive_range exclusive m (m.id == id) ordered) ms marks

pub marks-without : (id : ℕ) (ms : List Mark) → AreMarks ms → AreMarks (without_mark id ms)
marks-without id ms marks = record { rising = AllPairs-filter ByIds _ ms marks.rising; ordered = All-filter _ IsRange ms marks.ordered }

-- two lists in order, where each of the first comes before each of the second
rising-append : (xs ys : List Mark) → AllPairs ByIds xs → AllPairs ByIds ys → All (λ x. All (ByIds x) ys) xs → AllPairs ByIds (xs ++ ys)
rising-append [] ys first second across = second
rising-append (x ∷ xs) ys first second across = AllPairs-cons ByIds x (xs ++ ys)
    (All-append (ByIds x) xs ys (λ k d within. first 0 (suc k) d (grind arith) (grind arith)) (across 0 x (grind arith)))
    (rising-append xs ys (λ i j d lt within. first (suc i) (suc j) d (grind arith) (grind arith)) second (λ k d within. across (suc k) d (grind arith)))

pub marks-with : (new : Mark) (ms : List Mark) → IsRange new → AreMarks ms → AreMarks (with_mark new ms)
marks-with new ms range marks = record {
  rising = rising-append below (new ∷ above) (AllPairs-filter ByIds _ ms marks.rising)
      (AllPairs-cons ByIds new above all_above (AllPairs-filter ByIds _ ms marks.rising)) across;
  ordered = All-append IsRange below (new ∷ above) (All-filter _ IsRange ms marks.ordered)
      (All-cons IsRange new above range (All-filter _ IsRange ms marks.ordered));
} where
  below : List Mark
  below = filter (λ m. nat_lt m.id new.id) ms

  above : List Mark
  above = filter (λ m. nat_lt new.id m.id) ms

  all_above : All (ByIds new) above
  all_above k d within = let passes = filter_passes (λ (m : Mark). nat_lt new.id m.id) ms k d within in grind (arith, nat_tests)

  across : All (λ x. All (ByIds x) (new ∷ above)) below
  across k d within = let passes = filter_passes (λ (m : Mark). nat_lt m.id new.id) ms k d within in
      let lt : (slice_index_or below k d).id < new.id = grind (arith, nat_tests) in
      All-cons (ByIds (slice_index_or below k d)) new above lt
      (λ n e inside. let further = all_above n e inside in grind arith)

-- as many ids as marks that pass
pub length-ids_where : (test : Mark → Bool) (ms : List Mark) → length (ids_where test ms) ≡ count_by test ms
length-ids_where test ms = length-map (filter test ms) (λ m. m.id) ∙ length-filter test ms
