-- What a search by id finds, in the words of the calls on a list of marks.
use Rattle.std.proofs.Common.{◌≡◌, ◌∙◌, ap, sym, subst, ℕ, suc, ◌+◌, ◌<◌, ◌≤◌, ◌≢◌, Bool, true, false, refl, not, ◌==◌, nat_lt, List, [], ◌∷◌, ◌++◌, map, take, drop, drop-cons, set, length, slice_index_or, find, cond, Option, Some, None, insert, remove, arith}
use Rattle.std.specs.List.{All, AllWithin, filter}
use Rattle.std.specs.List.Sorted.{IsPartitionedBy}
use Rattle.std.proofs.lemmas.Bool.Decides.{nat_tests}
use Rattle.std.proofs.lemmas.Option.{same_Some, none-some}
use Rattle.std.proofs.lemmas.List.{append-nil, map-append, take-append-drop, get_or-take, get_or-drop, length-take-le, length-drop, set_split}
use Rattle.std.proofs.lemmas.List.Elements.{All-tail, All-weaker, filter-append}
use Rattle.points.specs.declared.point.Point.{Point}
use Rattle.points.specs.declared.range.Range.{Range}
use Rattle.points.specs.declared.mark.Mark.{Mark}
use Rattle.points.specs.MarkList.{AreMarks, mark_with, with_mark, without_mark, made_exclusive, with_exclusive}
use Rattle.markers.specs.Search.{StandsAt, IsGap, mark_seen}

-- lists all of which pass a test, or none
filter_all : (p : Mark → Bool) (ms : List Mark) → All (λ m. p m ≡ true) ms → filter p ms ≡ ms
filter_all p [] pass = refl
filter_all p (m ∷ ms) pass = let at_head : p m ≡ true = pass 0 m (grind arith) in rw (at_head) (ap (λ (l : List Mark). m ∷ l) (filter_all p ms (All-tail (λ (x : Mark). p x ≡ true) m ms pass)))

filter_none : (p : Mark → Bool) (ms : List Mark) → All (λ m. p m ≡ false) ms → filter p ms ≡ []
filter_none p [] fail = refl
filter_none p (m ∷ ms) fail = let at_head : p m ≡ false = fail 0 m (grind arith) in rw (at_head) (filter_none p ms (All-tail (λ (x : Mark). p x ≡ false) m ms fail))

find_none : (p : Mark → Bool) (ms : List Mark) → All (λ m. p m ≡ false) ms → find p ms ≡ None
find_none p [] fail = refl
find_none p (m ∷ ms) fail = let at_head : p m ≡ false = fail 0 m (grind arith) in rw (at_head) (find_none p ms (All-tail (λ (x : Mark). p x ≡ false) m ms fail))

find_behind : (p : Mark → Bool) (xs ys : List Mark) → All (λ m. p m ≡ false) xs → find p (xs ++ ys) ≡ find p ys
find_behind p [] ys fail = refl
find_behind p (m ∷ ms) ys fail = let at_head : p m ≡ false = fail 0 m (grind arith) in rw (at_head) (find_behind p ms ys (All-tail (λ (x : Mark). p x ≡ false) m ms fail))

map_same : (f : Mark → Mark) (ms : List Mark) → All (λ m. f m ≡ m) ms → map f ms ≡ ms
map_same f [] same = refl
map_same f (m ∷ ms) same = let at_head : f m ≡ m = same 0 m (grind arith) in ap (λ (x : Mark). x ∷ map f ms) at_head ∙ ap (λ (l : List Mark). m ∷ l) (map_same f ms (All-tail (λ (x : Mark). f x ≡ x) m ms same))

filter_front : (p : Mark → Bool) (xs ys : List Mark) → All (λ m. p m ≡ true) xs → All (λ m. p m ≡ false) ys → filter p (xs ++ ys) ≡ xs
filter_front p xs ys pass fail = filter-append p xs ys ∙ ap (λ (l : List Mark). l ++ filter p ys) (filter_all p xs pass)
    ∙ ap (λ (l : List Mark). xs ++ l) (filter_none p ys fail) ∙ append-nil xs

filter_back : (p : Mark → Bool) (xs ys : List Mark) → All (λ m. p m ≡ false) xs → All (λ m. p m ≡ true) ys → filter p (xs ++ ys) ≡ ys
filter_back p xs ys fail pass = filter-append p xs ys ∙ ap (λ (l : List Mark). l ++ filter p ys) (filter_none p xs fail) ∙ filter_all p ys pass

filter_around : (p : Mark → Bool) (xs : List Mark) (x : Mark) (ys : List Mark) → All (λ m. p m ≡ true) xs → p x ≡ false → All (λ m. p m ≡ true) ys
    → filter p (xs ++ x ∷ ys) ≡ xs ++ ys
filter_around p xs x ys front at back = filter-append p xs (x ∷ ys) ∙ ap (λ (l : List Mark). l ++ filter p (x ∷ ys)) (filter_all p xs front)
    ∙ ap (λ (l : List Mark). xs ++ l) (rw (at) (filter_all p ys back))

-- a fact of the items up to an index, or from one on
take_within : (P : Mark → Type 0) (ms : List Mark) (i : ℕ) → i ≤ length ms → AllWithin P ms 0 i → All P (take i ms)
take_within P ms i within all k d inside =
    let lt : k < i = subst (λ (n : ℕ). k < n) (length-take-le i ms within) inside in
    subst (λ (m : Mark). P m) (sym (get_or-take i ms k d lt)) (all k d (grind arith) lt)

drop_within : (P : Mark → Type 0) (ms : List Mark) (i : ℕ) → AllWithin P ms i (length ms) → All P (drop i ms)
drop_within P ms i all k d inside = subst (λ (m : Mark). P m) (sym (get_or-drop i ms k d)) (all (i + k) d (grind arith) (grind (arith, length-drop i ms)))

-- the tests that compare ids
lt_true : (a b : ℕ) → a < b → nat_lt a b ≡ true
lt_true a b h = grind (arith, nat_tests)

lt_false : (a b : ℕ) → a < b → nat_lt b a ≡ false
lt_false a b h = grind (arith, nat_tests)

lesser_is_other : (a b : ℕ) → a < b → (a == b) ≡ false
lesser_is_other a b h = grind (arith, nat_tests)

greater_is_other : (a b : ℕ) → a < b → (b == a) ≡ false
greater_is_other a b h = grind (arith, nat_tests)

-- the marks below a gap and above it
below_gap : (id : ℕ) (ms : List Mark) (i : ℕ) → IsGap id ms i → All (λ m. m.id < id) (take i ms)
below_gap id ms i gap = take_within (λ m. m.id < id) ms i gap.within gap.below

above_gap : (id : ℕ) (ms : List Mark) (i : ℕ) → IsGap id ms i → All (λ m. id < m.id) (drop i ms)
above_gap id ms i gap = drop_within (λ m. id < m.id) ms i gap.above

-- no mark has the id of a gap
pub gap_none : (id : ℕ) (ms : List Mark) (i : ℕ) → IsGap id ms i → mark_with id ms ≡ None
gap_none id ms i gap = ap (λ (l : List Mark). mark_with id l) (sym (take-append-drop i ms))
    ∙ find_behind (λ m. m.id == id) (take i ms) (drop i ms) (All-weaker _ _ (λ m lt. lesser_is_other m.id id lt) (take i ms) (below_gap id ms i gap))
    ∙ find_none (λ m. m.id == id) (drop i ms) (All-weaker _ _ (λ m lt. greater_is_other id m.id lt) (drop i ms) (above_gap id ms i gap))

-- a mark put into its gap
pub gap_insert : (new : Mark) (ms : List Mark) (i : ℕ) → IsGap new.id ms i → insert ms i new ≡ with_mark new ms
gap_insert new ms i gap = ap (λ (l : List Mark). l ++ new ∷ drop i ms) (sym lower) ∙ ap (λ (l : List Mark). filter (λ m. nat_lt m.id new.id) ms ++ new ∷ l) (sym upper) where
  lower : filter (λ m. nat_lt m.id new.id) ms ≡ take i ms
  lower = ap (λ (l : List Mark). filter (λ m. nat_lt m.id new.id) l) (sym (take-append-drop i ms))
      ∙ filter_front (λ m. nat_lt m.id new.id) (take i ms) (drop i ms) (All-weaker _ _ (λ m lt. lt_true m.id new.id lt) (take i ms) (below_gap new.id ms i gap))
      (All-weaker _ _ (λ m lt. lt_false new.id m.id lt) (drop i ms) (above_gap new.id ms i gap))

  upper : filter (λ m. nat_lt new.id m.id) ms ≡ drop i ms
  upper = ap (λ (l : List Mark). filter (λ m. nat_lt new.id m.id) l) (sym (take-append-drop i ms))
      ∙ filter_back (λ m. nat_lt new.id m.id) (take i ms) (drop i ms) (All-weaker _ _ (λ m lt. lt_false m.id new.id lt) (take i ms) (below_gap new.id ms i gap))
      (All-weaker _ _ (λ m lt. lt_true new.id m.id lt) (drop i ms) (above_gap new.id ms i gap))

-- a list of marks around the one at an index
record Around (id : ℕ) (ms : List Mark) (i : ℕ) (x : Mark) : Type 0 where
  is : ms ≡ take i ms ++ x ∷ drop (suc i) ms
  at : x.id ≡ id
  below : All (λ m. m.id < id) (take i ms)
  above : All (λ m. id < m.id) (drop (suc i) ms)

around : (id : ℕ) (ms : List Mark) (i : ℕ) (d : Mark) → AreMarks ms → StandsAt id ms i → Around id ms i (slice_index_or ms i d)
around id ms i d marks stands = record {
  is = sym (take-append-drop i ms) ∙ ap (λ (l : List Mark). take i ms ++ l) (drop-cons ms i d stands.within);
  at = stands.has_id d;
  below = take_within (λ m. m.id < id) ms i (grind (arith, stands.within)) (λ k e low high. subst (λ (n : ℕ). (slice_index_or ms k e).id < n) (stands.has_id e) (marks.rising k i e high stands.within));
  above = drop_within (λ m. id < m.id) ms (suc i) (λ k e low high. subst (λ (n : ℕ). n < (slice_index_or ms k e).id) (stands.has_id e) (marks.rising i k e (grind arith) high));
}

pub at_found : (id : ℕ) (ms : List Mark) (i : ℕ) (d : Mark) → AreMarks ms → StandsAt id ms i → mark_with id ms ≡ Some (slice_index_or ms i d)
at_found id ms i d marks stands = let a = around id ms i d marks stands in
    ap (λ (l : List Mark). mark_with id l) a.is
    ∙ find_behind (λ m. m.id == id) (take i ms) (slice_index_or ms i d ∷ drop (suc i) ms) (All-weaker _ _ (λ m lt. lesser_is_other m.id id lt) (take i ms) a.below)
    ∙ found (slice_index_or ms i d) (drop (suc i) ms) a.at where
      found : (x : Mark) (xs : List Mark) → x.id ≡ id → find (λ m. m.id == id) (x ∷ xs) ≡ Some x
      found x xs at = let same : (x.id == id) ≡ true = grind (arith, nat_tests) in rw (same) refl

pub at_remove : (id : ℕ) (ms : List Mark) (i : ℕ) → AreMarks ms → StandsAt id ms i → (d : Mark) → remove ms i ≡ without_mark id ms
at_remove id ms i marks stands d = let a = around id ms i d marks stands in
    sym (ap (λ (l : List Mark). without_mark id l) a.is
    ∙ filter_around (λ m. not (m.id == id)) (take i ms) (slice_index_or ms i d) (drop (suc i) ms)
    (All-weaker _ _ (λ m lt. ap not (lesser_is_other m.id id lt)) (take i ms) a.below) (itself (slice_index_or ms i d) a.at)
    (All-weaker _ _ (λ m lt. ap not (greater_is_other id m.id lt)) (drop (suc i) ms) a.above)) where
      itself : (x : Mark) → x.id ≡ id → not (x.id == id) ≡ false
      itself x at = grind (arith, nat_tests)

pub at_set : (id : ℕ) (exclusive : Bool) (ms : List Mark) (i : ℕ) (d : Mark) → AreMarks ms → StandsAt id ms i
    → set ms i (record (slice_index_or ms i d) { exclusive = exclusive }) ≡ with_exclusive id exclusive ms
at_set id exclusive ms i d marks stands = let a = around id ms i d marks stands in
    set_split ms i (record (slice_index_or ms i d) { exclusive = exclusive }) stands.within
    ∙ sym (ap (λ (l : List Mark). with_exclusive id exclusive l) a.is
    ∙ map-append (made_exclusive id exclusive) (take i ms) (slice_index_or ms i d ∷ drop (suc i) ms)
    ∙ ap (λ (l : List Mark). l ++ made_exclusive id exclusive (slice_index_or ms i d) ∷ with_exclusive id exclusive (drop (suc i) ms))
    (map_same (made_exclusive id exclusive) (take i ms) (All-weaker _ _ (λ m lt. other m (lesser_is_other m.id id lt)) (take i ms) a.below))
    ∙ ap (λ (l : List Mark). take i ms ++ made_exclusive id exclusive (slice_index_or ms i d) ∷ l)
    (map_same (made_exclusive id exclusive) (drop (suc i) ms) (All-weaker _ _ (λ m lt. other m (greater_is_other id m.id lt)) (drop (suc i) ms) a.above))
    ∙ ap (λ (m : Mark). take i ms ++ m ∷ drop (suc i) ms) (itself (slice_index_or ms i d) a.at)) where
      other : (m : Mark) → (m.id == id) ≡ false → made_exclusive id exclusive m ≡ m
      other m no_match = rw (no_match) refl

      itself : (x : Mark) → x.id ≡ id → made_exclusive id exclusive x ≡ record x { exclusive = exclusive }
      itself x at = let same : (x.id == id) ≡ true = grind (arith, nat_tests) in rw (same) refl

-- the marks with lesser ids come first
pub parted_by_id : (id : ℕ) (ms : List Mark) → AreMarks ms → IsPartitionedBy (λ m. nat_lt m.id id) ms
parted_by_id id ms marks i j d le within passes = by_case (nat_lt i j) refl where
  by_case : (before : Bool) → nat_lt i j ≡ before → nat_lt (slice_index_or ms i d).id id ≡ true
  by_case true before = grind (arith, nat_tests, marks.rising i j d)
  by_case false before = let same : i ≡ j = grind (arith, nat_tests) in subst (λ (k : ℕ). nat_lt (slice_index_or ms k d).id id ≡ true) (sym same) passes

-- the gap that halving finds, where the mark at it has another id
pub gap_from_parts : (id : ℕ) (ms : List Mark) (i : ℕ) → AreMarks ms → i ≤ length ms → AllWithin (λ m. nat_lt m.id id ≡ true) ms 0 i
    → AllWithin (λ m. nat_lt m.id id ≡ false) ms i (length ms) → (i < length ms → (d : Mark) → (slice_index_or ms i d).id ≢ id) → IsGap id ms i
gap_from_parts id ms i marks within lesser rest other = record {
  within = within;
  below = λ k d low high. let lt = lesser k d low high in grind (arith, nat_tests);
  above = λ k d low high. above k d low high (nat_lt i k) refl;
} where
  above : (k : ℕ) (d : Mark) → i ≤ k → k < length ms → (behind : Bool) → nat_lt i k ≡ behind → id < (slice_index_or ms k d).id
  above k d low high true behind = let at = rest i d (grind arith) (grind arith) in grind (arith, nat_tests, marks.rising i k d)
  above k d low high false not_behind =
      let same : i ≡ k = grind (arith, nat_tests) in
      let at = rest k d low high in
      let differs = other (grind (arith, nat_tests)) d in
      subst (λ (n : ℕ). id < (slice_index_or ms n d).id) same (grind (arith, nat_tests, rest i d))

-- a mark that is found by an id has it
found_id_by : (id : ℕ) (x m : Mark) (rest : Option Mark) (same : Bool) → (x.id == id) ≡ same → Some m ≡ cond same (Some x) rest → (Some m ≡ rest → m.id ≡ id) → m.id ≡ id
found_id_by id x m rest true same is later = ap (λ (k : Mark). k.id) (same_Some m x is) ∙ grind (arith, nat_tests)
found_id_by id x m rest false other is later = later is

pub found_id : (id : ℕ) (ms : List Mark) (m : Mark) → Some m ≡ mark_with id ms → m.id ≡ id
found_id id [] m is = absurd (none-some m (sym is))
found_id id (x ∷ xs) m is = found_id_by id x m (mark_with id xs) (x.id == id) refl is (λ behind. found_id id xs m behind)

-- a mark as its id, its range and its flag show it
mark_by : ℕ → Point → Point → Bool → Mark
mark_by id start end exclusive = record { id = id; start = start; end = end; exclusive = exclusive }

pub seen_is : (id : ℕ) (range : Range) (m : Mark) → m.id ≡ id → range.start ≡ m.start → range.end ≡ m.end → mark_seen id (range, m.exclusive) ≡ m
unfolding mark_by
seen_is id range m same_id start end = ap (λ (n : ℕ). mark_by n range.start range.end m.exclusive) (sym same_id)
    ∙ ap (λ (p : Point). mark_by m.id p range.end m.exclusive) start ∙ ap (λ (p : Point). mark_by m.id m.start p m.exclusive) end
