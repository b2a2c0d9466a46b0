-- The table of movement row by row, with the conditions as a reader of it states them; and that a moved mark stays a range.
use Rattle.std.proofs.Common.{◌≡◌, ◌∙◌, sym, Bool, true, false, refl, not, ◌&&◌, if◌then◌else◌, arith}
use Rattle.std.proofs.lemmas.Bool.Decides.{nat_tests}
use Rattle.points.specs.declared.point.Point.{Point}
use Rattle.points.specs.Point.{point_le, point_lt, traverse, traversal}
use Rattle.points.specs.Place.{same_point}
use Rattle.points.proofs.PointLemmas.{point_le_trans, point_le-refl, point_lt-false, point_le_antisym, point_le-traverse, point_lt_le_trans, point_le_from_lt, traverse_mono, traversal_mono}
use Rattle.points.specs.declared.mark.Mark.{Mark}
use Rattle.points.specs.declared.mark.Splice.{Splice}
use Rattle.points.specs.Marks.{moved_boundary, moved, is_insertion, is_empty_mark}

pub below_stays : (c : Splice) (m : Mark) (is_start : Bool) (p : Point) → point_lt p c.start ≡ true → moved_boundary c m is_start p ≡ p
below_stays c m is_start p below = grind (arith, nat_tests)

pub above_keeps_its_distance : (c : Splice) (m : Mark) (is_start : Bool) (p : Point) → point_le c.start c.old_end ≡ true → point_lt c.old_end p ≡ true
    → moved_boundary c m is_start p ≡ traverse c.new_end (traversal p c.old_end)
above_keeps_its_distance c m is_start p ordered above = grind (arith, nat_tests)

pub at_the_start_of_replaced_text_stays : (c : Splice) (m : Mark) (is_start : Bool) (p : Point) → point_lt c.start c.old_end ≡ true → p ≡ c.start
    → moved_boundary c m is_start p ≡ p
at_the_start_of_replaced_text_stays c m is_start p replaces at_it = grind (arith, nat_tests)

pub in_replaced_text_goes_to_its_end : (c : Splice) (m : Mark) (is_start : Bool) (p : Point) → point_lt c.start c.old_end ≡ true
    → point_lt c.start p ≡ true → point_le p c.old_end ≡ true → moved_boundary c m is_start p ≡ c.new_end
in_replaced_text_goes_to_its_end c m is_start p replaces above within = grind (arith, nat_tests)

pub inclusive_start_stays : (c : Splice) (m : Mark) → c.start ≡ c.old_end → m.exclusive ≡ false → m.start ≡ c.start
    → moved_boundary c m true m.start ≡ m.start
inclusive_start_stays c m inserts inclusive at_it = grind (arith, nat_tests)

pub inclusive_end_moves : (c : Splice) (m : Mark) → c.start ≡ c.old_end → m.exclusive ≡ false → m.end ≡ c.start
    → moved_boundary c m false m.end ≡ c.new_end
inclusive_end_moves c m inserts inclusive at_it = grind (arith, nat_tests)

pub exclusive_start_moves : (c : Splice) (m : Mark) → c.start ≡ c.old_end → m.exclusive ≡ true → is_empty_mark m ≡ false → m.start ≡ c.start
    → moved_boundary c m true m.start ≡ c.new_end
exclusive_start_moves c m inserts exclusive wide at_it = grind (arith, nat_tests)

pub exclusive_end_stays : (c : Splice) (m : Mark) → c.start ≡ c.old_end → m.exclusive ≡ true → is_empty_mark m ≡ false → m.end ≡ c.start
    → moved_boundary c m false m.end ≡ m.end
exclusive_end_stays c m inserts exclusive wide at_it = grind (arith, nat_tests)

pub exclusive_empty_moves : (c : Splice) (m : Mark) (is_start : Bool) (p : Point) → c.start ≡ c.old_end → m.exclusive ≡ true → is_empty_mark m ≡ true → p ≡ c.start
    → moved_boundary c m is_start p ≡ c.new_end
exclusive_empty_moves c m is_start p inserts exclusive empty at_it = grind (arith, nat_tests)

-- what holds of both outcomes of a test
either_way : (P : Point → Type 0) (test : Bool) (p q : Point) → P p → P q → P (if test then p else q)
either_way P true p q at_p at_q = at_p
either_way P false p q at_p at_q = at_q

-- what holds of a boundary, of the splice's new end and of all behind that end holds of the moved boundary
kept_by_moving : (P : Point → Type 0) (c : Splice) (m : Mark) (is_start : Bool) (p : Point) → P p → P c.new_end → P (traverse c.new_end (traversal p c.old_end))
    → P (moved_boundary c m is_start p)
kept_by_moving P c m is_start p at_p at_end beyond =
    let exclusive_end : P (if not (is_empty_mark m) then p else c.new_end) = either_way P (not (is_empty_mark m)) p c.new_end at_p at_end in
    let exclusive = either_way P (not (is_empty_mark m) && is_start) c.new_end _ at_end exclusive_end in
    let inclusive_end = either_way P (not m.exclusive) c.new_end _ at_end exclusive in
    let inclusive = either_way P (not m.exclusive && is_start) p _ at_p inclusive_end in
    let replaced = either_way P (not (is_insertion c)) c.new_end _ at_end inclusive in
    let replaced_start = either_way P (not (is_insertion c) && same_point p c.start) p _ at_p replaced in
    let above = either_way P (point_lt c.old_end p) (traverse c.new_end (traversal p c.old_end)) _ beyond replaced_start in
    either_way P (point_lt p c.start) p _ at_p above

-- a boundary behind the splice's start stays behind it
pub behind_stays_behind : (c : Splice) (m : Mark) (is_start : Bool) (p : Point) → point_le c.start c.new_end ≡ true → point_le c.start p ≡ true
    → point_le c.start (moved_boundary c m is_start p) ≡ true
behind_stays_behind c m is_start p new behind = kept_by_moving (λ (q : Point). point_le c.start q ≡ true) c m is_start p behind new
    (point_le_trans c.start c.new_end (traverse c.new_end (traversal p c.old_end)) new (point_le-traverse c.new_end (traversal p c.old_end)))

-- both boundaries behind the splice
both_above : (c : Splice) (m : Mark) → point_le c.start c.old_end ≡ true → point_le m.start m.end ≡ true → point_lt c.old_end m.start ≡ true
    → point_le (moved c m).start (moved c m).end ≡ true
both_above c m old ordered above = rw (above_keeps_its_distance c m true m.start old above)
    (rw (above_keeps_its_distance c m false m.end old (point_lt_le_trans c.old_end m.start m.end above ordered))
    (traverse_mono c.new_end (traversal m.start c.old_end) (traversal m.end c.old_end)
    (traversal_mono m.start m.end c.old_end (point_le_from_lt c.old_end m.start above) ordered)))

-- a start within the replaced text goes there, and an end behind it no less far
start_within : (c : Splice) (m : Mark) → point_le m.start m.end ≡ true → point_lt c.start m.start ≡ true → point_le m.start c.old_end ≡ true
    → (end_above : Bool) → point_lt c.old_end m.end ≡ end_above → point_le (moved c m).start (moved c m).end ≡ true
start_within c m ordered behind within true above =
    rw (in_replaced_text_goes_to_its_end c m true m.start (point_lt_le_trans c.start m.start c.old_end behind within) behind within)
    (rw (above_keeps_its_distance c m false m.end (point_le_from_lt c.start c.old_end (point_lt_le_trans c.start m.start c.old_end behind within)) above)
    (point_le-traverse c.new_end (traversal m.end c.old_end)))
start_within c m ordered behind within false not_above =
    rw (in_replaced_text_goes_to_its_end c m true m.start (point_lt_le_trans c.start m.start c.old_end behind within) behind within)
    (rw (in_replaced_text_goes_to_its_end c m false m.end (point_lt_le_trans c.start m.start c.old_end behind within)
    (point_lt_le_trans c.start m.start m.end behind ordered) (point_lt-false c.old_end m.end not_above))
    (point_le-refl c.new_end))

-- a start at the splice's start stays, or goes to the new end with an end that does so too or lies behind
start_at_start : (c : Splice) (m : Mark) → point_le c.start c.old_end ≡ true → point_le c.start c.new_end ≡ true → point_le m.start m.end ≡ true → m.start ≡ c.start
    → (replaces : Bool) → point_lt c.start c.old_end ≡ replaces → (exclusive : Bool) → m.exclusive ≡ exclusive
    → (end_above : Bool) → point_lt c.old_end m.end ≡ end_above → point_le (moved c m).start (moved c m).end ≡ true
start_at_start c m old new ordered at_it true replaces exclusive x end_above e =
    rw (at_the_start_of_replaced_text_stays c m true m.start replaces at_it ∙ at_it) (behind_stays_behind c m false m.end new (rw (sym at_it) ordered))
start_at_start c m old new ordered at_it false inserts false inclusive end_above e =
    rw (inclusive_start_stays c m (point_le_antisym c.start c.old_end old (point_lt-false c.start c.old_end inserts)) inclusive at_it ∙ at_it)
    (behind_stays_behind c m false m.end new (rw (sym at_it) ordered))
start_at_start c m old new ordered at_it false inserts true exclusive true above =
    rw (exclusive_start_moves c m (point_le_antisym c.start c.old_end old (point_lt-false c.start c.old_end inserts)) exclusive (grind (arith, nat_tests)) at_it)
    (rw (above_keeps_its_distance c m false m.end old above) (point_le-traverse c.new_end (traversal m.end c.old_end)))
start_at_start c m old new ordered at_it false inserts true exclusive false not_above =
    let inserted : c.start ≡ c.old_end = point_le_antisym c.start c.old_end old (point_lt-false c.start c.old_end inserts) in
    let end_is : m.end ≡ c.start = grind (arith, nat_tests) in
    let empty : is_empty_mark m ≡ true = grind (arith, nat_tests) in
    rw (exclusive_empty_moves c m true m.start inserted exclusive empty at_it)
    (rw (exclusive_empty_moves c m false m.end inserted exclusive empty end_is) (point_le-refl c.new_end))

-- a start before the splice stays, and the end stays behind it
start_below : (c : Splice) (m : Mark) → point_le c.start c.new_end ≡ true → point_le m.start m.end ≡ true → point_lt m.start c.start ≡ true
    → (end_below : Bool) → point_lt m.end c.start ≡ end_below → point_le (moved c m).start (moved c m).end ≡ true
start_below c m new ordered below true end_below = rw (below_stays c m true m.start below) (rw (below_stays c m false m.end end_below) ordered)
start_below c m new ordered below false not_below = rw (below_stays c m true m.start below)
    (point_le_trans m.start c.start (moved_boundary c m false m.end) (point_le_from_lt m.start c.start below)
    (behind_stays_behind c m false m.end new (point_lt-false m.end c.start not_below)))

-- a moved mark starts at its end or before it
pub moved_is_ordered : (c : Splice) (m : Mark) → point_le c.start c.old_end ≡ true → point_le c.start c.new_end ≡ true → point_le m.start m.end ≡ true
    → point_le (moved c m).start (moved c m).end ≡ true
moved_is_ordered c m old new ordered = ordered_by (point_lt m.start c.start) refl (point_lt c.old_end m.start) refl (point_lt c.start m.start) refl where
  ordered_by : (below : Bool) → point_lt m.start c.start ≡ below → (above : Bool) → point_lt c.old_end m.start ≡ above
      → (behind : Bool) → point_lt c.start m.start ≡ behind → point_le (moved c m).start (moved c m).end ≡ true
  ordered_by true b above a behind s = start_below c m new ordered b (point_lt m.end c.start) refl
  ordered_by false b true a behind s = both_above c m old ordered a
  ordered_by false b false a true s = start_within c m ordered s (point_lt-false c.old_end m.start a) (point_lt c.old_end m.end) refl
  ordered_by false b false a false s = start_at_start c m old new ordered (point_le_antisym m.start c.start (point_lt-false c.start m.start s) (point_lt-false m.start c.start b))
      (point_lt c.start c.old_end) refl m.exclusive refl (point_lt c.old_end m.end) refl
