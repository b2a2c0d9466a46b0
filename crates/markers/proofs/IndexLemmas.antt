-- An index after each call on it.
use Rattle.std.proofs.Common.{◌≡◌, sym, subst, ℕ, ◌≤◌, ◌≢◌, Bool, true, List, length, set, slice_index_or, insert, remove, arith}
use Rattle.std.proofs.lemmas.List.{length-map, length-set}
use Rattle.std.proofs.lemmas.List.Edits.{length-insert, length-remove}
use Rattle.points.specs.declared.mark.Mark.{Mark}
use Rattle.points.specs.declared.mark.Splice.{Splice}
use Rattle.points.specs.Point.{point_le}
use Rattle.points.specs.Marks.{moved}
use Rattle.points.specs.MarkList.{AreMarks, IsRange, all_moved}
use Rattle.points.specs.declared.limits.TheConstants.{MAX_MARKS}
use Rattle.points.proofs.MarkListLemmas.{marks-with, marks-without, marks-exclusive, marks-moved}
use Rattle.markers.specs.Index.{IsIndex}
use Rattle.markers.specs.Search.{StandsAt, IsGap}
use Rattle.markers.proofs.SearchLemmas.{gap_insert, at_remove, at_set}

-- a list of marks that has room for one more
pub index-insert : (new : Mark) (ms : List Mark) (i : ℕ) → IsIndex ms → IsRange new → length ms ≢ MAX_MARKS → IsGap new.id ms i → IsIndex (insert ms i new)
index-insert new ms i index range room gap = record {
  marks = subst (λ (l : List Mark). AreMarks l) (sym (gap_insert new ms i gap)) (marks-with new ms range index.marks);
  short = grind (arith, length-insert ms i new gap.within, index.short, room);
}

pub index-remove : (id : ℕ) (ms : List Mark) (i : ℕ) → IsIndex ms → StandsAt id ms i → (d : Mark) → IsIndex (remove ms i)
index-remove id ms i index stands d = record {
  marks = subst (λ (l : List Mark). AreMarks l) (sym (at_remove id ms i index.marks stands d)) (marks-without id ms index.marks);
  short = grind (arith, length-remove ms i stands.within, index.short);
}

pub index-set : (id : ℕ) (exclusive : Bool) (ms : List Mark) (i : ℕ) (d : Mark) → IsIndex ms → StandsAt id ms i
    → IsIndex (set ms i (record (slice_index_or ms i d) { exclusive = exclusive }))
index-set id exclusive ms i d index stands = record {
  marks = subst (λ (l : List Mark). AreMarks l) (sym (at_set id exclusive ms i d index.marks stands)) (marks-exclusive id exclusive ms index.marks);
  short = grind (arith, length-set ms i (record (slice_index_or ms i d) { exclusive = exclusive }), index.short);
}

pub index-moved : (c : Splice) (ms : List Mark) → point_le c.start c.old_end ≡ true → point_le c.start c.new_end ≡ true → IsIndex ms → IsIndex (all_moved c ms)
index-moved c ms old new index = record { marks = marks-moved c old new ms index.marks; short = subst (λ (n : ℕ). n ≤ MAX_MARKS) (sym (length-map ms (moved c))) index.short }
