use Rattle.std.proofs.Common.{rules, tests, ◌≡◌, ◌∙◌, ap, ◌≢◌, ◌<◌, true, false, is_some, nat_lt, length, slice_index_or, arith}
use Rattle.std.specs.List.Sorted.{IsPartitionPoint}
use Rattle.std.proofs.lemmas.List.{get_or_default}
use Rattle.std.proofs.lemmas.List.Sorted.{IsPartitionPoint-from_clause}
use Rattle.points.specs.declared.mark.Mark.{Mark}
use Rattle.points.specs.Point.{origin}
use Rattle.markers.proofs.SearchLemmas.{gap_from_parts, parted_by_id, gap_none, at_found}
use Rattle.markers.proofs.search.place_of.Goals as goal
use Rattle.markers.proofs.search.place_of.Goals.{Joined-else-at-marks, else-at-marks-via-then-at-marks+else-marks-at, else-at-marks-via-else-at-marks}

parts : (c : Joined-else-at-marks) → IsPartitionPoint (λ (m : Mark). nat_lt m.id c.args.id ≡ true) (λ (m : Mark). nat_lt m.id c.args.id ≡ false) c.args.marks.now c.partition_point-at.result
parts c = IsPartitionPoint-from_clause (λ (m : Mark). nat_lt m.id c.args.id) c.args.marks.now _ c.partition_point-at.ensures.partitioned
    (parted_by_id c.args.id c.args.marks.now c.requires) (λ a r f k. search (rules, tests))

other : (c : Joined-else-at-marks) → c.partition_point-at.result < length c.args.marks.now → (d : Mark) → (slice_index_or c.args.marks.now c.partition_point-at.result d).id ≢ c.args.id
other c within d same = elim c.else-at-marks.branch [
  | else-at-marks-via-then-at-marks+else-marks-at w ↦ w.if-marks-at.false (ap (λ (m : Mark). m.id) (get_or_default c.args.marks.now c.partition_point-at.result _ d within) ∙ same)
  | else-at-marks-via-else-at-marks w ↦ grind (arith, w.if-at-marks.false, within)
]

pub returns-else-at-marks-clause-gap : goal.returns-else-at-marks-clause-gap
returns-else-at-marks-clause-gap c = gap_from_parts c.args.id c.args.marks.now c.partition_point-at.result c.requires c.partition_point-at.ensures.bound (parts c).0 (parts c).1 (other c)

nowhere : Mark
nowhere = record { id = 0; start = origin; end = origin; exclusive = false }

pub returns-then-marks-at-clause-known : goal.returns-then-marks-at-clause-known
returns-then-marks-at-clause-known c = ap is_some (at_found c.args.id c.args.marks.now c.partition_point-at.result nowhere c.requires
    (record { within = c.if-at-marks.true; has_id = λ d. ap (λ (m : Mark). m.id) (get_or_default c.args.marks.now c.partition_point-at.result d _ c.if-at-marks.true) ∙ c.if-marks-at.true }))

pub returns-else-at-marks-clause-unknown : goal.returns-else-at-marks-clause-unknown
returns-else-at-marks-clause-unknown c = ap is_some (gap_none c.args.id c.args.marks.now c.partition_point-at.result (returns-else-at-marks-clause-gap c))
