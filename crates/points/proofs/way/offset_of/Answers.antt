use Rattle.std.proofs.Common.{◌≡◌, ◌∙◌, length, Some, sym, ap, arith}
use Rattle.points.specs.Distance.{point_of}
use Rattle.points.proofs.FindLemmas.{found_at, found_nowhere}
use Rattle.points.proofs.way.offset_of.Goals as goal

pub returns-then-is_at : goal.returns-then-is_at
returns-then-is_at c = found_at c.args.units.now c.args.point (point_of c.loop-at.reached) c.loop-at.at c.loop-at.invariant.reached (omega arith) (sym c.is_at.ensures ∙ c.if-is_at.true)

pub returns-then-is_at-2 : goal.returns-then-is_at-2
returns-then-is_at-2 c = let end : c.loop-at.at ≡ length c.args.units.now = omega arith in
    ap Some (sym end) ∙ found_at c.args.units.now c.args.point (point_of c.loop-at.reached) c.loop-at.at c.loop-at.invariant.reached (omega arith) (sym c.is_at-2.ensures ∙ c.if-is_at-2.true)

pub returns-else-is_at-2 : goal.returns-else-is_at-2
returns-else-is_at-2 c = found_nowhere c.args.units.now c.args.point (point_of c.loop-at.reached) c.loop-at.at c.loop-at.invariant.reached (omega arith) c.loop-at.invariant.none_before (sym c.is_at-2.ensures ∙ c.if-is_at-2.false)
