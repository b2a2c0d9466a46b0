use Rattle.std.proofs.Common.{◌≤◌, length, ap, arith}
use Rattle.points.specs.declared.limits.TheConstants.{MAX_UNITS}
use Rattle.line_text.proofs.PartLemmas.{part_starts, part_within}
use Rattle.line_text.proofs.text.LineText.part.Goals as goal

pub invariant_of-result : goal.invariant_of-result
invariant_of-result c = let rows = c.rows_kept-rows.result in (
  part_starts rows.units.now rows.starts.now c.args.from c.args.to c.rows_between-first.result.0 c.rows_between-first.result.1
      rows.kept c.requires.order within c.rows_between-first.ensures.first c.rows_between-first.ensures.last,
  part_within rows.units.now c.args.from c.args.to MAX_UNITS c.requires.order within rows.short,
)
  where
    within : c.args.to ≤ length c.rows_kept-rows.result.units.now
    within = omega (arith, ap length c.rows_kept-rows.ensures, c.requires.within)
