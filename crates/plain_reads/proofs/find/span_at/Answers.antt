use Rattle.std.proofs.Common.{◌≤◌, ℕ, length, subst}
use Rattle.points.specs.declared.limits.TheConstants.{MAX_UNITS}
use Rattle.plain_reads.proofs.SearchLemmas.{span_beyond}
use Rattle.plain_reads.proofs.find.span_at.Goals as goal

pub returns : goal.returns
returns c =
    let short : length c.args.text.now ≤ MAX_UNITS = subst (λ (n : ℕ). n ≤ MAX_UNITS) c.len.ensures.value c.len.ensures.short in
    span_beyond c.args.text.now c.args.units c.args.start c.saturating_add.result c.point_at.result c.point_at-2.result c.point_at.ensures c.point_at-2.ensures c.saturating_add.ensures short
