use Rattle.std.proofs.Common.{◌∙◌, ◌-◌, List, get_or, drop, sym, ap, arith}
use Rattle.patch_algebra.specs.Merging.{between_seen, betweens_seen, removal}
use Rattle.patch_algebra.specs.declared.middle.Middle.{Middle}
use Rattle.patch_algebra.proofs.MergeSteps.{left_none, left_set, no_middle}
use Rattle.patch_algebra.proofs.composition.take_out.Goals as goal

pub returns-then-removed-eq0-clause-rest : goal.returns-then-removed-eq0-clause-rest
returns-then-removed-eq0-clause-rest c =
    ap (λ (ms : List Middle). betweens_seen (drop c.in_ok-removed.removed.stop ms)) (sym c.as_slice.ensures.value)
    ∙ (sym (left_none c.args.change.old_range.end (between_seen (get_or c.as_slice.result.now (c.in_ok-removed.removed.stop - 1) no_middle)) c.in_ok-removed.removed.left.now (betweens_seen (drop c.in_ok-removed.removed.stop c.as_slice.result.now)) c.if-removed-eq0.true)
    ∙ (c.in_ok-removed.ensures.rest c.args.change.old_range.end no_middle
    ∙ ap (λ (ms : List Middle). (removal c.args.change.old_range.end c.args.change.old_range.start c.args.change.old_text.now (betweens_seen (drop c.args.at ms))).rest) c.as_slice.ensures.value))

pub returns-clause-rest : goal.returns-clause-rest
returns-clause-rest c =
    left_set c.args.middles.now.items c.as_slice.result.now c.in_ok-removed.removed.stop c.left.result c.args.change.old_range.end c.in_ok-removed.removed.left.now c.index.result.now c.as_slice.ensures.value
    (c.in_ok-removed.ensures.left (omega (arith, c.if-removed-eq0.false))) c.in_ok-removed.ensures.stop c.index.ensures c.left.ensures c.if-removed-eq0.false
    ∙ (c.in_ok-removed.ensures.rest c.args.change.old_range.end c.index.result.now
    ∙ ap (λ (ms : List Middle). (removal c.args.change.old_range.end c.args.change.old_range.start c.args.change.old_text.now (betweens_seen (drop c.args.at ms))).rest) c.as_slice.ensures.value)
