use Rattle.std.proofs.Common.{◌-◌, ◌∙◌, length, take, drop, sym, ap, arith}
use Rattle.points.specs.Point.{traversal}
use Rattle.patch.specs.declared.change.Change.{Change}
use Rattle.patch.proofs.AbsorbSteps.{slice_rest, kept_is}
use Rattle.patch.proofs.absorb.kept_before.Goals as goal

pub returns : goal.returns
returns c = kept_is c.args.changes.now c.args.at c.index-changes-at.result c.args.place c.traversal.result c.args.deleted.now (take (length c.args.deleted.now - c.args.passed) (drop c.args.passed c.args.deleted.now)) c.args.passed c.offset_of.result
    (omega (arith, c.requires)) c.index-changes-at.is (slice_rest c.args.deleted.now c.args.passed) c.requires.1 (c.traversal.ensures ∙ ap (λ (x : Change). traversal x.new_range.start c.args.place) (sym c.index-changes-at.is)) c.offset_of.ensures
