use Rattle.std.proofs.Common.{◌∙◌, map, refl, sym}
use Rattle.points.specs.Point.{origin}
use Rattle.patch_algebra.specs.Merging.{between, merged}
use Rattle.patch_algebra.proofs.MergeLemmas.{composed_laid}
use Rattle.patch_algebra.proofs.laws.composed_alike.Goals as goal

pub returns : goal.returns
returns c = λ s t on_s on_t. let same = composed_laid c.args.first.now.changes c.args.second.now.changes (merged origin (map between c.args.first.now.changes) c.args.second.now.changes) c.rules_are_kept.ensures c.rules_are_kept-2.ensures refl in same s on_s ∙ sym (same t on_t)
