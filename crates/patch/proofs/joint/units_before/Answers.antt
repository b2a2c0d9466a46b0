use Rattle.std.proofs.Common.{◌∙◌, sym}
use Rattle.std.proofs.lemmas.List.{length-take-le}
use Rattle.points.proofs.OffsetLemmas.{offset_of-some}
use Rattle.patch.proofs.joint.units_before.Goals as goal

pub slice_bounds-result-end : goal.slice_bounds-result-end
slice_bounds-result-end c = sym (length-take-le c.in-Some.at c.as_slice-units.result.now (offset_of-some c.as_slice-units.result.now c.traversal.result c.in-Some.at (sym c.offset_of.ensures ∙ c.in-Some.is)).0)
