use Rattle.std.proofs.Common.{◌∙◌, ap, Some, List}
use Rattle.points.specs.declared.mark.Mark.{Mark}
use Rattle.points.specs.MarkList.{mark_with}
use Rattle.markers.proofs.SearchLemmas.{found_id, seen_is}
use Rattle.markers.proofs.index.MarkerIndex.range_of.Goals as goal

pub returns : goal.returns
returns c = ap (λ (m : Mark). Some m) (seen_is c.args.id c.new.result c.in-Some.mark (found_id c.args.id c.as_slice.result.now c.in-Some.mark c.in-Some.ensures.mark) c.new.ensures.start c.new.ensures.end)
    ∙ c.in-Some.ensures.mark ∙ ap (λ (l : List Mark). mark_with c.args.id l) (c.as_slice.ensures.value ∙ c.self.view_is)
