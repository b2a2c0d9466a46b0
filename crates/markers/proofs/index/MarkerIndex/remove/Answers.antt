use Rattle.std.proofs.Common.{◌∙◌, ap, sym, subst, List}
use Rattle.points.specs.declared.mark.Mark.{Mark}
use Rattle.points.specs.MarkList.{without_mark}
use Rattle.markers.specs.Index.{IsIndex}
use Rattle.markers.specs.Search.{StandsAt}
use Rattle.markers.proofs.SearchLemmas.{at_remove}
use Rattle.markers.proofs.IndexLemmas.{index-remove}
use Rattle.markers.proofs.index.MarkerIndex.remove.Goals as goal
use Rattle.markers.proofs.index.MarkerIndex.remove.Goals.{After-remove}

stands : (c : After-remove) → StandsAt c.args.id c.self.inside.marks.items c.in-Ok.at
stands c = subst (λ (l : List Mark). StandsAt c.args.id l c.in-Ok.at) c.as_slice.ensures.value c.in-Ok.ensures.found

pub invariant_of-self : goal.invariant_of-self
invariant_of-self c = subst (λ (l : List Mark). IsIndex l) (sym c.remove.ensures.items)
    (index-remove c.args.id c.self.inside.marks.items c.in-Ok.at c.self.invariant (stands c) c.remove.result)

pub returns-clause-ok : goal.returns-clause-ok
returns-clause-ok c = c.remove.ensures.items ∙ at_remove c.args.id c.self.inside.marks.items c.in-Ok.at c.self.invariant.marks (stands c) c.remove.result
    ∙ ap (λ (l : List Mark). without_mark c.args.id l) c.self.view_is
