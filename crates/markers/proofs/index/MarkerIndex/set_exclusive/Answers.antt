use Rattle.std.proofs.Common.{◌∙◌, ap, sym, subst, List, set}
use Rattle.points.specs.declared.mark.Mark.{Mark}
use Rattle.points.specs.MarkList.{with_exclusive}
use Rattle.markers.specs.Index.{IsIndex}
use Rattle.markers.specs.Search.{StandsAt}
use Rattle.markers.proofs.SearchLemmas.{at_set}
use Rattle.markers.proofs.IndexLemmas.{index-set}
use Rattle.markers.proofs.index.MarkerIndex.set_exclusive.Goals as goal

pub invariant_of-self : goal.invariant_of-self
invariant_of-self c = subst (λ (m : Mark). IsIndex (set c.self.inside.marks.items c.in-Ok.at (record m { exclusive = c.args.exclusive }))) (sym c.index-mark.ensures)
    (index-set c.args.id c.args.exclusive c.self.inside.marks.items c.in-Ok.at c.index-mark.result.now c.self.invariant
    (subst (λ (l : List Mark). StandsAt c.args.id l c.in-Ok.at) c.as_slice.ensures.value c.in-Ok.ensures.found))

pub returns-clause-ok : goal.returns-clause-ok
returns-clause-ok c = ap (λ (m : Mark). set c.self.inside.marks.items c.in-Ok.at (record m { exclusive = c.args.exclusive })) c.index-mark.ensures
    ∙ at_set c.args.id c.args.exclusive c.self.inside.marks.items c.in-Ok.at c.index-mark.result.now c.self.invariant.marks
    (subst (λ (l : List Mark). StandsAt c.args.id l c.in-Ok.at) c.as_slice.ensures.value c.in-Ok.ensures.found)
    ∙ ap (λ (l : List Mark). with_exclusive c.args.id c.args.exclusive l) c.self.view_is
