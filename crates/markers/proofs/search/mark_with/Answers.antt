use Rattle.std.proofs.Common.{sym}
use Rattle.markers.proofs.SearchLemmas.{gap_none, at_found}
use Rattle.markers.proofs.search.mark_with.Goals as goal

pub returns-in-Ok-clause-mark : goal.returns-in-Ok-clause-mark
returns-in-Ok-clause-mark c = sym (at_found c.args.id c.args.marks.now c.in-Ok.at _ c.requires c.in-Ok.ensures.found)

pub returns-in-Err-clause-mark : goal.returns-in-Err-clause-mark
returns-in-Err-clause-mark c = sym (gap_none c.args.id c.args.marks.now c.in-Err.field-0 c.in-Err.ensures.gap)
