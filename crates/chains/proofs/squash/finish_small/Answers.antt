use Rattle.chains.proofs.SquashLemmas.{small_layer, many_changes, many_units}
use Rattle.chains.proofs.squash.finish_small.Goals as goal
use Rattle.chains.proofs.squash.finish_small.Goals.{else-size-le-MOST_CHANGES-via-then-size-le-MOST_CHANGES+else-size-le-MOST_UNITS, else-size-le-MOST_CHANGES-via-else-size-le-MOST_CHANGES}

pub size-size-requires : goal.size-size-requires
size-size-requires c = let r = c.requires in (r.0, c.in_ok-overlay.ensures.laid r.0 r.1 r.2 r.3)

pub returns-then-size-le-MOST_UNITS : goal.returns-then-size-le-MOST_UNITS
returns-then-size-le-MOST_UNITS c = λ base whole below_is weaves. let laid = c.in_ok-overlay.ensures.laid base whole below_is weaves in
    small_layer base whole c.in_ok-overlay.overlay c.size-size.result (c.in_ok-overlay.ensures.tags base whole below_is weaves) (c.size-size.ensures base laid) laid c.if-size-le-MOST_CHANGES.true c.if-size-le-MOST_UNITS.true

pub returns-else-size-le-MOST_CHANGES : goal.returns-else-size-le-MOST_CHANGES
returns-else-size-le-MOST_CHANGES c = λ base whole below_is weaves. let laid = c.in_ok-overlay.ensures.laid base whole below_is weaves in
    let tags = c.in_ok-overlay.ensures.tags base whole below_is weaves in
    elim c.else-size-le-MOST_CHANGES.branch [
      | else-size-le-MOST_CHANGES-via-then-size-le-MOST_CHANGES+else-size-le-MOST_UNITS w ↦ many_units base whole c.in_ok-overlay.overlay c.size-size.result tags (c.size-size.ensures base laid) w.if-size-le-MOST_UNITS.false
      | else-size-le-MOST_CHANGES-via-else-size-le-MOST_CHANGES w ↦ many_changes base whole c.in_ok-overlay.overlay c.size-size.result tags (c.size-size.ensures base laid) w.if-size-le-MOST_CHANGES.false
    ]
