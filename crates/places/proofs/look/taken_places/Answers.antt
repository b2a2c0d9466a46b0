use Rattle.std.proofs.Common.{arith, ◌<◌, ◌∙◌, length, sym, ap}
use Rattle.std.specs.Prelude.{◌==◌, ◌||◌}
use Rattle.places.proofs.ListLemmas.{unmarked, live_more}
use Rattle.places.proofs.look.taken_places.Goals as goal

pub loop-entry-init : goal.loop-entry-init
loop-entry-init g c = λ p h. unmarked 272 p

pub loop-entry-preserved : goal.loop-entry-preserved
loop-entry-preserved g c = λ p h.
    let within : p < length c.loop-entry.taken = omega (arith, c.entry-item.array_long) in
    c.mark.ensures p within
    ∙ (ap (λ b. (c.entry-item.result.place == p) || b) (c.loop-entry.invariant p h)
    ∙ sym (live_more c.args.entries.now c.loop-entry.entry-index c.entry-item.result p (omega arith) c.entry-item.is))
