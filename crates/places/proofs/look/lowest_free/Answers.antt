use Rattle.std.proofs.Common.{arith, ◌∙◌, sym}
use Rattle.places.proofs.ListLemmas.{not_live, all_live}
use Rattle.places.proofs.look.lowest_free.Goals as goal
use Rattle.places.proofs.look.lowest_free.Goals.{then-loop-place-test+else-taken-place, else-loop-place-test}

pub returns : goal.returns
returns g c = elim c.loop-place-test.branch [
  | then-loop-place-test+else-taken-place w ↦ record {
    within = w.loop-place-test.true;
    free = not_live c.args.entries.now c.loop-place.place (sym (c.taken_places-taken.ensures c.loop-place.place w.loop-place-test.true) ∙ w.if-taken-place.false);
    lowest = c.loop-place.invariant.live;
  }
  | else-loop-place-test w ↦ absurd (let many = all_live c.args.entries.now 272 (λ q h. c.loop-place.invariant.live q (omega arith)) in omega arith)
]
