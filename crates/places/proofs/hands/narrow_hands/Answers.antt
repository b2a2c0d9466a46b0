use Rattle.std.proofs.Common.{arith, ◌<◌, ◌-◌, length}
use Rattle.std.proofs.lemmas.List.{length-take}
use Rattle.places.specs.Placed.{others_of, top_alone}
use Rattle.places.proofs.ListLemmas.{narrowed_more, hands_more, narrowed_none}
use Rattle.places.proofs.hands.narrow_hands.Goals as goal

pub loop-at-init : goal.loop-at-init
loop-at-init g c = rw c.saturating_sub-at.ensures (
    let none = narrowed_none c.args.entries.now in
    record { within = omega arith; seen = none.0; list = none.1 })

pub loop-at-preserved : goal.loop-at-preserved
loop-at-preserved g c =
    let within = c.loop-at.invariant.within in
    let here : c.loop-at.at - 1 < length (others_of c.args.entries.now) = omega (arith, length-take (length c.args.entries.now - 1) c.args.entries.now) in
    record {
      within = omega arith;
      seen = rw c.loop-at.invariant.seen (hands_more c.loop-at.at (c.loop-at.at - 1) (others_of c.args.entries.now) (top_alone c.args.entries.now) c.loop-at.entries _ (omega arith) here c.loop-at.invariant.list);
      list = rw c.loop-at.invariant.seen (narrowed_more c.loop-at.at (c.loop-at.at - 1) (others_of c.args.entries.now) (top_alone c.args.entries.now) c.loop-at.entries _ (omega arith) here c.loop-at.invariant.list);
    }
