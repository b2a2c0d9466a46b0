use Rattle.std.proofs.Common.{arith, ◌≡◌, refl, true, false}
use Rattle.std.proofs.lemmas.Bool.Decides.{nat_tests}
use Rattle.std.proofs.lemmas.List.{set-get_or}
use Rattle.std.specs.Prelude.{◌==◌, slice_index_or, bit_or}
use Rattle.places.specs.Placed.{noted}
use Rattle.places.proofs.ListLemmas.{changed_more, changed_same}
use Rattle.places.proofs.hands.add_hands.Goals as goal
use Rattle.places.proofs.hands.add_hands.Goals.{then-entry-place, else-entry-place}

pub loop-entry-preserved : goal.loop-entry-preserved
loop-entry-preserved g c =
    let entry = slice_index_or c.loop-entry.entries c.loop-entry.entry-index c.entry-item.result in
    elim c.if-entry-place.branch [
      | then-entry-place w ↦
          let here : (entry.place == c.args.place) ≡ true = grind (arith, nat_tests, w.if-entry-place.true) in
          let done : noted c.args.place c.args.hands entry ≡ record entry { mask = bit_or entry.mask c.args.hands } = rw here refl in
          rw (w.entries-is, ← done) (changed_more (noted c.args.place c.args.hands) c.loop-entry.entry-index c.args.entries.now c.loop-entry.entries c.entry-item.result c.loop-entry.invariant (omega arith))
      | else-entry-place w ↦
          let here : (entry.place == c.args.place) ≡ false = grind (arith, nat_tests, w.if-entry-place.false) in
          rw (w.entries-is, set-get_or) (changed_same (noted c.args.place c.args.hands) c.loop-entry.entry-index c.args.entries.now c.loop-entry.entries c.entry-item.result c.loop-entry.invariant (omega arith) (rw here refl))
    ]
