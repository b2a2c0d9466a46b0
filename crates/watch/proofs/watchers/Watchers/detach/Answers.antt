use Rattle.std.proofs.Common.{true, false, refl, arith}
use Rattle.watch.proofs.SlotLemmas.{tested, placed, put_out, taken_out, found, slot_none, remove_stands}
use Rattle.watch.proofs.watchers.Watchers.detach.Goals as goal

pub remove-requires : goal.remove-requires
remove-requires g c =
    let place = placed c.args.id c.place_of-at.result c.args.self.now.seats.items c.as_slice.result.now c.as_slice.ensures.value c.place_of-at.ensures in
    let within = (found c.args.id 0 c.args.self.now.seats.items c.requires.stands.order (tested c.args.id c.args.self.now.seats.items c.as_slice-2.result.now c.is_there.result true c.as_slice-2.ensures.value c.is_there.ensures c.if-not-is_there.false)).within in
    (omega arith, omega (arith, place, within))

pub returns-clause-unknown : goal.returns-clause-unknown
returns-clause-unknown g c =
    let there = tested c.args.id c.args.self.now.seats.items c.as_slice-2.result.now c.is_there.result true c.as_slice-2.ensures.value c.is_there.ensures c.if-not-is_there.false in
    let seen = found c.args.id 0 c.args.self.now.seats.items c.requires.stands.order (tested c.args.id c.args.self.now.seats.items c.as_slice-2.result.now c.is_there.result true c.as_slice-2.ensures.value c.is_there.ensures c.if-not-is_there.false) in
    let some = taken_out c.args.id c.place_of-at.result c.args.self.now.seats.items c.remove.result seen (placed c.args.id c.place_of-at.result c.args.self.now.seats.items c.as_slice.result.now c.as_slice.ensures.value c.place_of-at.ensures) c.remove.ensures.value in
    let ok = rw some at c.parted.ensures in
    rw ok (λ e. cc, λ h. cc)

pub returns-clause-answer : goal.returns-clause-answer
returns-clause-answer g c =
    let seen = found c.args.id 0 c.args.self.now.seats.items c.requires.stands.order (tested c.args.id c.args.self.now.seats.items c.as_slice-2.result.now c.is_there.result true c.as_slice-2.ensures.value c.is_there.ensures c.if-not-is_there.false) in
    let some = taken_out c.args.id c.place_of-at.result c.args.self.now.seats.items c.remove.result seen (placed c.args.id c.place_of-at.result c.args.self.now.seats.items c.as_slice.result.now c.as_slice.ensures.value c.place_of-at.ensures) c.remove.ensures.value in
    rw seen.first (rw some at c.parted.ensures)

pub returns-clause-err : goal.returns-clause-err
returns-clause-err g c =
    let seen = found c.args.id 0 c.args.self.now.seats.items c.requires.stands.order (tested c.args.id c.args.self.now.seats.items c.as_slice-2.result.now c.is_there.result true c.as_slice-2.ensures.value c.is_there.ensures c.if-not-is_there.false) in
    let some = taken_out c.args.id c.place_of-at.result c.args.self.now.seats.items c.remove.result seen (placed c.args.id c.place_of-at.result c.args.self.now.seats.items c.as_slice.result.now c.as_slice.ensures.value c.place_of-at.ensures) c.remove.ensures.value in
    let ok = rw some at c.parted.ensures in
    rw ok (record {})

pub returns-clause-ok : goal.returns-clause-ok
returns-clause-ok g c =
    let seen = found c.args.id 0 c.args.self.now.seats.items c.requires.stands.order (tested c.args.id c.args.self.now.seats.items c.as_slice-2.result.now c.is_there.result true c.as_slice-2.ensures.value c.is_there.ensures c.if-not-is_there.false) in
    let some = taken_out c.args.id c.place_of-at.result c.args.self.now.seats.items c.remove.result seen (placed c.args.id c.place_of-at.result c.args.self.now.seats.items c.as_slice.result.now c.as_slice.ensures.value c.place_of-at.ensures) c.remove.ensures.value in
    let ok = rw some at c.parted.ensures in
    rw ok (put_out c.args.id c.place_of-at.result c.args.self.now.seats.items c.remove.new.self.items (placed c.args.id c.place_of-at.result c.args.self.now.seats.items c.as_slice.result.now c.as_slice.ensures.value c.place_of-at.ensures) c.remove.ensures.items)

pub returns-clause-stands : goal.returns-clause-stands
returns-clause-stands g c = rw c.remove.ensures.items (remove_stands _ c.args.self.now.told c.place_of-at.result c.args.self.now.seats.items c.requires.stands)

pub returns-then-not-is_there-clause-unknown : goal.returns-then-not-is_there-clause-unknown
returns-then-not-is_there-clause-unknown g c = (λ e. tested c.args.id c.args.self.now.seats.items c.as_slice-2.result.now c.is_there.result false c.as_slice-2.ensures.value c.is_there.ensures c.if-not-is_there.true, λ h. refl)

pub returns-then-not-is_there-clause-answer : goal.returns-then-not-is_there-clause-answer
returns-then-not-is_there-clause-answer g c = rw (slot_none c.args.id c.args.self.now.seats.items (tested c.args.id c.args.self.now.seats.items c.as_slice-2.result.now c.is_there.result false c.as_slice-2.ensures.value c.is_there.ensures c.if-not-is_there.true)) refl
