use Rattle.std.proofs.Common.{◌<◌, ◌≤◌, true, false, length, refl, sym, ◌∙◌, arith}
use Rattle.watch.proofs.SlotLemmas.{tested, placed, put_in, count_within, insert_stands}
use Rattle.watch.proofs.watchers.Watchers.attach.Goals as goal

pub returns-then-is_there-clause-taken : goal.returns-then-is_there-clause-taken
returns-then-is_there-clause-taken g c = (λ e. tested c.args.id c.args.self.now.seats.items c.as_slice-2.result.now c.is_there.result true c.as_slice-2.ensures.value c.is_there.ensures c.if-is_there.true, λ h. refl)

pub returns-then-is_there-clause-full : goal.returns-then-is_there-clause-full
returns-then-is_there-clause-full g c =
    let there = tested c.args.id c.args.self.now.seats.items c.as_slice-2.result.now c.is_there.result true c.as_slice-2.ensures.value c.is_there.ensures c.if-is_there.true in
    (λ e. (cc, cc), λ h. let none = h.0 in cc)

pub returns-then-len-eq-MAX_WATCHERS-clause-taken : goal.returns-then-len-eq-MAX_WATCHERS-clause-taken
returns-then-len-eq-MAX_WATCHERS-clause-taken g c =
    let none = tested c.args.id c.args.self.now.seats.items c.as_slice-2.result.now c.is_there.result false c.as_slice-2.ensures.value c.is_there.ensures c.if-is_there.false in
    (λ e. cc, λ h. cc)

pub returns-then-len-eq-MAX_WATCHERS-clause-full : goal.returns-then-len-eq-MAX_WATCHERS-clause-full
returns-then-len-eq-MAX_WATCHERS-clause-full g c =
    let none = tested c.args.id c.args.self.now.seats.items c.as_slice-2.result.now c.is_there.result false c.as_slice-2.ensures.value c.is_there.ensures c.if-is_there.false in
    (λ e. (none, sym c.len.ensures.value ∙ c.if-len-eq-MAX_WATCHERS.true), λ h. refl)

pub insert-requires : goal.insert-requires
insert-requires g c =
    let fits : c.len.result ≤ 64 = c.len.ensures.fits in
    let long = c.len.ensures.value in
    let apart = c.if-len-eq-MAX_WATCHERS.false in
    let room : length c.args.self.now.seats.items < 64 = grind (arith, fits, long, apart) in
    let place = placed c.args.id c.place_of-at.result c.args.self.now.seats.items c.as_slice.result.now c.as_slice.ensures.value c.place_of-at.ensures in
    let within = count_within c.args.id c.args.self.now.seats.items in
    (omega arith, (omega (arith, place, within), room))

pub returns-clause-taken : goal.returns-clause-taken
returns-clause-taken g c =
    let none = tested c.args.id c.args.self.now.seats.items c.as_slice-2.result.now c.is_there.result false c.as_slice-2.ensures.value c.is_there.ensures c.if-is_there.false in
    (λ e. cc, λ h. cc)

pub returns-clause-ok : goal.returns-clause-ok
returns-clause-ok g c = record {
  seat = c.new.result;
  slots = put_in c.args.id c.place_of-at.result c.new.result c.args.self.now.seats.items c.insert.new.self.items (placed c.args.id c.place_of-at.result c.args.self.now.seats.items c.as_slice.result.now c.as_slice.ensures.value c.place_of-at.ensures) c.insert.ensures.items;
  holds = (c.new.ensures.id, c.new.ensures.told, c.new.ensures.watcher, c.new.ensures.opened, c.new.ensures.log);
}

pub returns-clause-stands : goal.returns-clause-stands
returns-clause-stands g c =
    let none = tested c.args.id c.args.self.now.seats.items c.as_slice-2.result.now c.is_there.result false c.as_slice-2.ensures.value c.is_there.ensures c.if-is_there.false in
    let slots = put_in c.args.id c.place_of-at.result c.new.result c.args.self.now.seats.items c.insert.new.self.items (placed c.args.id c.place_of-at.result c.args.self.now.seats.items c.as_slice.result.now c.as_slice.ensures.value c.place_of-at.ensures) c.insert.ensures.items in
    rw slots (insert_stands _ c.args.self.now.told c.args.id c.new.result c.args.self.now.seats.items c.requires.stands c.new.ensures.id c.new.ensures.told none c.new.ensures.kept)
