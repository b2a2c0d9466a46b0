use Rattle.std.proofs.Common.{rules, ◌≡◌, ◌≤◌, None, refl, ap, sym}
use Rattle.shared_buffer.specs.Entries.{handed, free_number}
use Rattle.shared_buffer.proofs.RoomLemmas.{no_room}
use Rattle.shared_buffer.proofs.held.HeldObject.play.Goals as goal

pub returns-then-number-ge-MAX_HANDS-clause-ok : goal.returns-then-number-ge-MAX_HANDS-clause-ok
returns-then-number-ge-MAX_HANDS-clause-ok g c =
    let same : c.args.self.now.out ≡ c.self.inside.out = search rules in
    let high : 32 ≤ c.lowest_free-number.result = search rules in
    let none : free_number c.args.self.now ≡ None = no_room c.args.self.now c.self.inside.out c.lowest_free-number.result same c.lowest_free-number.ensures high in
    rw c.in-Hand.is (ap handed (sym none), refl)
