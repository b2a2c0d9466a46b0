use Rattle.hand_register.proofs.SeatLemmas.{hand_made}
use Rattle.hand_register.proofs.tests.made.Goals as goal

pub returns-in-Ok-Hand-clause-hand : goal.returns-in-Ok-Hand-clause-hand
returns-in-Ok-Hand-clause-hand g c =
    let ok = rw c.in-Ok-Hand.field-0-is at c.in-Ok-Hand.ensures.ok in
    let given = rw c.in-Ok-Hand.field-0-is at c.in-Ok-Hand.ensures.given in
    let has = c.requires.1 in
    let took = ok has.0 has.1 in
    hand_made c.args.table.now.table.shared.table_id c.in-Ok-Hand.hand c.in-Ok-Hand.number _ _ has.0 took.0 given took.2
