use Rattle.std.proofs.Common.{rules}
use Rattle.turn_table.proofs.SplitLemmas.{makes}
use Rattle.turn_table.proofs.hold.HoldTurn.make_hand.Goals as goal

pub split_seat-requires : goal.split_seat-requires
split_seat-requires g c = let room = c.requires.room in (c.requires.ready.0, search rules, makes _ _ _ _ _ _ _ room.0 room.1 room.2)
