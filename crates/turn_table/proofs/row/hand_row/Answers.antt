use Rattle.std.proofs.Common.{rules, ◌<◌, length, refl}
use Rattle.turn_table.proofs.FreeLemmas.{none_out, one_out}
use Rattle.turn_table.proofs.row.hand_row.Goals as goal

pub loop-i-init : goal.loop-i-init
loop-i-init c = (refl, none_out)

pub loop-i-preserved : goal.loop-i-preserved
loop-i-preserved c = let h : c.loop-i.i < length c.loop-i.out = search rules in (search rules, one_out c.loop-i.out c.loop-i.i h c.loop-i.invariant.1)
