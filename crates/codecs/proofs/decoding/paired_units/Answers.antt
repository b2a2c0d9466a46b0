use Rattle.std.proofs.Common.{arith}
use Rattle.std.proofs.lemmas.Grind.{common_steps}
use Rattle.codecs.specs.Decoding.{unit_of}
use Rattle.codecs.proofs.Read.{odd_end, even_end}
use Rattle.codecs.proofs.decoding.paired_units.Goals as goal
use Rattle.codecs.proofs.decoding.paired_units.Goals.{then-at-bytes+in_ok-push-2, else-at-bytes}

pub returns : goal.returns
returns c = elim c.if-at-bytes.branch [
  | then-at-bytes+in_ok-push-2 w ↦ let e = odd_end (unit_of c.args.low_first) c.args.bytes.now c.loop-at.at (omega arith) (omega arith) in let k = c.loop-at.invariant.units in grind (arith, common_steps, e, k)
  | else-at-bytes w ↦ let e = even_end (unit_of c.args.low_first) c.args.bytes.now c.loop-at.at (omega arith) in let k = c.loop-at.invariant.units in grind (arith, common_steps, e, k)
]
