use Rattle.codecs.proofs.Read.{one_more}
use Rattle.codecs.proofs.decoding.decode_latin1.Goals as goal

pub loop-byte-preserved : goal.loop-byte-preserved
loop-byte-preserved c = one_more c.args.bytes.now c.loop-byte.byte-index _ _ _ c.loop-byte-test.true c.loop-byte.invariant c.in_ok-push.ensures.bytes c.from.ensures
