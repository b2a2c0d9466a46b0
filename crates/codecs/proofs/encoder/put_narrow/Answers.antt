use Rattle.std.proofs.Common.{arith}
use Rattle.std.proofs.lemmas.Grind.{common_steps}
use Rattle.codecs.proofs.Spelled.{two_bytes, three_bytes}
use Rattle.codecs.proofs.encoder.put_narrow.Goals as goal

pub returns-then-code-lt2048 : goal.returns-then-code-lt2048
returns-then-code-lt2048 c = rw (two_bytes c.args.code c.if-code-lt128.false c.if-code-lt2048.true) (grind (arith, common_steps))

pub returns-else-code-lt2048 : goal.returns-else-code-lt2048
returns-else-code-lt2048 c = rw (three_bytes c.args.code c.if-code-lt2048.false (omega (arith, c.ranges.code))) (grind (arith, common_steps))
