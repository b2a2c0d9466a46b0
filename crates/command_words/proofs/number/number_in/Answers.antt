use Rattle.std.proofs.Common.{arith, rules}
use Rattle.command_words.proofs.Numbers.{out_of_reach}
use Rattle.command_words.proofs.number.number_in.Goals as goal

pub returns-in_default-3-clause-number : goal.returns-in_default-3-clause-number
returns-in_default-3-clause-number c = out_of_reach c.args.word.now c.args.low c.args.high (omega arith) (search rules) c.in_default.ensures.value.0
