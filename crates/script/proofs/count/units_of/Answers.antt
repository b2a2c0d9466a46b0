use Rattle.std.proofs.Common.{sym}
use Rattle.script.proofs.Loops.{utf16_of_ascii}
use Rattle.script.proofs.count.units_of.Goals as goal

pub returns-then-is_ascii : goal.returns-then-is_ascii
returns-then-is_ascii c = sym (utf16_of_ascii c.args.text.now c.utf8.text c.if-is_ascii.ensures.cases)
