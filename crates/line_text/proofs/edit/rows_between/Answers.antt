use Rattle.std.proofs.Common.{length, ap, arith}
use Rattle.line_text.proofs.StartLemmas.{length-starts}
use Rattle.line_text.proofs.ReplaceLemmas.{feeds-take_mono, feeds-take-le}
use Rattle.line_text.proofs.edit.rows_between.Goals as goal

pub returns-clause-order : goal.returns-clause-order
returns-clause-order c = omega (arith, c.row_at.ensures, c.row_at-2.ensures, feeds-take_mono c.args.units.now c.args.from c.args.to c.requires.order)

pub returns-clause-within : goal.returns-clause-within
returns-clause-within c = omega (arith, c.row_at-2.ensures, feeds-take-le c.args.units.now c.args.to, ap length c.requires.kept, length-starts 0 c.args.units.now)
