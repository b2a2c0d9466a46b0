use Rattle.std.proofs.Common.{arith}
use Rattle.chains.proofs.SizeLemmas.{few_cuts, size_laid}
use Rattle.chains.proofs.overlay.Overlay.size.Goals as goal

pub overflow_cast-result : goal.overflow_cast-result
overflow_cast-result c = omega (arith, c.len.ensures, c.args.self.now.cuts.ok, few_cuts c.requires.0 c.args.self.now c.requires.1)

pub returns : goal.returns
returns c = λ s laid. size_laid s c.args.self.now c.len.result laid (omega (arith, c.len.ensures, c.args.self.now.cuts.ok))
