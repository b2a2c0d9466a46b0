use Rattle.patch.proofs.StretchPieces.{laid_are_gaps}
use Rattle.patch.proofs.laws.stretches_are_laid_as_gaps.Goals as goal

pub returns : goal.returns
returns c = laid_are_gaps
