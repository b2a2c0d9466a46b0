use Rattle.std.proofs.Common.{◌≡◌, ◌++◌, slice_range}
use Rattle.chains.specs.Layered.{whole_text}
use Rattle.chains.proofs.chain.Chain.gathered.Given as goal

abbrev pub invariant-loop-piece : goal.invariant-loop-piece
invariant-loop-piece l = l.units.items ++ l.piece-iterator ≡ slice_range (whole_text l.self) l.from l.to
