use Rattle.std.proofs.Common.{◌≡◌, ◌-◌, ◌≤◌, take}
use Rattle.chains.specs.Layered.{whole_text}
use Rattle.chains.proofs.chain.Chain.joined.Given as goal

abbrev pub invariant-stretches : goal.invariant-stretches
invariant-stretches l = (l.text ≡ take l.at (whole_text l.self)) × (l.at ≤ l.end.offset)

abbrev pub decreases-stretches : goal.decreases-stretches
decreases-stretches l = l.end.offset - l.at
