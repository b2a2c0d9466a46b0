use Rattle.std.proofs.Common.{ℕ, ◌+◌, take, sym, ap, ◌∙◌, arith}
use Rattle.chains.specs.Layered.{whole_text}
use Rattle.chains.proofs.FlattenLemmas.{joined_more}
use Rattle.chains.proofs.chain.Chain.joined.Goals as goal

pub stretches-preserved : goal.stretches-preserved
stretches-preserved c = (
  c.in_ok-append.ensures.ok ∙ (joined_more (whole_text c.args.self.now) c.stretches.text c.stretch.result.part c.stretches.at c.stretches.invariant.0 c.stretch.ensures.units
      ∙ ap (λ (n : ℕ). take (c.stretches.at + n) (whole_text c.args.self.now)) (sym c.len.ensures.value)),
  omega (arith, c.stretch.ensures.within, c.len.ensures.value),
)
