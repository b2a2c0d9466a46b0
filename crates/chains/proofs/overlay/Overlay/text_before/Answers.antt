use Rattle.std.proofs.Common.{List, length, slice_index_or, ap, ◌∙◌, arith}
use Rattle.chains.specs.declared.overlay.Cut.{Cut}
use Rattle.chains.proofs.StandParts.{blank, got_at}
use Rattle.chains.proofs.RestLemmas.{text_first, text_last}
use Rattle.chains.proofs.overlay.Overlay.text_before.Goals as goal

pub returns-then-next-cuts : goal.returns-then-next-cuts
returns-then-next-cuts c = λ olds news puts pieces all text_is. text_first c.args.self.now.cuts.items c.args.next (slice_index_or c.as_slice-cuts.result.now c.args.next blank) olds news puts pieces
    (got_at c.as_slice-cuts.result.now c.args.self.now.cuts.items c.args.next c.as_slice-cuts.ensures.value c.if-next-cuts.true) all

pub returns-else-next-cuts : goal.returns-else-next-cuts
returns-else-next-cuts c = λ olds news puts pieces all text_is. c.len.ensures.value ∙ text_last c.args.self.now.cuts.items c.args.next olds news puts c.args.self.now.text pieces
    (omega (arith, c.if-next-cuts.false, ap (λ (cs : List Cut). length cs) c.as_slice-cuts.ensures.value)) all text_is
