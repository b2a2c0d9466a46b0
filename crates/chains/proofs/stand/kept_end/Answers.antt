use Rattle.std.proofs.Common.{◌≡◌, ℕ, ◌<◌, ◌≤◌, List, length, slice_get, slice_index_or, Some, ap, sym, ◌∙◌, arith}
use Rattle.std.proofs.lemmas.Option.{slice_get_past}
use Rattle.chains.specs.declared.overlay.Cut.{Cut}
use Rattle.chains.proofs.StandParts.{blank, got_at, kept_to_cut, kept_to_end}
use Rattle.chains.proofs.stand.kept_end.Goals as goal

pub returns-then-next-cuts-clause-value : goal.returns-then-next-cuts-clause-value
returns-then-next-cuts-clause-value c = λ s h. kept_to_cut s c.args.overlay.now h c.args.next (slice_index_or c.as_slice-cuts.result.now c.args.next blank)
    (got_at c.as_slice-cuts.result.now c.args.overlay.now.cuts.items c.args.next c.as_slice-cuts.ensures.value (omega arith))

pub returns-then-next-cuts-clause-behind : goal.returns-then-next-cuts-clause-behind
returns-then-next-cuts-clause-behind c = c.requires.behind (slice_index_or c.as_slice-cuts.result.now c.args.next blank)
    (got_at c.as_slice-cuts.result.now c.args.overlay.now.cuts.items c.args.next c.as_slice-cuts.ensures.value (omega arith))

pub returns-else-next-cuts-clause-value : goal.returns-else-next-cuts-clause-value
returns-else-next-cuts-clause-value c = λ s h. kept_to_end s c.args.overlay.now h c.args.next
    (ap (λ (ys : List Cut). slice_get ys c.args.next) (sym c.as_slice-cuts.ensures.value) ∙ slice_get_past c.as_slice-cuts.result.now c.args.next (omega arith))
