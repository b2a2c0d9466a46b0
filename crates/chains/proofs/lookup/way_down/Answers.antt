use Rattle.std.proofs.Common.{◌≡◌, ℕ, ◌-◌, ◌<◌, ◌≤◌, List, length, slice_get, slice_index_or, Some, ap, sym, ◌∙◌, arith}
use Rattle.std.proofs.lemmas.Option.{slice_get-get_or}
use Rattle.chains.specs.declared.overlay.Cut.{Cut}
use Rattle.chains.proofs.StandParts.{blank}
use Rattle.chains.proofs.SpotLemmas.{way_first, way_put, way_below}
use Rattle.chains.proofs.lookup.way_down.Goals as goal

-- the cut before the place
got : (xs items : List Cut) (n : ℕ) → xs ≡ items → 0 < n → n ≤ length xs → slice_get items (n - 1) ≡ Some (slice_index_or xs (n - 1) blank)
got xs items n same some within = ap (λ (ys : List Cut). slice_get ys (n - 1)) (sym same) ∙ slice_get-get_or xs (n - 1) blank (omega (arith, some, within))

pub returns-then-next-eq0 : goal.returns-then-next-eq0
returns-then-next-eq0 c = λ s h. way_first s c.args.overlay.now h c.first_past-next.result c.args.at c.if-next-eq0.true
    (λ d e. c.first_past-next.ensures.behind d (ap (λ (ys : List Cut). slice_get ys c.first_past-next.result) c.as_slice-cuts.ensures.value ∙ e)) c.requires.within

pub returns-then-at-put_end : goal.returns-then-at-put_end
returns-then-at-put_end c = λ s h.
    let some : 0 < c.first_past-next.result = omega (arith, c.if-next-eq0.false) in
    let cut : Cut = slice_index_or c.as_slice-cuts.result.now (c.first_past-next.result - 1) blank in
    way_put s c.args.overlay.now h c.first_past-next.result cut c.args.at some
    (got c.as_slice-cuts.result.now c.args.overlay.now.cuts.items c.first_past-next.result c.as_slice-cuts.ensures.value some c.first_past-next.ensures.within)
    (c.first_past-next.ensures.before cut some (slice_get-get_or c.as_slice-cuts.result.now (c.first_past-next.result - 1) blank (omega (arith, some, c.first_past-next.ensures.within))))
    (omega (arith, c.if-at-put_end.true))

pub returns-else-at-put_end : goal.returns-else-at-put_end
returns-else-at-put_end c = λ s h.
    let some : 0 < c.first_past-next.result = omega (arith, c.if-next-eq0.false) in
    let cut : Cut = slice_index_or c.as_slice-cuts.result.now (c.first_past-next.result - 1) blank in
    way_below s c.args.overlay.now h c.first_past-next.result cut c.args.at some
    (got c.as_slice-cuts.result.now c.args.overlay.now.cuts.items c.first_past-next.result c.as_slice-cuts.ensures.value some c.first_past-next.ensures.within) c.if-at-put_end.false
    (λ d e. c.first_past-next.ensures.behind d (ap (λ (ys : List Cut). slice_get ys c.first_past-next.result) c.as_slice-cuts.ensures.value ∙ e)) c.requires.within
