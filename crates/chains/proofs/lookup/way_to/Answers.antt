use Rattle.std.proofs.Common.{◌≡◌, ℕ, ◌-◌, ◌<◌, ◌≤◌, List, length, slice_get, slice_index_or, Some, ap, sym, ◌∙◌, arith}
use Rattle.std.proofs.lemmas.Option.{slice_get-get_or}
use Rattle.chains.specs.declared.overlay.Cut.{Cut}
use Rattle.chains.proofs.StandParts.{blank}
use Rattle.chains.proofs.WalkLemmas.{point_first, point_put, point_below}
use Rattle.chains.proofs.lookup.way_to.Goals as goal

-- the cut before the place
got : (xs items : List Cut) (n : ℕ) → xs ≡ items → 0 < n → n ≤ length xs → slice_get items (n - 1) ≡ Some (slice_index_or xs (n - 1) blank)
got xs items n same some within = ap (λ (ys : List Cut). slice_get ys (n - 1)) (sym same) ∙ slice_get-get_or xs (n - 1) blank (omega (arith, some, within))

pub returns-then-next-eq0 : goal.returns-then-next-eq0
returns-then-next-eq0 c = λ s h i within is. point_first s c.args.overlay.now h c.args.point i within is c.first_behind-next.result c.if-next-eq0.true
    (λ d e. c.first_behind-next.ensures.behind d (ap (λ (ys : List Cut). slice_get ys c.first_behind-next.result) c.as_slice-cuts.ensures.value ∙ e))

pub returns-then-is_before : goal.returns-then-is_before
returns-then-is_before c = λ s h i within is.
    let some : 0 < c.first_behind-next.result = omega (arith, c.if-next-eq0.false) in
    let cut : Cut = slice_index_or c.as_slice-cuts.result.now (c.first_behind-next.result - 1) blank in
    point_put s c.args.overlay.now h c.args.point i within is c.first_behind-next.result cut some
    (got c.as_slice-cuts.result.now c.args.overlay.now.cuts.items c.first_behind-next.result c.as_slice-cuts.ensures.value some c.first_behind-next.ensures.within)
    (c.first_behind-next.ensures.before cut some (slice_get-get_or c.as_slice-cuts.result.now (c.first_behind-next.result - 1) blank (omega (arith, some, c.first_behind-next.ensures.within))))
    (sym c.is_before.ensures ∙ c.if-is_before.true)

pub returns-else-is_before : goal.returns-else-is_before
returns-else-is_before c = λ s h i within is.
    let some : 0 < c.first_behind-next.result = omega (arith, c.if-next-eq0.false) in
    let cut : Cut = slice_index_or c.as_slice-cuts.result.now (c.first_behind-next.result - 1) blank in
    point_below s c.args.overlay.now h c.args.point i within is c.first_behind-next.result cut some
    (got c.as_slice-cuts.result.now c.args.overlay.now.cuts.items c.first_behind-next.result c.as_slice-cuts.ensures.value some c.first_behind-next.ensures.within)
    (sym c.is_before.ensures ∙ c.if-is_before.false)
    (λ d e. c.first_behind-next.ensures.behind d (ap (λ (ys : List Cut). slice_get ys c.first_behind-next.result) c.as_slice-cuts.ensures.value ∙ e))
