use Rattle.std.proofs.Common.{◌≡◌, ℕ, ◌+◌, ◌-◌, ◌<◌, ◌≤◌, List, [], length, take, drop, slice_get, slice_index_or, Some, ap, sym, ◌∙◌, arith}
use Rattle.std.proofs.lemmas.Option.{slice_get-get_or}
use Rattle.patch.proofs.Pieces.{new_of}
use Rattle.chains.specs.declared.overlay.Cut.{Cut}
use Rattle.chains.specs.Overlay.{first_kept}
use Rattle.chains.proofs.StandParts.{blank, lesser_end, stand_first, stand_put, stand_kept}
use Rattle.chains.proofs.stand.standing.Goals as goal

-- the cut before the place
got : (xs items : List Cut) (n : ℕ) → xs ≡ items → 0 < n → n ≤ length xs → slice_get items (n - 1) ≡ Some (slice_index_or xs (n - 1) blank)
got xs items n same some within = ap (λ (ys : List Cut). slice_get ys (n - 1)) (sym same) ∙ slice_get-get_or xs (n - 1) blank (omega (arith, some, within))

pub returns-then-next-eq0 : goal.returns-then-next-eq0
returns-then-next-eq0 c = λ s h.
    let end = lesser_end c.args.at c.kept_end.result c.args.to c.min-limit.result c.min-limit.ensures c.kept_end.ensures.behind c.requires.order in
    stand_first s c.args.overlay.now h c.args.at c.args.to (c.min-limit.result - c.args.at) c.kept_end.result
    (c.kept_end.ensures.value s h ∙ ap (λ (n : ℕ). length (new_of (take n h.pieces) []) + length (first_kept (drop n h.pieces) h.tail)) c.if-next-eq0.true)
    (omega (arith, end.0, end.1)) (omega (arith, end.0, end.2)) (omega (arith, end.0))

pub overflow_sub-result-then-at-put_end : goal.overflow_sub-result-then-at-put_end
overflow_sub-result-then-at-put_end c =
    let some : 0 < c.first_past-next.result = omega (arith, c.if-next-eq0.false) in
    let cut : Cut = slice_index_or c.as_slice-cuts.result.now (c.first_past-next.result - 1) blank in
    let behind : cut.new.offset ≤ c.args.at = c.first_past-next.ensures.before cut some (slice_get-get_or c.as_slice-cuts.result.now (c.first_past-next.result - 1) blank (omega (arith, some, c.first_past-next.ensures.within))) in
    behind

pub overflow_add-result : goal.overflow_add-result
overflow_add-result c =
    let some : 0 < c.first_past-next.result = omega (arith, c.if-next-eq0.false) in
    let cut : Cut = slice_index_or c.as_slice-cuts.result.now (c.first_past-next.result - 1) blank in
    let behind : cut.new.offset ≤ c.args.at = c.first_past-next.ensures.before cut some (slice_get-get_or c.as_slice-cuts.result.now (c.first_past-next.result - 1) blank (omega (arith, some, c.first_past-next.ensures.within))) in
    let stands = stand_put c.requires.laid.0 c.args.overlay.now c.requires.laid.1 c.first_past-next.result cut c.args.at (c.args.at + 1) 1 some
    (got c.as_slice-cuts.result.now c.args.overlay.now.cuts.items c.first_past-next.result c.as_slice-cuts.ensures.value some c.first_past-next.ensures.within) behind (omega (arith, c.if-at-put_end.true)) (omega arith) (omega arith) in
    omega (arith, stands.1)

pub overflow_add-result-else-at-put_end : goal.overflow_add-result-else-at-put_end
overflow_add-result-else-at-put_end c =
    let some : 0 < c.first_past-next.result = omega (arith, c.if-next-eq0.false) in
    let cut : Cut = slice_index_or c.as_slice-cuts.result.now (c.first_past-next.result - 1) blank in
    let stands = stand_kept c.requires.laid.0 c.args.overlay.now c.requires.laid.1 c.first_past-next.result cut c.args.at (c.args.at + 1) 1 c.kept_end.result some
    (got c.as_slice-cuts.result.now c.args.overlay.now.cuts.items c.first_past-next.result c.as_slice-cuts.ensures.value some c.first_past-next.ensures.within) c.if-at-put_end.false (c.kept_end.ensures.value c.requires.laid.0 c.requires.laid.1) (omega (arith, c.kept_end.ensures.behind)) (omega arith) (omega arith) in
    omega (arith, stands.1)

pub returns-then-at-put_end : goal.returns-then-at-put_end
returns-then-at-put_end c = λ s h.
    let some : 0 < c.first_past-next.result = omega (arith, c.if-next-eq0.false) in
    let cut : Cut = slice_index_or c.as_slice-cuts.result.now (c.first_past-next.result - 1) blank in
    let behind : cut.new.offset ≤ c.args.at = c.first_past-next.ensures.before cut some (slice_get-get_or c.as_slice-cuts.result.now (c.first_past-next.result - 1) blank (omega (arith, some, c.first_past-next.ensures.within))) in
    let end = lesser_end c.args.at cut.new_end.offset c.args.to c.min-end.result c.min-end.ensures c.if-at-put_end.true c.requires.order in
    (stand_put s c.args.overlay.now h c.first_past-next.result cut c.args.at c.args.to (c.min-end.result - c.args.at) some
    (got c.as_slice-cuts.result.now c.args.overlay.now.cuts.items c.first_past-next.result c.as_slice-cuts.ensures.value some c.first_past-next.ensures.within) behind (omega (arith, end.0, end.1)) (omega (arith, end.0, end.2)) (omega (arith, end.0))).0

pub returns-else-at-put_end : goal.returns-else-at-put_end
returns-else-at-put_end c = λ s h.
    let some : 0 < c.first_past-next.result = omega (arith, c.if-next-eq0.false) in
    let cut : Cut = slice_index_or c.as_slice-cuts.result.now (c.first_past-next.result - 1) blank in
    let end = lesser_end c.args.at c.kept_end.result c.args.to c.min-limit.result c.min-limit.ensures c.kept_end.ensures.behind c.requires.order in
    (stand_kept s c.args.overlay.now h c.first_past-next.result cut c.args.at c.args.to (c.min-limit.result - c.args.at) c.kept_end.result some
    (got c.as_slice-cuts.result.now c.args.overlay.now.cuts.items c.first_past-next.result c.as_slice-cuts.ensures.value some c.first_past-next.ensures.within) c.if-at-put_end.false (c.kept_end.ensures.value s h) (omega (arith, end.0, end.1)) (omega (arith, end.0, end.2)) (omega (arith, end.0))).0
