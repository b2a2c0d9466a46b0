use Rattle.std.proofs.Common.{◌++◌, List, ℕ, length, take, ap, ◌∙◌, refl, arith}
use Rattle.std.proofs.lemmas.List.{length-take-le}
use Rattle.chains.specs.declared.overlay.Cut.{Cut}
use Rattle.chains.proofs.FrontLemmas.{get_within, has_cut, opened_end, opened_short, opened_units, opened_woven}
use Rattle.chains.proofs.overlay.Overlay.opened.Goals as goal

pub overflow_add-end : goal.overflow_add-end
overflow_add-end c = omega (arith, opened_end c.requires.0 c.args.self.now c.args.index c.args.cut c.args.last c.requires.1 (has_cut c.requires.0 c.args.self.now c.args.index c.args.cut c.requires.1.laid c.requires.1.at), opened_short c.requires.0 c.args.self.now c.args.index c.args.cut c.args.last c.requires.1 (has_cut c.requires.0 c.args.self.now c.args.index c.args.cut c.requires.1.laid c.requires.1.at))

pub slice_bounds-extend_from_slice-end : goal.slice_bounds-extend_from_slice-end
slice_bounds-extend_from_slice-end c = omega (arith, length-take-le c.args.index c.as_slice.result.now (omega (arith, get_within c.args.self.now.cuts.items c.args.index c.args.cut c.requires.1.at, ap (λ (cs : List Cut). length cs) c.as_slice.ensures.value)))

pub part-requires-clause-within : goal.part-requires-clause-within
part-requires-clause-within c = opened_end c.requires.0 c.args.self.now c.args.index c.args.cut c.args.last c.requires.1 (has_cut c.requires.0 c.args.self.now c.args.index c.args.cut c.requires.1.laid c.requires.1.at)

pub overflow_sub-result : goal.overflow_sub-result
overflow_sub-result c = omega (arith, opened_units c.requires.0 c.args.self.now c.args.index c.args.cut c.args.last c.requires.1 (has_cut c.requires.0 c.args.self.now c.args.index c.args.cut c.requires.1.laid c.requires.1.at), c.from.ensures, c.from-2.ensures, c.from-3.ensures)

pub returns-clause-woven : goal.returns-clause-woven
returns-clause-woven c = λ s h. opened_woven s c.args.self.now c.args.index c.args.cut c.args.last h (has_cut s c.args.self.now c.args.index c.args.cut h.laid h.at) _
    (c.in_ok-extend_from_slice.ensures.items ∙ (ap (λ (cs : List Cut). cs ++ take c.args.index c.as_slice.result.now) c.in_ok-cuts.ensures.items ∙ ap (take c.args.index) c.as_slice.ensures.value))
    (c.in_ok-append.ensures.ok ∙ (ap (λ (xs : List ℕ). xs ++ c.part.result) c.in_ok-text.ensures ∙ c.part.ensures))
    refl refl refl refl refl (omega (arith, c.from.ensures, c.from-2.ensures, c.from-3.ensures))
