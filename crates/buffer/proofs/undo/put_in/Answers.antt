use Rattle.std.proofs.Common.{◌≡◌, ℕ, ◌+◌, List, length, refl, ap, ◌∙◌, arith, unwrap_or}
use Rattle.points.specs.Place.{offset_of}
use Rattle.chains.specs.declared.spot.Spot.{Spot}
use Rattle.buffer.proofs.TextLemmas.{are_spots}
use Rattle.buffer.proofs.UndoLemmas.{leads_at}
use Rattle.buffer.proofs.undo.put_in.Goals as goal

pub spot_of-from-requires : goal.spot_of-from-requires
spot_of-from-requires c = let h = c.requires.stands.1 in let within = h.within in record { offset = h.offset; within = omega (arith, within); is = h.here }

pub change-requires-clause-places : goal.change-requires-clause-places
change-requires-clause-places c =
    let t : List ℕ = c.args.text.now in
    let i : ℕ = unwrap_or (offset_of t c.args.step.start) 0 in
    let at = leads_at c.args.step.start c.args.step.old_text c.args.step.new_text t c.requires.stands.0 c.requires.stands.1 in
    let within = at.within in
    let from : c.spot_of-from.result.offset ≡ i = ap (λ (x : Spot). x.offset) c.spot_of-from.ensures.value in
    let to : c.spot_at-to.result.offset ≡ i + length c.args.step.old_text = ap (λ (x : Spot). x.offset) c.spot_at-to.ensures ∙ rw (from, c.len.ensures) refl in
    are_spots t i _ c.spot_of-from.result c.spot_at-to.result c.spot_of-from.ensures.value c.spot_at-to.ensures (omega (arith, from, to)) (omega (arith, to, within))

pub change-requires-clause-fits : goal.change-requires-clause-fits
change-requires-clause-fits c =
    let t : List ℕ = c.args.text.now in
    let i : ℕ = unwrap_or (offset_of t c.args.step.start) 0 in
    let at = leads_at c.args.step.start c.args.step.old_text c.args.step.new_text t c.requires.stands.0 c.requires.stands.1 in
    let from : c.spot_of-from.result.offset ≡ i = ap (λ (x : Spot). x.offset) c.spot_of-from.ensures.value in
    let to : c.spot_at-to.result.offset ≡ i + length c.args.step.old_text = ap (λ (x : Spot). x.offset) c.spot_at-to.ensures ∙ rw (from, c.len.ensures) refl in
    rw (from, to) at.fits

pub overflow_add-from : goal.overflow_add-from
overflow_add-from c =
    let at = leads_at c.args.step.start c.args.step.old_text c.args.step.new_text c.args.text.now c.requires.stands.0 c.requires.stands.1 in
    let from : c.spot_of-from.result.offset ≡ unwrap_or (offset_of c.args.text.now c.args.step.start) 0 = ap (λ (x : Spot). x.offset) c.spot_of-from.ensures.value in
    let within = at.within in
    let short = c.requires.short in
    rw (from, c.len.ensures) (omega (arith, within, short))

pub spot_at-to-requires : goal.spot_at-to-requires
spot_at-to-requires c =
    let at = leads_at c.args.step.start c.args.step.old_text c.args.step.new_text c.args.text.now c.requires.stands.0 c.requires.stands.1 in
    let from : c.spot_of-from.result.offset ≡ unwrap_or (offset_of c.args.text.now c.args.step.start) 0 = ap (λ (x : Spot). x.offset) c.spot_of-from.ensures.value in
    rw (from, c.len.ensures) at.within
