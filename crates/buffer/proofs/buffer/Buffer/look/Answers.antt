use Rattle.std.proofs.Common.{◌≡◌, ℕ, refl, ap, ◌∙◌}
use Rattle.chains.specs.declared.spot.Spot.{Spot}
use Rattle.machine.specs.Machine.{State}
use Rattle.buffer.specs.Seen.{state_of}
use Rattle.buffer.proofs.EditLemmas.{same_answer}
use Rattle.points.specs.Place.{clipped_offset}
use Rattle.machine.specs.Machine.{look, shown}
use Rattle.buffer.proofs.EditLemmas.{look_shows}
use Rattle.buffer.proofs.LookLemmas.{shown_is}
use Rattle.buffer.proofs.buffer.Buffer.look.Goals as goal

pub returns-clause-ok : goal.returns-clause-ok
returns-clause-ok g c =
    let s : State = state_of c.args.self.now in
    let i : ℕ = c.spots.result.0.offset in
    let j : ℕ = c.spots.result.1.offset in
    let first : i ≡ clipped_offset s.text c.args.range.start = ap (λ (x : Spot). x.offset) c.spots.ensures.from in
    let last : j ≡ clipped_offset s.text c.args.range.end = ap (λ (x : Spot). x.offset) c.spots.ensures.to in
    same_answer s (look c.args.range c.args.limit) _ _ _
    (look_shows s c.args.range c.args.limit i j _ _ first last
    (c.shown.ensures ∙ ap (shown c.args.limit) (c.as_slice.ensures ∙ c.in_ok-units.ensures) ∙ shown_is s.text i j c.args.limit c.read_end.result c.read_end.ensures.value) refl)
    (ap (λ b. state_of b) c.numbered.ensures.new) (rw (c.numbered.ensures.number, c.new.ensures, c.in_ok-text.ensures) refl)
