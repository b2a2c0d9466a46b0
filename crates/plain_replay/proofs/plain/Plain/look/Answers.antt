use Rattle.std.proofs.Common.{◌≡◌, ◌-◌, ◌∙◌, ap, ℕ, List}
use Rattle.points.specs.Place.{clipped_offset, span}
use Rattle.machine.specs.Machine.{State, Shown}
use Rattle.plain_replay.proofs.CallLemmas.{look_shows, shown_is, numbered}
use Rattle.plain_replay.proofs.plain.Plain.look.Goals as goal

pub returns-clause-ok : goal.returns-clause-ok
returns-clause-ok c =
    let same : c.text-units.result.now ≡ c.args.self.now.text = c.text-units.ensures.value ∙ ap (λ (s : State). s.text) c.self.view_is in
    let from : c.span-from.result.0 ≡ (span c.args.self.now.text c.args.range.start c.args.range.end).0 = c.span-from.ensures.from ∙ ap (λ (t : List ℕ). clipped_offset t c.args.range.start) same in
    let to : c.span-from.result.1 ≡ (span c.args.self.now.text c.args.range.start c.args.range.end).1 = c.span-from.ensures.to ∙ ap (λ (t : List ℕ). clipped_offset t c.args.range.end) same in
    rw (c.new.ensures, c.in_ok-text.ensures) (numbered c.self.inside.body c.number.new.self c.args.self.now c.self.inside.past.items c.self.inside.future.items c.number.result
    (Shown c.shown-units.result.now (c.span-from.result.1 - c.span-from.result.0)) c.number.ensures.body c.number.ensures.number c.self.view_is
    ∙ look_shows c.args.self.now c.args.range c.args.limit c.shown-units.result.now (c.span-from.result.1 - c.span-from.result.0)
    (c.shown-units.ensures ∙ shown_is c.text-units.result.now c.args.self.now.text c.span-from.result.0 c.span-from.result.1 _ _ c.args.limit same from to)
    (ap (λ (k : ℕ). c.span-from.result.1 - k) from ∙ ap (λ (k : ℕ). k - (span c.args.self.now.text c.args.range.start c.args.range.end).0) to))
