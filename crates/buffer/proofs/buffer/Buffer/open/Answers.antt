use Rattle.std.proofs.Common.{◌≡◌, refl, sym, subst, ap, ◌∙◌}
use Rattle.points.specs.Text.{utf16_of}
use Rattle.points.proofs.WellFormedLemmas.{well_formed-utf16_of}
use Rattle.machine.specs.Machine.{State, opened}
use Rattle.followers.specs.Following.{steps_of, watchings}
use Rattle.buffer.specs.Sound.{IsSound}
use Rattle.buffer.proofs.EditLemmas.{same_state}
use Rattle.buffer.proofs.SoundLemmas.{sound_opened}
use Rattle.buffer.proofs.buffer.Buffer.open.Goals as goal

pub returns-clause-sound : goal.returns-clause-sound
returns-clause-sound g c =
    let u : State = opened (utf16_of c.args.text.now) in
    let same = same_state _ u (c.in_ok-text.ensures ∙ c.in-Ok.ensures.ok) c.new.ensures (ap (λ h. steps_of h.past) c.in_ok-new.ensures) (ap (λ h. steps_of h.future) c.in_ok-new.ensures) (ap (λ l. watchings l) c.new-3.ensures.seats) refl refl in
    subst IsSound (sym same) (sound_opened (utf16_of c.args.text.now) c.requires (well_formed-utf16_of c.args.text.now c.utf8.text))
