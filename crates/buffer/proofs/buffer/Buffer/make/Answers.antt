use Rattle.std.proofs.Common.{◌≡◌, ℕ, List, [], ◌∷◌, take, map, refl, ap, ◌∙◌, arith}
use Rattle.points.specs.declared.mark.Splice.{Splice}
use Rattle.points.specs.Place.{point_at}
use Rattle.points.specs.MarkList.{all_moved}
use Rattle.machine.specs.Machine.{State, Change, between, counted, with_step, change_of, changed, heard_more}
use Rattle.buffer.specs.Seen.{state_of}
use Rattle.buffer.proofs.TextLemmas.{marks_may_move}
use Rattle.buffer.proofs.EditLemmas.{same_state}
use Rattle.buffer.proofs.buffer.Buffer.make.Goals as goal

pub edited-hits-requires-after_bounds : goal.edited-hits-requires-after_bounds
edited-hits-requires-after_bounds g c = λ κs lives.
    let told = c.requires.told in
    let count = c.requires.count in (
      omega arith,
      (
        c.in_ok-change.ensures.start,
        (
          marks_may_move c.args.self.now.text c.args.from.offset c.args.to.offset c.args.new_text c.args.self.now.followers.marks _ c.requires.places.order c.requires.places.within c.requires.sound.short c.requires.fits c.requires.sound.marks
              c.in_ok-change.ensures.splice,
          (omega (arith, told, count), c.requires.stands),
        ),
      ),
    )

pub returns-clause-state : goal.returns-clause-state
returns-clause-state g c =
    let s : State = state_of c.args.self.now in
    let i : ℕ = c.args.from.offset in
    let j : ℕ = c.args.to.offset in
    let old : c.in_ok-old_text.old_text ≡ between s.text i j = c.in_ok-old_text.ensures in
    let made : Change = change_of s i j c.args.new_text in
    let texts = c.in_ok-change.ensures.texts ∙ ap (λ (u : List ℕ). record { start = point_at s.text i; old = u; new = c.args.new_text }) old in
    let u : State = counted (with_step (made ∷ []) (changed s i j c.args.new_text)) in
    ap (λ b. state_of (record b { version = c.numbered-self.result })) c.numbered-self.ensures.new ∙ same_state _ u c.in_ok-change.ensures.ok
    (c.edited-hits.ensures.marks ∙ ap (λ (p : Splice). all_moved p s.marks) c.in_ok-change.ensures.splice)
    (c.edited-hits.ensures.past ∙ ap (λ (ch : Change). take 1000 ((ch ∷ []) ∷ s.past)) texts)
    c.edited-hits.ensures.future
    (c.edited-hits.ensures.watchers ∙ ap (λ (p : Splice). map (heard_more p) s.watchers) c.in_ok-change.ensures.splice)
    refl c.numbered-self.ensures.number

pub returns-clause-stands : goal.returns-clause-stands
returns-clause-stands g c = rw c.numbered-self.ensures.new c.edited-hits.ensures.stands
