use Rattle.std.proofs.Common.{◌≡◌, ◌≤◌, ◌+◌, ◌∙◌, ap, sym, subst, refl, ℕ, List, length, map}
use Rattle.std.specs.List.{All}
use Rattle.points.specs.declared.mark.Mark.{Mark}
use Rattle.points.specs.declared.mark.Splice.{Splice}
use Rattle.points.specs.declared.limits.TheConstants.{MAX_UNITS, MAX_COORD}
use Rattle.points.specs.Text.{replaced}
use Rattle.points.specs.MarkList.{MarkIsWithin, all_moved}
use Rattle.machine.specs.Machine.{State, splice_at, heard_more, changed}
use Rattle.plain_replay.specs.Standing.{IsSound}
use Rattle.plain_replay.proofs.SoundLemmas.{splice_made, moved_within, sound_moved, made_body}
use Rattle.plain_replay.proofs.body.Body.changed.Goals as goal

pub all_moved-requires : goal.all_moved-requires
all_moved-requires c =
    let t : List ℕ = c.self.inside.text.items in
    let seen : t ≡ c.args.self.now.text = ap (λ (s : State). s.text) c.self.view_is in
    let cut : c.in_ok-text.text.items ≡ replaced t c.args.from c.args.to c.args.new.now = c.in_ok-text.ensures ∙ ap (λ (x : List ℕ). replaced x c.args.from c.args.to c.args.new.now) c.as_slice.ensures.value in
    let splice : c.splice_between-splice.result ≡ splice_at t c.args.from c.args.to c.args.new.now = splice_made t c.as_slice-2.result.now c.as_slice-3.result.now c.args.new.now c.args.from c.args.to (c.args.from + length c.args.new.now)
    c.splice_between-splice.result c.splice_between-splice.ensures c.as_slice-2.ensures.value (c.as_slice-3.ensures.value ∙ cut) refl in
    subst (λ (s : Splice). All (MarkIsWithin MAX_COORD) (all_moved s c.as_slice-5.result.now)) (sym splice)
    (subst (λ (ms : List Mark). All (MarkIsWithin MAX_COORD) (all_moved (splice_at t c.args.from c.args.to c.args.new.now) ms)) (sym c.as_slice-5.ensures.value)
    (moved_within t c.args.new.now c.args.from c.args.to c.self.inside.marks.items c.requires.order (subst (λ (x : List ℕ). c.args.to ≤ length x) (sym seen) c.requires.within)
    (subst (λ (x : List ℕ). length (replaced x c.args.from c.args.to c.args.new.now) ≤ MAX_UNITS) (sym seen) c.requires.short) c.self.invariant))

pub invariant_of-body : goal.invariant_of-body
invariant_of-body c =
    let t : List ℕ = c.self.inside.text.items in
    let seen : t ≡ c.args.self.now.text = ap (λ (s : State). s.text) c.self.view_is in
    let cut : c.in_ok-text.text.items ≡ replaced t c.args.from c.args.to c.args.new.now = c.in_ok-text.ensures ∙ ap (λ (x : List ℕ). replaced x c.args.from c.args.to c.args.new.now) c.as_slice.ensures.value in
    let splice : c.splice_between-splice.result ≡ splice_at t c.args.from c.args.to c.args.new.now = splice_made t c.as_slice-2.result.now c.as_slice-3.result.now c.args.new.now c.args.from c.args.to (c.args.from + length c.args.new.now)
    c.splice_between-splice.result c.splice_between-splice.ensures c.as_slice-2.ensures.value (c.as_slice-3.ensures.value ∙ cut) refl in
    let moved : c.in_ok-marks.marks.items ≡ all_moved (splice_at t c.args.from c.args.to c.args.new.now) c.self.inside.marks.items = c.in_ok-marks.ensures
    ∙ ap (λ (s : Splice). all_moved s c.as_slice-5.result.now) splice ∙ ap (all_moved (splice_at t c.args.from c.args.to c.args.new.now)) c.as_slice-5.ensures.value in
    subst (λ (x : List ℕ). IsSound x c.in_ok-marks.marks.items) (sym cut) (subst (λ (ms : List Mark). IsSound (replaced t c.args.from c.args.to c.args.new.now) ms) (sym moved)
    (sound_moved t c.args.new.now c.args.from c.args.to c.self.inside.marks.items c.requires.order (subst (λ (x : List ℕ). c.args.to ≤ length x) (sym seen) c.requires.within)
    (subst (λ (x : List ℕ). length (replaced x c.args.from c.args.to c.args.new.now) ≤ MAX_UNITS) (sym seen) c.requires.short) c.self.invariant))

pub returns-clause-body : goal.returns-clause-body
returns-clause-body c =
    let t : List ℕ = c.self.inside.text.items in
    let cut : c.in_ok-text.text.items ≡ replaced t c.args.from c.args.to c.args.new.now = c.in_ok-text.ensures ∙ ap (λ (x : List ℕ). replaced x c.args.from c.args.to c.args.new.now) c.as_slice.ensures.value in
    let splice : c.splice_between-splice.result ≡ splice_at t c.args.from c.args.to c.args.new.now = splice_made t c.as_slice-2.result.now c.as_slice-3.result.now c.args.new.now c.args.from c.args.to (c.args.from + length c.args.new.now)
    c.splice_between-splice.result c.splice_between-splice.ensures c.as_slice-2.ensures.value (c.as_slice-3.ensures.value ∙ cut) refl in
    let moved : c.in_ok-marks.marks.items ≡ all_moved (splice_at t c.args.from c.args.to c.args.new.now) c.self.inside.marks.items = c.in_ok-marks.ensures
    ∙ ap (λ (s : Splice). all_moved s c.as_slice-5.result.now) splice ∙ ap (all_moved (splice_at t c.args.from c.args.to c.args.new.now)) c.as_slice-5.ensures.value in
    let told : c.in_ok-watchers.watchers ≡ map (heard_more (splice_at t c.args.from c.args.to c.args.new.now)) c.self.inside.watchers = c.in_ok-watchers.ensures
    ∙ ap (λ (s : Splice). map (heard_more s) c.self.inside.watchers) splice in
    made_body t c.in_ok-text.text.items c.args.new.now c.self.inside.marks.items c.in_ok-marks.marks.items c.self.inside.watchers c.in_ok-watchers.watchers c.self.inside.count c.self.inside.version c.args.from c.args.to cut moved told
    ∙ ap (λ (s : State). changed s c.args.from c.args.to c.args.new.now) c.self.view_is
