use Rattle.std.proofs.Common.{◌≤◌, ◌^◌, refl, sym, subst, take, length, ◌+◌, ◌*◌}
use Rattle.outer.specs.Sink.{AppendsPrefix}
use Rattle.codecs.specs.Partway.{behind, IsFront}
use Rattle.codecs.specs.Saving.{Outgoing, ahead, weight}
use Rattle.codecs.proofs.Sending.{Stepped, weight_step, failed_step, on_err}
use Rattle.codecs.proofs.saving.Outgoing.take_some.Goals as goal

pub put_held-requires : goal.put_held-requires
put_held-requires g c =
    let one : Outgoing = record { encoder = c.self.inside.encoder; held = c.self.inside.held.items; put = c.self.inside.put } in
    let two : Outgoing = record { encoder = c.step-taken.new.self; held = c.step-taken.new.into.items; put = c.self.inside.put } in
    let s : Stepped (take c.step-taken.result c.args.units.now) one two = record { held = c.step-taken.ensures.bytes; put = refl; encoding = c.step-taken.ensures.encoding; waits = c.step-taken.ensures.waits } in
    weight_step c.args.units.now c.step-taken.result one two s c.step-taken.ensures.within
    (subst (λ (o : Outgoing). IsFront (behind o.encoder.waits c.args.units.now)) (sym c.self.view_is) c.requires.front)
    (subst (λ (o : Outgoing). weight o + 4 * length c.args.units.now ≤ 2 ^ 63) (sym c.self.view_is) c.requires.small)

pub returns-in_err-put_held-clause-failed : goal.returns-in_err-put_held-clause-failed
returns-in_err-put_held-clause-failed g c =
    let one : Outgoing = record { encoder = c.self.inside.encoder; held = c.self.inside.held.items; put = c.self.inside.put } in
    let two : Outgoing = record { encoder = c.step-taken.new.self; held = c.step-taken.new.into.items; put = c.self.inside.put } in
    let s : Stepped (take c.step-taken.result c.args.units.now) one two = record { held = c.step-taken.ensures.bytes; put = refl; encoding = c.step-taken.ensures.encoding; waits = c.step-taken.ensures.waits } in
    on_err c.from_residual.result (subst (λ (o : Outgoing). AppendsPrefix (ahead o c.args.units.now) (g.K.Sink.taken c.args.sink.now) (g.K.Sink.taken c.put_held.new.sink)) c.self.view_is
    (failed_step c.args.units.now c.step-taken.result one two _ _ s
    (subst (λ (o : Outgoing). IsFront (behind o.encoder.waits c.args.units.now)) (sym c.self.view_is) c.requires.front) c.in_err-put_held.ensures.failed))

pub returns-in_ok-put_held-clause-some : goal.returns-in_ok-put_held-clause-some
returns-in_ok-put_held-clause-some g c = c.step-taken.ensures.goes c.requires.some (subst (λ (o : Outgoing). length o.held ≤ 4092) (sym c.self.view_is) c.requires.room)
