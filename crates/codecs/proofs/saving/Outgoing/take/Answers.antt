use Rattle.std.proofs.Common.{ℕ, ◌+◌, ◌*◌, ◌^◌, ◌≤◌, List, length, take, sym, ap, subst, arith, length-drop}
use Rattle.outer.specs.Sink.{AppendsPrefix}
use Rattle.codecs.specs.Partway.{behind, IsFront}
use Rattle.codecs.specs.Saving.{ahead, weight, IsSent}
use Rattle.codecs.proofs.Sending.{sent_none, partial, sent_more, failed_more, on_err, slice_rest}
use Rattle.codecs.proofs.saving.Outgoing.take.Goals as goal

pub loop-at-init : goal.loop-at-init
loop-at-init g c = record { within = omega arith; room = c.requires.room; sent = sent_none c.args.self.now (g.K.Sink.taken c.args.sink.now) c.requires.high; count = omega arith }

pub take_some-requires-clause-front : goal.take_some-requires-clause-front
take_some-requires-clause-front g c = subst (λ (xs : List ℕ). IsFront (behind c.loop-at.self.encoder.waits xs)) (sym (slice_rest c.args.units.now c.loop-at.at))
    (partial c.args.units.now c.loop-at.at c.args.self.now c.loop-at.self _ _ c.loop-at.invariant.sent c.loop-at.invariant.within c.requires.front c.requires.small).front

pub take_some-requires-clause-small : goal.take_some-requires-clause-small
take_some-requires-clause-small g c = subst (λ (xs : List ℕ). weight c.loop-at.self + 4 * length xs ≤ 2 ^ 63) (sym (slice_rest c.args.units.now c.loop-at.at))
    (partial c.args.units.now c.loop-at.at c.args.self.now c.loop-at.self _ _ c.loop-at.invariant.sent c.loop-at.invariant.within c.requires.front c.requires.small).small

pub returns-in_err-at-clause-failed : goal.returns-in_err-at-clause-failed
returns-in_err-at-clause-failed g c = on_err c.from_residual.result
    (failed_more c.args.units.now c.loop-at.at c.args.self.now c.loop-at.self (g.K.Sink.taken c.args.sink.now) (g.K.Sink.taken c.loop-at.sink) (g.K.Sink.taken c.take_some.new.sink) c.loop-at.invariant.sent c.requires.front
    (subst (λ (xs : List ℕ). AppendsPrefix (ahead c.loop-at.self xs) (g.K.Sink.taken c.loop-at.sink) (g.K.Sink.taken c.take_some.new.sink)) (slice_rest c.args.units.now c.loop-at.at) c.in_err-at.ensures.failed))

pub loop-at-preserved : goal.loop-at-preserved
loop-at-preserved g c =
    let rest = slice_rest c.args.units.now c.loop-at.at in
    let len = ap length rest in
    record {
      within = omega (arith, len, c.in_ok-at.ensures.within, c.loop-at.invariant.within, length-drop c.loop-at.at c.args.units.now);
      room = c.in_ok-at.ensures.room;
      sent = sent_more c.args.units.now c.loop-at.at c.in_ok-at.field-0 c.args.self.now c.loop-at.self c.take_some.new.self _ _ _ c.loop-at.invariant.sent
          (subst (λ (xs : List ℕ). IsSent (take c.in_ok-at.field-0 xs) c.loop-at.self c.take_some.new.self (g.K.Sink.taken c.loop-at.sink) (g.K.Sink.taken c.take_some.new.sink)) rest c.in_ok-at.ensures.sent)
          c.loop-at.invariant.within c.requires.front;
      count = omega (arith, c.in_ok-at.ensures.count, c.loop-at.invariant.count);
    }
