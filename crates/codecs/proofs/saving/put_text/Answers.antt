use Rattle.std.proofs.Common.{◌≡◌, ℕ, ◌<◌, List, length, sym, ap, ◌∙◌, subst, arith, slice_range}
use Rattle.std.proofs.lemmas.List.Sums.{count_by-le-length}
use Rattle.points.specs.declared.point.Point.{Point}
use Rattle.points.specs.declared.limits.TheConstants.{MAX_UNITS}
use Rattle.points.specs.Text.{is_lf}
use Rattle.points.specs.Place.{extent, clipped_offset}
use Rattle.codecs.specs.Saving.{Outgoing, fresh, IsGiven}
use Rattle.codecs.proofs.Sending.{given_none, next_front, next_small, next_given, next_failed, all_small, whole_range, on_err}
use Rattle.codecs.proofs.saving.put_text.Goals as goal

pub loop-piece-init : goal.loop-piece-init
loop-piece-init g c =
    let text = c.args.reader.now.text in
    let t = g.K.Sink.taken c.args.sink.now in
    let past : Point = record { row = 4294967295; column = 0 } in
    let below : (extent text).row < 4294967295 = omega (arith, count_by-le-length is_lf text, c.len.ensures.value, c.len.ensures.short) in
    let all = whole_range text past below in
    let from = c.new.ensures.start in
    let to = c.new.ensures.end in
    let range = slice_range text (clipped_offset text c.new.result.start) (clipped_offset text c.new.result.end) in
    let pieces = ◌∙◌ {b = range} c.pieces-piece-items.ensures
    (ap (λ (p : Point). slice_range text (clipped_offset text p) (clipped_offset text c.new.result.end)) from
    ∙ (ap (λ (p : Point). slice_range text (clipped_offset text (record { row = 0; column = 0 })) (clipped_offset text p)) to ∙ all)) in
    let gives = c.into_iter-piece-iterator.ensures.into_iter_gives in
    let whole : c.into_iter-piece-iterator.result ≡ text = cc in
    let empty = ap (λ (o : Outgoing). length o.held) c.new-out.ensures in
    record {
      given = subst (λ (o : Outgoing). IsGiven text c.args.encoding c.into_iter-piece-iterator.result o t t) (sym c.new-out.ensures)
          (subst (λ (xs : List ℕ). IsGiven text c.args.encoding xs (fresh c.args.encoding) t t) (sym whole) (given_none text c.args.encoding t));
      room = omega (arith, empty);
      count = omega arith;
    }

pub take-requires-clause-front : goal.take-requires-clause-front
take-requires-clause-front g c =
    let s = subst (λ (xs : List ℕ). IsGiven c.args.reader.now.text c.args.encoding xs c.loop-piece.out (g.K.Sink.taken c.args.sink.now) (g.K.Sink.taken c.loop-piece.sink)) c.in-Some.ensures.steps.1 c.loop-piece.invariant.given in
    next_front c.args.reader.now.text c.args.encoding c.in-Some.piece.now c.next.new.self c.loop-piece.out (g.K.Sink.taken c.args.sink.now) (g.K.Sink.taken c.loop-piece.sink) s c.requires

pub take-requires-clause-small : goal.take-requires-clause-small
take-requires-clause-small g c =
    let s = subst (λ (xs : List ℕ). IsGiven c.args.reader.now.text c.args.encoding xs c.loop-piece.out (g.K.Sink.taken c.args.sink.now) (g.K.Sink.taken c.loop-piece.sink)) c.in-Some.ensures.steps.1 c.loop-piece.invariant.given in
    next_small c.args.reader.now.text c.args.encoding c.in-Some.piece.now c.next.new.self c.loop-piece.out (g.K.Sink.taken c.args.sink.now) (g.K.Sink.taken c.loop-piece.sink) s c.requires
    MAX_UNITS (omega (arith, c.len.ensures.value, c.len.ensures.short)) (omega arith)

pub loop-piece-preserved : goal.loop-piece-preserved
loop-piece-preserved g c =
    let s = subst (λ (xs : List ℕ). IsGiven c.args.reader.now.text c.args.encoding xs c.loop-piece.out (g.K.Sink.taken c.args.sink.now) (g.K.Sink.taken c.loop-piece.sink)) c.in-Some.ensures.steps.1 c.loop-piece.invariant.given in
    record {
      given = next_given c.args.reader.now.text c.args.encoding c.in-Some.piece.now c.next.new.self c.loop-piece.out (g.K.Sink.taken c.args.sink.now) (g.K.Sink.taken c.loop-piece.sink) s c.requires
          c.take.new.self (g.K.Sink.taken c.take.new.sink) c.in_ok-take.ensures.sent;
      room = c.in_ok-take.ensures.room;
      count = omega (arith, c.in_ok-take.ensures.count, c.loop-piece.invariant.count);
    }

pub returns-in_err-take-clause-prefix : goal.returns-in_err-take-clause-prefix
returns-in_err-take-clause-prefix g c =
    let s = subst (λ (xs : List ℕ). IsGiven c.args.reader.now.text c.args.encoding xs c.loop-piece.out (g.K.Sink.taken c.args.sink.now) (g.K.Sink.taken c.loop-piece.sink)) c.in-Some.ensures.steps.1 c.loop-piece.invariant.given in
    on_err c.from_residual.result (next_failed c.args.reader.now.text c.args.encoding c.in-Some.piece.now c.next.new.self c.loop-piece.out (g.K.Sink.taken c.args.sink.now) (g.K.Sink.taken c.loop-piece.sink) s c.requires
    (g.K.Sink.taken c.take.new.sink) c.in_err-take.ensures.failed)

pub returns-clause-small : goal.returns-clause-small
returns-clause-small g c =
    let s = subst (λ (xs : List ℕ). IsGiven c.args.reader.now.text c.args.encoding xs c.loop-piece.out (g.K.Sink.taken c.args.sink.now) (g.K.Sink.taken c.loop-piece.sink)) c.in-None.ensures.steps.0 c.loop-piece.invariant.given in
    all_small c.args.reader.now.text c.args.encoding c.loop-piece.out (g.K.Sink.taken c.args.sink.now) (g.K.Sink.taken c.loop-piece.sink) s c.requires MAX_UNITS (omega (arith, c.len.ensures.value, c.len.ensures.short)) (omega arith)
