use Rattle.std.proofs.Common.{length, map, IsPermutation, ap, ◌∙◌, subst, arith}
use Rattle.crossbeam_queue.specs.Passes.{view}
use Rattle.pool.specs.Sendings.{queued, sending_of}
use Rattle.pool.proofs.Steps.{took, room, drained}
use Rattle.pool.proofs.worker.drain.Goals as goal

pub push_reserved-requires : goal.push_reserved-requires
push_reserved-requires g c =
    let inv = c.loop.invariant in
    let taken = c.in-Some-take.ensures.taken in
    let learned = c.whole.ensures.whole in
    let r = room g.M.Matcher.tells g.K.Sink.taken g.K.Sink.faults (view c.loop.account) c.loop.dones.items _ _ learned.0 taken learned.1 (ap (λ v. v.parts) taken ∙ inv.3) inv.4 in
    grind (arith, r, c.loop.dones.ok, inv.5)

pub loop-preserved : goal.loop-preserved
loop-preserved g c =
    let inv = c.loop.invariant in
    let same = c.whole.ensures.same in
    let grown = same.1 ∙ c.in-Some-take.ensures.taken in
    let put = ap (λ v. v.put) grown in (
      tt,
      tt,
      same.0,
      ap (λ v. v.parts) grown ∙ inv.3,
      took g.M.Matcher.tells g.K.Sink.taken g.K.Sink.faults _ _ _ _ _ _ grown c.push_reserved.ensures.items (c.run_for_another-done.ensures.task ∙ ap queued c.open.ensures) c.run_for_another-done.ensures.ended inv.4,
      (let e = ap length put in grind (arith, e, inv.5, c.push_reserved.ensures.capacity)),
      put ∙ inv.6,
    )

pub returns-in-None-take-clause-once : goal.returns-in-None-take-clause-once
returns-in-None-take-clause-once g c =
    let inv = c.loop.invariant in
    let empty = c.in-None-take.ensures.taken.1 in
    subst (λ l. IsPermutation (map queued l) (map sending_of c.loop.dones.items)) inv.6 (drained g.M.Matcher.tells g.K.Sink.taken g.K.Sink.faults (view c.loop.account) c.loop.dones.items empty.0 empty.1 empty.2 inv.3 inv.4)
