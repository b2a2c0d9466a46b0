use Rattle.std.proofs.Common.{rules}
use Rattle.shared_buffer.proofs.HandLemmas.{begun, one_more, all_made}
use Rattle.shared_buffer.proofs.shared.numbered.Goals as goal

pub loop-seat-init : goal.loop-seat-init
loop-seat-init g c = record {
  numbering = begun c.args.buffer.now _ _ _ _ c.requires.room.0 c.into_iter-seat-iterator.ensures.into_iter_gives.0 c.requires.seats;
  len = search rules;
  room = search rules;
  few = search rules;
}

pub loop-seat-preserved : goal.loop-seat-preserved
loop-seat-preserved g c = record {
  numbering = one_more c.args.buffer.now _ _ _ _ _ _ c.loop-seat.invariant.numbering c.in-Some.ensures.steps.0 (search rules) c.push_reserved.ensures.items;
  len = search rules;
  room = search rules;
  few = search rules;
}

pub returns-clause-hands : goal.returns-clause-hands
returns-clause-hands g c = all_made c.args.buffer.now _ _ c.loop-seat.invariant.numbering
