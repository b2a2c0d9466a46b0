use Rattle.std.specs.Prelude.{◌≡◌, ◌+◌, ◌≤◌, map, vec_len, vec_capacity}
use Rattle.std.specs.Vec.Iter.{into_iter_items, into_iter_len}
use Rattle.answers.specs.Asks.{ask, CanAskAll}
use Rattle.answers.proofs.AnswerLemmas.{Ahead}
use Rattle.answers.proofs.answering.answer_all.Given as goal

abbrev pub invariant-loop-read : goal.invariant-loop-read
invariant-loop-read g l = record {
  ahead : Ahead g.K.Sink.taken g.K.Sink.faults l.reader.text (map (ask g.M.Matcher.tells g.K.Sink.taken g.K.Sink.faults) (into_iter_items l.initial.read-iterator)) (map (ask g.M.Matcher.tells g.K.Sink.taken g.K.Sink.faults) (into_iter_items l.read-iterator)) l.answers.items;
  asked : CanAskAll l.reader.text (map (ask g.M.Matcher.tells g.K.Sink.taken g.K.Sink.faults) (into_iter_items l.read-iterator));
  len : vec_len l.answers + into_iter_len l.read-iterator ≡ into_iter_len l.initial.read-iterator;
  room : into_iter_len l.initial.read-iterator ≤ vec_capacity l.answers;
}
