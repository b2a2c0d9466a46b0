use Rattle.std.specs.Prelude.{◌≡◌, ◌+◌, ◌≤◌, map, vec_len, vec_capacity}
use Rattle.std.specs.Vec.Iter.{into_iter_items, into_iter_len}
use Rattle.answers.specs.Asks.{ask}
use Rattle.answers.proofs.AnswerLemmas.{Refused}
use Rattle.answers.proofs.answering.refuse_all.Given as goal

abbrev pub invariant-loop-read : goal.invariant-loop-read
invariant-loop-read g l = record {
  refused : Refused (map (ask g.M.Matcher.tells g.K.Sink.taken g.K.Sink.faults) (into_iter_items l.initial.read-iterator)) (map (ask g.M.Matcher.tells g.K.Sink.taken g.K.Sink.faults) (into_iter_items l.read-iterator)) l.answers.items;
  len : vec_len l.answers + into_iter_len l.read-iterator ≡ into_iter_len l.initial.read-iterator;
  room : into_iter_len l.initial.read-iterator ≤ vec_capacity l.answers;
}
