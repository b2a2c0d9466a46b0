use Rattle.std.proofs.Common.{◌≡◌, ◌≤◌, ℕ, List, Option, drop, length, map, take}
use Rattle.std.specs.Prelude.{count_by}
use Rattle.machine.specs.Lawful.{is_pattern}
use Rattle.buffer_cli.specs.Hits.{AreAnswers}
use Rattle.buffer_cli.specs.Saved.{TakeInTurn, files_among}
use Rattle.buffer_cli.proofs.reads.answer_reads.Given as goal

abbrev pub invariant-loop-read : goal.invariant-loop-read
invariant-loop-read g l = record {
  answers : AreAnswers l.snapshot.text (map g.M.Matcher.tells l.initial.matchers.items) (map g.M.Matcher.tells l.matchers.items) (take l.read-index l.reads) l.answers.items;
  many : length l.sinks.items ≡ length l.initial.sinks.items;
  saved : (last : List (Option (List ℕ))) → TakeInTurn (files_among l.snapshot.text (drop l.read-index l.reads)) (map g.K.Sink.taken l.sinks.items) last → TakeInTurn (files_among l.snapshot.text l.reads) (map g.K.Sink.taken l.initial.sinks.items) last;
  enough : count_by is_pattern (drop l.read-index l.reads) ≤ length l.matchers.items;
}
