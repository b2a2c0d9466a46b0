use Rattle.std.proofs.Common.{◌≤◌, drop, length, map}
use Rattle.std.specs.Prelude.{count_by}
use Rattle.machine.specs.Lawful.{is_pattern}
use Rattle.sessions.proofs.ReadLemmas.{Reading}
use Rattle.sessions.proofs.reads.answer_reads.Given as goal

abbrev pub invariant-loop-read : goal.invariant-loop-read
invariant-loop-read g l = record {
  reading : Reading l.reader.text (map g.M.Matcher.tells l.initial.matchers.items) (map g.M.Matcher.tells l.matchers.items) l.reads (drop l.read-index l.reads) l.answers.items;
  enough : count_by is_pattern (drop l.read-index l.reads) ≤ length l.matchers.items;
}
