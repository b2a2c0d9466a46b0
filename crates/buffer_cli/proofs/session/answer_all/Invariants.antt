use Rattle.std.proofs.Common.{◌≡◌, ◌≤◌, ℕ, List, Option, drop, length, map}
use Rattle.std.specs.List.{AllByRecursion}
use Rattle.watch.specs.Listed.{heard_count, heard_list}
use Rattle.watch.specs.Seats.{HasHeard}
use Rattle.buffer.specs.Seen.{Hears, state_of}
use Rattle.buffer_cli.specs.Saved.{TakeInTurn, saved_files}
use Rattle.buffer_cli.proofs.RunLemmas.{RunsSoFar}
use Rattle.buffer_cli.proofs.session.answer_all.Given as goal

abbrev pub invariant-loop-command : goal.invariant-loop-command
invariant-loop-command g l = record {
  runs : RunsSoFar (state_of l.initial.session.buffer) (state_of l.session.buffer) l.session.snapshots (map g.M.Matcher.tells l.initial.matchers.items) (map g.M.Matcher.tells l.matchers.items) (length l.session.watchers.items) l.replies.items l.commands l.command-index;
  many : length l.sinks.items ≡ length l.initial.sinks.items;
  saved : (last : List (Option (List ℕ))) → TakeInTurn (saved_files (state_of l.session.buffer) l.session.snapshots (drop l.command-index l.commands)) (map g.K.Sink.taken l.sinks.items) last
      → TakeInTurn (saved_files (state_of l.initial.session.buffer) l.initial.session.snapshots l.commands) (map g.K.Sink.taken l.initial.sinks.items) last;
  unheard : AllByRecursion (λ w. heard_count w.value ≡ 0) l.session.watchers.items;
  told : l.session.buffer.followers.watchers.told ≤ l.session.buffer.count;
  stands : Hears (HasHeard heard_count heard_list) l.session.buffer;
}
