use Rattle.std.specs.Prelude.{◌≡◌, length, map}
use Rattle.std.specs.Vec.Iter.{into_iter_items, into_iter_len}
use Rattle.turn_table.specs.Calls.{Turned}
use Rattle.shared_buffer.specs.Tokens.{IsDeskOf}
use Rattle.sessions.proofs.SessionLemmas.{UnderWay}
use Rattle.sessions.proofs.session.run_session.Given as goal

abbrev pub invariant-loop-command : goal.invariant-loop-command
invariant-loop-command g l = record {
  len : into_iter_len l.command-iterator ≡ length (into_iter_items l.command-iterator);
  desk : IsDeskOf l.buffer l.desk;
  way : Turned (UnderWay l.buffer (map g.M.Matcher.tells l.fn.matchers.items) (map g.M.Matcher.tells l.matchers.items) l.fn.commands.items (into_iter_items l.command-iterator) l.replies.items l.holding) l.initial.desk.views l.desk.views;
}
