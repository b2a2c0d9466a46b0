use Rattle.std.proofs.Common.{◌≡◌, ◌≤◌}
use Rattle.watch.specs.Listed.{heard_count, heard_list}
use Rattle.watch.specs.Seats.{HasHeard}
use Rattle.buffer.specs.Seen.{Hears, state_of}
use Rattle.buffer.specs.Sound.{IsSound}
use Rattle.acceptance_buffer.proofs.played.play_all.Given as goal

abbrev pub invariant-loop-ask : goal.invariant-loop-ask
invariant-loop-ask l = record {
  sound : IsSound (state_of l.buffer);
  told : l.buffer.followers.watchers.told ≤ l.buffer.count;
  stands : Hears (HasHeard heard_count heard_list) l.buffer;
}
