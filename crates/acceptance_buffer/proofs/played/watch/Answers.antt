use Rattle.machine.specs.Machine.{watch}
use Rattle.buffer.specs.Seen.{state_of}
use Rattle.buffer.proofs.SoundLemmas.{sound_after}
use Rattle.acceptance_buffer.proofs.played.watch.Goals as goal

pub returns-then-is_refused-is_some-clause-sound : goal.returns-then-is_refused-is_some-clause-sound
returns-then-is_refused-is_some-clause-sound c = sound_after (state_of c.args.buffer.now) (watch c.args.id) (state_of c.watch-reply.new.self) c.watch-reply.result.0 tt c.watch-reply.ensures.ok c.requires.sound

pub returns-else-is_refused-is_some-clause-sound : goal.returns-else-is_refused-is_some-clause-sound
returns-else-is_refused-is_some-clause-sound c = sound_after (state_of c.args.buffer.now) (watch c.args.id) (state_of c.watch-reply.new.self) c.watch-reply.result.0 tt c.watch-reply.ensures.ok c.requires.sound
