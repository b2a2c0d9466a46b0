use Rattle.machine.specs.Machine.{unwatch}
use Rattle.buffer.specs.Seen.{state_of}
use Rattle.buffer.proofs.SoundLemmas.{sound_after}
use Rattle.acceptance_buffer.proofs.played.unwatch.Goals as goal

pub returns-then-eq-clause-sound : goal.returns-then-eq-clause-sound
returns-then-eq-clause-sound c = sound_after (state_of c.args.buffer.now) (unwatch c.args.id) (state_of c.unwatch-reply.new.self) c.unwatch-reply.result.0 tt c.unwatch-reply.ensures.ok c.requires.sound

pub returns-else-eq-clause-sound : goal.returns-else-eq-clause-sound
returns-else-eq-clause-sound c = sound_after (state_of c.args.buffer.now) (unwatch c.args.id) (state_of c.unwatch-reply.new.self) c.unwatch-reply.result.0 tt c.unwatch-reply.ensures.ok c.requires.sound
