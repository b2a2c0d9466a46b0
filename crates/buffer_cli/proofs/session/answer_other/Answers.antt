use Rattle.machine.specs.Machine.{watch, unwatch}
use Rattle.buffer.proofs.SoundLemmas.{sound_after}
use Rattle.buffer_cli.proofs.session.answer_other.Goals as goal

pub returns-in-Watch-clause-sound : goal.returns-in-Watch-clause-sound
returns-in-Watch-clause-sound c = sound_after _ (watch c.in-Watch.id) _ _ tt c.watch-reply.ensures.ok c.requires.sound

pub returns-in-Unwatch-clause-sound : goal.returns-in-Unwatch-clause-sound
returns-in-Unwatch-clause-sound c = sound_after _ (unwatch c.in-Unwatch.id) _ _ tt c.unwatch-reply.ensures.ok c.requires.sound
