use Rattle.points.specs.Text.{utf16_of}
use Rattle.points.proofs.WellFormedLemmas.{well_formed-utf16_of}
use Rattle.machine.specs.Machine.{edit, look, undo, redo, add_mark, remove_mark, set_exclusive, mark_range, find_marks, compare_marks}
use Rattle.buffer.specs.Seen.{state_of}
use Rattle.buffer.proofs.SoundLemmas.{sound_after, sound_done}
use Rattle.buffer.proofs.buffer.Buffer.play.Goals as goal

pub returns-in-Edit-clause-sound : goal.returns-in-Edit-clause-sound
returns-in-Edit-clause-sound g c = sound_done (state_of c.args.self.now) (edit (c.in-Edit.range, utf16_of c.as_str.result.now)) (state_of c.edit.new.self) c.edit.result (well_formed-utf16_of c.as_str.result.now c.as_str.utf8) c.edit.ensures.ok c.edit.ensures.err c.requires.sound

pub returns-in-Text-clause-sound : goal.returns-in-Text-clause-sound
returns-in-Text-clause-sound g c = sound_done (state_of c.args.self.now) (look c.in-Text.range c.in-Text.limit) (state_of c.look.new.self) c.look.result tt c.look.ensures.ok c.look.ensures.err c.requires.sound

pub returns-in-Undo-clause-sound : goal.returns-in-Undo-clause-sound
returns-in-Undo-clause-sound g c = sound_done (state_of c.args.self.now) (undo) (state_of c.undo.new.self) c.undo.result tt c.undo.ensures.ok c.undo.ensures.err c.requires.sound

pub returns-in-Redo-clause-sound : goal.returns-in-Redo-clause-sound
returns-in-Redo-clause-sound g c = sound_done (state_of c.args.self.now) (redo) (state_of c.redo.new.self) c.redo.result tt c.redo.ensures.ok c.redo.ensures.err c.requires.sound
