use Rattle.points.specs.Text.{utf16_of}
use Rattle.machine.specs.Machine.{edit, look, undo, redo, add_mark, remove_mark, set_exclusive, mark_range, find_marks, compare_marks}
use Rattle.buffer.specs.Seen.{state_of}
use Rattle.buffer.proofs.SoundLemmas.{sound_after, sound_done}
use Rattle.buffer.proofs.MarkCalls.{one_of_six}
use Rattle.buffer.proofs.buffer.Buffer.play_on_marks.Goals as goal

pub returns-in-Mark-clause-sound : goal.returns-in-Mark-clause-sound
returns-in-Mark-clause-sound g c = sound_done (state_of c.args.self.now) (add_mark c.in-Mark.id c.in-Mark.range c.in-Mark.exclusive) (state_of c.mark.new.self) c.mark.result tt c.mark.ensures.ok c.mark.ensures.err c.requires.sound

pub returns-in-Unmark-clause-sound : goal.returns-in-Unmark-clause-sound
returns-in-Unmark-clause-sound g c = sound_after (state_of c.args.self.now) (remove_mark c.in-Unmark.id) (state_of c.unmark.new.self) c.unmark.result tt c.unmark.ensures.ok c.requires.sound

pub returns-in-Exclusive-clause-sound : goal.returns-in-Exclusive-clause-sound
returns-in-Exclusive-clause-sound g c = sound_after (state_of c.args.self.now) (set_exclusive c.in-Exclusive.id c.in-Exclusive.value) (state_of c.set_exclusive.new.self) c.set_exclusive.result tt c.set_exclusive.ensures.ok c.requires.sound

pub returns-in-Range-clause-sound : goal.returns-in-Range-clause-sound
returns-in-Range-clause-sound g c = sound_after (state_of c.args.self.now) (mark_range c.in-Range.id) (state_of c.mark_range.new.self) c.mark_range.result tt c.mark_range.ensures.ok c.requires.sound

pub returns-in-Marks-clause-sound : goal.returns-in-Marks-clause-sound
returns-in-Marks-clause-sound g c = sound_done (state_of c.args.self.now) (find_marks c.in-Marks.how c.in-Marks.range) (state_of c.marks.new.self) c.marks.result tt c.marks.ensures.ok c.marks.ensures.err c.requires.sound

pub returns-in-Compare-clause-sound : goal.returns-in-Compare-clause-sound
returns-in-Compare-clause-sound g c = sound_after (state_of c.args.self.now) (compare_marks c.in-Compare.a c.in-Compare.b) (state_of c.compare.new.self) c.compare.result tt c.compare.ensures.ok c.requires.sound

pub returns-in-Mark-clause-ok : goal.returns-in-Mark-clause-ok
returns-in-Mark-clause-ok g c = rw c.in-Mark.is c.mark.ensures.ok

pub returns-in-Marks-clause-ok : goal.returns-in-Marks-clause-ok
returns-in-Marks-clause-ok g c = rw c.in-Marks.is c.marks.ensures.ok

pub unreachable-requires : goal.unreachable-requires
unreachable-requires g c = one_of_six c.args.command.now c.requires.on_marks c.in_default.not-Mark c.in_default.not-Unmark c.in_default.not-Exclusive c.in_default.not-Range c.in_default.not-Marks c.in_default.not-Compare
