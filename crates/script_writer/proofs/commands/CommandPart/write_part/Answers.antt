use Rattle.script_writer.proofs.commands.CommandPart.write_part.Goals as goal

pub returns-in-Mark : goal.returns-in-Mark
returns-in-Mark c = rw c.in-Mark.is c.write_mark.ensures

pub returns-in-Exclusive : goal.returns-in-Exclusive
returns-in-Exclusive c = rw c.in-Exclusive.is c.write_exclusive.ensures

pub returns-in-Marks : goal.returns-in-Marks
returns-in-Marks c = rw c.in-Marks.is c.write_marks.ensures
