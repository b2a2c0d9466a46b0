-- Commands as calls of a buffer.
use Rattle.std.specs.Prelude.{[], Bool, true, false}
use Rattle.machine.specs.declared.command.Command.{Command}
use Rattle.machine.specs.declared.command.Command.TheVariants as command
use Rattle.machine.specs.declared.reply.Reply.{Reply}
use Rattle.machine.specs.Machine.{State}
use Rattle.machine.specs.Answers.{call_of}
use Rattle.machine.specs.Plain.{after_call, plain_reply}

-- the state after a command, and the reply to it in a transcript of version 1
abbrev pub played : State → Command → State × Reply
played s c = (after_call s (call_of c), plain_reply 1 s [] [] c)

-- the command is a call on marks
abbrev pub is_on_marks : Command → Bool
is_on_marks (command.Mark id range exclusive) = true
is_on_marks (command.Unmark id) = true
is_on_marks (command.Exclusive id value) = true
is_on_marks (command.Range id) = true
is_on_marks (command.Marks how range) = true
is_on_marks (command.Compare a b) = true
is_on_marks _ = false

-- it is such a call, or an edit, a look, an undo or a redo
abbrev pub is_played : Command → Bool
is_played (command.Edit range new) = true
is_played (command.Text range limit) = true
is_played command.Undo = true
is_played command.Redo = true
is_played c = is_on_marks c
