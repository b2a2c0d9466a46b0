-- What the running code makes of a call: what the plain machine makes of it, in the form of a reply of version 2.
use Rattle.std.specs.Prelude.{◌+◌, Option}
use Rattle.machine.specs.declared.reply.Reply.{Reply}
use Rattle.machine.specs.declared.reply.Reply.TheVariants as reply
use Rattle.machine.specs.Machine.{State, Call, Answer, step}
use Rattle.machine.specs.Answers.{reply_of}
use Rattle.machine.specs.Plain.{said, after_call}

abbrev pub told : State → State × Answer → State × Reply
told s after = (after.0, reply_of 2 (s.count + 1) after.1)

abbrev pub replayed : State → Call → State × Reply
replayed s call = told s (step s call)

-- the same of a command, by the call that it makes
abbrev pub replied : State → Option Call → State × Reply
replied s call = (after_call s call, said 2 s reply.Nothing call)
