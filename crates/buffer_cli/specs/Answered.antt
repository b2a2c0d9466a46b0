-- What the buffer answers to a command: as the plain machine does.
use Rattle.std.specs.Prelude.{◌∷◌, ℕ, nat_lt, List, Bool, true, false, find, is_some, count_by, Option}
use Rattle.std.specs.List.{list_all}
use Rattle.machine.specs.declared.command.Command.{Command}
use Rattle.machine.specs.declared.command.Command.TheVariants as command
use Rattle.machine.specs.declared.reads.Read.{Read}
use Rattle.machine.specs.declared.reads.Read.TheVariants as read
use Rattle.machine.specs.declared.reply.Reply.{Reply}
use Rattle.machine.specs.Machine.{State}
use Rattle.machine.specs.Answers.{call_of, Matches}
use Rattle.machine.specs.Plain.{Kept, after_call, plain_reply}
use Rattle.script.specs.Limits.{has_needle, is_watch}
use Rattle.buffer.specs.Reads.{has_number, without_first}

-- the state after a command, and the reply to it in a transcript of version 1, with these snapshots and these hits of its patterns
abbrev pub answered : State → List Kept → List (Option Matches) → Command → State × Reply
answered s held found c = (after_call s (call_of c), plain_reply 1 s held found c)

-- the live snapshots after a command
abbrev pub held_after : State → Command → List Kept → List Kept
held_after s (command.Take k) held = record { number = k; text = s.text } ∷ held
held_after s (command.Release k) held = without_first k held
held_after s (command.Send k reads) held = without_first k held
held_after s _ held = held

-- the reads that a session with n sinks answers: saves where it has a sink, and no search for nothing
abbrev pub is_answered_read : ℕ → Read → Bool
is_answered_read n (read.Save name encoding) = nat_lt 0 n
is_answered_read n r = has_needle r

-- the commands that it answers: all but a batch
abbrev pub is_answered : ℕ → Command → Bool
is_answered n (command.Batch edits) = false
is_answered n (command.Read k reads) = list_all (is_answered_read n) reads
is_answered n (command.Send k reads) = list_all (is_answered_read n) reads
is_answered n _ = true

-- the command reads a snapshot
abbrev pub is_read : Command → Bool
is_read (command.Read k reads) = true
is_read (command.Send k reads) = true
is_read _ = false

-- the command ends the snapshot that it reads
abbrev pub is_send : Command → Bool
is_send (command.Send k reads) = true
is_send _ = false

-- a read is of a live snapshot
abbrev pub is_held : List Kept → Command → Bool
is_held held (command.Read k reads) = is_some (find (has_number k) held)
is_held held (command.Send k reads) = is_some (find (has_number k) held)
is_held held _ = true

-- how many watchers these commands attach
abbrev pub watches_in : List Command → ℕ
watches_in cs = count_by is_watch cs
