-- A machine that forgets what it could take back, and its watchers: for scripts that edit and look alone.
use Rattle.std.specs.Prelude.{ℕ, List, [], ◌∷◌, Bool, true, false}
use Rattle.machine.specs.declared.command.Command.{Command}
use Rattle.machine.specs.declared.command.Command.TheVariants as command
use Rattle.machine.specs.declared.reply.Reply.{Reply}
use Rattle.machine.specs.Machine.{State}
use Rattle.machine.specs.Answers.{call_of}
use Rattle.machine.specs.Plain.{plain_reply, after_call}

-- a state of a text alone
abbrev pub bare_state : List ℕ → ℕ → ℕ → State
bare_state text count version = record { text = text; marks = []; past = []; future = []; watchers = []; count = count; version = version }

-- the state without its steps and watchers
abbrev pub bare : State → State
bare s = record s { past = []; future = []; watchers = [] }

-- the command edits or looks
abbrev pub is_plain : Command → Bool
is_plain (command.Edit range new) = true
is_plain (command.Text range limit) = true
is_plain _ = false

-- the bare state after a command, and what is replied to it
abbrev pub bare_next : State → Command → State
bare_next s c = bare (after_call s (call_of c))

abbrev pub bare_reply : ℕ → State → Command → Reply
bare_reply version s c = plain_reply version s [] [] c

abbrev pub bare_after : State → List Command → State
bare_after s [] = s
bare_after s (c ∷ cs) = bare_after (bare_next s c) cs

abbrev pub bare_replies : ℕ → State → List Command → List Reply
bare_replies version s [] = []
bare_replies version s (c ∷ cs) = bare_reply version s c ∷ bare_replies version (bare_next s c) cs
