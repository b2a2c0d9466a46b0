-- The command lines of each call, and what `make` writes.
use Rattle.std.specs.Prelude.{◌≡◌, ℕ, List, map, string_bytes, String, Bool, true, false, Option, Some, None}
use Rattle.std.specs.declared.alloc.Global.{Global}
use Rattle.outer.specs.Sink.{Appends, AppendsPrefix}
use Rattle.command_words.specs.CommandLine.{command_line}
use Rattle.command_words.specs.declared.line.CommandLine.{CommandLine}
use Rattle.command_words.specs.declared.line.CommandLine.TheVariants as line
use Rattle.generator.specs.Generator.{made_script}
use Rattle.script_writer.specs.ScriptText.{script_text}
use Rattle.buffer_cli.specs.declared.status.Status.{Status}
use Rattle.buffer_cli.specs.declared.status.Status.TheVariants as status

abbrev pub is_run : Option CommandLine → Bool
is_run None = false
is_run (Some (line.Run workers)) = true
is_run (Some (line.Check script transcript)) = false
is_run (Some (line.Make first edits sessions)) = false
is_run (Some (line.Bulk first edits workers)) = false

-- the words are a command line of `run`
abbrev pub is_run_line : List (String Global) → Bool
is_run_line words = is_run (command_line (map string_bytes words))

-- the text of the script that a command line of `make` asks for
abbrev pub text_made : Option CommandLine → Option (List ℕ)
text_made None = None
text_made (Some (line.Run workers)) = None
text_made (Some (line.Check script transcript)) = None
text_made (Some (line.Bulk first edits workers)) = None
text_made (Some (line.Make first edits sessions)) = Some (script_text (made_script first edits sessions))

abbrev pub made_text : List (String Global) → Option (List ℕ)
made_text words = text_made (command_line (map string_bytes words))

-- the names of the files that a command line of `check` gives: the script's and the transcript's
abbrev pub names_in : Option CommandLine → Option (List ℕ × List ℕ)
names_in None = None
names_in (Some (line.Run workers)) = None
names_in (Some (line.Check script transcript)) = Some (script, transcript)
names_in (Some (line.Make first edits sessions)) = None
names_in (Some (line.Bulk first edits workers)) = None

abbrev pub check_names : List (String Global) → Option (List ℕ × List ℕ)
check_names words = names_in (command_line (map string_bytes words))

-- What a status of `make` says of what was written, by the text that is asked for, if any, and what the output took before
-- and after. No other status comes.
abbrev pub Makes : Status → Option (List ℕ) → Option (List ℕ) → Option (List ℕ) → Type 0
Makes status.Done (Some text) before after = Appends text before after
Makes status.WriteFault (Some text) before after = AppendsPrefix text before after
Makes status.Usage None before after = after ≡ before
Makes status.NoMemory asked before after = after ≡ before
Makes _ asked before after = ⊥
