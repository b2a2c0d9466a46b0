-- What `bulk` runs, and what it writes.
use Rattle.std.specs.Prelude.{◌≡◌, ℕ, List, [], map, string_bytes, String, Option, Some, None}
use Rattle.std.specs.declared.alloc.Global.{Global}
use Rattle.outer.specs.Sink.{Appends, AppendsPrefix}
use Rattle.command_words.specs.CommandLine.{command_line}
use Rattle.command_words.specs.declared.line.CommandLine.{CommandLine}
use Rattle.command_words.specs.declared.line.CommandLine.TheVariants as line
use Rattle.generator.specs.Generator.{made_script}
use Rattle.generator.specs.Summary.{summary_of, summary_text}
use Rattle.machine.specs.declared.command.Opening.{Opening}
use Rattle.machine.specs.declared.command.Opening.TheVariants as opening
use Rattle.machine.specs.declared.command.Script.{Script}
use Rattle.machine.specs.declared.reply.Transcript.{Transcript}
use Rattle.machine.specs.Answers.{opening_text}
use Rattle.machine.specs.Lawful.{IsLawful}
use Rattle.buffer_cli.specs.declared.status.Status.{Status}
use Rattle.buffer_cli.specs.declared.status.Status.TheVariants as status

-- the script that a command line of `bulk` asks for: one session
abbrev pub script_asked : Option CommandLine → Option Script
script_asked None = None
script_asked (Some (line.Run workers)) = None
script_asked (Some (line.Check script transcript)) = None
script_asked (Some (line.Make first edits sessions)) = None
script_asked (Some (line.Bulk first edits workers)) = Some (made_script first edits 1)

abbrev pub bulk_script : List (String Global) → Option Script
bulk_script words = script_asked (command_line (map string_bytes words))

-- a script opens with a text of its own
abbrev pub IsText : Opening → Type 0
IsText (opening.Text text) = Unit {0}
IsText (opening.File name encoding) = ⊥

-- The text sums up a transcript that is lawful for a script without patterns, over the text that it opens with. For a script of one session there
-- is no other such transcript.
pub record IsSummed (script : Script) (text : List ℕ) : Type 0 where
  pub opens : List ℕ
  pub opening : opening_text script.opening ≡ Some opens
  pub transcript : Transcript
  pub lawful : IsLawful script opens [] transcript
  pub sums : text ≡ summary_text (summary_of transcript)

-- What a status of `bulk` says of what was written, by the script that is asked for, if any, and what the output took before and
-- after. No other status comes.
abbrev pub Sums : Status → Option Script → Option (List ℕ) → Option (List ℕ) → Type 0
Sums status.Done (Some script) before after = (text : List ℕ) × IsSummed script text × Appends text before after
Sums status.WriteFault (Some script) before after = (text : List ℕ) × IsSummed script text × AppendsPrefix text before after
Sums status.Usage None before after = after ≡ before
Sums status.NoMemory asked before after = after ≡ before
Sums _ asked before after = ⊥
