-- What the program tells of a status.
use Rattle.std.specs.Prelude.{ℕ, List, [], ◌++◌, codes, decimal, Bool, true, false}
use Rattle.script.specs.RuleName.{rule_name}
use Rattle.buffer_cli.specs.declared.status.Status.{Status}
use Rattle.buffer_cli.specs.declared.status.Status.TheVariants as status

-- the exit status of the program
abbrev pub exit_code : Status → ℕ
exit_code status.Done = 0
exit_code (status.Unlawful place) = 1
exit_code status.Usage = 2
exit_code (status.ScriptRefused session command why) = 3
exit_code status.ReadFault = 4
exit_code status.WriteFault = 5
exit_code status.SaveFault = 6
exit_code (status.PatternRefused session command) = 7
exit_code status.InputTooLong = 8
exit_code status.NoMemory = 9
exit_code status.LoadFault = 10
exit_code status.TextTooLong = 11

-- there is a line on standard error: not where a result was written whole, of which a verdict is one
abbrev pub has_line : Status → Bool
has_line status.Done = false
has_line (status.Unlawful place) = false
has_line _ = true

-- the line on standard error, without its end
abbrev pub fault_text : Status → List ℕ
fault_text status.Done = []
fault_text (status.Unlawful place) = []
fault_text status.Usage = codes "usage: run [--workers N] | bulk FIRST EDITS WORKERS | check SCRIPT TRANSCRIPT | make FIRST EDITS SESSIONS"
fault_text (status.ScriptRefused session command why) = codes "script refused: session " ++ decimal session ++ codes " command " ++ decimal command ++ codes ": " ++ rule_name why
fault_text status.ReadFault = codes "cannot read the input"
fault_text status.WriteFault = codes "cannot write the output"
fault_text status.SaveFault = codes "cannot save"
fault_text (status.PatternRefused session command) = codes "pattern refused: session " ++ decimal session ++ codes " command " ++ decimal command
fault_text status.InputTooLong = codes "input too long"
fault_text status.NoMemory = codes "out of memory"
fault_text status.LoadFault = codes "cannot load"
fault_text status.TextTooLong = codes "text too long"
