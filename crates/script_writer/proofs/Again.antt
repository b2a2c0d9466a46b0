-- The text of a script reads back as the script.
use Rattle.std.proofs.Common.{◌≡◌, ℕ, List, true, Some, Result, Ok, Err, option_and_then, ap, ◌∙◌}
use Rattle.std.specs.Prelude.{IfOk}
use Rattle.machine.specs.declared.command.Script.{Script}
use Rattle.script.specs.ScriptDocument.{document, script_of, script_in}
use Rattle.script.specs.ScriptValue.{script_value, BreaksNoRule, is_built}
use Rattle.script.proofs.RuleLemmas.{value_read}

-- bytes with the value of a script of what is built that breaks no rule are that script
pub script_again : (bytes : List ℕ) (s : Script) → is_built s ≡ true → BreaksNoRule s → document bytes ≡ Some (script_value s) → script_in bytes ≡ Some s
script_again bytes s built none is = ap (option_and_then script_of) is ∙ value_read s built none
