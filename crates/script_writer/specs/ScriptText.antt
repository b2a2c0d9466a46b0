-- The text of a script.
use Rattle.std.specs.Prelude.{ℕ, List}
use Rattle.machine.specs.declared.command.Script.{Script}
use Rattle.script.specs.ScriptValue.{script_value}
use Rattle.script.specs.Written.{text_of_value}

-- the compact JSON text of a script's value, and a line feed
abbrev pub script_text : Script → List ℕ
script_text s = text_of_value (script_value s)
