-- How deep the value of a script is.
use Rattle.std.proofs.Common.{◌≤◌, List, arith}
use Rattle.machine.specs.declared.command.BatchEdit.{BatchEdit}
use Rattle.machine.specs.declared.command.Command.{Command}
use Rattle.machine.specs.declared.command.Command.TheVariants as command
use Rattle.machine.specs.declared.command.Opening.{Opening}
use Rattle.machine.specs.declared.command.Opening.TheVariants as opening
use Rattle.machine.specs.declared.command.Script.{Script}
use Rattle.machine.specs.declared.reads.Read.{Read}
use Rattle.machine.specs.declared.reads.Read.TheVariants as read
use Rattle.script.specs.ScriptValue.{batch_edit_value, read_value, command_value, session_value, opening_value, script_value}
use Rattle.script.proofs.ReadBack.{list-depth}
use Rattle.serde_json.specs.Data.{depth}
use Rattle.serde_json.specs.Read.{max_depth}

edit-depth : (e : BatchEdit) → depth (batch_edit_value e) ≤ 2
edit-depth e = omega arith

read-depth : (r : Read) → depth (read_value r) ≤ 2
read-depth read.Size = omega arith
read-depth (read.Text range limit) = omega arith
read-depth (read.Find needle limit) = omega arith
read-depth (read.Pattern pattern limit) = omega arith
read-depth (read.Save name encoding) = omega arith

command-depth : (c : Command) → depth (command_value c) ≤ 4
command-depth (command.Batch edits) = omega (arith, list-depth batch_edit_value 2 edit-depth edits)
command-depth (command.Read snapshot reads) = omega (arith, list-depth read_value 2 read-depth reads)
command-depth (command.Send snapshot reads) = omega (arith, list-depth read_value 2 read-depth reads)
command-depth c = omega arith

session-depth : (cs : List Command) → depth (session_value cs) ≤ 5
session-depth cs = omega (arith, list-depth command_value 4 command-depth cs)

opening-depth : (o : Opening) → depth (opening_value o) ≤ 1
opening-depth (opening.Text text) = omega arith
opening-depth (opening.File name encoding) = omega arith

pub script_value_depth : (s : Script) → depth (script_value s) ≤ max_depth
script_value_depth s = omega (arith, opening-depth s.opening, list-depth session_value 5 session-depth s.sessions)
