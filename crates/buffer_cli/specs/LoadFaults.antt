-- Why a file's text wasn't read, by what its source answered.
use Rattle.buffer_cli.specs.declared.input.InputFault.{InputFault}
use Rattle.buffer_cli.specs.declared.input.InputFault.TheVariants as fault
use Rattle.buffer_cli.specs.declared.load.Unloaded.{Unloaded}
use Rattle.buffer_cli.specs.declared.load.Unloaded.TheVariants as unloaded

abbrev pub of_input : InputFault → Unloaded
of_input fault.Failed = unloaded.Failed
of_input fault.TooLong = unloaded.TooLong
of_input fault.NoMemory = unloaded.NoMemory
