use Rattle.std.proofs.Common.{drop}
use Rattle.script.proofs.ListLemmas.{IsPartway}
use Rattle.script_writer.proofs.parts.write_parts.Given as goal

abbrev pub invariant-loop-part : goal.invariant-loop-part
invariant-loop-part g l = IsPartway g.T.Part.value l.initial.out l.out l.parts (drop l.part-index l.parts)
