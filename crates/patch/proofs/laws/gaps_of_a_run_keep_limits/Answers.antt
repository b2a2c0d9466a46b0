use Rattle.std.proofs.Common.{arith}
use Rattle.patch.proofs.CountLemmas.{gaps_within, run_rises}
use Rattle.patch.specs.Tagged.{tagged, run}
use Rattle.patch.proofs.laws.gaps_of_a_run_keep_limits.Goals as goal

pub returns-clause-together : goal.returns-clause-together
returns-clause-together c = λ s edits forward short. gaps_within s (run (tagged s) edits) (run_rises s edits forward) short

pub returns-clause-each : goal.returns-clause-each
returns-clause-each c = λ s edits forward old new. gaps_within s (run (tagged s) edits) (run_rises s edits forward) (omega arith)
