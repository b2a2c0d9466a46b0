use Rattle.patch.proofs.CountLemmas.{few_gaps, run_rises}
use Rattle.patch.specs.Tagged.{tagged, run}
use Rattle.patch.proofs.laws.gaps_of_a_run_are_few.Goals as goal

pub returns : goal.returns
returns c = λ s edits forward. few_gaps s (run (tagged s) edits) (run_rises s edits forward)
