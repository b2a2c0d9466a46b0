use Rattle.layers.proofs.HandLemmas.{noted_top, quieted_top, narrowed_top, collected_top}
use Rattle.layers.proofs.laws.hands_leave_the_top.Goals as goal

pub returns-clause-note : goal.returns-clause-note
returns-clause-note c = λ s place hands. noted_top s place hands

pub returns-clause-quiet : goal.returns-clause-quiet
returns-clause-quiet c = λ s hands. quieted_top s hands

pub returns-clause-narrow : goal.returns-clause-narrow
returns-clause-narrow c = λ s. narrowed_top s

pub returns-clause-collect : goal.returns-clause-collect
returns-clause-collect c = λ s is. collected_top s is
