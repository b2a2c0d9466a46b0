use Rattle.splay.proofs.Climb.{RisesBy}
use Rattle.splay.proofs.rotate.splay.Given as goal

abbrev pub invariant-loop-level : goal.invariant-loop-level
invariant-loop-level g l = RisesBy g.M.Measure.unit g.M.Measure.add g.M.Measure.weight l.initial.store l.store l.x l._level
