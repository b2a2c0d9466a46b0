use Rattle.std.proofs.Common.{◌≡◌, ◌≤◌, ℕ, List, length}
use Rattle.splay.specs.Tree.{Tree, Top, flat, root_of}
use Rattle.splay.specs.Nodes.{Zipped}
use Rattle.splay.proofs.WalkSums.{SumSeeks}
use Rattle.splay.proofs.seek.sum_before.Given as goal

abbrev pub invariant-loop-level : goal.invariant-loop-level
invariant-loop-level g l =
    (t aside : Tree g.row.M.Denot g.row.V.Denot) (spare : List ℕ)
    → Zipped g.M.Measure.unit g.M.Measure.add g.M.Measure.weight l.store t Top aside spare
    → root_of t ≡ l.root
    → l.at ≤ length (flat t)
    → SumSeeks g.M.Measure.unit g.M.Measure.add g.M.Measure.weight g.met.M.Measure.associative g.met.M.Measure.unit_left g.met.M.Measure.unit_right g.met.M.Measure.lighter l.store l.here l.ahead l._level l.at l.sum (flat t) aside spare
