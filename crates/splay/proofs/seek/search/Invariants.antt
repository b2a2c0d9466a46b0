use Rattle.std.proofs.Common.{◌≡◌, ℕ, List}
use Rattle.splay.specs.Tree.{Tree, Top, flat, root_of}
use Rattle.splay.specs.Nodes.{Zipped}
use Rattle.splay.proofs.WalkSums.{Searches}
use Rattle.splay.proofs.seek.search.Given as goal

abbrev pub invariant-loop-level : goal.invariant-loop-level
invariant-loop-level g l =
    (t aside : Tree g.row.M.Denot g.row.V.Denot) (spare : List ℕ)
    → Zipped g.M.Measure.unit g.M.Measure.add g.M.Measure.weight l.store t Top aside spare
    → root_of t ≡ l.root
    → Searches g.M.Measure.unit g.M.Measure.add g.M.Measure.weight g.met.M.Measure.associative g.met.M.Measure.unit_left g.met.M.Measure.unit_right g.met.M.Measure.lighter (g.S.Seek.passes l.seek) l.store l.here l.last l.count l._level l.sum (flat t) aside spare
