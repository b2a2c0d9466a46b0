use Rattle.std.proofs.Common.{◌≡◌, ◌<◌, ℕ, List, length}
use Rattle.splay.specs.Tree.{Tree, Top, flat, root_of}
use Rattle.splay.specs.Nodes.{Zipped}
use Rattle.splay.proofs.Walk.{Seeks}
use Rattle.splay.proofs.seek.node_at.Given as goal

abbrev pub invariant-loop-level : goal.invariant-loop-level
invariant-loop-level g l =
    (t aside : Tree g.row.M.Denot g.row.V.Denot) (spare : List ℕ)
    → Zipped g.M.Measure.unit g.M.Measure.add g.M.Measure.weight l.store t Top aside spare
    → root_of t ≡ l.root
    → l.at < length (flat t)
    → Seeks g.M.Measure.unit g.M.Measure.add g.M.Measure.weight l.store 1 l.here l.ahead l._level l.at (flat t) aside spare
