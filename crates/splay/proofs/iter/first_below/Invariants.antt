use Rattle.std.proofs.Common.{ℕ, List, ◌∷◌, ◌++◌}
use Rattle.splay.specs.Tree.{Tree, Way, Fork, flat, before, after}
use Rattle.splay.specs.Nodes.{Zipped}
use Rattle.splay.proofs.OrderLemmas.{Leads}
use Rattle.splay.proofs.iter.first_below.Given as goal

abbrev pub invariant-loop-level : goal.invariant-loop-level
invariant-loop-level g l =
    (m : g.row.M.Denot) (v : g.row.V.Denot) (left right : Tree g.row.M.Denot g.row.V.Denot) (w : Way g.row.M.Denot g.row.V.Denot) (aside : Tree g.row.M.Denot g.row.V.Denot) (spare : List ℕ)
    → Zipped g.M.Measure.unit g.M.Measure.add g.M.Measure.weight l.store (Fork l.x m v left right) w aside spare
    → Leads g.M.Measure.unit g.M.Measure.add g.M.Measure.weight l.store l.here l._level (before w) (flat left ++ (m, v) ∷ flat right ++ after w) aside spare
