use Rattle.std.proofs.Common.{sym, subst}
use Rattle.splay.specs.Tree.{NIL}
use Rattle.splay.specs.Splay.{IsSound}
use Rattle.splay.proofs.SplayLemmas.{sound_empty}
use Rattle.splay.proofs.splay.Splay.new.Goals as goal

pub invariant_of-result : goal.invariant_of-result
invariant_of-result g c =
    subst (λ s. IsSound g.M.Measure.unit g.M.Measure.add g.M.Measure.weight s NIL NIL 0) (sym c.new.ensures) (sound_empty g.M.Measure.unit g.M.Measure.add g.M.Measure.weight)
