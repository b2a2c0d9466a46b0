-- The same tree seen from one node further up or down.
use Rattle.std.proofs.Common.{ℕ, List, [], ◌∷◌, ◌++◌, arith, length-append}
use Rattle.splay.specs.Tree.{Tree, Way, Fork, LeftOf, RightOf, flat, before, after}
use Rattle.splay.specs.Nodes.{Zipped}
use Rattle.splay.proofs.ItemLemmas.{load-append}
use Rattle.splay.specs.declared.store.Node.{Node}

module _ {M V : Type 0} (unit : M) (add : M → M → M) (weight : M → ℕ) where
  pub up_left : (nodes : List (Node M V)) (y : ℕ) (n : M) (u : V) (t c : Tree M V) (w : Way M V) (aside : Tree M V) (spare : List ℕ) → Zipped unit add weight nodes t (LeftOf y n u c w) aside spare → Zipped unit add weight nodes (Fork y n u t c) w aside spare
  up_left nodes y n u t c w aside spare z = record {
    here = (z.way.0, z.here, z.way.1);
    way = z.way.2;
    beside = z.beside;
    free = z.free;
    once = λ i. omega (arith, z.once i);
    counted = omega (arith, z.counted, length-append (flat t) ((n, u) ∷ flat c), length-append (flat c) (after w));
    small = z.small;
    light = omega (arith, z.light, load-append weight (flat t) ((n, u) ∷ flat c), load-append weight (flat c) (after w));
  }

  pub down_left : (nodes : List (Node M V)) (y : ℕ) (n : M) (u : V) (t c : Tree M V) (w : Way M V) (aside : Tree M V) (spare : List ℕ) → Zipped unit add weight nodes (Fork y n u t c) w aside spare → Zipped unit add weight nodes t (LeftOf y n u c w) aside spare
  down_left nodes y n u t c w aside spare z = record {
    here = z.here.1;
    way = (z.here.0, z.here.2, z.way);
    beside = z.beside;
    free = z.free;
    once = λ i. omega (arith, z.once i);
    counted = omega (arith, z.counted, length-append (flat t) ((n, u) ∷ flat c), length-append (flat c) (after w));
    small = z.small;
    light = omega (arith, z.light, load-append weight (flat t) ((n, u) ∷ flat c), load-append weight (flat c) (after w));
  }

  pub up_right : (nodes : List (Node M V)) (y : ℕ) (n : M) (u : V) (t c : Tree M V) (w : Way M V) (aside : Tree M V) (spare : List ℕ) → Zipped unit add weight nodes t (RightOf y n u c w) aside spare → Zipped unit add weight nodes (Fork y n u c t) w aside spare
  up_right nodes y n u t c w aside spare z = record {
    here = (z.way.0, z.way.1, z.here);
    way = z.way.2;
    beside = z.beside;
    free = z.free;
    once = λ i. omega (arith, z.once i);
    counted = omega (arith, z.counted, length-append (flat c) ((n, u) ∷ flat t), length-append (before w) (flat c ++ (n, u) ∷ []), length-append (flat c) ((n, u) ∷ []));
    small = z.small;
    light = omega (arith, z.light, load-append weight (flat c) ((n, u) ∷ flat t), load-append weight (before w) (flat c ++ (n, u) ∷ []), load-append weight (flat c) ((n, u) ∷ []));
  }

  pub down_right : (nodes : List (Node M V)) (y : ℕ) (n : M) (u : V) (t c : Tree M V) (w : Way M V) (aside : Tree M V) (spare : List ℕ) → Zipped unit add weight nodes (Fork y n u c t) w aside spare → Zipped unit add weight nodes t (RightOf y n u c w) aside spare
  down_right nodes y n u t c w aside spare z = record {
    here = z.here.2;
    way = (z.here.0, z.here.1, z.way);
    beside = z.beside;
    free = z.free;
    once = λ i. omega (arith, z.once i);
    counted = omega (arith, z.counted, length-append (flat c) ((n, u) ∷ flat t), length-append (before w) (flat c ++ (n, u) ∷ []), length-append (flat c) ((n, u) ∷ []));
    small = z.small;
    light = omega (arith, z.light, load-append weight (flat c) ((n, u) ∷ flat t), load-append weight (before w) (flat c ++ (n, u) ∷ []), load-append weight (flat c) ((n, u) ∷ []));
  }
