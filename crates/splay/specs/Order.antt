-- The nodes of a tree in the order of their items.
use Rattle.std.specs.Prelude.{◌≡◌, ℕ, List, [], ◌∷◌, ◌++◌, take, drop}
use Rattle.splay.specs.Tree.{NIL, Tree, Way, Leaf, Fork, Top, flat, root_of, before, after}
use Rattle.splay.specs.Nodes.{Zipped}
use Rattle.splay.specs.Places.{Stands}
use Rattle.splay.specs.declared.store.Node.{Node}

module _ {M V : Type 0} (unit : M) (add : M → M → M) (weight : M → ℕ) where
  -- the node holds the first of the items `back`, which stand behind the items `front`; there is none where `back` is empty
  abbrev pub StandsFirst : List (Node M V) → ℕ → List (M × V) → List (M × V) → Tree M V → List ℕ → Type 0
  StandsFirst nodes y front [] aside spare = y ≡ NIL
  StandsFirst nodes y front (x ∷ back) aside spare = (n : ℕ) × Stands unit add weight nodes y front x.0 x.1 back aside spare n

  -- the node holds the first item of the subtree at x
  abbrev pub IsFirstBelow : List (Node M V) → ℕ → ℕ → Type 0
  IsFirstBelow nodes x y =
      (m : M) (v : V) (l r : Tree M V) (w : Way M V) (aside : Tree M V) (spare : List ℕ)
      → Zipped unit add weight nodes (Fork x m v l r) w aside spare
      → StandsFirst nodes y (before w) (flat l ++ (m, v) ∷ flat r ++ after w) aside spare

  -- the node holds the first item behind the subtree at x
  abbrev pub IsFirstBehind : List (Node M V) → ℕ → ℕ → Type 0
  IsFirstBehind nodes x y =
      (m : M) (v : V) (l r : Tree M V) (w : Way M V) (aside : Tree M V) (spare : List ℕ)
      → Zipped unit add weight nodes (Fork x m v l r) w aside spare
      → StandsFirst nodes y (before w ++ (flat l ++ (m, v) ∷ flat r)) (after w) aside spare

  -- the node holds the item behind that of x
  abbrev pub IsNext : List (Node M V) → ℕ → ℕ → Type 0
  IsNext nodes x y =
      (front : List (M × V)) (m : M) (v : V) (back : List (M × V)) (aside : Tree M V) (spare : List ℕ) (n : ℕ)
      → Stands unit add weight nodes x front m v back aside spare n
      → StandsFirst nodes y (front ++ (m, v) ∷ []) back aside spare

  -- the node holds the first item of the tree with this root
  abbrev pub IsFirst : List (Node M V) → ℕ → ℕ → Type 0
  IsFirst nodes root y =
      (t : Tree M V) (aside : Tree M V) (spare : List ℕ)
      → Zipped unit add weight nodes t Top aside spare
      → root_of t ≡ root
      → StandsFirst nodes y [] (flat t) aside spare

  -- one tree alone lies in the nodes, and the node holds its item at this place
  pub record IsAt (nodes : List (Node M V)) (root at here : ℕ) : Type 0 where
    pub tree : Tree M V
    pub spare : List ℕ
    pub zipped : Zipped unit add weight nodes tree Top Leaf spare
    pub root_is : root_of tree ≡ root
    pub next : StandsFirst nodes here (take at (flat tree)) (drop at (flat tree)) Leaf spare
