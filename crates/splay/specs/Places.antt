-- Where a node stands in a tree, and what a rotation does to it.
use Rattle.std.specs.Prelude.{◌≡◌, ◌≢◌, ℕ, ◌≤◌, ◌<◌, List, ◌∷◌, ◌++◌, length, take, Option, Bool}
use Rattle.splay.specs.Items.{PassesUpTo}
use Rattle.splay.specs.Tree.{NIL, Tree, Way, Fork, Top, LeftOf, RightOf, flat, root_of, before, after, depth}
use Rattle.splay.specs.Nodes.{Zipped, sum_of}
use Rattle.splay.specs.declared.store.Node.{Node}

module _ {M V : Type 0} (unit : M) (add : M → M → M) (weight : M → ℕ) where
  -- this index is a node's of a tree that lies in the nodes
  pub record IsNode (nodes : List (Node M V)) (x : ℕ) : Type 0 where
    pub measure : M
    pub value : V
    pub left : Tree M V
    pub right : Tree M V
    pub way : Way M V
    pub aside : Tree M V
    pub spare : List ℕ
    pub zipped : Zipped unit add weight nodes (Fork x measure value left right) way aside spare

  -- the node holds this item, between these others, with so many nodes above it
  pub record Stands (nodes : List (Node M V)) (x : ℕ) (front : List (M × V)) (m : M) (v : V) (back : List (M × V)) (aside : Tree M V) (spare : List ℕ) (above : ℕ) : Type 0 where
    pub left : Tree M V
    pub right : Tree M V
    pub way : Way M V
    pub zipped : Zipped unit add weight nodes (Fork x m v left right) way aside spare
    pub front_is : before way ++ flat left ≡ front
    pub back_is : flat right ++ after way ≡ back
    pub above_is : depth way ≡ above

  -- a left child came above its parent, which is its right child now
  abbrev pub LiftsLeft : List (Node M V) → List (Node M V) → ℕ → Type 0
  LiftsLeft old new x =
      (y : ℕ) (m n : M) (v u : V) (a b c : Tree M V) (w : Way M V) (aside : Tree M V) (spare : List ℕ)
      → Zipped unit add weight old (Fork x m v a b) (LeftOf y n u c w) aside spare
      → Zipped unit add weight new (Fork x m v a (Fork y n u b c)) w aside spare

  -- a right child came above its parent, which is its left child now
  abbrev pub LiftsRight : List (Node M V) → List (Node M V) → ℕ → Type 0
  LiftsRight old new x =
      (y : ℕ) (m n : M) (v u : V) (a b c : Tree M V) (w : Way M V) (aside : Tree M V) (spare : List ℕ)
      → Zipped unit add weight old (Fork x m v a b) (RightOf y n u c w) aside spare
      → Zipped unit add weight new (Fork x m v (Fork y n u c a) b) w aside spare

  -- the node comes higher, between the same items
  abbrev pub Rises : List (Node M V) → List (Node M V) → ℕ → Type 0
  Rises old new x =
      (front : List (M × V)) (m : M) (v : V) (back : List (M × V)) (aside : Tree M V) (spare : List ℕ) (n : ℕ)
      → Stands old x front m v back aside spare n
      → (k : ℕ) × (k < n) × Stands new x front m v back aside spare k

  -- the node comes to the root, between the same items
  abbrev pub RisesToTop : List (Node M V) → List (Node M V) → ℕ → Type 0
  RisesToTop old new x =
      (front : List (M × V)) (m : M) (v : V) (back : List (M × V)) (aside : Tree M V) (spare : List ℕ) (n : ℕ)
      → Stands old x front m v back aside spare n
      → Stands new x front m v back aside spare 0

  -- no node stands above it
  abbrev pub IsTop : List (Node M V) → ℕ → Type 0
  IsTop nodes x =
      (front : List (M × V)) (m : M) (v : V) (back : List (M × V)) (aside : Tree M V) (spare : List ℕ) (n : ℕ)
      → Stands nodes x front m v back aside spare n
      → n ≡ 0

  -- the root of a tree that lies in the nodes
  pub record IsTree (nodes : List (Node M V)) (root : ℕ) : Type 0 where
    pub tree : Tree M V
    pub aside : Tree M V
    pub spare : List ℕ
    pub zipped : Zipped unit add weight nodes tree Top aside spare
    pub root_is : root_of tree ≡ root

  -- the node holds an item of the tree with these items, as many of which stand before it
  pub record StandsAt (nodes : List (Node M V)) (x : ℕ) (at : ℕ) (items : List (M × V)) (aside : Tree M V) (spare : List ℕ) : Type 0 where
    pub front : List (M × V)
    pub measure : M
    pub value : V
    pub back : List (M × V)
    pub above : ℕ
    pub stands : Stands nodes x front measure value back aside spare above
    pub place : length front ≡ at
    pub items_are : front ++ (measure, value) ∷ back ≡ items

  -- in each tree with this root the node holds the item at a place
  abbrev pub IsNodeAt : List (Node M V) → ℕ → ℕ → ℕ → Type 0
  IsNodeAt nodes root at x =
      (t : Tree M V) (aside : Tree M V) (spare : List ℕ)
      → Zipped unit add weight nodes t Top aside spare
      → root_of t ≡ root
      → at < length (flat t)
      → StandsAt nodes x at (flat t) aside spare

  -- in each tree with this root the items before a place have this sum
  abbrev pub IsSumBefore : List (Node M V) → ℕ → ℕ → Option M → Type 0
  IsSumBefore nodes root at sum =
      (t : Tree M V) (aside : Tree M V) (spare : List ℕ)
      → Zipped unit add weight nodes t Top aside spare
      → root_of t ≡ root
      → at ≤ length (flat t)
      → sum ≡ sum_of unit add (take at (flat t))

  -- in each tree with this root so many leading sums pass, and this node was the last on the way there
  abbrev pub IsFound : List (Node M V) → ℕ → (M → Bool) → ℕ → ℕ → Type 0
  IsFound nodes root passes count last =
      (t : Tree M V) (aside : Tree M V) (spare : List ℕ)
      → Zipped unit add weight nodes t Top aside spare
      → root_of t ≡ root
      → PassesUpTo unit add passes (flat t) count × (last ≢ NIL → (at : ℕ) × StandsAt nodes last at (flat t) aside spare)
