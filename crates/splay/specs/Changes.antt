-- What a tree is after an item was put in, taken out or searched.
use Rattle.std.specs.Prelude.{◌≡◌, ℕ, ◌+◌, ◌≤◌, ◌<◌, Bool, List, ◌∷◌, ◌++◌, length, take, drop, slice_get, Option, Some}
use Rattle.splay.specs.Items.{PassesUpTo}
use Rattle.splay.specs.Tree.{Tree, Leaf, Fork, Top, flat, root_of}
use Rattle.splay.specs.Nodes.{Zipped, first_of}
use Rattle.splay.specs.declared.store.Node.{Node}
use Rattle.splay.specs.declared.change.Removed.{Removed}

module _ {M V : Type 0} (unit : M) (add : M → M → M) (weight : M → ℕ) where
  -- the single node came into the tree, at this place and as its root
  abbrev pub Inserts : List (Node M V) → List (Node M V) → ℕ → ℕ → ℕ → Type 0
  Inserts old new root x at =
      (t : Tree M V) (m : M) (v : V) (spare : List ℕ)
      → Zipped unit add weight old t Top (Fork x m v Leaf Leaf) spare
      → root_of t ≡ root
      → at ≤ length (flat t)
      → (u : Tree M V) × Zipped unit add weight new u Top Leaf spare × (root_of u ≡ x) × (flat u ≡ take at (flat t) ++ (m, v) ∷ drop at (flat t))

  -- one tree has an item at this place
  pub record HasItem (nodes : List (Node M V)) (root free at : ℕ) : Type 0 where
    pub tree : Tree M V
    pub spare : List ℕ
    pub zipped : Zipped unit add weight nodes tree Top Leaf spare
    pub root_is : root_of tree ≡ root
    pub free_is : first_of spare ≡ free
    pub place : at < length (flat tree)

  -- the item at this place came out, and its node is spare
  pub record TakenAt (new : List (Node M V)) (at : ℕ) (items : List (M × V)) (spare : List ℕ) (taken : Option (Removed M V)) : Type 0 where
    pub removed : Removed M V
    pub taken_is : taken ≡ Some removed
    pub tree : Tree M V
    pub zipped : Zipped unit add weight new tree Top Leaf (removed.node ∷ spare)
    pub root_is : root_of tree ≡ removed.root
    pub items_are : flat tree ≡ take at items ++ drop (at + 1) items
    pub item_is : slice_get items at ≡ Some (removed.measure, removed.value)

  abbrev pub Removes : List (Node M V) → List (Node M V) → ℕ → ℕ → ℕ → Option (Removed M V) → Type 0
  Removes old new root free at taken =
      (t : Tree M V) (spare : List ℕ)
      → Zipped unit add weight old t Top Leaf spare
      → root_of t ≡ root
      → first_of spare ≡ free
      → at < length (flat t)
      → TakenAt new at (flat t) spare taken

  -- so many leading sums pass, and the tree has the same items
  abbrev pub Looks : List (Node M V) → List (Node M V) → ℕ → (M → Bool) → ℕ → ℕ → Type 0
  Looks old new root passes count top =
      (t : Tree M V) (spare : List ℕ)
      → Zipped unit add weight old t Top Leaf spare
      → root_of t ≡ root
      → PassesUpTo unit add passes (flat t) count × (u : Tree M V) × Zipped unit add weight new u Top Leaf spare × (root_of u ≡ top) × (flat u ≡ flat t)
