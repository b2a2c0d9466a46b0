-- The list that a tree's nodes are.
use Rattle.std.specs.Prelude.{◌≡◌, ℕ, zero, suc, List, length, slice_get, Option, Some, None}
use Rattle.splay.specs.Tree.{Tree, Leaf, Fork, Top, flat, root_of}
use Rattle.splay.specs.Nodes.{Zipped, first_of}
use Rattle.splay.specs.declared.store.Node.{Node}

module _ {M V : Type 0} where
  -- the tree at a node, over the trees at its children
  abbrev pub tree_at : ℕ → Option (Node M V) → (ℕ → Tree M V) → Tree M V
  tree_at i None below = Leaf
  tree_at i (Some n) below =
      elim n.value [ None ↦ Leaf | Some v ↦ Fork i n.link.own v (below n.link.left) (below n.link.right) ]

  -- the tree below a node, down to a depth
  abbrev pub tree_of : ℕ → List (Node M V) → ℕ → Tree M V
  tree_of zero nodes i = Leaf
  tree_of (suc depth) nodes i = tree_at i (slice_get nodes i) (tree_of depth nodes)

  -- the items of the tree with this root
  abbrev pub items_of : List (Node M V) → ℕ → List (M × V)
  items_of nodes root = flat (tree_of (length nodes) nodes root)

  -- one tree and the spare nodes are all that lies in the nodes
  pub record IsSound (unit : M) (add : M → M → M) (weight : M → ℕ) (nodes : List (Node M V)) (root free spare : ℕ) : Type 0 where
    pub tree : Tree M V
    pub spares : List ℕ
    pub zipped : Zipped unit add weight nodes tree Top Leaf spares
    pub root_is : root_of tree ≡ root
    pub free_is : first_of spares ≡ free
    pub spare_is : length spares ≡ spare
