-- What is read of a tree that stays as it is.
use Rattle.std.specs.Prelude.{◌≡◌, ℕ, ◌≤◌, List, length, take, slice_get, Option}
use Rattle.splay.specs.Items.{total}
use Rattle.splay.specs.Tree.{Tree, Leaf, Top, flat, root_of}
use Rattle.splay.specs.Nodes.{Zipped}
use Rattle.splay.specs.declared.store.Node.{Node}

module _ {M V : Type 0} (unit : M) (add : M → M → M) (weight : M → ℕ) where
  -- the tree with this root has so many items
  abbrev pub HasCount : List (Node M V) → ℕ → ℕ → Type 0
  HasCount nodes root count =
      (t : Tree M V) (spare : List ℕ) → Zipped unit add weight nodes t Top Leaf spare → root_of t ≡ root → count ≡ length (flat t)

  -- the tree with this root has this item at a place
  abbrev pub HasItemAt : List (Node M V) → ℕ → ℕ → Option (M × V) → Type 0
  HasItemAt nodes root at item =
      (t : Tree M V) (spare : List ℕ) → Zipped unit add weight nodes t Top Leaf spare → root_of t ≡ root → item ≡ slice_get (flat t) at

  -- the items before a place of the tree with this root have this sum
  abbrev pub HasSumBefore : List (Node M V) → ℕ → ℕ → M → Type 0
  HasSumBefore nodes root at sum =
      (t : Tree M V) (spare : List ℕ)
      → Zipped unit add weight nodes t Top Leaf spare
      → root_of t ≡ root
      → at ≤ length (flat t)
      → sum ≡ total unit add (take at (flat t))
