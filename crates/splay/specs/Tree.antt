-- Trees of numbered nodes, and the ways from their roots down to a subtree.
use Rattle.std.specs.Prelude.{ℕ, suc, ◌+◌, List, [], ◌∷◌, ◌++◌, cond, eqb}

-- the index that no node has
abbrev pub NIL : ℕ
NIL = 4294967295

-- an empty tree, or a node with its index, its measure and its value between two trees
pub data Tree (M V : Type 0) : Type 0 where
  Leaf : Tree M V
  Fork : ℕ → M → V → Tree M V → Tree M V → Tree M V

-- a way up from a subtree: at each step the node above, whose left or right child it is, and the tree on that node's other side
pub data Way (M V : Type 0) : Type 0 where
  Top : Way M V
  LeftOf : ℕ → M → V → Tree M V → Way M V → Way M V
  RightOf : ℕ → M → V → Tree M V → Way M V → Way M V

-- 1 where the indices are the same
abbrev pub hit : ℕ → ℕ → ℕ
hit i j = cond (eqb i j) 1 0

-- how often an index stands in a list
abbrev pub times : ℕ → List ℕ → ℕ
times i [] = 0
times i (j ∷ js) = hit i j + times i js

module _ {M V : Type 0} where
  -- the items in order
  abbrev pub flat : Tree M V → List (M × V)
  flat Leaf = []
  flat (Fork i m v l r) = flat l ++ (m, v) ∷ flat r

  -- the index of the root
  abbrev pub root_of : Tree M V → ℕ
  root_of Leaf = NIL
  root_of (Fork i m v l r) = i

  -- how many nodes stand at an index
  abbrev pub uses : ℕ → Tree M V → ℕ
  uses i Leaf = 0
  uses i (Fork j m v l r) = uses i l + hit i j + uses i r

  -- the items before and after what a way leads to
  abbrev pub before : Way M V → List (M × V)
  before Top = []
  before (LeftOf i m v r w) = before w
  before (RightOf i m v l w) = before w ++ (flat l ++ (m, v) ∷ [])

  abbrev pub after : Way M V → List (M × V)
  after Top = []
  after (LeftOf i m v r w) = (m, v) ∷ (flat r ++ after w)
  after (RightOf i m v l w) = after w

  -- the index of the node above
  abbrev pub above : Way M V → ℕ
  above Top = NIL
  above (LeftOf i m v r w) = i
  above (RightOf i m v l w) = i

  -- how many nodes of the way and beside it stand at an index
  abbrev pub uses_way : ℕ → Way M V → ℕ
  uses_way i Top = 0
  uses_way i (LeftOf j m v r w) = hit i j + uses i r + uses_way i w
  uses_way i (RightOf j m v l w) = uses i l + hit i j + uses_way i w

  -- how many nodes stand above
  abbrev pub depth : Way M V → ℕ
  depth Top = 0
  depth (LeftOf i m v r w) = suc (depth w)
  depth (RightOf i m v l w) = suc (depth w)
