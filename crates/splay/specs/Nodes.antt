-- How trees and spare nodes lie in the list of nodes.
use Rattle.std.specs.Prelude.{◌≡◌, ℕ, ◌+◌, ◌≤◌, ◌^◌, List, [], ◌∷◌, ◌++◌, length, slice_get, slice_set, Option, Some, None, option_map, option_and_then, cond, eqb}
use Rattle.points.specs.declared.limits.TheConstants.{MAX_NODES}
use Rattle.splay.specs.Items.{load, total}
use Rattle.splay.specs.Tree.{NIL, Tree, Way, Leaf, Fork, Top, LeftOf, RightOf, times, flat, root_of, uses, before, after, above, uses_way}
use Rattle.splay.specs.declared.store.Tally.{Tally}
use Rattle.splay.specs.declared.store.Link.{Link}
use Rattle.splay.specs.declared.store.Node.{Node}

-- the first of these indices
abbrev pub first_of : List ℕ → ℕ
first_of [] = NIL
first_of (i ∷ is) = i

module _ {M V : Type 0} where
  -- the nodes with another one at an index, made of the one that stands there
  abbrev pub with_node : List (Node M V) → ℕ → (Node M V → Node M V) → List (Node M V)
  with_node nodes i f = elim (slice_get nodes i) [ None ↦ nodes | Some n ↦ slice_set nodes i (f n) ]

  -- what a node knows beside its value
  abbrev pub link_at : List (Node M V) → ℕ → Option (Link M)
  link_at nodes i = option_map (λ n. n.link) (slice_get nodes i)

  -- the measure and the value of a node that isn't spare
  abbrev pub item_at : List (Node M V) → ℕ → Option (M × V)
  item_at nodes i = option_and_then (λ n. option_map (λ v. (n.link.own, v)) n.value) (slice_get nodes i)

  -- the tally of the subtree at a node
  abbrev pub tally_at : List (Node M V) → ℕ → Option (Tally M)
  tally_at nodes i = option_map (λ n. n.link.tally) (slice_get nodes i)

  -- the node with this link, and with this parent
  abbrev pub linked : Link M → Node M V → Node M V
  linked k n = record n { link = k }

  abbrev pub moved_to : ℕ → Node M V → Node M V
  moved_to p n = record n { link = record n.link { parent = p } }

  -- the node with the child `new` where it had the child `old`
  abbrev pub with_child : ℕ → ℕ → Node M V → Node M V
  with_child old new n =
      record n { link = cond (eqb n.link.left old) (record n.link { left = new }) (record n.link { right = new }) }

  -- the node without its value, ahead of another spare one
  abbrev pub emptied : ℕ → Node M V → Node M V
  emptied next n = record { link = record n.link { right = next }; value = None }

  -- these nodes are spare, and each names the next as its right child
  abbrev pub AreSpare : List (Node M V) → List ℕ → Type 0
  AreSpare nodes [] = Unit {0}
  AreSpare nodes (i ∷ is) =
      ((n : Node M V) × (slice_get nodes i ≡ Some n) × (n.value ≡ None) × (n.link.right ≡ first_of is)) × AreSpare nodes is

  module _ (unit : M) (add : M → M → M) where
    -- how many items there are, and the sum of their measures
    abbrev pub tally_of : List (M × V) → Tally M
    tally_of xs = record { count = length xs; all = total unit add xs }

    -- the sum of the measures, and nothing where there is no item
    abbrev pub sum_of : List (M × V) → Option M
    sum_of [] = None
    sum_of (x ∷ xs) = Some (total unit add (x ∷ xs))

    -- the tally, and nothing where there is no item
    abbrev pub tally : List (M × V) → Option (Tally M)
    tally [] = None
    tally (x ∷ xs) = Some (tally_of (x ∷ xs))

    -- a node between its parent and its children, whose subtree has these items
    abbrev pub node : ℕ → ℕ → ℕ → M → V → List (M × V) → Node M V
    node p l r m v xs =
        record { link = record { parent = p; left = l; right = r; own = m; tally = tally_of xs }; value = Some v }

    -- the tree lies in the nodes, with this parent above its root
    abbrev pub Represents : List (Node M V) → ℕ → Tree M V → Type 0
    Represents nodes p Leaf = Unit {0}
    Represents nodes p (Fork i m v l r) =
        (slice_get nodes i ≡ Some (node p (root_of l) (root_of r) m v (flat l ++ (m, v) ∷ flat r)))
        × Represents nodes i l
        × Represents nodes i r

    -- the way lies in the nodes, above a subtree with this root and these items
    abbrev pub RepresentsWay : List (Node M V) → ℕ → List (M × V) → Way M V → Type 0
    RepresentsWay nodes c xs Top = Unit {0}
    RepresentsWay nodes c xs (LeftOf i m v r w) =
        (slice_get nodes i ≡ Some (node (above w) c (root_of r) m v (xs ++ (m, v) ∷ flat r)))
        × Represents nodes i r
        × RepresentsWay nodes i (xs ++ (m, v) ∷ flat r) w
    RepresentsWay nodes c xs (RightOf i m v l w) =
        (slice_get nodes i ≡ Some (node (above w) (root_of l) c m v (flat l ++ (m, v) ∷ xs)))
        × Represents nodes i l
        × RepresentsWay nodes i (flat l ++ (m, v) ∷ xs) w

    -- A tree seen from one of its subtrees, another tree beside it, and the spare nodes: no two of them at
    -- one index, and no other node.
    pub record Zipped (weight : M → ℕ) (nodes : List (Node M V)) (t : Tree M V) (w : Way M V) (aside : Tree M V) (spare : List ℕ) : Type 0 where
      pub here : Represents nodes (above w) t
      pub way : RepresentsWay nodes (root_of t) (flat t) w
      pub beside : Represents nodes NIL aside
      pub free : AreSpare nodes spare
      pub once : (i : ℕ) → uses i t + uses_way i w + uses i aside + times i spare ≤ 1
      pub counted : length (before w) + length (flat t) + length (after w) + length (flat aside) + length spare ≡ length nodes
      pub small : length nodes ≤ MAX_NODES
      pub light : load weight (before w) + load weight (flat t) + load weight (after w) + load weight (flat aside) ≤ 2 ^ 62
