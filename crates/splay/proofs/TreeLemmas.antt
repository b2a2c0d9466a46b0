-- Trees, ways and spare nodes where the nodes that they lie in stay as they are.
use Rattle.std.proofs.Common.{◌≡◌, ◌≢◌, ℕ, zero, suc, ◌+◌, ◌≤◌, ◌<◌, List, [], ◌∷◌, ◌++◌, length, Some, slice_get, eqb, true, false, refl, sym, ap, ◌∙◌, subst, arith, ◌⊎◌, inl, inr}
use Rattle.std.proofs.lemmas.Bool.Decides.{eqb_tells}
use Rattle.std.proofs.lemmas.Option.{slice_get_within, slice_get_past}
use Rattle.splay.specs.Tree.{NIL, Tree, Way, Leaf, Fork, Top, LeftOf, RightOf, hit, times, flat, root_of, uses, above, uses_way}
use Rattle.splay.specs.Nodes.{with_node, moved_to, with_child, tally, tally_of, tally_at, Represents, RepresentsWay, AreSpare}
use Rattle.splay.proofs.NodeLemmas.{with_node-same, with_node-other, with_node-past}
use Rattle.splay.specs.declared.store.Node.{Node}

eqb-refl : (i : ℕ) → eqb i i ≡ true
eqb-refl i = elim (eqb_tells i i) [ inl p ↦ p.0 | inr p ↦ absurd (p.1 refl) ]

eqb-apart : (i j : ℕ) → i ≢ j → eqb i j ≡ false
eqb-apart i j h = elim (eqb_tells i j) [ inl p ↦ absurd (h p.1) | inr p ↦ p.0 ]

pub none_or_some : (n : ℕ) → (n ≡ 0) ⊎ (1 ≤ n)
none_or_some zero = inl refl
none_or_some (suc n) = inr (omega arith)

pub hit-same : (i : ℕ) → hit i i ≡ 1
hit-same i = rw (eqb-refl i) refl

-- an index that is hit nowhere is another one
pub apart_from_hit : (i j : ℕ) → hit i j ≡ 0 → i ≢ j
apart_from_hit i j h e = let one : hit i j ≡ 1 = subst (λ k. hit i k ≡ 1) e (hit-same i) in omega arith

pub hit-le : (i j : ℕ) → hit i j ≤ 1
hit-le i j = elim (eqb_tells i j) [ inl p ↦ rw p.0 (omega arith) | inr p ↦ rw p.0 (omega arith) ]

pub hit_from_apart : (i j : ℕ) → i ≢ j → hit i j ≡ 0
hit_from_apart i j h = rw (eqb-apart i j h) refl

-- an index that is used in one of three places stands within, where each of them tells so
within_cases : (i j a b n : ℕ) → (i ≡ j → i < n) → (1 ≤ a → i < n) → (1 ≤ b → i < n) → 1 ≤ a + hit i j + b → i < n
within_cases i j a b n at left right u =
    elim (eqb_tells i j) [
      | inl p ↦ at p.1
      | inr p ↦ elim (none_or_some a) [ inr k ↦ left k | inl z ↦ right (let no : hit i j ≡ 0 = hit_from_apart i j p.1 in omega arith) ]
    ]

module _ {M V : Type 0} where
  tally-some : (unit : M) (add : M → M → M) (xs : List (M × V)) (y : M × V) (ys : List (M × V)) → tally unit add (xs ++ y ∷ ys) ≡ Some (tally_of unit add (xs ++ y ∷ ys))
  tally-some unit add [] y ys = refl
  tally-some unit add (x ∷ xs) y ys = refl

module _ {M V : Type 0} (unit : M) (add : M → M → M) where
  pub Represents-same : (old new : List (Node M V)) (p : ℕ) (t : Tree M V) → ((i : ℕ) → 1 ≤ uses i t → slice_get new i ≡ slice_get old i) → Represents unit add old p t → Represents unit add new p t
  Represents-same old new p Leaf same r = tt
  Represents-same old new p (Fork i m v l r) same h =
      let one = hit-same i in (
        same i (omega arith) ∙ h.0,
        Represents-same old new i l (λ j u. same j (omega arith)) h.1,
        Represents-same old new i r (λ j u. same j (omega arith)) h.2,
      )

  pub RepresentsWay-same : (old new : List (Node M V)) (c : ℕ) (xs : List (M × V)) (w : Way M V) → ((i : ℕ) → 1 ≤ uses_way i w → slice_get new i ≡ slice_get old i) → RepresentsWay unit add old c xs w → RepresentsWay unit add new c xs w
  RepresentsWay-same old new c xs Top same h = tt
  RepresentsWay-same old new c xs (LeftOf i m v r w) same h =
      let one = hit-same i in (
        same i (omega arith) ∙ h.0,
        Represents-same old new i r (λ j u. same j (omega arith)) h.1,
        RepresentsWay-same old new i (xs ++ (m, v) ∷ flat r) w (λ j u. same j (omega arith)) h.2,
      )
  RepresentsWay-same old new c xs (RightOf i m v l w) same h =
      let one = hit-same i in (
        same i (omega arith) ∙ h.0,
        Represents-same old new i l (λ j u. same j (omega arith)) h.1,
        RepresentsWay-same old new i (flat l ++ (m, v) ∷ xs) w (λ j u. same j (omega arith)) h.2,
      )

  -- the nodes of a tree stand within the list
  pub uses-within : (nodes : List (Node M V)) (p : ℕ) (t : Tree M V) (i : ℕ) → Represents unit add nodes p t → 1 ≤ uses i t → i < length nodes
  uses-within nodes p Leaf i h u = absurd (omega arith)
  uses-within nodes p (Fork j m v l r) i h u =
      within_cases i j (uses i l) (uses i r) (length nodes)
      (λ e. subst (λ k. k < length nodes) (sym e) (slice_get_within nodes j _ h.0))
      (λ k. uses-within nodes j l i h.1 k)
      (λ k. uses-within nodes j r i h.2 k)
      u

  -- another tree's nodes than those of t are no child of a node
  pub root-apart : (nodes : List (Node M V)) (t : Tree M V) (y : ℕ) → length nodes ≤ NIL → y < length nodes → uses y t ≡ 0 → root_of t ≢ y
  root-apart nodes Leaf y few within none e = omega arith
  root-apart nodes (Fork i m v l r) y few within none e = let one : hit y i ≡ 1 = subst (λ k. hit k i ≡ 1) e (hit-same i) in omega arith

  -- a write at a tree's root leaves every node outside the tree
  pub at_root-other : (nodes : List (Node M V)) (t : Tree M V) (f : Node M V → Node M V) (i : ℕ) → length nodes ≤ NIL → uses i t ≡ 0 → slice_get (with_node nodes (root_of t) f) i ≡ slice_get nodes i
  at_root-other nodes Leaf f i few none = ap (λ ns. slice_get ns i) (with_node-past nodes NIL f few)
  at_root-other nodes (Fork j m v l r) f i few none = with_node-other nodes j i f (apart_from_hit i j (omega arith))

  -- and so does a write at the node above
  pub above-other : (nodes : List (Node M V)) (w : Way M V) (f : Node M V → Node M V) (i : ℕ) → length nodes ≤ NIL → uses_way i w ≡ 0 → slice_get (with_node nodes (above w) f) i ≡ slice_get nodes i
  above-other nodes Top f i few none = ap (λ ns. slice_get ns i) (with_node-past nodes NIL f few)
  above-other nodes (LeftOf j m v r w) f i few none = with_node-other nodes j i f (apart_from_hit i j (omega arith))
  above-other nodes (RightOf j m v r w) f i few none = with_node-other nodes j i f (apart_from_hit i j (omega arith))

  -- a tree whose root has another parent
  pub Represents-moved : (nodes : List (Node M V)) (p q : ℕ) (t : Tree M V) → length nodes ≤ NIL → ((i : ℕ) → uses i t ≤ 1) → Represents unit add nodes p t → Represents unit add (with_node nodes (root_of t) (moved_to q)) q t
  Represents-moved nodes p q Leaf few once h = tt
  Represents-moved nodes p q (Fork i m v l r) few once h =
      let one = hit-same i in
      let top : uses i l + hit i i + uses i r ≤ 1 = once i in
      let apart = λ (j : ℕ) (u : 1 ≤ uses j l + uses j r). let at : uses j l + hit j i + uses j r ≤ 1 = once j in apart_from_hit j i (omega arith) in (
        with_node-same nodes i (moved_to q) _ h.0,
        Represents-same nodes (with_node nodes i (moved_to q)) i l (λ j u. with_node-other nodes i j (moved_to q) (apart j (omega arith))) h.1,
        Represents-same nodes (with_node nodes i (moved_to q)) i r (λ j u. with_node-other nodes i j (moved_to q) (apart j (omega arith))) h.2,
      )

  -- a way whose lowest node has another child in the same place
  pub RepresentsWay-child : (nodes : List (Node M V)) (y x : ℕ) (xs : List (M × V)) (w : Way M V) → length nodes ≤ NIL → y < length nodes → uses_way y w ≡ 0 → ((i : ℕ) → uses_way i w ≤ 1) → RepresentsWay unit add nodes y xs w → RepresentsWay unit add (with_node nodes (above w) (with_child y x)) x xs w
  RepresentsWay-child nodes y x xs Top few within none once h = tt
  RepresentsWay-child nodes y x xs (LeftOf i m v r w) few within none once h =
      let apart = λ (j : ℕ) (u : 1 ≤ uses j r + uses_way j w). let at : hit j i + uses j r + uses_way j w ≤ 1 = once j in apart_from_hit j i (omega arith) in (
        with_node-same nodes i (with_child y x) _ h.0 ∙ rw (eqb-refl y) refl,
        Represents-same nodes _ i r (λ j u. with_node-other nodes i j (with_child y x) (apart j (omega arith))) h.1,
        RepresentsWay-same nodes _ i (xs ++ (m, v) ∷ flat r) w (λ j u. with_node-other nodes i j (with_child y x) (apart j (omega arith))) h.2,
      )
  RepresentsWay-child nodes y x xs (RightOf i m v l w) few within none once h =
      let apart = λ (j : ℕ) (u : 1 ≤ uses j l + uses_way j w). let at : uses j l + hit j i + uses_way j w ≤ 1 = once j in apart_from_hit j i (omega arith) in (
        with_node-same nodes i (with_child y x) _ h.0 ∙ rw (eqb-apart (root_of l) y (root-apart nodes l y few within (omega arith))) refl,
        Represents-same nodes _ i l (λ j u. with_node-other nodes i j (with_child y x) (apart j (omega arith))) h.1,
        RepresentsWay-same nodes _ i (flat l ++ (m, v) ∷ xs) w (λ j u. with_node-other nodes i j (with_child y x) (apart j (omega arith))) h.2,
      )

  -- the tally at a tree's root is that of its items
  pub tally_at-root : (nodes : List (Node M V)) (p : ℕ) (t : Tree M V) → length nodes ≤ NIL → Represents unit add nodes p t → tally_at nodes (root_of t) ≡ tally unit add (flat t)
  tally_at-root nodes p Leaf few h = rw (slice_get_past nodes NIL few) refl
  tally_at-root nodes p (Fork i m v l r) few h = rw h.0 (sym (tally-some unit add (flat l) (m, v) (flat r)))

module _ {M V : Type 0} where
  pub AreSpare-same : (old new : List (Node M V)) (is : List ℕ) → ((i : ℕ) → 1 ≤ times i is → slice_get new i ≡ slice_get old i) → AreSpare old is → AreSpare new is
  AreSpare-same old new [] same h = tt
  AreSpare-same old new (i ∷ is) same h =
      let one = hit-same i in
      ((h.0.0, same i (omega arith) ∙ h.0.1, h.0.2, h.0.3), AreSpare-same old new is (λ j u. same j (omega arith)) h.1)
