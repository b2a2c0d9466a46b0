-- A rotation keeps the tree: the nodes that it writes, and all others.
use Rattle.std.proofs.Common.{◌≡◌, ◌≢◌, ℕ, ◌+◌, ◌≤◌, ◌<◌, List, [], ◌∷◌, ◌++◌, length, Some, slice_get, sym, ◌∙◌, subst, arith, length-append, append_assoc}
use Rattle.std.proofs.lemmas.Option.{slice_get_within}
use Rattle.splay.specs.Tree.{NIL, Tree, Way, Fork, LeftOf, RightOf, hit, times, flat, root_of, uses, before, after, above, uses_way}
use Rattle.splay.specs.Nodes.{with_node, linked, moved_to, with_child, tally_of, Represents, RepresentsWay, Zipped}
use Rattle.splay.proofs.NodeLemmas.{with_node-same, with_node-other, length-with_node}
use Rattle.splay.proofs.ItemLemmas.{load-append}
use Rattle.splay.proofs.TreeLemmas.{hit-same, apart_from_hit, Represents-same, RepresentsWay-same, AreSpare-same, at_root-other, above-other, Represents-moved, RepresentsWay-child}
use Rattle.splay.specs.declared.store.Link.{Link}
use Rattle.splay.specs.declared.store.Node.{Node}

module _ {M V : Type 0} where
  -- the nodes after the moved subtree, the lower and the upper node are written
  abbrev pub relinked : List (Node M V) → Tree M V → ℕ → ℕ → Link M → Link M → List (Node M V)
  relinked nodes moved x y kx ky = with_node (with_node (with_node nodes (root_of moved) (moved_to y)) y (linked ky)) x (linked kx)

  -- and after the node above them both has its new child
  abbrev pub lifted : List (Node M V) → Tree M V → Way M V → ℕ → ℕ → Link M → Link M → List (Node M V)
  lifted nodes moved w x y kx ky = with_node (relinked nodes moved x y kx ky) (above w) (with_child y x)

module _ {M V : Type 0} (unit : M) (add : M → M → M) (nodes : List (Node M V)) (moved : Tree M V) (w : Way M V) (x y : ℕ) (kx ky : Link M) (few : length nodes ≤ NIL) where
  length-relinked : length (relinked nodes moved x y kx ky) ≡ length nodes
  length-relinked =
      length-with_node (with_node (with_node nodes (root_of moved) (moved_to y)) y (linked ky)) x (linked kx)
      ∙ length-with_node (with_node nodes (root_of moved) (moved_to y)) y (linked ky)
      ∙ length-with_node nodes (root_of moved) (moved_to y)

  length-lifted : length (lifted nodes moved w x y kx ky) ≡ length nodes
  length-lifted = length-with_node (relinked nodes moved x y kx ky) (above w) (with_child y x) ∙ length-relinked

  relinked-above : (i : ℕ) → i ≢ x → i ≢ y → slice_get (relinked nodes moved x y kx ky) i ≡ slice_get (with_node nodes (root_of moved) (moved_to y)) i
  relinked-above i ax ay =
      with_node-other (with_node (with_node nodes (root_of moved) (moved_to y)) y (linked ky)) x i (linked kx) ax
      ∙ with_node-other (with_node nodes (root_of moved) (moved_to y)) y i (linked ky) ay

  relinked-other : (i : ℕ) → i ≢ x → i ≢ y → uses i moved ≡ 0 → slice_get (relinked nodes moved x y kx ky) i ≡ slice_get nodes i
  relinked-other i ax ay none = relinked-above i ax ay ∙ at_root-other unit add nodes moved (moved_to y) i few none

  lifted-relinked : (i : ℕ) → uses_way i w ≡ 0 → slice_get (lifted nodes moved w x y kx ky) i ≡ slice_get (relinked nodes moved x y kx ky) i
  lifted-relinked i none = above-other unit add (relinked nodes moved x y kx ky) w (with_child y x) i (subst (λ n. n ≤ NIL) (sym length-relinked) few) none

  lifted-other : (i : ℕ) → i ≢ x → i ≢ y → uses i moved ≡ 0 → uses_way i w ≡ 0 → slice_get (lifted nodes moved w x y kx ky) i ≡ slice_get nodes i
  lifted-other i ax ay none away = lifted-relinked i away ∙ relinked-other i ax ay none

  lifted-lower : (n : Node M V) → uses x moved ≡ 0 → uses_way x w ≡ 0 → x ≢ y → slice_get nodes x ≡ Some n → slice_get (lifted nodes moved w x y kx ky) x ≡ Some (linked kx n)
  lifted-lower n none away apart read =
      lifted-relinked x away
      ∙ with_node-same (with_node (with_node nodes (root_of moved) (moved_to y)) y (linked ky)) x (linked kx) n
      (with_node-other (with_node nodes (root_of moved) (moved_to y)) y x (linked ky) apart
      ∙ at_root-other unit add nodes moved (moved_to y) x few none
      ∙ read)

  lifted-upper : (n : Node M V) → uses y moved ≡ 0 → uses_way y w ≡ 0 → x ≢ y → slice_get nodes y ≡ Some n → slice_get (lifted nodes moved w x y kx ky) y ≡ Some (linked ky n)
  lifted-upper n none away apart read =
      lifted-relinked y away
      ∙ with_node-other (with_node (with_node nodes (root_of moved) (moved_to y)) y (linked ky)) x y (linked kx) (λ e. apart (sym e))
      ∙ with_node-same (with_node nodes (root_of moved) (moved_to y)) y (linked ky) n
      (at_root-other unit add nodes moved (moved_to y) y few none ∙ read)

  lifted-moved : (p : ℕ) → ((i : ℕ) → uses i moved + hit i x + hit i y + uses_way i w ≤ 1) → Represents unit add nodes p moved → Represents unit add (lifted nodes moved w x y kx ky) y moved
  lifted-moved p once h =
      Represents-same unit add (with_node nodes (root_of moved) (moved_to y)) (lifted nodes moved w x y kx ky) y moved
      (λ i u.
      let at = once i in
      lifted-relinked i (omega arith) ∙ relinked-above i (apart_from_hit i x (omega arith)) (apart_from_hit i y (omega arith)))
      (Represents-moved unit add nodes p y moved few (λ i. let at = once i in omega arith) h)

  lifted-way : (xs ys : List (M × V)) → y < length nodes → ((i : ℕ) → uses i moved + hit i x + hit i y + uses_way i w ≤ 1) → xs ≡ ys → RepresentsWay unit add nodes y xs w → RepresentsWay unit add (lifted nodes moved w x y kx ky) x ys w
  lifted-way xs ys within once same h =
      RepresentsWay-child unit add (relinked nodes moved x y kx ky) y x ys w
      (subst (λ n. n ≤ NIL) (sym length-relinked) few)
      (subst (λ n. y < n) (sym length-relinked) within)
      (let at = once y in let one = hit-same y in omega arith)
      (λ i. let at = once i in omega arith)
      (RepresentsWay-same unit add nodes (relinked nodes moved x y kx ky) y ys w
      (λ i u.
      let at = once i in
      relinked-other i (apart_from_hit i x (omega arith)) (apart_from_hit i y (omega arith)) (omega arith))
      (subst (λ zs. RepresentsWay unit add nodes y zs w) same h))

module _ {M V : Type 0} (unit : M) (add : M → M → M) (weight : M → ℕ) where
  -- the left child x of y comes above it
  pub lifted-left : (nodes : List (Node M V)) (x y : ℕ) (m n : M) (v u : V) (a b c : Tree M V) (w : Way M V) (aside : Tree M V) (spare : List ℕ)
      → Zipped unit add weight nodes (Fork x m v a b) (LeftOf y n u c w) aside spare
      → Zipped unit add weight
      (lifted nodes b w x y
      (record { parent = above w; left = root_of a; right = y; own = m; tally = tally_of unit add (flat a ++ (m, v) ∷ (flat b ++ (n, u) ∷ flat c)) })
      (record { parent = x; left = root_of b; right = root_of c; own = n; tally = tally_of unit add (flat b ++ (n, u) ∷ flat c) }))
      (Fork x m v a (Fork y n u b c)) w aside spare
  lifted-left nodes x y m n v u a b c w aside spare z =
      let kx : Link M = record { parent = above w; left = root_of a; right = y; own = m; tally = tally_of unit add (flat a ++ (m, v) ∷ (flat b ++ (n, u) ∷ flat c)) } in
      let ky : Link M = record { parent = x; left = root_of b; right = root_of c; own = n; tally = tally_of unit add (flat b ++ (n, u) ∷ flat c) } in
      let few : length nodes ≤ NIL = omega (arith, z.small) in
      let once : (i : ℕ) → uses i a + hit i x + uses i b + hit i y + uses i c + uses_way i w + uses i aside + times i spare ≤ 1 = λ i. omega (arith, z.once i) in
      let ox = once x in
      let oy = once y in
      let hx = hit-same x in
      let hy = hit-same y in
      let apart : x ≢ y = apart_from_hit x y (omega arith) in
      let in_y : y < length nodes = slice_get_within nodes y _ z.way.0 in
      let others : (i : ℕ) → 1 ≤ uses i a + uses i c + uses i aside + times i spare → slice_get (lifted nodes b w x y kx ky) i ≡ slice_get nodes i =
      λ i k. let at = once i in lifted-other unit add nodes b w x y kx ky few i (apart_from_hit i x (omega arith)) (apart_from_hit i y (omega arith)) (omega arith) (omega arith) in
      let four : (i : ℕ) → uses i b + hit i x + hit i y + uses_way i w ≤ 1 = λ i. omega (arith, once i) in
      record {
        here = (
          lifted-lower unit add nodes b w x y kx ky few _ (omega arith) (omega arith) apart z.here.0,
          Represents-same unit add nodes _ x a (λ i k. others i (omega arith)) z.here.1,
          (
            lifted-upper unit add nodes b w x y kx ky few _ (omega arith) (omega arith) apart z.way.0,
            lifted-moved unit add nodes b w x y kx ky few x four z.here.2,
            Represents-same unit add nodes _ y c (λ i k. others i (omega arith)) z.way.1,
          ),
        );
        way =
            lifted-way unit add nodes b w x y kx ky few _ _ in_y four (append_assoc (flat a) ((m, v) ∷ flat b) ((n, u) ∷ flat c)) z.way.2;
        beside = Represents-same unit add nodes _ NIL aside (λ i k. others i (omega arith)) z.beside;
        free = AreSpare-same nodes _ spare (λ i k. others i (omega arith)) z.free;
        once = λ i. omega (arith, once i);
        counted =
            omega (arith, z.counted, length-lifted unit add nodes b w x y kx ky few, length-append (flat a) ((m, v) ∷ flat b), length-append (flat a) ((m, v) ∷ (flat b ++ (n, u) ∷ flat c)), length-append (flat b) ((n, u) ∷ flat c), length-append (flat c) (after w));
        small = omega (arith, z.small, length-lifted unit add nodes b w x y kx ky few);
        light =
            omega (arith, z.light, load-append weight (flat a) ((m, v) ∷ flat b), load-append weight (flat a) ((m, v) ∷ (flat b ++ (n, u) ∷ flat c)), load-append weight (flat b) ((n, u) ∷ flat c), load-append weight (flat c) (after w));
      }

  -- the right child x of y comes above it
  pub lifted-right : (nodes : List (Node M V)) (x y : ℕ) (m n : M) (v u : V) (a b c : Tree M V) (w : Way M V) (aside : Tree M V) (spare : List ℕ)
      → Zipped unit add weight nodes (Fork x m v a b) (RightOf y n u c w) aside spare
      → Zipped unit add weight
      (lifted nodes a w x y
      (record { parent = above w; left = y; right = root_of b; own = m; tally = tally_of unit add ((flat c ++ (n, u) ∷ flat a) ++ (m, v) ∷ flat b) })
      (record { parent = x; left = root_of c; right = root_of a; own = n; tally = tally_of unit add (flat c ++ (n, u) ∷ flat a) }))
      (Fork x m v (Fork y n u c a) b) w aside spare
  lifted-right nodes x y m n v u a b c w aside spare z =
      let kx : Link M = record { parent = above w; left = y; right = root_of b; own = m; tally = tally_of unit add ((flat c ++ (n, u) ∷ flat a) ++ (m, v) ∷ flat b) } in
      let ky : Link M = record { parent = x; left = root_of c; right = root_of a; own = n; tally = tally_of unit add (flat c ++ (n, u) ∷ flat a) } in
      let few : length nodes ≤ NIL = omega (arith, z.small) in
      let once : (i : ℕ) → uses i a + hit i x + uses i b + hit i y + uses i c + uses_way i w + uses i aside + times i spare ≤ 1 = λ i. omega (arith, z.once i) in
      let ox = once x in
      let oy = once y in
      let hx = hit-same x in
      let hy = hit-same y in
      let apart : x ≢ y = apart_from_hit x y (omega arith) in
      let in_y : y < length nodes = slice_get_within nodes y _ z.way.0 in
      let others : (i : ℕ) → 1 ≤ uses i b + uses i c + uses i aside + times i spare → slice_get (lifted nodes a w x y kx ky) i ≡ slice_get nodes i =
      λ i k. let at = once i in lifted-other unit add nodes a w x y kx ky few i (apart_from_hit i x (omega arith)) (apart_from_hit i y (omega arith)) (omega arith) (omega arith) in
      let four : (i : ℕ) → uses i a + hit i x + hit i y + uses_way i w ≤ 1 = λ i. omega (arith, once i) in
      record {
        here = (
          lifted-lower unit add nodes a w x y kx ky few _ (omega arith) (omega arith) apart z.here.0,
          (
            lifted-upper unit add nodes a w x y kx ky few _ (omega arith) (omega arith) apart z.way.0,
            Represents-same unit add nodes _ y c (λ i k. others i (omega arith)) z.way.1,
            lifted-moved unit add nodes a w x y kx ky few x four z.here.1,
          ),
          Represents-same unit add nodes _ x b (λ i k. others i (omega arith)) z.here.2,
        );
        way =
            lifted-way unit add nodes a w x y kx ky few _ _ in_y four (sym (append_assoc (flat c) ((n, u) ∷ flat a) ((m, v) ∷ flat b))) z.way.2;
        beside = Represents-same unit add nodes _ NIL aside (λ i k. others i (omega arith)) z.beside;
        free = AreSpare-same nodes _ spare (λ i k. others i (omega arith)) z.free;
        once = λ i. omega (arith, once i);
        counted =
            omega (arith, z.counted, length-lifted unit add nodes a w x y kx ky few, length-append (flat a) ((m, v) ∷ flat b), length-append (flat c ++ (n, u) ∷ flat a) ((m, v) ∷ flat b), length-append (flat c) ((n, u) ∷ flat a), length-append (flat c) ((n, u) ∷ []), length-append (before w) (flat c ++ (n, u) ∷ []));
        small = omega (arith, z.small, length-lifted unit add nodes a w x y kx ky few);
        light =
            omega (arith, z.light, load-append weight (flat a) ((m, v) ∷ flat b), load-append weight (flat c ++ (n, u) ∷ flat a) ((m, v) ∷ flat b), load-append weight (flat c) ((n, u) ∷ flat a), load-append weight (flat c) ((n, u) ∷ []), load-append weight (before w) (flat c ++ (n, u) ∷ []));
      }
