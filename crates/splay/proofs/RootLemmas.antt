-- Trees put together and taken apart at their roots: the nodes that are written, and all others.
use Rattle.std.proofs.Common.{◌≡◌, ◌≢◌, ℕ, ◌+◌, ◌≤◌, ◌<◌, ◌^◌, List, [], ◌∷◌, ◌++◌, length, set, Some, slice_get, refl, sym, ◌∙◌, arith, inl, inr, length-append, length-set, append-nil}
use Rattle.std.proofs.lemmas.Option.{slice_get_within}
use Rattle.splay.specs.Items.{load}
use Rattle.splay.specs.Tree.{NIL, Tree, Way, Leaf, Fork, Top, LeftOf, RightOf, hit, times, flat, root_of, uses, before, after, depth}
use Rattle.splay.specs.Nodes.{with_node, linked, moved_to, emptied, node, tally_of, Represents, Zipped, first_of}
use Rattle.splay.specs.Places.{Stands}
use Rattle.splay.proofs.NodeLemmas.{with_node-same, with_node-other, length-with_node, slice_get-set_same, slice_get-set_other, slice_get-push, slice_get-pushed}
use Rattle.splay.proofs.ItemLemmas.{load-append}
use Rattle.splay.proofs.TreeLemmas.{hit-same, apart_from_hit, hit_from_apart, hit-le, none_or_some, Represents-same, AreSpare-same, uses-within, at_root-other, Represents-moved}
use Rattle.splay.specs.declared.store.Node.{Node}

module _ {M V : Type 0} (unit : M) (add : M → M → M) (weight : M → ℕ) where
  -- a tree beside a root without a right subtree becomes it
  pub hung : (nodes : List (Node M V)) (y : ℕ) (m : M) (v : V) (a b : Tree M V) (spare : List ℕ)
      → Zipped unit add weight nodes (Fork y m v a Leaf) Top b spare
      → Zipped unit add weight
      (with_node (with_node nodes (root_of b) (moved_to y)) y (linked (record { parent = NIL; left = root_of a; right = root_of b; own = m; tally = tally_of unit add (flat a ++ (m, v) ∷ flat b) })))
      (Fork y m v a b) Top Leaf spare
  hung nodes y m v a b spare z =
      let few : length nodes ≤ NIL = omega (arith, z.small) in
      let mid = with_node nodes (root_of b) (moved_to y) in
      let f : Node M V → Node M V = linked (record { parent = NIL; left = root_of a; right = root_of b; own = m; tally = tally_of unit add (flat a ++ (m, v) ∷ flat b) }) in
      let once : (i : ℕ) → uses i a + hit i y + uses i b + times i spare ≤ 1 = λ i. omega (arith, z.once i) in
      let oy = once y in
      let hy = hit-same y in
      let others : (i : ℕ) → 1 ≤ uses i a + times i spare → slice_get (with_node mid y f) i ≡ slice_get nodes i =
      λ i k. let at = once i in with_node-other mid y i f (apart_from_hit i y (omega arith)) ∙ at_root-other unit add nodes b (moved_to y) i few (omega arith) in
      record {
        here = (
          with_node-same mid y f _ (at_root-other unit add nodes b (moved_to y) y few (omega arith) ∙ z.here.0),
          Represents-same unit add nodes _ y a (λ i k. others i (omega arith)) z.here.1,
          Represents-same unit add mid _ y b (λ i k. let at = once i in with_node-other mid y i f (apart_from_hit i y (omega arith))) (Represents-moved unit add nodes NIL y b few (λ i. omega (arith, once i)) z.beside),
        );
        way = tt;
        beside = tt;
        free = AreSpare-same nodes _ spare (λ i k. others i (omega arith)) z.free;
        once = λ i. omega (arith, once i);
        counted = omega (arith, z.counted, length-with_node mid y f, length-with_node nodes (root_of b) (moved_to y), length-append (flat a) ((m, v) ∷ []), length-append (flat a) ((m, v) ∷ flat b));
        small = omega (arith, z.small, length-with_node mid y f, length-with_node nodes (root_of b) (moved_to y));
        light = omega (arith, z.light, load-append weight (flat a) ((m, v) ∷ []), load-append weight (flat a) ((m, v) ∷ flat b));
      }

  -- a single node beside a tree becomes the root behind it
  pub crowned_behind : (nodes : List (Node M V)) (x : ℕ) (m : M) (v : V) (t : Tree M V) (spare : List ℕ)
      → Zipped unit add weight nodes t Top (Fork x m v Leaf Leaf) spare
      → Zipped unit add weight
      (with_node (with_node nodes (root_of t) (moved_to x)) x (linked (record { parent = NIL; left = root_of t; right = NIL; own = m; tally = tally_of unit add (flat t ++ (m, v) ∷ []) })))
      (Fork x m v t Leaf) Top Leaf spare
  crowned_behind nodes x m v t spare z =
      let few : length nodes ≤ NIL = omega (arith, z.small) in
      let mid = with_node nodes (root_of t) (moved_to x) in
      let f : Node M V → Node M V = linked (record { parent = NIL; left = root_of t; right = NIL; own = m; tally = tally_of unit add (flat t ++ (m, v) ∷ []) }) in
      let once : (i : ℕ) → uses i t + hit i x + times i spare ≤ 1 = λ i. omega (arith, z.once i) in
      let ox = once x in
      let hx = hit-same x in
      record {
        here = (
          with_node-same mid x f _ (at_root-other unit add nodes t (moved_to x) x few (omega arith) ∙ z.beside.0),
          Represents-same unit add mid _ x t (λ i k. let at = once i in with_node-other mid x i f (apart_from_hit i x (omega arith))) (Represents-moved unit add nodes NIL x t few (λ i. omega (arith, once i)) z.here),
          tt,
        );
        way = tt;
        beside = tt;
        free = AreSpare-same nodes _ spare (λ i k. let at = once i in with_node-other mid x i f (apart_from_hit i x (omega arith)) ∙ at_root-other unit add nodes t (moved_to x) i few (omega arith)) z.free;
        once = λ i. omega (arith, once i);
        counted = omega (arith, z.counted, length-with_node mid x f, length-with_node nodes (root_of t) (moved_to x), length-append (flat t) ((m, v) ∷ []));
        small = omega (arith, z.small, length-with_node mid x f, length-with_node nodes (root_of t) (moved_to x));
        light = omega (arith, z.light, load-append weight (flat t) ((m, v) ∷ []));
      }

  -- a single node beside a tree becomes the root before the old root's item
  pub crowned_before : (nodes : List (Node M V)) (x y : ℕ) (m n : M) (v u : V) (a b : Tree M V) (spare : List ℕ)
      → Zipped unit add weight nodes (Fork y n u a b) Top (Fork x m v Leaf Leaf) spare
      → Zipped unit add weight
      (with_node (with_node (with_node nodes (root_of a) (moved_to x)) y (linked (record { parent = x; left = NIL; right = root_of b; own = n; tally = tally_of unit add ((n, u) ∷ flat b) }))) x (linked (record { parent = NIL; left = root_of a; right = y; own = m; tally = tally_of unit add (flat a ++ (m, v) ∷ ((n, u) ∷ flat b)) })))
      (Fork x m v a (Fork y n u Leaf b)) Top Leaf spare
  crowned_before nodes x y m n v u a b spare z =
      let few : length nodes ≤ NIL = omega (arith, z.small) in
      let one = with_node nodes (root_of a) (moved_to x) in
      let f : Node M V → Node M V = linked (record { parent = x; left = NIL; right = root_of b; own = n; tally = tally_of unit add ((n, u) ∷ flat b) }) in
      let two = with_node one y f in
      let h : Node M V → Node M V = linked (record { parent = NIL; left = root_of a; right = y; own = m; tally = tally_of unit add (flat a ++ (m, v) ∷ ((n, u) ∷ flat b)) }) in
      let once : (i : ℕ) → uses i a + hit i y + uses i b + hit i x + times i spare ≤ 1 = λ i. omega (arith, z.once i) in
      let ox = once x in
      let oy = once y in
      let hx = hit-same x in
      let hy = hit-same y in
      let apart : x ≢ y = apart_from_hit x y (omega arith) in
      let others : (i : ℕ) → 1 ≤ uses i b + times i spare → slice_get (with_node two x h) i ≡ slice_get nodes i =
      λ i k. let at = once i in with_node-other two x i h (apart_from_hit i x (omega arith)) ∙ with_node-other one y i f (apart_from_hit i y (omega arith)) ∙ at_root-other unit add nodes a (moved_to x) i few (omega arith) in
      record {
        here = (
          with_node-same two x h _ (with_node-other one y x f apart ∙ at_root-other unit add nodes a (moved_to x) x few (omega arith) ∙ z.beside.0),
          Represents-same unit add one _ x a (λ i k. let at = once i in with_node-other two x i h (apart_from_hit i x (omega arith)) ∙ with_node-other one y i f (apart_from_hit i y (omega arith))) (Represents-moved unit add nodes y x a few (λ i. omega (arith, once i)) z.here.1),
          (
            with_node-other two x y h (λ e. apart (sym e)) ∙ with_node-same one y f _ (at_root-other unit add nodes a (moved_to x) y few (omega arith) ∙ z.here.0),
            tt,
            Represents-same unit add nodes _ y b (λ i k. others i (omega arith)) z.here.2,
          ),
        );
        way = tt;
        beside = tt;
        free = AreSpare-same nodes _ spare (λ i k. others i (omega arith)) z.free;
        once = λ i. omega (arith, once i);
        counted = omega (arith, z.counted, length-with_node two x h, length-with_node one y f, length-with_node nodes (root_of a) (moved_to x), length-append (flat a) ((n, u) ∷ flat b), length-append (flat a) ((m, v) ∷ ((n, u) ∷ flat b)));
        small = omega (arith, z.small, length-with_node two x h, length-with_node one y f, length-with_node nodes (root_of a) (moved_to x));
        light = omega (arith, z.light, load-append weight (flat a) ((n, u) ∷ flat b), load-append weight (flat a) ((m, v) ∷ ((n, u) ∷ flat b)));
      }

  -- the root's item comes out
  pub taken_out : (nodes : List (Node M V)) (x : ℕ) (m : M) (v : V) (a b : Tree M V) (spare : List ℕ)
      → Zipped unit add weight nodes (Fork x m v a b) Top Leaf spare
      → Zipped unit add weight
      (with_node (with_node (with_node nodes (root_of a) (moved_to NIL)) (root_of b) (moved_to NIL)) x (emptied (first_of spare)))
      a Top b (x ∷ spare)
  taken_out nodes x m v a b spare z =
      let few : length nodes ≤ NIL = omega (arith, z.small) in
      let one = with_node nodes (root_of a) (moved_to NIL) in
      let few₁ : length one ≤ NIL = omega (arith, few, length-with_node nodes (root_of a) (moved_to NIL)) in
      let two = with_node one (root_of b) (moved_to NIL) in
      let f : Node M V → Node M V = emptied (first_of spare) in
      let once : (i : ℕ) → uses i a + hit i x + uses i b + times i spare ≤ 1 = λ i. omega (arith, z.once i) in
      let ox = once x in
      let hx = hit-same x in
      record {
        here =
            Represents-same unit add one _ NIL a (λ i k. let at = once i in with_node-other two x i f (apart_from_hit i x (omega arith)) ∙ at_root-other unit add one b (moved_to NIL) i few₁ (omega arith))
            (Represents-moved unit add nodes x NIL a few (λ i. omega (arith, once i)) z.here.1);
        way = tt;
        beside =
            Represents-same unit add two _ NIL b (λ i k. let at = once i in with_node-other two x i f (apart_from_hit i x (omega arith)))
            (Represents-moved unit add one x NIL b few₁ (λ i. omega (arith, once i))
            (Represents-same unit add nodes one x b (λ i k. let at = once i in at_root-other unit add nodes a (moved_to NIL) i few (omega arith)) z.here.2));
        free = (
          (
            f (node unit add NIL (root_of a) (root_of b) m v (flat a ++ (m, v) ∷ flat b)),
            with_node-same two x f _ (at_root-other unit add one b (moved_to NIL) x few₁ (omega arith) ∙ at_root-other unit add nodes a (moved_to NIL) x few (omega arith) ∙ z.here.0),
            refl,
            refl,
          ),
          AreSpare-same nodes _ spare (λ i k. let at = once i in with_node-other two x i f (apart_from_hit i x (omega arith)) ∙ at_root-other unit add one b (moved_to NIL) i few₁ (omega arith) ∙ at_root-other unit add nodes a (moved_to NIL) i few (omega arith)) z.free,
        );
        once = λ i. omega (arith, once i);
        counted = omega (arith, z.counted, length-with_node two x f, length-with_node one (root_of b) (moved_to NIL), length-with_node nodes (root_of a) (moved_to NIL), length-append (flat a) ((m, v) ∷ flat b));
        small = omega (arith, z.small, length-with_node two x f, length-with_node one (root_of b) (moved_to NIL), length-with_node nodes (root_of a) (moved_to NIL));
        light = omega (arith, z.light, load-append weight (flat a) ((m, v) ∷ flat b));
      }

  -- what stands at the root after its subtrees were parted from it
  pub taken_value : (nodes : List (Node M V)) (x : ℕ) (m : M) (v : V) (a b : Tree M V) (spare : List ℕ)
      → Zipped unit add weight nodes (Fork x m v a b) Top Leaf spare
      → slice_get (with_node (with_node nodes (root_of a) (moved_to NIL)) (root_of b) (moved_to NIL)) x ≡ Some (node unit add NIL (root_of a) (root_of b) m v (flat a ++ (m, v) ∷ flat b))
  taken_value nodes x m v a b spare z =
      let few : length nodes ≤ NIL = omega (arith, z.small) in
      let one = with_node nodes (root_of a) (moved_to NIL) in
      let few₁ : length one ≤ NIL = omega (arith, few, length-with_node nodes (root_of a) (moved_to NIL)) in
      let ox : uses x a + hit x x + uses x b + times x spare ≤ 1 = omega (arith, z.once x) in
      let hx = hit-same x in
      at_root-other unit add one b (moved_to NIL) x few₁ (omega arith) ∙ at_root-other unit add nodes a (moved_to NIL) x few (omega arith) ∙ z.here.0

  -- the first spare node takes an item
  pub filled : (nodes : List (Node M V)) (x : ℕ) (m : M) (v : V) (t : Tree M V) (spare : List ℕ)
      → Zipped unit add weight nodes t Top Leaf (x ∷ spare)
      → load weight (flat t) + weight m ≤ 2 ^ 62
      → Zipped unit add weight (set nodes x (node unit add NIL NIL NIL m v ((m, v) ∷ []))) t Top (Fork x m v Leaf Leaf) spare
  filled nodes x m v t spare z fits =
      let n = node unit add NIL NIL NIL m v ((m, v) ∷ []) in
      let once : (i : ℕ) → uses i t + hit i x + times i spare ≤ 1 = λ i. omega (arith, z.once i) in
      record {
        here = Represents-same unit add nodes _ NIL t (λ i k. let at = once i in slice_get-set_other nodes x i n (apart_from_hit i x (omega arith))) z.here;
        way = tt;
        beside = (slice_get-set_same nodes x n (slice_get_within nodes x _ z.free.0.1), tt, tt);
        free = AreSpare-same nodes _ spare (λ i k. let at = once i in slice_get-set_other nodes x i n (apart_from_hit i x (omega arith))) z.free.1;
        once = λ i. omega (arith, once i);
        counted = omega (arith, z.counted, length-set nodes x n);
        small = omega (arith, z.small, length-set nodes x n);
        light = omega (arith, z.light, fits);
      }

  new_once : (nodes : List (Node M V)) (t : Tree M V) (i : ℕ) → Represents unit add nodes NIL t → uses i t ≤ 1 → uses i t + hit i (length nodes) ≤ 1
  new_once nodes t i h k =
      elim (none_or_some (uses i t)) [
        | inl z ↦ omega (arith, hit-le i (length nodes))
        | inr p ↦ let w = uses-within unit add nodes NIL t i h p in let q : hit i (length nodes) ≡ 0 = hit_from_apart i (length nodes) (λ e. omega arith) in omega arith
      ]

  -- a new node takes an item
  pub pushed : (nodes : List (Node M V)) (m : M) (v : V) (t : Tree M V)
      → Zipped unit add weight nodes t Top Leaf []
      → length (flat t) < 16777216
      → load weight (flat t) + weight m ≤ 2 ^ 62
      → Zipped unit add weight (nodes ++ node unit add NIL NIL NIL m v ((m, v) ∷ []) ∷ []) t Top (Fork (length nodes) m v Leaf Leaf) []
  pushed nodes m v t z few fits =
      let n = node unit add NIL NIL NIL m v ((m, v) ∷ []) in
      record {
        here = Represents-same unit add nodes _ NIL t (λ i k. slice_get-push nodes n i (uses-within unit add nodes NIL t i z.here k)) z.here;
        way = tt;
        beside = (slice_get-pushed nodes n, tt, tt);
        free = tt;
        once = λ i. omega (arith, new_once nodes t i z.here (omega (arith, z.once i)));
        counted = omega (arith, z.counted, length-append nodes (n ∷ []));
        small = omega (arith, z.counted, few, length-append nodes (n ∷ []));
        light = omega (arith, z.light, fits);
      }

  -- a node with none above it is the root
  pub record AtTop (nodes : List (Node M V)) (x : ℕ) (front : List (M × V)) (m : M) (v : V) (back : List (M × V)) (aside : Tree M V) (spare : List ℕ) : Type 0 where
    pub left : Tree M V
    pub right : Tree M V
    pub zipped : Zipped unit add weight nodes (Fork x m v left right) Top aside spare
    pub front_is : flat left ≡ front
    pub back_is : flat right ≡ back

  at_top : (nodes : List (Node M V)) (x : ℕ) (m : M) (v : V) (a b : Tree M V) (w : Way M V) (front back : List (M × V)) (aside : Tree M V) (spare : List ℕ) → Zipped unit add weight nodes (Fork x m v a b) w aside spare → before w ++ flat a ≡ front → flat b ++ after w ≡ back → depth w ≡ 0 → AtTop nodes x front m v back aside spare
  at_top nodes x m v a b Top front back aside spare z ef eb e = record { left = a; right = b; zipped = z; front_is = ef; back_is = sym (append-nil (flat b)) ∙ eb }
  at_top nodes x m v a b (LeftOf y n u c w) front back aside spare z ef eb e = absurd (omega arith)
  at_top nodes x m v a b (RightOf y n u c w) front back aside spare z ef eb e = absurd (omega arith)

  pub stands_top : (nodes : List (Node M V)) (x : ℕ) (front : List (M × V)) (m : M) (v : V) (back : List (M × V)) (aside : Tree M V) (spare : List ℕ) → Stands unit add weight nodes x front m v back aside spare 0 → AtTop nodes x front m v back aside spare
  stands_top nodes x front m v back aside spare s = at_top nodes x m v s.left s.right s.way front back aside spare s.zipped s.front_is s.back_is s.above_is

  -- a tree with no items is empty
  pub leaf_from_flat : (t : Tree M V) → length (flat t) ≡ 0 → t ≡ Leaf
  leaf_from_flat Leaf e = refl
  leaf_from_flat (Fork i m v l r) e = absurd (omega (arith, length-append (flat l) ((m, v) ∷ flat r)))

  -- an empty tree is left for the one beside it
  pub beside_first : (nodes : List (Node M V)) (b : Tree M V) (spare : List ℕ) → Zipped unit add weight nodes Leaf Top b spare → Zipped unit add weight nodes b Top Leaf spare
  beside_first nodes b spare z = record {
    here = z.beside;
    way = tt;
    beside = tt;
    free = z.free;
    once = λ i. omega (arith, z.once i);
    counted = omega (arith, z.counted);
    small = z.small;
    light = omega (arith, z.light);
  }
