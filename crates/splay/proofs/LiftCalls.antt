-- What the rotations read and write, tied to the trees.
use Rattle.std.proofs.Common.{◌≡◌, ◌≢◌, ℕ, ◌+◌, ◌≤◌, ◌<◌, ◌^◌, List, [], ◌∷◌, ◌++◌, length, Some, None, Option, slice_get, option_map, sym, ap, ◌∙◌, subst, arith, length-append, append_assoc}
use Rattle.std.proofs.lemmas.Option.{slice_get_within, slice_get_past, same_Some}
use Rattle.splay.specs.Items.{load}
use Rattle.splay.specs.Sums.{count_in, weight_of_part, tally_between}
use Rattle.splay.specs.Tree.{NIL, Tree, Way, Fork, Top, LeftOf, RightOf, flat, root_of, before, after, above}
use Rattle.splay.specs.Nodes.{with_node, linked, moved_to, with_child, node, tally_of, tally, tally_at, link_at, Zipped}
use Rattle.splay.specs.Places.{IsNode, LiftsLeft, LiftsRight}
use Rattle.splay.proofs.ItemLemmas.{load-append, tally_between-tally, weight_of_part-tally, count_in-tally}
use Rattle.splay.proofs.TreeLemmas.{hit-same, tally_at-root, root-apart}
use Rattle.splay.proofs.Lift.{lifted, lifted-left, lifted-right}
use Rattle.splay.specs.declared.store.Tally.{Tally}
use Rattle.splay.specs.declared.store.Link.{Link}
use Rattle.splay.specs.declared.store.Node.{Node}

module _ {M V : Type 0} where
  -- what is read at a node
  pub link_read : (nodes : List (Node M V)) (i : ℕ) (n : Node M V) (k : Link M) → slice_get nodes i ≡ Some n → link_at nodes i ≡ Some k → n.link ≡ k
  link_read nodes i n k e h = same_Some n.link k (sym (ap (λ o. option_map (λ z. z.link) o) e) ∙ h)

  -- nothing is read past the nodes
  pub none_read : (nodes : List (Node M V)) (k : Link M) → length nodes ≤ NIL → link_at nodes NIL ≡ Some k → ⊥
  none_read nodes k few h = let e = slice_get_past nodes NIL few in let f : option_map (λ z. z.link) (slice_get nodes NIL) ≡ None = ap (λ o. option_map (λ z. z.link) o) e in cc

  -- what lifting a left child writes
  abbrev pub left_writes : List (Node M V) → ℕ → Link M → Link M → Tally M → List (Node M V)
  left_writes nodes x low high below =
      with_node (with_node (with_node (with_node nodes low.right (moved_to low.parent)) low.parent (linked (record { parent = x; left = low.right; right = high.right; own = high.own; tally = below }))) x (linked (record { parent = high.parent; left = low.left; right = low.parent; own = low.own; tally = high.tally }))) high.parent (with_child low.parent x)

  -- what lifting a right child writes
  abbrev pub right_writes : List (Node M V) → ℕ → Link M → Link M → Tally M → List (Node M V)
  right_writes nodes x low high below =
      with_node (with_node (with_node (with_node nodes low.left (moved_to low.parent)) low.parent (linked (record { parent = x; left = high.left; right = low.left; own = high.own; tally = below }))) x (linked (record { parent = high.parent; left = low.parent; right = low.right; own = low.own; tally = high.tally }))) high.parent (with_child low.parent x)

module _ {M : Type 0} (weight : M → ℕ) where
  -- the two parts and the item between them weigh little and are few
  pub record Fits (left : Option (Tally M)) (own : M) (right : Option (Tally M)) : Type 0 where
    pub light : weight_of_part weight left + weight own + weight_of_part weight right ≤ 2 ^ 62
    pub few : count_in left + 1 + count_in right < 2 ^ 32

module _ {M V : Type 0} (unit : M) (add : M → M → M) (weight : M → ℕ) (associative : (a b c : M) → add (add a b) c ≡ add a (add b c)) (unit_left : (a : M) → add unit a ≡ a) (unit_right : (a : M) → add a unit ≡ a) (lighter : (a b : M) → weight (add a b) ≤ weight a + weight b) where
  -- parts of a list that is short and light
  pub fits_parts : (xs ys : List (M × V)) (m : M) → load weight xs + weight m + load weight ys ≤ 2 ^ 62 → length xs + length ys ≤ 16777216 → Fits weight (tally unit add xs) m (tally unit add ys)
  fits_parts xs ys m light few = record {
    light = omega (arith, light, weight_of_part-tally weight unit add unit_right lighter xs, weight_of_part-tally weight unit add unit_right lighter ys);
    few = omega (arith, few, count_in-tally unit add xs, count_in-tally unit add ys);
  }

  left_fits : (nodes : List (Node M V)) (x : ℕ) (low high : Link M) (m : M) (v : V) (a b : Tree M V) (w : Way M V) (aside : Tree M V) (spare : List ℕ) → Zipped unit add weight nodes (Fork x m v a b) w aside spare → link_at nodes x ≡ Some low → link_at nodes low.parent ≡ Some high → high.left ≡ x → Fits weight (tally_at nodes low.right) high.own (tally_at nodes high.right)
  left_fits nodes x low high m v a b Top aside spare z el eh left =
      let few : length nodes ≤ NIL = omega (arith, z.small) in
      let e = link_read nodes x _ low z.here.0 el in
      absurd (none_read nodes high few (subst (λ (k : Link M). link_at nodes k.parent ≡ Some high) (sym e) eh))
  left_fits nodes x low high m v a b (LeftOf y n u c w) aside spare z el eh left =
      let few : length nodes ≤ NIL = omega (arith, z.small) in
      let e = link_read nodes x _ low z.here.0 el in
      let f = link_read nodes y _ high z.way.0 (subst (λ (k : Link M). link_at nodes k.parent ≡ Some high) (sym e) eh) in
      let fits = fits_parts (flat b) (flat c) n
      (omega (arith, z.light, load-append weight (flat a) ((m, v) ∷ flat b), load-append weight (flat c) (after w)))
      (omega (arith, z.counted, z.small, length-append (flat a) ((m, v) ∷ flat b), length-append (flat c) (after w))) in
      subst (λ (k : Link M). Fits weight (tally_at nodes k.right) high.own (tally_at nodes high.right)) e
      (subst (λ (k : Link M). Fits weight (tally_at nodes (root_of b)) k.own (tally_at nodes k.right)) f
      (rw (tally_at-root unit add nodes x b few z.here.2, tally_at-root unit add nodes y c few z.way.1) fits))
  left_fits nodes x low high m v a b (RightOf y n u c w) aside spare z el eh left =
      let few : length nodes ≤ NIL = omega (arith, z.small) in
      let e = link_read nodes x _ low z.here.0 el in
      let f = link_read nodes y _ high z.way.0 (subst (λ (k : Link M). link_at nodes k.parent ≡ Some high) (sym e) eh) in
      let at = z.once x in let one = hit-same x in
      absurd (root-apart unit add nodes c x few (slice_get_within nodes x _ z.here.0) (omega arith) (ap (λ (k : Link M). k.left) f ∙ left))

  right_fits : (nodes : List (Node M V)) (x : ℕ) (low high : Link M) (m : M) (v : V) (a b : Tree M V) (w : Way M V) (aside : Tree M V) (spare : List ℕ) → Zipped unit add weight nodes (Fork x m v a b) w aside spare → link_at nodes x ≡ Some low → link_at nodes low.parent ≡ Some high → high.left ≢ x → Fits weight (tally_at nodes high.left) high.own (tally_at nodes low.left)
  right_fits nodes x low high m v a b Top aside spare z el eh right =
      let few : length nodes ≤ NIL = omega (arith, z.small) in
      let e = link_read nodes x _ low z.here.0 el in
      absurd (none_read nodes high few (subst (λ (k : Link M). link_at nodes k.parent ≡ Some high) (sym e) eh))
  right_fits nodes x low high m v a b (LeftOf y n u c w) aside spare z el eh right =
      let e = link_read nodes x _ low z.here.0 el in
      let f = link_read nodes y _ high z.way.0 (subst (λ (k : Link M). link_at nodes k.parent ≡ Some high) (sym e) eh) in
      absurd (right (sym (ap (λ (k : Link M). k.left) f)))
  right_fits nodes x low high m v a b (RightOf y n u c w) aside spare z el eh right =
      let few : length nodes ≤ NIL = omega (arith, z.small) in
      let e = link_read nodes x _ low z.here.0 el in
      let f = link_read nodes y _ high z.way.0 (subst (λ (k : Link M). link_at nodes k.parent ≡ Some high) (sym e) eh) in
      let fits = fits_parts (flat c) (flat a) n
      (omega (arith, z.light, load-append weight (flat a) ((m, v) ∷ flat b), load-append weight (before w) (flat c ++ (n, u) ∷ []), load-append weight (flat c) ((n, u) ∷ [])))
      (omega (arith, z.counted, z.small, length-append (flat a) ((m, v) ∷ flat b), length-append (before w) (flat c ++ (n, u) ∷ []), length-append (flat c) ((n, u) ∷ []))) in
      subst (λ (k : Link M). Fits weight (tally_at nodes high.left) high.own (tally_at nodes k.left)) e
      (subst (λ (k : Link M). Fits weight (tally_at nodes k.left) k.own (tally_at nodes (root_of a))) f
      (rw (tally_at-root unit add nodes y c few z.way.1, tally_at-root unit add nodes x a few z.here.1) fits))

  pub left_fits_node : (nodes : List (Node M V)) (x : ℕ) (low high : Link M) → IsNode unit add weight nodes x → link_at nodes x ≡ Some low → link_at nodes low.parent ≡ Some high → high.left ≡ x → Fits weight (tally_at nodes low.right) high.own (tally_at nodes high.right)
  left_fits_node nodes x low high i = left_fits nodes x low high i.measure i.value i.left i.right i.way i.aside i.spare i.zipped

  pub right_fits_node : (nodes : List (Node M V)) (x : ℕ) (low high : Link M) → IsNode unit add weight nodes x → link_at nodes x ≡ Some low → link_at nodes low.parent ≡ Some high → high.left ≢ x → Fits weight (tally_at nodes high.left) high.own (tally_at nodes low.left)
  right_fits_node nodes x low high i = right_fits nodes x low high i.measure i.value i.left i.right i.way i.aside i.spare i.zipped

  -- the writes of a left child's lifting do it
  pub left_writes-lifts : (nodes : List (Node M V)) (x : ℕ) (low high : Link M) → link_at nodes x ≡ Some low → link_at nodes low.parent ≡ Some high → LiftsLeft unit add weight nodes (left_writes nodes x low high (tally_between add (tally_at nodes low.right) high.own (tally_at nodes high.right))) x
  left_writes-lifts nodes x low high el eh y m n v u a b c w aside spare z =
      let few : length nodes ≤ NIL = omega (arith, z.small) in
      let e = link_read nodes x _ low z.here.0 el in
      let f = link_read nodes y _ high z.way.0 (subst (λ (k : Link M). link_at nodes k.parent ≡ Some high) (sym e) eh) in
      let t : tally_between add (tally_at nodes (root_of b)) n (tally_at nodes (root_of c)) ≡ tally_of unit add (flat b ++ (n, u) ∷ flat c) =
      rw (tally_at-root unit add nodes x b few z.here.2, tally_at-root unit add nodes y c few z.way.1) (tally_between-tally unit add associative unit_left unit_right (flat b) (flat c) n u) in
      subst (λ (k : Link M). Zipped unit add weight (left_writes nodes x k high (tally_between add (tally_at nodes k.right) high.own (tally_at nodes high.right))) (Fork x m v a (Fork y n u b c)) w aside spare) e
      (subst (λ (k : Link M). Zipped unit add weight (left_writes nodes x (node unit add y (root_of a) (root_of b) m v (flat a ++ (m, v) ∷ flat b)).link k (tally_between add (tally_at nodes (root_of b)) k.own (tally_at nodes k.right))) (Fork x m v a (Fork y n u b c)) w aside spare) f
      (subst (λ (s : Tally M). Zipped unit add weight (left_writes nodes x (node unit add y (root_of a) (root_of b) m v (flat a ++ (m, v) ∷ flat b)).link (node unit add (above w) x (root_of c) n u (flat (Fork x m v a b) ++ (n, u) ∷ flat c)).link s) (Fork x m v a (Fork y n u b c)) w aside spare) (sym t)
      (subst (λ xs. Zipped unit add weight (lifted nodes b w x y (record { parent = above w; left = root_of a; right = y; own = m; tally = tally_of unit add xs }) (record { parent = x; left = root_of b; right = root_of c; own = n; tally = tally_of unit add (flat b ++ (n, u) ∷ flat c) })) (Fork x m v a (Fork y n u b c)) w aside spare)
      (sym (append_assoc (flat a) ((m, v) ∷ flat b) ((n, u) ∷ flat c)))
      (lifted-left unit add weight nodes x y m n v u a b c w aside spare z))))

  -- and so do those of a right child's
  pub right_writes-lifts : (nodes : List (Node M V)) (x : ℕ) (low high : Link M) → link_at nodes x ≡ Some low → link_at nodes low.parent ≡ Some high → LiftsRight unit add weight nodes (right_writes nodes x low high (tally_between add (tally_at nodes high.left) high.own (tally_at nodes low.left))) x
  right_writes-lifts nodes x low high el eh y m n v u a b c w aside spare z =
      let few : length nodes ≤ NIL = omega (arith, z.small) in
      let e = link_read nodes x _ low z.here.0 el in
      let f = link_read nodes y _ high z.way.0 (subst (λ (k : Link M). link_at nodes k.parent ≡ Some high) (sym e) eh) in
      let t : tally_between add (tally_at nodes (root_of c)) n (tally_at nodes (root_of a)) ≡ tally_of unit add (flat c ++ (n, u) ∷ flat a) =
      rw (tally_at-root unit add nodes y c few z.way.1, tally_at-root unit add nodes x a few z.here.1) (tally_between-tally unit add associative unit_left unit_right (flat c) (flat a) n u) in
      subst (λ (k : Link M). Zipped unit add weight (right_writes nodes x k high (tally_between add (tally_at nodes high.left) high.own (tally_at nodes k.left))) (Fork x m v (Fork y n u c a) b) w aside spare) e
      (subst (λ (k : Link M). Zipped unit add weight (right_writes nodes x (node unit add y (root_of a) (root_of b) m v (flat a ++ (m, v) ∷ flat b)).link k (tally_between add (tally_at nodes k.left) k.own (tally_at nodes (root_of a)))) (Fork x m v (Fork y n u c a) b) w aside spare) f
      (subst (λ (s : Tally M). Zipped unit add weight (right_writes nodes x (node unit add y (root_of a) (root_of b) m v (flat a ++ (m, v) ∷ flat b)).link (node unit add (above w) (root_of c) x n u (flat c ++ (n, u) ∷ flat (Fork x m v a b))).link s) (Fork x m v (Fork y n u c a) b) w aside spare) (sym t)
      (subst (λ xs. Zipped unit add weight (lifted nodes a w x y (record { parent = above w; left = y; right = root_of b; own = m; tally = tally_of unit add xs }) (record { parent = x; left = root_of c; right = root_of a; own = n; tally = tally_of unit add (flat c ++ (n, u) ∷ flat a) })) (Fork x m v (Fork y n u c a) b) w aside spare)
      (append_assoc (flat c) ((n, u) ∷ flat a) ((m, v) ∷ flat b))
      (lifted-right unit add weight nodes x y m n v u a b c w aside spare z))))

  -- a left child's lifting, from what each call says
  pub lifts_left_by : (nodes s₁ s₂ s₃ new : List (Node M V)) (x : ℕ) (low high : Link M) (moved beside : Option (Tally M)) (below : Tally M)
      → link_at nodes x ≡ Some low
      → link_at nodes low.parent ≡ Some high
      → moved ≡ tally_at nodes low.right
      → beside ≡ tally_at nodes high.right
      → below ≡ tally_between add moved high.own beside
      → s₁ ≡ with_node nodes low.right (moved_to low.parent)
      → s₂ ≡ with_node s₁ low.parent (linked (record { parent = x; left = low.right; right = high.right; own = high.own; tally = below }))
      → s₃ ≡ with_node s₂ x (linked (record { parent = high.parent; left = low.left; right = low.parent; own = low.own; tally = high.tally }))
      → new ≡ with_node s₃ high.parent (with_child low.parent x)
      → LiftsLeft unit add weight nodes new x
  lifts_left_by nodes s₁ s₂ s₃ new x low high moved beside below el eh em es eb e₁ e₂ e₃ e₄ =
      rw (e₄, e₃, e₂, e₁, eb, em, es) (left_writes-lifts nodes x low high el eh)

  -- a right child's
  pub lifts_right_by : (nodes s₁ s₂ s₃ new : List (Node M V)) (x : ℕ) (low high : Link M) (moved beside : Option (Tally M)) (below : Tally M)
      → link_at nodes x ≡ Some low
      → link_at nodes low.parent ≡ Some high
      → moved ≡ tally_at nodes low.left
      → beside ≡ tally_at nodes high.left
      → below ≡ tally_between add beside high.own moved
      → s₁ ≡ with_node nodes low.left (moved_to low.parent)
      → s₂ ≡ with_node s₁ low.parent (linked (record { parent = x; left = high.left; right = low.left; own = high.own; tally = below }))
      → s₃ ≡ with_node s₂ x (linked (record { parent = high.parent; left = low.parent; right = low.right; own = low.own; tally = high.tally }))
      → new ≡ with_node s₃ high.parent (with_child low.parent x)
      → LiftsRight unit add weight nodes new x
  lifts_right_by nodes s₁ s₂ s₃ new x low high moved beside below el eh em es eb e₁ e₂ e₃ e₄ =
      rw (e₄, e₃, e₂, e₁, eb, em, es) (right_writes-lifts nodes x low high el eh)

  -- a left child isn't lifted as a right one
  pub not_right : (nodes new : List (Node M V)) (x : ℕ) (low high : Link M) → link_at nodes x ≡ Some low → link_at nodes low.parent ≡ Some high → high.left ≡ x → LiftsRight unit add weight nodes new x
  not_right nodes new x low high el eh same y m n v u a b c w aside spare z =
      let few : length nodes ≤ NIL = omega (arith, z.small) in
      let e = link_read nodes x _ low z.here.0 el in
      let f = link_read nodes y _ high z.way.0 (subst (λ (k : Link M). link_at nodes k.parent ≡ Some high) (sym e) eh) in
      let at = z.once x in let one = hit-same x in
      absurd (root-apart unit add nodes c x few (slice_get_within nodes x _ z.here.0) (omega arith) (ap (λ (k : Link M). k.left) f ∙ same))
