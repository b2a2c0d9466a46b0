-- What the calls that put trees together read and write, tied to the trees.
use Rattle.std.proofs.Common.{◌≡◌, ◌≢◌, ℕ, zero, suc, ◌+◌, ◌-◌, ◌≤◌, List, [], ◌∷◌, ◌++◌, length, set, Some, None, Option, option_map, option_and_then, slice_get, refl, sym, ap, ◌∙◌, subst, arith, length-append, append_assoc}
use Rattle.std.proofs.lemmas.Option.{same_Some, none-some}
use Rattle.splay.specs.Sums.{tally_between, count_in}
use Rattle.splay.specs.Tree.{NIL, Tree, Leaf, Fork, Top, flat, root_of}
use Rattle.splay.specs.Nodes.{with_node, linked, moved_to, emptied, node, tally_of, tally_at, link_at, Zipped}
use Rattle.splay.specs.Places.{IsNode, IsNodeAt, RisesToTop}
use Rattle.splay.proofs.Climb.{stands_node}
use Rattle.splay.specs.Roots.{IsBesideSingle, IsBeforeSingle, CanHang, IsPair, CrownsBehind, CrownsBefore, Hangs, Glues, TakesOut, Occupies}
use Rattle.splay.proofs.ItemLemmas.{load-append, tally_between-tally, count_in-tally}
use Rattle.splay.proofs.TreeLemmas.{tally_at-root}
use Rattle.splay.proofs.LiftCalls.{link_read, none_read, Fits, fits_parts}
use Rattle.splay.proofs.RootLemmas.{hung, crowned_behind, crowned_before, taken_out, taken_value, filled, pushed, stands_top, leaf_from_flat}
use Rattle.splay.specs.declared.roots.Taken.{Taken}
use Rattle.splay.specs.declared.store.Tally.{Tally}
use Rattle.splay.specs.declared.store.Link.{Link}
use Rattle.splay.specs.declared.store.Node.{Node}

positive : (n : ℕ) → n ≢ 0 → 1 ≤ n
positive zero h = absurd (h refl)
positive (suc n) h = omega arith

module _ {M V : Type 0} (unit : M) (add : M → M → M) (weight : M → ℕ) (associative : (a b c : M) → add (add a b) c ≡ add a (add b c)) (unit_left : (a : M) → add unit a ≡ a) (unit_right : (a : M) → add a unit ≡ a) (lighter : (a b : M) → weight (add a b) ≤ weight a + weight b) where
  pub hang_fits : (nodes : List (Node M V)) (y right : ℕ) (link : Link M) (i : CanHang unit add weight nodes y right) → link_at nodes y ≡ Some link → Fits weight (tally_at nodes link.left) link.own (tally_at nodes right)
  hang_fits nodes y right link i el =
      let z = i.zipped in
      let few : length nodes ≤ NIL = omega (arith, z.small) in
      let e = link_read nodes y _ link z.here.0 el in
      subst (λ r. Fits weight (tally_at nodes link.left) link.own (tally_at nodes r)) i.right_is
      (subst (λ (k : Link M). Fits weight (tally_at nodes k.left) k.own (tally_at nodes (root_of i.beside))) e
      (rw (tally_at-root unit add nodes y i.left few z.here.1, tally_at-root unit add nodes NIL i.beside few z.beside)
      (fits_parts unit add weight associative unit_left unit_right lighter (flat i.left) (flat i.beside) i.measure
      (omega (arith, z.light, load-append weight (flat i.left) ((i.measure, i.value) ∷ [])))
      (omega (arith, z.counted, z.small, length-append (flat i.left) ((i.measure, i.value) ∷ []))))))

  pub hangs_by : (nodes s₁ new : List (Node M V)) (y right : ℕ) (link : Link M) (first last : Option (Tally M)) (t : Tally M)
      → link_at nodes y ≡ Some link
      → first ≡ tally_at nodes link.left
      → last ≡ tally_at nodes right
      → t ≡ tally_between add first link.own last
      → s₁ ≡ with_node nodes right (moved_to y)
      → new ≡ with_node s₁ y (linked (record { parent = NIL; left = link.left; right = right; own = link.own; tally = t }))
      → Hangs unit add weight nodes new y right
  hangs_by nodes s₁ new y right link first last t el ef eb et e₁ e₂ m v a b spare z er =
      let few : length nodes ≤ NIL = omega (arith, z.small) in
      let e = link_read nodes y _ link z.here.0 el in
      let sum : tally_between add (tally_at nodes (root_of a)) m (tally_at nodes (root_of b)) ≡ tally_of unit add (flat a ++ (m, v) ∷ flat b) =
      rw (tally_at-root unit add nodes y a few z.here.1, tally_at-root unit add nodes NIL b few z.beside) (tally_between-tally unit add associative unit_left unit_right (flat a) (flat b) m v) in
      rw (e₂, e₁, et, ef, eb)
      (subst (λ r. Zipped unit add weight (with_node (with_node nodes r (moved_to y)) y (linked (record { parent = NIL; left = link.left; right = r; own = link.own; tally = tally_between add (tally_at nodes link.left) link.own (tally_at nodes r) }))) (Fork y m v a b) Top Leaf spare) er
      (subst (λ (k : Link M). Zipped unit add weight (with_node (with_node nodes (root_of b) (moved_to y)) y (linked (record { parent = NIL; left = k.left; right = root_of b; own = k.own; tally = tally_between add (tally_at nodes k.left) k.own (tally_at nodes (root_of b)) }))) (Fork y m v a b) Top Leaf spare) e
      (subst (λ (s : Tally M). Zipped unit add weight (with_node (with_node nodes (root_of b) (moved_to y)) y (linked (record { parent = NIL; left = root_of a; right = root_of b; own = m; tally = s }))) (Fork y m v a b) Top Leaf spare) (sym sum)
      (hung unit add weight nodes y m v a b spare z))))

  pub crown_behind_fits : (nodes : List (Node M V)) (x left : ℕ) (link : Link M) (i : IsBesideSingle unit add weight nodes x left) → link_at nodes x ≡ Some link → Fits weight (tally_at nodes left) link.own None
  crown_behind_fits nodes x left link i el =
      let z = i.zipped in
      let few : length nodes ≤ NIL = omega (arith, z.small) in
      let e = link_read nodes x _ link z.beside.0 el in
      subst (λ r. Fits weight (tally_at nodes r) link.own None) i.root_is
      (subst (λ (k : Link M). Fits weight (tally_at nodes (root_of i.tree)) k.own None) e
      (rw (tally_at-root unit add nodes NIL i.tree few z.here)
      (fits_parts unit add weight associative unit_left unit_right lighter (flat i.tree) [] i.measure (omega (arith, z.light)) (omega (arith, z.counted, z.small)))))

  pub crowns_behind_by : (nodes s₁ new : List (Node M V)) (x left : ℕ) (link : Link M) (first : Option (Tally M)) (t : Tally M)
      → link_at nodes x ≡ Some link
      → first ≡ tally_at nodes left
      → t ≡ tally_between add first link.own None
      → s₁ ≡ with_node nodes left (moved_to x)
      → new ≡ with_node s₁ x (linked (record { parent = NIL; left = left; right = NIL; own = link.own; tally = t }))
      → CrownsBehind unit add weight nodes new x left
  crowns_behind_by nodes s₁ new x left link first s el ef es e₁ e₂ t m v spare z er =
      let few : length nodes ≤ NIL = omega (arith, z.small) in
      let e = link_read nodes x _ link z.beside.0 el in
      let sum : tally_between add (tally_at nodes (root_of t)) m None ≡ tally_of unit add (flat t ++ (m, v) ∷ []) =
      rw (tally_at-root unit add nodes NIL t few z.here) (tally_between-tally unit add associative unit_left unit_right (flat t) [] m v) in
      rw (e₂, e₁, es, ef)
      (subst (λ r. Zipped unit add weight (with_node (with_node nodes r (moved_to x)) x (linked (record { parent = NIL; left = r; right = NIL; own = link.own; tally = tally_between add (tally_at nodes r) link.own None }))) (Fork x m v t Leaf) Top Leaf spare) er
      (subst (λ (k : Link M). Zipped unit add weight (with_node (with_node nodes (root_of t) (moved_to x)) x (linked (record { parent = NIL; left = root_of t; right = NIL; own = k.own; tally = tally_between add (tally_at nodes (root_of t)) k.own None }))) (Fork x m v t Leaf) Top Leaf spare) e
      (subst (λ (q : Tally M). Zipped unit add weight (with_node (with_node nodes (root_of t) (moved_to x)) x (linked (record { parent = NIL; left = root_of t; right = NIL; own = m; tally = q }))) (Fork x m v t Leaf) Top Leaf spare) (sym sum)
      (crowned_behind unit add weight nodes x m v t spare z))))

  -- both sums of a node put before a root fit
  pub record TwoFit (nodes : List (Node M V)) (link root : Link M) : Type 0 where
    pub lower : Fits weight None root.own (tally_at nodes root.right)
    pub upper : Fits weight (tally_at nodes root.left) link.own (Some (tally_between add None root.own (tally_at nodes root.right)))

  pub crown_before_fits : (nodes : List (Node M V)) (x y : ℕ) (link root : Link M) (i : IsBeforeSingle unit add weight nodes x y) → link_at nodes x ≡ Some link → link_at nodes y ≡ Some root → TwoFit nodes link root
  crown_before_fits nodes x y link root i el er =
      let z = i.zipped in
      let few : length nodes ≤ NIL = omega (arith, z.small) in
      let e = link_read nodes x _ link z.beside.0 el in
      let f = link_read nodes y _ root z.here.0 er in
      let sum : tally_between add None i.root_measure (tally_at nodes (root_of i.right)) ≡ tally_of unit add ((i.root_measure, i.root_value) ∷ flat i.right) =
      rw (tally_at-root unit add nodes y i.right few z.here.2) (tally_between-tally unit add associative unit_left unit_right [] (flat i.right) i.root_measure i.root_value) in
      subst (λ (k : Link M). TwoFit nodes k root) e
      (subst (λ (k : Link M). TwoFit nodes (node unit add NIL NIL NIL i.measure i.value ((i.measure, i.value) ∷ [])).link k) f
      (record {
        lower = rw (tally_at-root unit add nodes y i.right few z.here.2) (fits_parts unit add weight associative unit_left unit_right lighter [] (flat i.right) i.root_measure (omega (arith, z.light, load-append weight (flat i.left) ((i.root_measure, i.root_value) ∷ flat i.right))) (omega (arith, z.counted, z.small, length-append (flat i.left) ((i.root_measure, i.root_value) ∷ flat i.right))));
        upper = rw (sum, tally_at-root unit add nodes y i.left few z.here.1) (fits_parts unit add weight associative unit_left unit_right lighter (flat i.left) ((i.root_measure, i.root_value) ∷ flat i.right) i.measure (omega (arith, z.light, load-append weight (flat i.left) ((i.root_measure, i.root_value) ∷ flat i.right))) (omega (arith, z.counted, z.small, length-append (flat i.left) ((i.root_measure, i.root_value) ∷ flat i.right))));
      }))

  pub crowns_before_by : (nodes s₁ s₂ new : List (Node M V)) (x y : ℕ) (link root : Link M) (first last : Option (Tally M)) (lower upper : Tally M)
      → link_at nodes x ≡ Some link
      → link_at nodes y ≡ Some root
      → first ≡ tally_at nodes root.left
      → last ≡ tally_at nodes root.right
      → lower ≡ tally_between add None root.own last
      → upper ≡ tally_between add first link.own (Some lower)
      → s₁ ≡ with_node nodes root.left (moved_to x)
      → s₂ ≡ with_node s₁ y (linked (record { parent = x; left = NIL; right = root.right; own = root.own; tally = lower }))
      → new ≡ with_node s₂ x (linked (record { parent = NIL; left = root.left; right = y; own = link.own; tally = upper }))
      → CrownsBefore unit add weight nodes new x y
  crowns_before_by nodes s₁ s₂ new x y link root first last lower upper el er ef eb eo eu e₁ e₂ e₃ m n v u a b spare z =
      let few : length nodes ≤ NIL = omega (arith, z.small) in
      let e = link_read nodes x _ link z.beside.0 el in
      let f = link_read nodes y _ root z.here.0 er in
      let low : tally_between add None n (tally_at nodes (root_of b)) ≡ tally_of unit add ((n, u) ∷ flat b) =
      rw (tally_at-root unit add nodes y b few z.here.2) (tally_between-tally unit add associative unit_left unit_right [] (flat b) n u) in
      let up : tally_between add (tally_at nodes (root_of a)) m (Some (tally_of unit add ((n, u) ∷ flat b))) ≡ tally_of unit add (flat a ++ (m, v) ∷ ((n, u) ∷ flat b)) =
      rw (tally_at-root unit add nodes y a few z.here.1) (tally_between-tally unit add associative unit_left unit_right (flat a) ((n, u) ∷ flat b) m v) in
      rw (e₃, e₂, e₁, eu, eo, ef, eb)
      (subst (λ (k : Link M). Zipped unit add weight (with_node (with_node (with_node nodes root.left (moved_to x)) y (linked (record { parent = x; left = NIL; right = root.right; own = root.own; tally = tally_between add None root.own (tally_at nodes root.right) }))) x (linked (record { parent = NIL; left = root.left; right = y; own = k.own; tally = tally_between add (tally_at nodes root.left) k.own (Some (tally_between add None root.own (tally_at nodes root.right))) }))) (Fork x m v a (Fork y n u Leaf b)) Top Leaf spare) e
      (subst (λ (k : Link M). Zipped unit add weight (with_node (with_node (with_node nodes k.left (moved_to x)) y (linked (record { parent = x; left = NIL; right = k.right; own = k.own; tally = tally_between add None k.own (tally_at nodes k.right) }))) x (linked (record { parent = NIL; left = k.left; right = y; own = m; tally = tally_between add (tally_at nodes k.left) m (Some (tally_between add None k.own (tally_at nodes k.right))) }))) (Fork x m v a (Fork y n u Leaf b)) Top Leaf spare) f
      (subst (λ (s : Tally M). Zipped unit add weight (with_node (with_node (with_node nodes (root_of a) (moved_to x)) y (linked (record { parent = x; left = NIL; right = root_of b; own = n; tally = s }))) x (linked (record { parent = NIL; left = root_of a; right = y; own = m; tally = tally_between add (tally_at nodes (root_of a)) m (Some s) }))) (Fork x m v a (Fork y n u Leaf b)) Top Leaf spare) (sym low)
      (subst (λ (s : Tally M). Zipped unit add weight (with_node (with_node (with_node nodes (root_of a) (moved_to x)) y (linked (record { parent = x; left = NIL; right = root_of b; own = n; tally = tally_of unit add ((n, u) ∷ flat b) }))) x (linked (record { parent = NIL; left = root_of a; right = y; own = m; tally = s }))) (Fork x m v a (Fork y n u Leaf b)) Top Leaf spare) (sym up)
      (crowned_before unit add weight nodes x y m n v u a b spare z)))))

  -- the tally of one item
  one_tally : (m : M) (v : V) → ◌≡◌ {A = Tally M} (record { count = 1; all = m }) (tally_of unit add ((m, v) ∷ []))
  one_tally m v = ap (λ (s : M). record { count = 1; all = s }) (sym (unit_right m))

  pub occupies_filled : (nodes new : List (Node M V)) (free : ℕ) (m : M) (v : V) (link : Link M) → link_at nodes free ≡ Some link → new ≡ set nodes free (record { link = record { parent = NIL; left = NIL; right = NIL; own = m; tally = record { count = 1; all = m } }; value = Some v }) → Occupies unit add weight nodes new free m v free link.right
  occupies_filled nodes new free m v link el en t [] z ef few fits = absurd (none_read nodes link (omega (arith, z.small)) (rw ef el))
  occupies_filled nodes new free m v link el en t (x ∷ rest) z ef few fits =
      let e : z.free.0.0.link ≡ link = link_read nodes x z.free.0.0 link z.free.0.1 (rw ef el) in (
        rest,
        rw en
            (subst (λ (s : Tally M). Zipped unit add weight (set nodes free (record { link = record { parent = NIL; left = NIL; right = NIL; own = m; tally = s }; value = Some v })) t Top (Fork free m v Leaf Leaf) rest) (sym (one_tally m v))
            (subst (λ i. Zipped unit add weight (set nodes i (node unit add NIL NIL NIL m v ((m, v) ∷ []))) t Top (Fork i m v Leaf Leaf) rest) ef
            (filled unit add weight nodes x m v t rest z fits))),
        sym (ap (λ (k : Link M). k.right) (sym e) ∙ z.free.0.3),
        omega arith,
      )

  pub occupies_pushed : (nodes new : List (Node M V)) (free at : ℕ) (m : M) (v : V) → link_at nodes free ≡ None → at ≡ length nodes → new ≡ nodes ++ record { link = record { parent = NIL; left = NIL; right = NIL; own = m; tally = record { count = 1; all = m } }; value = Some v } ∷ [] → Occupies unit add weight nodes new free m v at NIL
  occupies_pushed nodes new free at m v el ea en t (x ∷ rest) z ef few fits =
      let f : link_at nodes x ≡ None = rw ef el in
      let s = ap (λ o. option_map (λ k. k.link) o) z.free.0.1 in cc
  occupies_pushed nodes new free at m v el ea en t [] z ef few fits = (
    [],
    rw (en, ea)
        (subst (λ (s : Tally M). Zipped unit add weight (nodes ++ record { link = record { parent = NIL; left = NIL; right = NIL; own = m; tally = s }; value = Some v } ∷ []) t Top (Fork (length nodes) m v Leaf Leaf) []) (sym (one_tally m v))
        (pushed unit add weight nodes m v t z few fits)),
    refl,
    omega arith,
  )

  pub takes_out_by : (nodes s₁ s₂ new : List (Node M V)) (x free : ℕ) (link : Link M) (value : V)
      → link_at nodes x ≡ Some link
      → s₁ ≡ with_node nodes link.left (moved_to NIL)
      → s₂ ≡ with_node s₁ link.right (moved_to NIL)
      → new ≡ with_node s₂ x (emptied free)
      → option_and_then (λ n. n.value) (slice_get s₂ x) ≡ Some value
      → TakesOut unit add weight nodes new x free (Some (record { left = link.left; right = link.right; measure = link.own; value = value }))
  takes_out_by nodes s₁ s₂ new x free link value el e₁ e₂ e₃ ev m v a b spare z ef =
      let e = link_read nodes x _ link z.here.0 el in
      let w₁ : s₁ ≡ with_node nodes (root_of a) (moved_to NIL) = subst (λ (k : Link M). s₁ ≡ with_node nodes k.left (moved_to NIL)) (sym e) e₁ in
      let w₂ : s₂ ≡ with_node (with_node nodes (root_of a) (moved_to NIL)) (root_of b) (moved_to NIL) = subst (λ (k : Link M). s₂ ≡ with_node s₁ k.right (moved_to NIL)) (sym e) e₂ ∙ ap (λ s. with_node s (root_of b) (moved_to NIL)) w₁ in
      let read : slice_get s₂ x ≡ Some (node unit add NIL (root_of a) (root_of b) m v (flat a ++ (m, v) ∷ flat b)) = ap (λ s. slice_get s x) w₂ ∙ taken_value unit add weight nodes x m v a b spare z in
      let same : Some v ≡ Some value = ap (λ o. option_and_then (λ n. n.value) o) (sym read) ∙ ev in (
        ap Some (subst (λ (k : Link M). ◌≡◌ {A = Taken M V} (record { left = k.left; right = k.right; measure = k.own; value = value }) (record { left = root_of a; right = root_of b; measure = m; value = v })) e (ap (λ (y : V). record { left = root_of a; right = root_of b; measure = m; value = y }) (sym (same_Some v value same)))),
        subst (λ (s : List (Node M V)). Zipped unit add weight s a Top b (x ∷ spare)) (sym (e₃ ∙ ap (λ s. with_node s x (emptied free)) w₂ ∙ ap (λ f. with_node (with_node (with_node nodes (root_of a) (moved_to NIL)) (root_of b) (moved_to NIL)) x (emptied f)) (sym ef)))
            (taken_out unit add weight nodes x m v a b spare z),
      )

  pub takes_out_never : (nodes s₁ s₂ new : List (Node M V)) (x free : ℕ) (link : Link M)
      → link_at nodes x ≡ Some link
      → s₁ ≡ with_node nodes link.left (moved_to NIL)
      → s₂ ≡ with_node s₁ link.right (moved_to NIL)
      → option_and_then (λ n. n.value) (slice_get s₂ x) ≡ None
      → TakesOut unit add weight nodes new x free None
  takes_out_never nodes s₁ s₂ new x free link el e₁ e₂ ev m v a b spare z ef =
      let e = link_read nodes x _ link z.here.0 el in
      let w₁ : s₁ ≡ with_node nodes (root_of a) (moved_to NIL) = subst (λ (k : Link M). s₁ ≡ with_node nodes k.left (moved_to NIL)) (sym e) e₁ in
      let w₂ : s₂ ≡ with_node (with_node nodes (root_of a) (moved_to NIL)) (root_of b) (moved_to NIL) = subst (λ (k : Link M). s₂ ≡ with_node s₁ k.right (moved_to NIL)) (sym e) e₂ ∙ ap (λ s. with_node s (root_of b) (moved_to NIL)) w₁ in
      let read : slice_get s₂ x ≡ Some (node unit add NIL (root_of a) (root_of b) m v (flat a ++ (m, v) ∷ flat b)) = ap (λ s. slice_get s x) w₂ ∙ taken_value unit add weight nodes x m v a b spare z in
      let same : Some v ≡ None = ap (λ o. option_and_then (λ n. n.value) o) (sym read) ∙ ev in
      absurd (none-some v (sym same))

  -- how many items the tree with this root has
  pub root_count : (nodes : List (Node M V)) (left count : ℕ) (a : Tree M V) (b : Tree M V) (spare : List ℕ) → Zipped unit add weight nodes a Top b spare → root_of a ≡ left → count ≡ count_in (tally_at nodes left) → count ≡ length (flat a)
  root_count nodes left count a b spare z e h = h ∙ ap (λ r. count_in (tally_at nodes r)) (sym e) ∙ ap count_in (tally_at-root unit add nodes NIL a (omega (arith, z.small)) z.here) ∙ count_in-tally unit add (flat a)

  -- the last node of the first tree comes to its top, with nothing behind it
  record LastUp (new : List (Node M V)) (y : ℕ) (a b : Tree M V) (spare : List ℕ) : Type 0 where
    measure : M
    value : V
    left : Tree M V
    zipped : Zipped unit add weight new (Fork y measure value left Leaf) Top b spare
    items_are : flat left ++ (measure, value) ∷ [] ≡ flat a

  last_up : (nodes mid : List (Node M V)) (left count y : ℕ) (a b : Tree M V) (spare : List ℕ) → Zipped unit add weight nodes a Top b spare → root_of a ≡ left → count ≡ count_in (tally_at nodes left) → count ≢ 0 → IsNodeAt unit add weight nodes left (count - 1) y → RisesToTop unit add weight nodes mid y → LastUp mid y a b spare
  last_up nodes mid left count y a b spare z el h some at up =
      let n = root_count nodes left count a b spare z el h in
      let long : 1 ≤ count = positive count some in
      let s = at a b spare z el (omega arith) in
      let r = stands_top unit add weight mid y s.front s.measure s.value s.back b spare (up s.front s.measure s.value s.back b spare s.above s.stands) in
      let none : length (flat r.right) ≡ 0 = omega (arith, s.place, ap length s.items_are, ap length r.back_is, length-append s.front ((s.measure, s.value) ∷ s.back)) in
      let e = leaf_from_flat unit add weight r.right none in
      record {
        measure = s.measure;
        value = s.value;
        left = r.left;
        zipped = subst (λ t. Zipped unit add weight mid (Fork y s.measure s.value r.left t) Top b spare) e r.zipped;
        items_are = ap (λ zs. zs ++ (s.measure, s.value) ∷ []) r.front_is ∙ ap (λ zs. s.front ++ (s.measure, s.value) ∷ zs) (sym (sym r.back_is ∙ ap flat e)) ∙ s.items_are;
      }

  pub last_node : (nodes : List (Node M V)) (left right count y : ℕ) → IsPair unit add weight nodes left right → count ≡ count_in (tally_at nodes left) → count ≢ 0 → IsNodeAt unit add weight nodes left (count - 1) y → IsNode unit add weight nodes y
  last_node nodes left right count y i h some at =
      let n = root_count nodes left count i.first i.second i.spare i.zipped i.left_is h in
      let long : 1 ≤ count = positive count some in
      let s = at i.first i.second i.spare i.zipped i.left_is (omega arith) in
      stands_node unit add weight nodes y s.front s.measure s.value s.back i.second i.spare s.above s.stands

  pub last_hangs : (nodes mid : List (Node M V)) (left right count y : ℕ) → IsPair unit add weight nodes left right → count ≡ count_in (tally_at nodes left) → count ≢ 0 → IsNodeAt unit add weight nodes left (count - 1) y → RisesToTop unit add weight nodes mid y → CanHang unit add weight mid y right
  last_hangs nodes mid left right count y i h some at up =
      let l = last_up nodes mid left count y i.first i.second i.spare i.zipped i.left_is h some at up in
      record { measure = l.measure; value = l.value; left = l.left; beside = i.second; spare = i.spare; zipped = l.zipped; right_is = i.right_is }

  pub glues_by : (nodes mid new : List (Node M V)) (left right count y : ℕ) → count ≡ count_in (tally_at nodes left) → count ≢ 0 → IsNodeAt unit add weight nodes left (count - 1) y → RisesToTop unit add weight nodes mid y → Hangs unit add weight mid new y right → Glues unit add weight nodes new left right y
  glues_by nodes mid new left right count y h some at up hangs a b spare z el er =
      let l = last_up nodes mid left count y a b spare z el h some at up in (
        Fork y l.measure l.value l.left b,
        hangs l.measure l.value l.left b spare l.zipped er,
        refl,
        sym (append_assoc (flat l.left) ((l.measure, l.value) ∷ []) (flat b)) ∙ ap (λ zs. zs ++ flat b) l.items_are,
      )
