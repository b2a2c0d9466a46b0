-- What insertion, removal and search leave, from what their calls say.
use Rattle.std.proofs.Common.{◌≡◌, ◌≢◌, ℕ, zero, suc, ◌+◌, ◌≤◌, ◌<◌, Bool, List, [], ◌∷◌, ◌++◌, length, take, drop, Some, None, Option, slice_get, refl, sym, ap, ◌∙◌, subst, arith, length-append, append_assoc}
use Rattle.std.proofs.lemmas.List.{take_at, drop_at, take_all, drop_all}
use Rattle.std.proofs.lemmas.Option.{same_Some, none-some}
use Rattle.splay.specs.Sums.{count_in}
use Rattle.splay.specs.Tree.{NIL, Tree, Leaf, Fork, Top, flat, root_of}
use Rattle.splay.specs.Nodes.{tally_at, Zipped, first_of}
use Rattle.splay.specs.Places.{IsNode, IsNodeAt, StandsAt, RisesToTop, IsFound}
use Rattle.splay.specs.Roots.{IsBesideSingle, IsBeforeSingle, CrownsBehind, CrownsBefore, TakesOut, IsPair, Glues}
use Rattle.splay.specs.Changes.{Inserts, HasItem, Removes, Looks}
use Rattle.splay.proofs.Climb.{stands_node}
use Rattle.splay.proofs.RootLemmas.{AtTop, stands_top}
use Rattle.splay.proofs.ItemLemmas.{count_in-tally}
use Rattle.splay.proofs.TreeLemmas.{tally_at-root}
use Rattle.splay.specs.declared.roots.Taken.{Taken}
use Rattle.splay.specs.declared.store.Node.{Node}

pub slice_get-middle : {X : Type 0} (xs : List X) (y : X) (ys : List X) (n : ℕ) → length xs ≡ n → slice_get (xs ++ y ∷ ys) n ≡ Some y
slice_get-middle [] y ys zero e = refl
slice_get-middle [] y ys (suc n) e = absurd (omega arith)
slice_get-middle (x ∷ xs) y ys zero e = absurd (omega arith)
slice_get-middle (x ∷ xs) y ys (suc n) e = slice_get-middle xs y ys n (omega arith)

take_of : {X : Type 0} (p q items : List X) (n : ℕ) → p ++ q ≡ items → length p ≡ n → take n items ≡ p
take_of p q items n e h = subst (λ zs. take n zs ≡ p) e (take_at p q n h)

drop_of : {X : Type 0} (p q items : List X) (n : ℕ) → p ++ q ≡ items → length p ≡ n → drop n items ≡ q
drop_of p q items n e h = subst (λ zs. drop n zs ≡ q) e (drop_at p q n h)

module _ {M V : Type 0} (unit : M) (add : M → M → M) (weight : M → ℕ) where
  -- the node at a place, brought to the root
  up_at : (nodes mid : List (Node M V)) (x at : ℕ) (items : List (M × V)) (aside : Tree M V) (spare : List ℕ) (s : StandsAt unit add weight nodes x at items aside spare) → RisesToTop unit add weight nodes mid x → AtTop unit add weight mid x s.front s.measure s.value s.back aside spare
  up_at nodes mid x at items aside spare s up = stands_top unit add weight mid x s.front s.measure s.value s.back aside spare (up s.front s.measure s.value s.back aside spare s.above s.stands)

  node_of : (nodes : List (Node M V)) (x at : ℕ) (items : List (M × V)) (aside : Tree M V) (spare : List ℕ) → StandsAt unit add weight nodes x at items aside spare → IsNode unit add weight nodes x
  node_of nodes x at items aside spare s = stands_node unit add weight nodes x s.front s.measure s.value s.back aside spare s.above s.stands

  pub node_of_item : (nodes : List (Node M V)) (root free at x : ℕ) → HasItem unit add weight nodes root free at → IsNodeAt unit add weight nodes root at x → IsNode unit add weight nodes x
  node_of_item nodes root free at x i h = node_of nodes x at (flat i.tree) Leaf i.spare (h i.tree Leaf i.spare i.zipped i.root_is i.place)

  -- the item was taken from the root
  record OutAtRoot (out : List (Node M V)) (x at : ℕ) (items : List (M × V)) (spare : List ℕ) (taken : Taken M V) : Type 0 where
    left : Tree M V
    right : Tree M V
    zipped : Zipped unit add weight out left Top right (x ∷ spare)
    left_is : root_of left ≡ taken.left
    right_is : root_of right ≡ taken.right
    rest_is : flat left ++ flat right ≡ take at items ++ drop (at + 1) items
    item_is : slice_get items at ≡ Some (taken.measure, taken.value)

  out_at : (nodes mid out : List (Node M V)) (root free at x : ℕ) (result : Option (Taken M V)) (taken : Taken M V) → IsNodeAt unit add weight nodes root at x → RisesToTop unit add weight nodes mid x → TakesOut unit add weight mid out x free result → result ≡ Some taken → (t : Tree M V) (spare : List ℕ) → Zipped unit add weight nodes t Top Leaf spare → root_of t ≡ root → first_of spare ≡ free → at < length (flat t) → OutAtRoot out x at (flat t) spare taken
  out_at nodes mid out root free at x result taken h up takes is t spare z er ef place =
      let s = h t Leaf spare z er place in
      let r = up_at nodes mid x at (flat t) Leaf spare s up in
      let o = takes s.measure s.value r.left r.right spare r.zipped ef in
      let same = same_Some _ taken (sym o.0 ∙ is) in
      let first : take at (flat t) ≡ s.front = take_of s.front ((s.measure, s.value) ∷ s.back) (flat t) at s.items_are s.place in
      let last : drop (at + 1) (flat t) ≡ s.back = rw (← s.items_are, ← append_assoc s.front ((s.measure, s.value) ∷ []) s.back) (drop_at (s.front ++ (s.measure, s.value) ∷ []) s.back (at + 1) (length-append s.front ((s.measure, s.value) ∷ []) ∙ omega (arith, s.place))) in
      record {
        left = r.left;
        right = r.right;
        zipped = o.1;
        left_is = ap (λ (k : Taken M V). k.left) same;
        right_is = ap (λ (k : Taken M V). k.right) same;
        rest_is = rw (first, last, r.front_is, r.back_is) refl;
        item_is = rw (← s.items_are) (slice_get-middle s.front (s.measure, s.value) s.back at s.place) ∙ ap (λ (k : Taken M V). Some (k.measure, k.value)) same;
      }

  pub pair_left : (nodes mid out : List (Node M V)) (root free at x : ℕ) (result : Option (Taken M V)) (taken : Taken M V) → HasItem unit add weight nodes root free at → IsNodeAt unit add weight nodes root at x → RisesToTop unit add weight nodes mid x → TakesOut unit add weight mid out x free result → result ≡ Some taken → IsPair unit add weight out taken.left taken.right
  pair_left nodes mid out root free at x result taken i h up takes is =
      let o = out_at nodes mid out root free at x result taken h up takes is i.tree i.spare i.zipped i.root_is i.free_is i.place in
      record { first = o.left; second = o.right; spare = x ∷ i.spare; zipped = o.zipped; left_is = o.left_is; right_is = o.right_is }

  pub removes_by : (nodes mid out new : List (Node M V)) (root free at x rest : ℕ) (result : Option (Taken M V)) (taken : Taken M V) → IsNodeAt unit add weight nodes root at x → RisesToTop unit add weight nodes mid x → TakesOut unit add weight mid out x free result → result ≡ Some taken → Glues unit add weight out new taken.left taken.right rest → Removes unit add weight nodes new root free at (Some (record { measure = taken.measure; value = taken.value; node = x; root = rest }))
  removes_by nodes mid out new root free at x rest result taken h up takes is glues t spare z er ef place =
      let o = out_at nodes mid out root free at x result taken h up takes is t spare z er ef place in
      let g = glues o.left o.right (x ∷ spare) o.zipped o.left_is o.right_is in
      record {
        removed = record { measure = taken.measure; value = taken.value; node = x; root = rest };
        taken_is = refl;
        tree = g.0;
        zipped = g.1;
        root_is = g.2;
        items_are = g.3 ∙ o.rest_is;
        item_is = o.item_is;
      }

  pub removes_never : (nodes mid out : List (Node M V)) (root free at x : ℕ) (result : Option (Taken M V)) → IsNodeAt unit add weight nodes root at x → RisesToTop unit add weight nodes mid x → TakesOut unit add weight mid out x free result → result ≡ None → Removes unit add weight nodes out root free at None
  removes_never nodes mid out root free at x result h up takes none t spare z er ef place =
      let s = h t Leaf spare z er place in
      let r = up_at nodes mid x at (flat t) Leaf spare s up in
      let o = takes s.measure s.value r.left r.right spare r.zipped ef in
      absurd (none-some _ (sym none ∙ o.0))

  beside_count : (nodes : List (Node M V)) (count : ℕ) (t : Tree M V) (root : ℕ) (aside : Tree M V) (spare : List ℕ) → Zipped unit add weight nodes t Top aside spare → root_of t ≡ root → count ≡ count_in (tally_at nodes root) → count ≡ length (flat t)
  beside_count nodes count t root aside spare z e h = h ∙ ap (λ r. count_in (tally_at nodes r)) (sym e) ∙ ap count_in (tally_at-root unit add nodes NIL t (omega (arith, z.small)) z.here) ∙ count_in-tally unit add (flat t)

  -- an insertion before an item
  pub node_before : (nodes : List (Node M V)) (x root at count y : ℕ) → IsBesideSingle unit add weight nodes x root → IsNodeAt unit add weight nodes root at y → count ≡ count_in (tally_at nodes root) → at < count → IsNode unit add weight nodes y
  node_before nodes x root at count y i h c less =
      let n = beside_count nodes count i.tree root (Fork x i.measure i.value Leaf Leaf) i.spare i.zipped i.root_is c in
      node_of nodes y at (flat i.tree) (Fork x i.measure i.value Leaf Leaf) i.spare (h i.tree (Fork x i.measure i.value Leaf Leaf) i.spare i.zipped i.root_is (omega arith))

  pub single_before : (nodes mid : List (Node M V)) (x root at count y : ℕ) → IsBesideSingle unit add weight nodes x root → IsNodeAt unit add weight nodes root at y → count ≡ count_in (tally_at nodes root) → at < count → RisesToTop unit add weight nodes mid y → IsBeforeSingle unit add weight mid x y
  single_before nodes mid x root at count y i h c less up =
      let n = beside_count nodes count i.tree root (Fork x i.measure i.value Leaf Leaf) i.spare i.zipped i.root_is c in
      let s = h i.tree (Fork x i.measure i.value Leaf Leaf) i.spare i.zipped i.root_is (omega arith) in
      let r = up_at nodes mid y at (flat i.tree) (Fork x i.measure i.value Leaf Leaf) i.spare s up in
      record { measure = i.measure; value = i.value; root_measure = s.measure; root_value = s.value; left = r.left; right = r.right; spare = i.spare; zipped = r.zipped }

  pub inserts_before : (nodes mid new : List (Node M V)) (root x at count y : ℕ) → count ≡ count_in (tally_at nodes root) → at < count → IsNodeAt unit add weight nodes root at y → RisesToTop unit add weight nodes mid y → CrownsBefore unit add weight mid new x y → Inserts unit add weight nodes new root x at
  inserts_before nodes mid new root x at count y c less h up crowns t m v spare z er place =
      let n = beside_count nodes count t root (Fork x m v Leaf Leaf) spare z er c in
      let s = h t (Fork x m v Leaf Leaf) spare z er (omega arith) in
      let r = up_at nodes mid y at (flat t) (Fork x m v Leaf Leaf) spare s up in
      let first : take at (flat t) ≡ s.front = take_of s.front ((s.measure, s.value) ∷ s.back) (flat t) at s.items_are s.place in
      let last : drop at (flat t) ≡ (s.measure, s.value) ∷ s.back = drop_of s.front ((s.measure, s.value) ∷ s.back) (flat t) at s.items_are s.place in (
        Fork x m v r.left (Fork y s.measure s.value Leaf r.right),
        crowns m s.measure v s.value r.left r.right spare r.zipped,
        refl,
        rw (first, last, r.front_is, r.back_is) refl,
      )

  pub inserts_behind : (nodes new : List (Node M V)) (root x at count : ℕ) → count ≡ count_in (tally_at nodes root) → count ≤ at → CrownsBehind unit add weight nodes new x root → Inserts unit add weight nodes new root x at
  inserts_behind nodes new root x at count c more crowns t m v spare z er place =
      let n = beside_count nodes count t root (Fork x m v Leaf Leaf) spare z er c in (
        Fork x m v t Leaf,
        crowns t m v spare z er,
        refl,
        rw (take_all at (flat t) (omega arith), drop_all at (flat t) (omega arith)) refl,
      )

  pub looks_nowhere : (nodes : List (Node M V)) (root : ℕ) (passes : M → Bool) (count last : ℕ) → IsFound unit add weight nodes root passes count last → Looks unit add weight nodes nodes root passes count root
  looks_nowhere nodes root passes count last found t spare z er = ((found t Leaf spare z er).0, t, z, er, refl)

  pub looks_by : (nodes new : List (Node M V)) (root : ℕ) (passes : M → Bool) (count last : ℕ) → IsFound unit add weight nodes root passes count last → last ≢ NIL → RisesToTop unit add weight nodes new last → Looks unit add weight nodes new root passes count last
  looks_by nodes new root passes count last found some up t spare z er =
      let f = found t Leaf spare z er in
      let s = f.1 some in
      let r = up_at nodes new last s.0 (flat t) Leaf spare s.1 up in
      (f.0, Fork last s.1.measure s.1.value r.left r.right, r.zipped, refl, rw (r.front_is, r.back_is) s.1.items_are)
