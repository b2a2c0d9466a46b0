-- The items that a contract sees are those of the tree.
use Rattle.std.proofs.Common.{◌≡◌, ℕ, zero, suc, ◌+◌, ◌-◌, ◌≤◌, ◌<◌, ◌^◌, Bool, List, [], ◌∷◌, ◌++◌, length, take, drop, Some, None, Option, option_map, option_and_then, slice_get, refl, sym, ap, ◌∙◌, subst, arith, length-append}
use Rattle.std.proofs.lemmas.Option.{slice_get_past, slice_get_within}
use Rattle.splay.specs.Items.{load, total, PassesUpTo}
use Rattle.splay.specs.Tree.{NIL, Tree, Leaf, Fork, Top, flat, root_of}
use Rattle.splay.specs.Nodes.{item_at, tally_at, sum_of, Represents, Zipped, first_of}
use Rattle.splay.specs.Sums.{count_in}
use Rattle.splay.specs.Places.{IsNodeAt, IsSumBefore, IsTree}
use Rattle.splay.specs.Roots.{Occupies, IsBesideSingle}
use Rattle.splay.specs.Changes.{Inserts, HasItem, Removes, Looks}
use Rattle.splay.specs.Reads.{HasCount, HasItemAt, HasSumBefore}
use Rattle.splay.specs.Splay.{tree_at, tree_of, items_of, IsSound}
use Rattle.splay.proofs.ItemLemmas.{count_in-tally}
use Rattle.splay.proofs.TreeLemmas.{tally_at-root}
use Rattle.splay.proofs.ChangeCalls.{slice_get-middle}
use Rattle.splay.specs.declared.change.Removed.{Removed}
use Rattle.splay.specs.declared.store.Node.{Node}

module _ {M V : Type 0} (unit : M) (add : M → M → M) (weight : M → ℕ) where
  pub tree_of-represents : (depth : ℕ) (nodes : List (Node M V)) (p : ℕ) (t : Tree M V) → length (flat t) ≤ depth → length nodes ≤ NIL → Represents unit add nodes p t → tree_of depth nodes (root_of t) ≡ t
  tree_of-represents zero nodes p Leaf long few h = refl
  tree_of-represents zero nodes p (Fork i m v l r) long few h = absurd (omega (arith, length-append (flat l) ((m, v) ∷ flat r)))
  tree_of-represents (suc depth) nodes p Leaf long few h = ap (λ o. tree_at NIL o (tree_of depth nodes)) (slice_get_past nodes NIL few)
  tree_of-represents (suc depth) nodes p (Fork i m v l r) long few h =
      ap (λ o. tree_at i o (tree_of depth nodes)) h.0
      ∙ ap (λ t. Fork i m v t (tree_of depth nodes (root_of r))) (tree_of-represents depth nodes i l (omega (arith, long, length-append (flat l) ((m, v) ∷ flat r))) few h.1)
      ∙ ap (λ t. Fork i m v l t) (tree_of-represents depth nodes i r (omega (arith, long, length-append (flat l) ((m, v) ∷ flat r))) few h.2)

  -- the view of a tree is its items
  pub items_of-zipped : (nodes : List (Node M V)) (root : ℕ) (t : Tree M V) (spare : List ℕ) → Zipped unit add weight nodes t Top Leaf spare → root_of t ≡ root → items_of nodes root ≡ flat t
  items_of-zipped nodes root t spare z e =
      subst (λ r. items_of nodes r ≡ flat t) e (ap flat (tree_of-represents (length nodes) nodes NIL t (omega (arith, z.counted)) (omega (arith, z.small)) z.here))

  pub items_of-sound : (nodes : List (Node M V)) (root free spare : ℕ) (s : IsSound unit add weight nodes root free spare) → items_of nodes root ≡ flat s.tree
  items_of-sound nodes root free spare s = items_of-zipped nodes root s.tree s.spares s.zipped s.root_is

  -- no nodes
  pub sound_empty : IsSound {M = M} {V = V} unit add weight [] NIL NIL 0
  sound_empty = record {
    tree = Leaf;
    spares = [];
    zipped = record { here = tt; way = tt; beside = tt; free = tt; once = λ i. omega arith; counted = refl; small = omega arith; light = omega arith };
    root_is = refl;
    free_is = refl;
    spare_is = refl;
  }

  pub sound_light : (nodes : List (Node M V)) (root free spare : ℕ) → IsSound unit add weight nodes root free spare → load weight (items_of nodes root) ≤ 2 ^ 62
  sound_light nodes root free spare s = rw (items_of-sound nodes root free spare s) (omega (arith, s.zipped.light))

  pub sound_count : (nodes : List (Node M V)) (root free spare count : ℕ) → IsSound unit add weight nodes root free spare → HasCount unit add weight nodes root count → count ≡ length (items_of nodes root)
  sound_count nodes root free spare count s h = h s.tree s.spares s.zipped s.root_is ∙ ap length (sym (items_of-sound nodes root free spare s))

  pub sound_item : (nodes : List (Node M V)) (root free spare at : ℕ) (item : Option (M × V)) → IsSound unit add weight nodes root free spare → HasItemAt unit add weight nodes root at item → item ≡ slice_get (items_of nodes root) at
  sound_item nodes root free spare at item s h = h s.tree s.spares s.zipped s.root_is ∙ ap (λ xs. slice_get xs at) (sym (items_of-sound nodes root free spare s))

  pub sound_place : (nodes : List (Node M V)) (root free spare at : ℕ) → IsSound unit add weight nodes root free spare → at ≤ length (items_of nodes root) → (i : IsTree unit add weight nodes root) × (at ≤ length (flat i.tree))
  sound_place nodes root free spare at s h = (record { tree = s.tree; aside = Leaf; spare = s.spares; zipped = s.zipped; root_is = s.root_is }, omega (arith, h, ap length (items_of-sound nodes root free spare s)))

  pub sound_sum : (nodes : List (Node M V)) (root free spare at : ℕ) (sum : M) → IsSound unit add weight nodes root free spare → at ≤ length (items_of nodes root) → HasSumBefore unit add weight nodes root at sum → sum ≡ total unit add (take at (items_of nodes root))
  sound_sum nodes root free spare at sum s place h =
      let e = items_of-sound nodes root free spare s in
      h s.tree s.spares s.zipped s.root_is (omega (arith, place, ap length e)) ∙ ap (λ xs. total unit add (take at xs)) (sym e)

  -- a search leaves the items, and the spare nodes
  pub looked : (old new : List (Node M V)) (root free spare count top : ℕ) (passes : M → Bool) → IsSound unit add weight old root free spare → Looks unit add weight old new root passes count top → PassesUpTo unit add passes (items_of old root) count × IsSound unit add weight new top free spare × (items_of new top ≡ items_of old root)
  looked old new root free spare count top passes s h =
      let e = items_of-sound old root free spare s in
      let l = h s.tree s.spares s.zipped s.root_is in (
        subst (λ xs. PassesUpTo unit add passes xs count) (sym e) l.0,
        record { tree = l.1; spares = s.spares; zipped = l.2; root_is = l.3; free_is = s.free_is; spare_is = s.spare_is },
        items_of-zipped new top l.1 s.spares l.2 l.3 ∙ l.4 ∙ sym e,
      )

  pub sound_has : (nodes : List (Node M V)) (root free spare at : ℕ) → IsSound unit add weight nodes root free spare → at < length (items_of nodes root) → HasItem unit add weight nodes root free at
  sound_has nodes root free spare at s h = record {
    tree = s.tree;
    spare = s.spares;
    zipped = s.zipped;
    root_is = s.root_is;
    free_is = s.free_is;
    place = omega (arith, h, ap length (items_of-sound nodes root free spare s));
  }

  -- a removal
  pub record IsRemoved (old new : List (Node M V)) (root at spare : ℕ) (result : Option (Removed M V)) : Type 0 where
    pub removed : Removed M V
    pub result_is : result ≡ Some removed
    pub sound : IsSound unit add weight new removed.root removed.node (spare + 1)
    pub items_are : items_of new removed.root ≡ take at (items_of old root) ++ drop (at + 1) (items_of old root)
    pub item_is : slice_get (items_of old root) at ≡ Some (removed.measure, removed.value)

  pub removed_by : (old new : List (Node M V)) (root free spare at : ℕ) (result : Option (Removed M V)) → IsSound unit add weight old root free spare → at < length (items_of old root) → Removes unit add weight old new root free at result → IsRemoved old new root at spare result
  removed_by old new root free spare at result s place h =
      let e = items_of-sound old root free spare s in
      let r = h s.tree s.spares s.zipped s.root_is s.free_is (omega (arith, place, ap length e)) in
      record {
        removed = r.removed;
        result_is = r.taken_is;
        sound = record { tree = r.tree; spares = r.removed.node ∷ s.spares; zipped = r.zipped; root_is = r.root_is; free_is = refl; spare_is = omega (arith, s.spare_is) };
        items_are = items_of-zipped new r.removed.root r.tree (r.removed.node ∷ s.spares) r.zipped r.root_is ∙ r.items_are ∙ ap (λ xs. take at xs ++ drop (at + 1) xs) (sym e);
        item_is = ap (λ xs. slice_get xs at) e ∙ r.item_is;
      }

  -- an insertion
  pub single_beside : (old mid : List (Node M V)) (root free spare x next : ℕ) (m : M) (v : V) → IsSound unit add weight old root free spare → length (items_of old root) < 16777216 → load weight (items_of old root) + weight m ≤ 2 ^ 62 → Occupies unit add weight old mid free m v x next → IsBesideSingle unit add weight mid x root
  single_beside old mid root free spare x next m v s few light h =
      let e = items_of-sound old root free spare s in
      let o = h s.tree s.spares s.zipped s.free_is (omega (arith, few, ap length e)) (omega (arith, light, ap (load weight) e)) in
      record { tree = s.tree; measure = m; value = v; spare = o.0; zipped = o.1; root_is = s.root_is }

  pub record IsInserted (old new : List (Node M V)) (root x next at spare : ℕ) (m : M) (v : V) : Type 0 where
    pub sound : IsSound unit add weight new x next (spare - 1)
    pub items_are : items_of new x ≡ take at (items_of old root) ++ (m, v) ∷ drop at (items_of old root)

  pub inserted_by : (old mid new : List (Node M V)) (root free spare x next at : ℕ) (m : M) (v : V) → IsSound unit add weight old root free spare → at ≤ length (items_of old root) → length (items_of old root) < 16777216 → load weight (items_of old root) + weight m ≤ 2 ^ 62 → Occupies unit add weight old mid free m v x next → Inserts unit add weight mid new root x at → IsInserted old new root x next at spare m v
  inserted_by old mid new root free spare x next at m v s place few light h k =
      let e = items_of-sound old root free spare s in
      let o = h s.tree s.spares s.zipped s.free_is (omega (arith, few, ap length e)) (omega (arith, light, ap (load weight) e)) in
      let i = k s.tree m v o.0 o.1 s.root_is (omega (arith, place, ap length e)) in
      record {
        sound = record { tree = i.0; spares = o.0; zipped = i.1; root_is = i.2; free_is = o.2; spare_is = omega (arith, o.3, s.spare_is) };
        items_are = items_of-zipped new x i.0 o.0 i.1 i.2 ∙ i.3 ∙ ap (λ xs. take at xs ++ (m, v) ∷ drop at xs) (sym e);
      }

  spares_found : (nodes : List (Node M V)) (t : Tree M V) (spare : List ℕ) → Zipped unit add weight nodes t Top Leaf spare → 1 ≤ length spare → first_of spare ≡ NIL → ⊥
  spares_found nodes t [] z some e = omega arith
  spares_found nodes t (x ∷ is) z some e =
      let within = slice_get_within nodes x _ z.free.0.1 in
      omega (arith, z.small, e)

  -- with a spare node the first is no end of the list
  pub spare_found : (nodes : List (Node M V)) (root free spare : ℕ) → IsSound unit add weight nodes root free spare → 1 ≤ spare → free ≡ NIL → ⊥
  spare_found nodes root free spare s some e = spares_found nodes s.tree s.spares s.zipped (omega (arith, s.spare_is)) (s.free_is ∙ e)

  pub read_item : (nodes : List (Node M V)) (root at count x : ℕ) (item : Option (M × V)) → count ≡ count_in (tally_at nodes root) → at < count → IsNodeAt unit add weight nodes root at x → item ≡ item_at nodes x → HasItemAt unit add weight nodes root at item
  read_item nodes root at count x item c less h is t spare z e =
      let n = c ∙ ap (λ r. count_in (tally_at nodes r)) (sym e) ∙ ap count_in (tally_at-root unit add nodes NIL t (omega (arith, z.small)) z.here) ∙ count_in-tally unit add (flat t) in
      let s = h t Leaf spare z e (omega (arith, n)) in
      is
      ∙ ap (λ o. option_and_then (λ k. option_map (λ v. (k.link.own, v)) k.value) o) s.stands.zipped.here.0
      ∙ sym (ap (λ xs. slice_get xs at) (sym s.items_are) ∙ slice_get-middle s.front (s.measure, s.value) s.back at s.place)

  pub read_none : (nodes : List (Node M V)) (root at count : ℕ) → count ≡ count_in (tally_at nodes root) → count ≤ at → HasItemAt unit add weight nodes root at None
  read_none nodes root at count c more t spare z e =
      let n = c ∙ ap (λ r. count_in (tally_at nodes r)) (sym e) ∙ ap count_in (tally_at-root unit add nodes NIL t (omega (arith, z.small)) z.here) ∙ count_in-tally unit add (flat t) in
      sym (slice_get_past (flat t) at (omega (arith, n)))

  -- the sum of nothing is the unit
  sum_is : (xs : List (M × V)) (sum : Option M) → sum ≡ sum_of unit add xs → elim sum as (λ _. M) [ None ↦ unit | Some s ↦ s ] ≡ total unit add xs
  sum_is [] sum e = rw e refl
  sum_is (x ∷ xs) sum e = rw e refl

  pub read_sum : (nodes : List (Node M V)) (root at : ℕ) (sum : Option M) (s : M) → IsSumBefore unit add weight nodes root at sum → sum ≡ Some s → HasSumBefore unit add weight nodes root at s
  read_sum nodes root at sum s h is t spare z e place = ap (λ o. elim o as (λ _. M) [ None ↦ unit | Some q ↦ q ]) (sym is) ∙ sum_is (take at (flat t)) sum (h t Leaf spare z e place)

  pub read_no_sum : (nodes : List (Node M V)) (root at : ℕ) (sum : Option M) (s : M) → IsSumBefore unit add weight nodes root at sum → sum ≡ None → s ≡ unit → HasSumBefore unit add weight nodes root at s
  read_no_sum nodes root at sum s h is q t spare z e place = q ∙ ap (λ o. elim o as (λ _. M) [ None ↦ unit | Some q ↦ q ]) (sym is) ∙ sum_is (take at (flat t)) sum (h t Leaf spare z e place)
