-- Ways down a tree that add up the sums of what stands before.
use Rattle.std.proofs.Common.{◌≡◌, ◌≢◌, ℕ, suc, ◌+◌, ◌-◌, ◌≤◌, ◌<◌, ◌^◌, Bool, true, false, List, [], ◌∷◌, ◌++◌, length, take, drop, Some, None, Option, refl, sym, ap, ◌∙◌, subst, arith, ◌⊎◌, inl, inr, length-append, append_assoc, append-nil}
use Rattle.std.proofs.lemmas.List.{take_at, take-append-drop, take-append-le}
use Rattle.splay.specs.Items.{load, total, PassesUpTo}
use Rattle.splay.specs.Sums.{sum_behind, all_behind, count_in, weight_in, weight_of_part}
use Rattle.splay.specs.Tree.{NIL, Tree, Way, Leaf, Fork, Top, LeftOf, RightOf, flat, root_of, before, after, above, depth}
use Rattle.splay.specs.Nodes.{link_at, tally, tally_at, sum_of, Zipped}
use Rattle.splay.specs.Places.{StandsAt}
use Rattle.splay.proofs.ItemLemmas.{load-append, total-append, weight-total, weight_of_part-tally, count_in-tally}
use Rattle.splay.proofs.Zip.{up_left, up_right}
use Rattle.splay.proofs.Walk.{On, Seeks, reads, on_left, on_right, ends_unread, ends_deep, no_link}
use Rattle.splay.specs.declared.store.Tally.{Tally}
use Rattle.splay.specs.declared.store.Link.{Link}
use Rattle.splay.specs.declared.store.Node.{Node}

bool_cases : (b : Bool) → (b ≡ true) ⊎ (b ≡ false)
bool_cases true = inl refl
bool_cases false = inr refl

module _ {M : Type 0} (add : M → M → M) (weight : M → ℕ) where
  -- what a walk adds to a sum is light
  pub record Light (left : Option (Tally M)) (own : M) (sum : Option M) : Type 0 where
    pub part : weight_in weight sum + weight_of_part weight left ≤ 2 ^ 62
    pub item : weight_in weight (all_behind add sum left) + weight own ≤ 2 ^ 62

module _ {M V : Type 0} (unit : M) (add : M → M → M) (weight : M → ℕ) (associative : (a b c : M) → add (add a b) c ≡ add a (add b c)) (unit_left : (a : M) → add unit a ≡ a) (unit_right : (a : M) → add a unit ≡ a) (lighter : (a b : M) → weight (add a b) ≤ weight a + weight b) where
  sum_of-some : (xs : List (M × V)) (y : M × V) (ys : List (M × V)) → sum_of unit add (xs ++ y ∷ ys) ≡ Some (total unit add (xs ++ y ∷ ys))
  sum_of-some [] y ys = refl
  sum_of-some (x ∷ xs) y ys = refl

  -- sums put behind sums are those of the lists joined
  all_behind-sum : (xs ys : List (M × V)) → all_behind add (sum_of unit add xs) (tally unit add ys) ≡ sum_of unit add (xs ++ ys)
  all_behind-sum xs [] = ap (λ zs. sum_of unit add zs) (sym (append-nil xs))
  all_behind-sum [] (y ∷ ys) = refl
  all_behind-sum (x ∷ xs) (y ∷ ys) = ap Some (sym (total-append unit add associative unit_left unit_right (x ∷ xs) (y ∷ ys)))

  sum_behind-sum : (xs : List (M × V)) (m : M) (v : V) → sum_behind add (sum_of unit add xs) m ≡ total unit add (xs ++ (m, v) ∷ [])
  sum_behind-sum [] m v = sym (unit_right m)
  sum_behind-sum (x ∷ xs) m v = sym (total-append unit add associative unit_left unit_right (x ∷ xs) ((m, v) ∷ []) ∙ ap (add (total unit add (x ∷ xs))) (unit_right m))

  weight_in-sum : (xs : List (M × V)) → weight_in weight (sum_of unit add xs) ≤ load weight xs
  weight_in-sum [] = omega arith
  weight_in-sum (x ∷ xs) = weight-total weight unit add unit_right lighter x xs

  -- a walk that knows the sum of the items before the subtree
  pub record Adds (nodes : List (Node M V)) (sub : Tree M V) (way : Way M V) (here level : ℕ) (sum : Option M) (items : List (M × V)) (aside : Tree M V) (spare : List ℕ) : Type 0 where
    pub on : On unit add weight nodes sub way here level items aside spare
    pub sum_is : sum ≡ sum_of unit add (before way)

  pub adds_light : (nodes : List (Node M V)) (sub : Tree M V) (way : Way M V) (here level : ℕ) (sum : Option M) (items : List (M × V)) (aside : Tree M V) (spare : List ℕ) (link : Link M) → Adds nodes sub way here level sum items aside spare → link_at nodes here ≡ Some link → Light add weight (tally_at nodes link.left) link.own sum
  adds_light nodes Leaf way here level sum items aside spare link a el = absurd (no_link unit add weight nodes way here level items aside spare link a.on el)
  adds_light nodes (Fork i m v l r) way here level sum items aside spare link a el =
      let k = reads unit add weight nodes i m v l r way here level items aside spare link a.on el in
      rw (k.left_tally, ← k.own_is, a.sum_is)
      (record {
        part = omega (arith, weight_in-sum (before way), weight_of_part-tally weight unit add unit_right lighter (flat l), a.on.zipped.light, load-append weight (flat l) ((m, v) ∷ flat r));
        item = rw (all_behind-sum (before way) (flat l)) (omega (arith, weight_in-sum (before way ++ flat l), load-append weight (before way) (flat l), a.on.zipped.light, load-append weight (flat l) ((m, v) ∷ flat r)));
      })

  -- the sum with the subtree's first part and the item at its root
  through_sum : (nodes : List (Node M V)) (way : Way M V) (m : M) (v : V) (l r : Tree M V) (sum : Option M) (link : Link M) → m ≡ link.own → tally_at nodes link.left ≡ tally unit add (flat l) → sum ≡ sum_of unit add (before way) → sum_behind add (all_behind add sum (tally_at nodes link.left)) link.own ≡ total unit add (before way ++ (flat l ++ (m, v) ∷ []))
  through_sum nodes way m v l r sum link own left s =
      rw (left, ← own, s, all_behind-sum (before way) (flat l)) (sum_behind-sum (before way ++ flat l) m v ∙ ap (λ zs. total unit add zs) (append_assoc (before way) (flat l) ((m, v) ∷ [])))

  sum_of-through : (w l : List (M × V)) (p : M × V) → Some (total unit add (w ++ (l ++ p ∷ []))) ≡ sum_of unit add (w ++ (l ++ p ∷ []))
  sum_of-through w l p = rw (← append_assoc w l (p ∷ [])) (sym (sum_of-some (w ++ l) p []))

  -- a walk to a place that knows the sum of the items before the subtree
  pub record SumSeeks (nodes : List (Node M V)) (here ahead level at : ℕ) (sum : Option M) (items : List (M × V)) (aside : Tree M V) (spare : List ℕ) : Type 0 where
    pub seeks : Seeks unit add weight nodes 0 here ahead level at items aside spare
    pub sum_is : sum ≡ sum_of unit add (before seeks.way)

  pub sum_start : (nodes : List (Node M V)) (root at : ℕ) (t aside : Tree M V) (spare : List ℕ) → Zipped unit add weight nodes t Top aside spare → root_of t ≡ root → at ≤ length (flat t) → SumSeeks nodes root at 0 at None (flat t) aside spare
  sum_start nodes root at t aside spare z e h = record {
    seeks = record {
      sub = t;
      way = Top;
      on = record { zipped = z; here_is = e; items_are = append-nil (flat t); short = omega (arith, z.counted) };
      place = omega arith;
      inside = omega arith;
    };
    sum_is = refl;
  }

  pub sum_light : (nodes : List (Node M V)) (here ahead level at : ℕ) (sum : Option M) (items : List (M × V)) (aside : Tree M V) (spare : List ℕ) (link : Link M) → SumSeeks nodes here ahead level at sum items aside spare → link_at nodes here ≡ Some link → Light add weight (tally_at nodes link.left) link.own sum
  sum_light nodes here ahead level at sum items aside spare link s el =
      adds_light nodes s.seeks.sub s.seeks.way here level sum items aside spare link (record { on = s.seeks.on; sum_is = s.sum_is }) el

  sum_left_at : (nodes : List (Node M V)) (sub : Tree M V) (way : Way M V) (here ahead level at : ℕ) (sum : Option M) (items : List (M × V)) (aside : Tree M V) (spare : List ℕ) (link : Link M) → On unit add weight nodes sub way here level items aside spare → length (before way) + ahead ≡ at → sum ≡ sum_of unit add (before way) → link_at nodes here ≡ Some link → ahead ≤ count_in (tally_at nodes link.left) → SumSeeks nodes link.left ahead (level + 1) at sum items aside spare
  sum_left_at nodes Leaf way here ahead level at sum items aside spare link o p s el h = absurd (no_link unit add weight nodes way here level items aside spare link o el)
  sum_left_at nodes (Fork i m v l r) way here ahead level at sum items aside spare link o p s el h =
      let k = reads unit add weight nodes i m v l r way here level items aside spare link o el in
      record {
        seeks = record {
          sub = l;
          way = LeftOf i m v r way;
          on = on_left unit add weight nodes i m v l r way here level items aside spare link.left o k.left_is;
          place = p;
          inside = omega (arith, h, ap count_in k.left_tally, count_in-tally unit add (flat l));
        };
        sum_is = s;
      }

  pub sum_left : (nodes : List (Node M V)) (here ahead level at : ℕ) (sum : Option M) (items : List (M × V)) (aside : Tree M V) (spare : List ℕ) (link : Link M) → SumSeeks nodes here ahead level at sum items aside spare → link_at nodes here ≡ Some link → ahead ≤ count_in (tally_at nodes link.left) → SumSeeks nodes link.left ahead (level + 1) at sum items aside spare
  sum_left nodes here ahead level at sum items aside spare link s el h = sum_left_at nodes s.seeks.sub s.seeks.way here ahead level at sum items aside spare link s.seeks.on s.seeks.place s.sum_is el h

  sum_right_at : (nodes : List (Node M V)) (sub : Tree M V) (way : Way M V) (here ahead level at : ℕ) (sum : Option M) (items : List (M × V)) (aside : Tree M V) (spare : List ℕ) (link : Link M) → On unit add weight nodes sub way here level items aside spare → length (before way) + ahead ≡ at → ahead + 0 ≤ length (flat sub) → sum ≡ sum_of unit add (before way) → link_at nodes here ≡ Some link → count_in (tally_at nodes link.left) < ahead → SumSeeks nodes link.right (ahead - count_in (tally_at nodes link.left) - 1) (level + 1) at (Some (sum_behind add (all_behind add sum (tally_at nodes link.left)) link.own)) items aside spare
  sum_right_at nodes Leaf way here ahead level at sum items aside spare link o p q s el h = absurd (no_link unit add weight nodes way here level items aside spare link o el)
  sum_right_at nodes (Fork i m v l r) way here ahead level at sum items aside spare link o p q s el h =
      let k = reads unit add weight nodes i m v l r way here level items aside spare link o el in
      let c : count_in (tally_at nodes link.left) ≡ length (flat l) = ap count_in k.left_tally ∙ count_in-tally unit add (flat l) in
      record {
        seeks = record {
          sub = r;
          way = RightOf i m v l way;
          on = on_right unit add weight nodes i m v l r way here level items aside spare link.right o k.right_is;
          place = omega (arith, h, c, p, length-append (before way) (flat l ++ (m, v) ∷ []), length-append (flat l) ((m, v) ∷ []));
          inside = omega (arith, h, c, q, length-append (flat l) ((m, v) ∷ flat r));
        };
        sum_is = ap Some (through_sum nodes way m v l r sum link k.own_is k.left_tally s) ∙ sum_of-through (before way) (flat l) (m, v);
      }

  pub sum_right : (nodes : List (Node M V)) (here ahead level at : ℕ) (sum : Option M) (items : List (M × V)) (aside : Tree M V) (spare : List ℕ) (link : Link M) → SumSeeks nodes here ahead level at sum items aside spare → link_at nodes here ≡ Some link → count_in (tally_at nodes link.left) < ahead → SumSeeks nodes link.right (ahead - count_in (tally_at nodes link.left) - 1) (level + 1) at (Some (sum_behind add (all_behind add sum (tally_at nodes link.left)) link.own)) items aside spare
  sum_right nodes here ahead level at sum items aside spare link s el h = sum_right_at nodes s.seeks.sub s.seeks.way here ahead level at sum items aside spare link s.seeks.on s.seeks.place s.seeks.inside s.sum_is el h

  at_leaf : (f : List (M × V)) (g items : List (M × V)) (n : ℕ) → f ++ [] ++ g ≡ items → length f ≡ n → take n items ≡ f
  at_leaf f g items n e h = rw (← e, append-nil f) (take_at f g n h)

  sum_done : (nodes : List (Node M V)) (sub : Tree M V) (way : Way M V) (here ahead level at : ℕ) (sum : Option M) (items : List (M × V)) (aside : Tree M V) (spare : List ℕ) → On unit add weight nodes sub way here level items aside spare → length (before way) + ahead ≡ at → ahead + 0 ≤ length (flat sub) → sum ≡ sum_of unit add (before way) → sub ≡ Leaf → sum ≡ sum_of unit add (take at items)
  sum_done nodes sub way here ahead level at sum items aside spare o p q s e =
      let none : length (flat sub) ≡ 0 = ap (λ t. length (flat t)) e in
      s ∙ ap (λ zs. sum_of unit add zs) (sym (at_leaf (before way) (after way) items at (subst (λ t. before way ++ flat t ++ after way ≡ items) e o.items_are) (omega arith)))

  pub sum_unread : (nodes : List (Node M V)) (here ahead level at : ℕ) (sum : Option M) (items : List (M × V)) (aside : Tree M V) (spare : List ℕ) → SumSeeks nodes here ahead level at sum items aside spare → link_at nodes here ≡ None → sum ≡ sum_of unit add (take at items)
  sum_unread nodes here ahead level at sum items aside spare s e =
      sum_done nodes s.seeks.sub s.seeks.way here ahead level at sum items aside spare s.seeks.on s.seeks.place s.seeks.inside s.sum_is (ends_unread unit add weight nodes s.seeks.sub s.seeks.way here level items aside spare s.seeks.on e)

  pub sum_deep : (nodes : List (Node M V)) (here ahead level at : ℕ) (sum : Option M) (items : List (M × V)) (aside : Tree M V) (spare : List ℕ) → SumSeeks nodes here ahead level at sum items aside spare → length nodes ≤ level → sum ≡ sum_of unit add (take at items)
  sum_deep nodes here ahead level at sum items aside spare s e =
      sum_done nodes s.seeks.sub s.seeks.way here ahead level at sum items aside spare s.seeks.on s.seeks.place s.seeks.inside s.sum_is (ends_deep unit add weight nodes s.seeks.sub s.seeks.way here level items aside spare s.seeks.on e)

  -- a search: what stands before the subtree passes, and with the subtree and the next item it would fail
  pub record Searches (passes : M → Bool) (nodes : List (Node M V)) (here last count level : ℕ) (sum : Option M) (items : List (M × V)) (aside : Tree M V) (spare : List ℕ) : Type 0 where
    pub sub : Tree M V
    pub way : Way M V
    pub on : On unit add weight nodes sub way here level items aside spare
    pub last_is : above way ≡ last
    pub count_is : length (before way) ≡ count
    pub sum_is : sum ≡ sum_of unit add (before way)
    pub passing : 1 ≤ length (before way) → passes (total unit add (before way)) ≡ true
    pub failing : (x : M × V) (xs : List (M × V)) → after way ≡ x ∷ xs → passes (total unit add (before way ++ flat sub ++ x ∷ [])) ≡ false

  pub search_start : (passes : M → Bool) (nodes : List (Node M V)) (root : ℕ) (t aside : Tree M V) (spare : List ℕ) → Zipped unit add weight nodes t Top aside spare → root_of t ≡ root → Searches passes nodes root NIL 0 0 None (flat t) aside spare
  search_start passes nodes root t aside spare z e = record {
    sub = t;
    way = Top;
    on = record { zipped = z; here_is = e; items_are = append-nil (flat t); short = omega (arith, z.counted) };
    last_is = refl;
    count_is = refl;
    sum_is = refl;
    passing = λ h. absurd (omega arith);
    failing = λ x xs e. cc;
  }

  pub search_light : (passes : M → Bool) (nodes : List (Node M V)) (here last count level : ℕ) (sum : Option M) (items : List (M × V)) (aside : Tree M V) (spare : List ℕ) (link : Link M) → Searches passes nodes here last count level sum items aside spare → link_at nodes here ≡ Some link → Light add weight (tally_at nodes link.left) link.own sum
  search_light passes nodes here last count level sum items aside spare link s el =
      adds_light nodes s.sub s.way here level sum items aside spare link (record { on = s.on; sum_is = s.sum_is }) el

  few_at : (nodes : List (Node M V)) (sub : Tree M V) (way : Way M V) (here level : ℕ) (items : List (M × V)) (aside : Tree M V) (spare : List ℕ) (link : Link M) → On unit add weight nodes sub way here level items aside spare → link_at nodes here ≡ Some link → length (before way) + count_in (tally_at nodes link.left) + 1 ≤ 16777216
  few_at nodes Leaf way here level items aside spare link o el = absurd (no_link unit add weight nodes way here level items aside spare link o el)
  few_at nodes (Fork i m v l r) way here level items aside spare link o el =
      let k = reads unit add weight nodes i m v l r way here level items aside spare link o el in
      let c : count_in (tally_at nodes link.left) ≡ length (flat l) = ap count_in k.left_tally ∙ count_in-tally unit add (flat l) in
      omega (arith, c, o.zipped.counted, o.zipped.small, length-append (flat l) ((m, v) ∷ flat r))

  pub search_few : (passes : M → Bool) (nodes : List (Node M V)) (here last count level : ℕ) (sum : Option M) (items : List (M × V)) (aside : Tree M V) (spare : List ℕ) (link : Link M) → Searches passes nodes here last count level sum items aside spare → link_at nodes here ≡ Some link → count + count_in (tally_at nodes link.left) + 1 ≤ 16777216
  search_few passes nodes here last count level sum items aside spare link s el =
      omega (arith, s.count_is, few_at nodes s.sub s.way here level items aside spare link s.on el)

  search_right_at : (passes : M → Bool) (nodes : List (Node M V)) (sub : Tree M V) (way : Way M V) (here count level : ℕ) (sum : Option M) (items : List (M × V)) (aside : Tree M V) (spare : List ℕ) (link : Link M) → On unit add weight nodes sub way here level items aside spare → length (before way) ≡ count → sum ≡ sum_of unit add (before way) → ((x : M × V) (xs : List (M × V)) → after way ≡ x ∷ xs → passes (total unit add (before way ++ flat sub ++ x ∷ [])) ≡ false) → link_at nodes here ≡ Some link → passes (sum_behind add (all_behind add sum (tally_at nodes link.left)) link.own) ≡ true → Searches passes nodes link.right here (count + count_in (tally_at nodes link.left) + 1) (level + 1) (Some (sum_behind add (all_behind add sum (tally_at nodes link.left)) link.own)) items aside spare
  search_right_at passes nodes Leaf way here count level sum items aside spare link o c s failing el h = absurd (no_link unit add weight nodes way here level items aside spare link o el)
  search_right_at passes nodes (Fork i m v l r) way here count level sum items aside spare link o c s failing el h =
      let k = reads unit add weight nodes i m v l r way here level items aside spare link o el in
      let n : count_in (tally_at nodes link.left) ≡ length (flat l) = ap count_in k.left_tally ∙ count_in-tally unit add (flat l) in
      let through = through_sum nodes way m v l r sum link k.own_is k.left_tally s in
      record {
        sub = r;
        way = RightOf i m v l way;
        on = on_right unit add weight nodes i m v l r way here level items aside spare link.right o k.right_is;
        last_is = o.here_is;
        count_is = omega (arith, c, n, length-append (before way) (flat l ++ (m, v) ∷ []), length-append (flat l) ((m, v) ∷ []));
        sum_is = ap Some through ∙ sum_of-through (before way) (flat l) (m, v);
        passing = λ _. ap passes (sym through) ∙ h;
        failing = λ x xs e. ap (λ zs. passes (total unit add (zs ++ x ∷ []))) (append_assoc (before way) (flat l ++ (m, v) ∷ []) (flat r) ∙ ap (λ zs. before way ++ zs) (append_assoc (flat l) ((m, v) ∷ []) (flat r))) ∙ failing x xs e;
      }

  pub search_right : (passes : M → Bool) (nodes : List (Node M V)) (here last count level : ℕ) (sum : Option M) (items : List (M × V)) (aside : Tree M V) (spare : List ℕ) (link : Link M) → Searches passes nodes here last count level sum items aside spare → link_at nodes here ≡ Some link → passes (sum_behind add (all_behind add sum (tally_at nodes link.left)) link.own) ≡ true → Searches passes nodes link.right here (count + count_in (tally_at nodes link.left) + 1) (level + 1) (Some (sum_behind add (all_behind add sum (tally_at nodes link.left)) link.own)) items aside spare
  search_right passes nodes here last count level sum items aside spare link s el h =
      search_right_at passes nodes s.sub s.way here count level sum items aside spare link s.on s.count_is s.sum_is s.failing el h

  search_left_at : (passes : M → Bool) (nodes : List (Node M V)) (sub : Tree M V) (way : Way M V) (here count level : ℕ) (sum : Option M) (items : List (M × V)) (aside : Tree M V) (spare : List ℕ) (link : Link M) → On unit add weight nodes sub way here level items aside spare → length (before way) ≡ count → sum ≡ sum_of unit add (before way) → (1 ≤ length (before way) → passes (total unit add (before way)) ≡ true) → link_at nodes here ≡ Some link → passes (sum_behind add (all_behind add sum (tally_at nodes link.left)) link.own) ≡ false → Searches passes nodes link.left here count (level + 1) sum items aside spare
  search_left_at passes nodes Leaf way here count level sum items aside spare link o c s passing el h = absurd (no_link unit add weight nodes way here level items aside spare link o el)
  search_left_at passes nodes (Fork i m v l r) way here count level sum items aside spare link o c s passing el h =
      let k = reads unit add weight nodes i m v l r way here level items aside spare link o el in
      let through = through_sum nodes way m v l r sum link k.own_is k.left_tally s in
      record {
        sub = l;
        way = LeftOf i m v r way;
        on = on_left unit add weight nodes i m v l r way here level items aside spare link.left o k.left_is;
        last_is = o.here_is;
        count_is = c;
        sum_is = s;
        passing = passing;
        failing = λ x xs e.
            let same : (m, v) ≡ x = cc in
            ap (λ y. passes (total unit add (before way ++ flat l ++ y ∷ []))) (sym same) ∙ ap (λ zs. passes (total unit add zs)) (append_assoc (before way) (flat l) ((m, v) ∷ [])) ∙ ap passes (sym through) ∙ h;
      }

  pub search_left : (passes : M → Bool) (nodes : List (Node M V)) (here last count level : ℕ) (sum : Option M) (items : List (M × V)) (aside : Tree M V) (spare : List ℕ) (link : Link M) → Searches passes nodes here last count level sum items aside spare → link_at nodes here ≡ Some link → passes (sum_behind add (all_behind add sum (tally_at nodes link.left)) link.own) ≡ false → Searches passes nodes link.left here count (level + 1) sum items aside spare
  search_left passes nodes here last count level sum items aside spare link s el h =
      search_left_at passes nodes s.sub s.way here count level sum items aside spare link s.on s.count_is s.sum_is s.passing el h

  -- the node above an empty subtree holds an item
  last_at : (nodes : List (Node M V)) (way : Way M V) (last : ℕ) (items : List (M × V)) (aside : Tree M V) (spare : List ℕ) → Zipped unit add weight nodes Leaf way aside spare → before way ++ [] ++ after way ≡ items → above way ≡ last → last ≢ NIL → (at : ℕ) × StandsAt unit add weight nodes last at items aside spare
  last_at nodes Top last items aside spare z e h other = absurd (other (sym h))
  last_at nodes (LeftOf y n u c w) last items aside spare z e h other = (
    length (before w ++ []),
    subst (λ x. StandsAt unit add weight nodes x (length (before w ++ [])) items aside spare) h (record {
      front = before w ++ [];
      measure = n;
      value = u;
      back = flat c ++ after w;
      above = depth w;
      stands = record { left = Leaf; right = c; way = w; zipped = up_left unit add weight nodes y n u Leaf c w aside spare z; front_is = refl; back_is = refl; above_is = refl };
      place = refl;
      items_are = e;
    }),
  )
  last_at nodes (RightOf y n u c w) last items aside spare z e h other = (
    length (before w ++ flat c),
    subst (λ x. StandsAt unit add weight nodes x (length (before w ++ flat c)) items aside spare) h (record {
      front = before w ++ flat c;
      measure = n;
      value = u;
      back = after w;
      above = depth w;
      stands = record { left = c; right = Leaf; way = w; zipped = up_right unit add weight nodes y n u Leaf c w aside spare z; front_is = refl; back_is = refl; above_is = refl };
      place = refl;
      items_are = sym (ap (λ zs. zs ++ after w) (append-nil (before w ++ (flat c ++ (n, u) ∷ [])) ∙ sym (append_assoc (before w) (flat c) ((n, u) ∷ []))) ∙ append_assoc (before w ++ flat c) ((n, u) ∷ []) (after w)) ∙ e;
    }),
  )

  -- sums that pass up to a place pass before it
  pass_before : (passes : M → Bool) (stays : (a b : M) → passes a ≡ false → passes (add a b) ≡ false) (xs : List (M × V)) (k : ℕ) → passes (total unit add xs) ≡ true → passes (total unit add (take k xs)) ≡ true
  pass_before passes stays xs k h =
      elim (bool_cases (passes (total unit add (take k xs)))) [
        | inl p ↦ p
        | inr p ↦
            let f : passes (total unit add xs) ≡ false = ap (λ zs. passes (total unit add zs)) (sym (take-append-drop k xs)) ∙ ap passes (total-append unit add associative unit_left unit_right (take k xs) (drop k xs)) ∙ stays (total unit add (take k xs)) (total unit add (drop k xs)) p in
            cc
      ]

  found : (passes : M → Bool) (stays : (a b : M) → passes a ≡ false → passes (add a b) ≡ false) (f g items : List (M × V)) (count : ℕ) → f ++ [] ++ g ≡ items → length f ≡ count → (1 ≤ length f → passes (total unit add f) ≡ true) → ((x : M × V) (xs : List (M × V)) → g ≡ x ∷ xs → passes (total unit add (f ++ [] ++ x ∷ [])) ≡ false) → PassesUpTo unit add passes items count
  found passes stays f [] items count e c passing failing =
      let same : f ≡ items = sym (append-nil f) ∙ sym (append-nil (f ++ [])) ∙ e in
      let long : length f ≡ length items = ap length same in
      record {
        within = omega arith;
        pass = λ k low high. subst (λ zs. passes (total unit add (take k zs)) ≡ true) same (pass_before passes stays f k (passing (omega arith)));
        fails = λ h. absurd (omega arith);
      }
  found passes stays f (x ∷ xs) items count e c passing failing =
      let same : f ++ x ∷ xs ≡ items = ap (λ zs. zs ++ x ∷ xs) (sym (append-nil f)) ∙ e in
      let long : length f + suc (length xs) ≡ length items = sym (length-append f (x ∷ xs)) ∙ ap length same in
      record {
        within = omega arith;
        pass = λ k low high. subst (λ zs. passes (total unit add (take k zs)) ≡ true) same (rw (take-append-le k f (x ∷ xs) (omega arith)) (pass_before passes stays f k (passing (omega arith))));
        fails = λ h. subst (λ zs. passes (total unit add (take (count + 1) zs)) ≡ false) (append_assoc f (x ∷ []) xs ∙ same) (rw (take_at (f ++ x ∷ []) xs (count + 1) (length-append f (x ∷ []) ∙ omega arith)) (ap (λ zs. passes (total unit add (zs ++ x ∷ []))) (sym (append-nil f)) ∙ failing x xs refl));
      }

  search_done : (passes : M → Bool) (stays : (a b : M) → passes a ≡ false → passes (add a b) ≡ false) (nodes : List (Node M V)) (here last count level : ℕ) (sum : Option M) (items : List (M × V)) (aside : Tree M V) (spare : List ℕ) (s : Searches passes nodes here last count level sum items aside spare) → s.sub ≡ Leaf → PassesUpTo unit add passes items count × (last ≢ NIL → (at : ℕ) × StandsAt unit add weight nodes last at items aside spare)
  search_done passes stays nodes here last count level sum items aside spare s e = (
    found passes stays (before s.way) (after s.way) items count (subst (λ t. before s.way ++ flat t ++ after s.way ≡ items) e s.on.items_are) s.count_is s.passing (λ x xs h. subst (λ t. passes (total unit add (before s.way ++ flat t ++ x ∷ [])) ≡ false) e (s.failing x xs h)),
    last_at nodes s.way last items aside spare (subst (λ t. Zipped unit add weight nodes t s.way aside spare) e s.on.zipped) (subst (λ t. before s.way ++ flat t ++ after s.way ≡ items) e s.on.items_are) s.last_is,
  )

  pub search_unread : (passes : M → Bool) (stays : (a b : M) → passes a ≡ false → passes (add a b) ≡ false) (nodes : List (Node M V)) (here last count level : ℕ) (sum : Option M) (items : List (M × V)) (aside : Tree M V) (spare : List ℕ) → Searches passes nodes here last count level sum items aside spare → link_at nodes here ≡ None → PassesUpTo unit add passes items count × (last ≢ NIL → (at : ℕ) × StandsAt unit add weight nodes last at items aside spare)
  search_unread passes stays nodes here last count level sum items aside spare s e =
      search_done passes stays nodes here last count level sum items aside spare s (ends_unread unit add weight nodes s.sub s.way here level items aside spare s.on e)

  pub search_deep : (passes : M → Bool) (stays : (a b : M) → passes a ≡ false → passes (add a b) ≡ false) (nodes : List (Node M V)) (here last count level : ℕ) (sum : Option M) (items : List (M × V)) (aside : Tree M V) (spare : List ℕ) → Searches passes nodes here last count level sum items aside spare → length nodes ≤ level → PassesUpTo unit add passes items count × (last ≢ NIL → (at : ℕ) × StandsAt unit add weight nodes last at items aside spare)
  search_deep passes stays nodes here last count level sum items aside spare s e =
      search_done passes stays nodes here last count level sum items aside spare s (ends_deep unit add weight nodes s.sub s.way here level items aside spare s.on e)
