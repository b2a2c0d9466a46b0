-- Ways down a tree, one node at a time.
use Rattle.std.proofs.Common.{◌≡◌, ℕ, ◌+◌, ◌-◌, ◌≤◌, ◌<◌, List, [], ◌∷◌, ◌++◌, length, Some, None, option_map, refl, sym, ap, ◌∙◌, subst, arith, length-append, append_assoc, append-nil}
use Rattle.splay.specs.Sums.{count_in}
use Rattle.splay.specs.Tree.{Tree, Way, Leaf, Fork, Top, LeftOf, RightOf, flat, root_of, before, after, depth}
use Rattle.splay.specs.Nodes.{link_at, tally, tally_at, Zipped}
use Rattle.splay.specs.Places.{StandsAt}
use Rattle.splay.proofs.ItemLemmas.{count_in-tally}
use Rattle.splay.proofs.TreeLemmas.{tally_at-root}
use Rattle.splay.proofs.LiftCalls.{link_read, none_read}
use Rattle.splay.proofs.Zip.{down_left, down_right}
use Rattle.splay.specs.declared.store.Link.{Link}
use Rattle.splay.specs.declared.store.Node.{Node}

module _ {X : Type 0} where
  regroup_left : (f a : List X) (p : X) (b c : List X) → f ++ a ++ p ∷ (b ++ c) ≡ f ++ (a ++ p ∷ b) ++ c
  regroup_left f a p b c = append_assoc f a (p ∷ (b ++ c)) ∙ sym (append_assoc f (a ++ p ∷ b) c ∙ ap (λ zs. f ++ zs) (append_assoc a (p ∷ b) c))

  regroup_right : (f a : List X) (p : X) (b c : List X) → f ++ (a ++ p ∷ []) ++ b ++ c ≡ f ++ (a ++ p ∷ b) ++ c
  regroup_right f a p b c = ap (λ zs. zs ++ c) (append_assoc f (a ++ p ∷ []) b ∙ ap (λ zs. f ++ zs) (append_assoc a (p ∷ []) b))

module _ {M V : Type 0} (unit : M) (add : M → M → M) (weight : M → ℕ) where
  -- a walk through the tree with these items came to a subtree
  pub record On (nodes : List (Node M V)) (sub : Tree M V) (way : Way M V) (here level : ℕ) (items : List (M × V)) (aside : Tree M V) (spare : List ℕ) : Type 0 where
    pub zipped : Zipped unit add weight nodes sub way aside spare
    pub here_is : root_of sub ≡ here
    pub items_are : before way ++ flat sub ++ after way ≡ items
    pub short : length (flat sub) + level ≤ length nodes

  -- what is read at the root of a subtree
  pub record Reads (nodes : List (Node M V)) (m : M) (l r : Tree M V) (link : Link M) : Type 0 where
    pub own_is : m ≡ link.own
    pub left_is : root_of l ≡ link.left
    pub right_is : root_of r ≡ link.right
    pub left_tally : tally_at nodes link.left ≡ tally unit add (flat l)

  pub reads : (nodes : List (Node M V)) (i : ℕ) (m : M) (v : V) (l r : Tree M V) (way : Way M V) (here level : ℕ) (items : List (M × V)) (aside : Tree M V) (spare : List ℕ) (link : Link M) → On nodes (Fork i m v l r) way here level items aside spare → link_at nodes here ≡ Some link → Reads nodes m l r link
  reads nodes i m v l r way here level items aside spare link o el =
      let e = link_read nodes i _ link o.zipped.here.0 (rw o.here_is el) in
      let left : root_of l ≡ link.left = ap (λ (k : Link M). k.left) e in
      record {
        own_is = ap (λ (k : Link M). k.own) e;
        left_is = left;
        right_is = ap (λ (k : Link M). k.right) e;
        left_tally = subst (λ j. tally_at nodes j ≡ tally unit add (flat l)) left (tally_at-root unit add nodes i l (omega (arith, o.zipped.small)) o.zipped.here.1);
      }

  pub on_left : (nodes : List (Node M V)) (i : ℕ) (m : M) (v : V) (l r : Tree M V) (way : Way M V) (here level : ℕ) (items : List (M × V)) (aside : Tree M V) (spare : List ℕ) (to : ℕ) → On nodes (Fork i m v l r) way here level items aside spare → root_of l ≡ to → On nodes l (LeftOf i m v r way) to (level + 1) items aside spare
  on_left nodes i m v l r way here level items aside spare to o e = record {
    zipped = down_left unit add weight nodes i m v l r way aside spare o.zipped;
    here_is = e;
    items_are = regroup_left (before way) (flat l) (m, v) (flat r) (after way) ∙ o.items_are;
    short = omega (arith, o.short, length-append (flat l) ((m, v) ∷ flat r));
  }

  pub on_right : (nodes : List (Node M V)) (i : ℕ) (m : M) (v : V) (l r : Tree M V) (way : Way M V) (here level : ℕ) (items : List (M × V)) (aside : Tree M V) (spare : List ℕ) (to : ℕ) → On nodes (Fork i m v l r) way here level items aside spare → root_of r ≡ to → On nodes r (RightOf i m v l way) to (level + 1) items aside spare
  on_right nodes i m v l r way here level items aside spare to o e = record {
    zipped = down_right unit add weight nodes i m v r l way aside spare o.zipped;
    here_is = e;
    items_are = regroup_right (before way) (flat l) (m, v) (flat r) (after way) ∙ o.items_are;
    short = omega (arith, o.short, length-append (flat l) ((m, v) ∷ flat r));
  }

  -- at an index with no node the subtree is empty
  pub ends_unread : (nodes : List (Node M V)) (sub : Tree M V) (way : Way M V) (here level : ℕ) (items : List (M × V)) (aside : Tree M V) (spare : List ℕ) → On nodes sub way here level items aside spare → link_at nodes here ≡ None → sub ≡ Leaf
  ends_unread nodes Leaf way here level items aside spare o e = refl
  ends_unread nodes (Fork i m v l r) way here level items aside spare o e =
      let f : link_at nodes i ≡ None = rw o.here_is e in
      let s = ap (λ q. option_map (λ k. k.link) q) o.zipped.here.0 in cc

  -- and so it is after as many levels as there are nodes
  pub ends_deep : (nodes : List (Node M V)) (sub : Tree M V) (way : Way M V) (here level : ℕ) (items : List (M × V)) (aside : Tree M V) (spare : List ℕ) → On nodes sub way here level items aside spare → length nodes ≤ level → sub ≡ Leaf
  ends_deep nodes Leaf way here level items aside spare o e = refl
  ends_deep nodes (Fork i m v l r) way here level items aside spare o e = absurd (omega (arith, o.short, length-append (flat l) ((m, v) ∷ flat r)))

  pub no_link : (nodes : List (Node M V)) (way : Way M V) (here level : ℕ) (items : List (M × V)) (aside : Tree M V) (spare : List ℕ) (link : Link M) → On nodes Leaf way here level items aside spare → link_at nodes here ≡ Some link → ⊥
  no_link nodes way here level items aside spare link o el = none_read nodes link (omega (arith, o.zipped.small)) (rw o.here_is el)

  -- A walk to a place: so many items stand before the subtree, and the place is in it. With 1 for `more` it is the place of an item.
  pub record Seeks (nodes : List (Node M V)) (more here ahead level at : ℕ) (items : List (M × V)) (aside : Tree M V) (spare : List ℕ) : Type 0 where
    pub sub : Tree M V
    pub way : Way M V
    pub on : On nodes sub way here level items aside spare
    pub place : length (before way) + ahead ≡ at
    pub inside : ahead + more ≤ length (flat sub)

  pub seeks_start : (nodes : List (Node M V)) (more root at : ℕ) (t aside : Tree M V) (spare : List ℕ) → Zipped unit add weight nodes t Top aside spare → root_of t ≡ root → at + more ≤ length (flat t) → Seeks nodes more root at 0 at (flat t) aside spare
  seeks_start nodes more root at t aside spare z e h = record {
    sub = t;
    way = Top;
    on = record { zipped = z; here_is = e; items_are = append-nil (flat t); short = omega (arith, z.counted) };
    place = omega arith;
    inside = h;
  }

  left_at : (nodes : List (Node M V)) (sub : Tree M V) (way : Way M V) (more here ahead level at : ℕ) (items : List (M × V)) (aside : Tree M V) (spare : List ℕ) (link : Link M) → On nodes sub way here level items aside spare → length (before way) + ahead ≡ at → link_at nodes here ≡ Some link → ahead + more ≤ count_in (tally_at nodes link.left) → Seeks nodes more link.left ahead (level + 1) at items aside spare
  left_at nodes Leaf way more here ahead level at items aside spare link o p el h = absurd (no_link nodes way here level items aside spare link o el)
  left_at nodes (Fork i m v l r) way more here ahead level at items aside spare link o p el h =
      let k = reads nodes i m v l r way here level items aside spare link o el in
      record {
        sub = l;
        way = LeftOf i m v r way;
        on = on_left nodes i m v l r way here level items aside spare link.left o k.left_is;
        place = p;
        inside = omega (arith, h, ap count_in k.left_tally, count_in-tally unit add (flat l));
      }

  pub seeks_left : (nodes : List (Node M V)) (more here ahead level at : ℕ) (items : List (M × V)) (aside : Tree M V) (spare : List ℕ) (link : Link M) → Seeks nodes more here ahead level at items aside spare → link_at nodes here ≡ Some link → ahead + more ≤ count_in (tally_at nodes link.left) → Seeks nodes more link.left ahead (level + 1) at items aside spare
  seeks_left nodes more here ahead level at items aside spare link s el h = left_at nodes s.sub s.way more here ahead level at items aside spare link s.on s.place el h

  right_at : (nodes : List (Node M V)) (sub : Tree M V) (way : Way M V) (more here ahead level at : ℕ) (items : List (M × V)) (aside : Tree M V) (spare : List ℕ) (link : Link M) → On nodes sub way here level items aside spare → length (before way) + ahead ≡ at → ahead + more ≤ length (flat sub) → link_at nodes here ≡ Some link → count_in (tally_at nodes link.left) < ahead → Seeks nodes more link.right (ahead - count_in (tally_at nodes link.left) - 1) (level + 1) at items aside spare
  right_at nodes Leaf way more here ahead level at items aside spare link o p q el h = absurd (no_link nodes way here level items aside spare link o el)
  right_at nodes (Fork i m v l r) way more here ahead level at items aside spare link o p q el h =
      let k = reads nodes i m v l r way here level items aside spare link o el in
      let c : count_in (tally_at nodes link.left) ≡ length (flat l) = ap count_in k.left_tally ∙ count_in-tally unit add (flat l) in
      record {
        sub = r;
        way = RightOf i m v l way;
        on = on_right nodes i m v l r way here level items aside spare link.right o k.right_is;
        place = omega (arith, h, c, p, length-append (before way) (flat l ++ (m, v) ∷ []), length-append (flat l) ((m, v) ∷ []));
        inside = omega (arith, h, c, q, length-append (flat l) ((m, v) ∷ flat r));
      }

  pub seeks_right : (nodes : List (Node M V)) (more here ahead level at : ℕ) (items : List (M × V)) (aside : Tree M V) (spare : List ℕ) (link : Link M) → Seeks nodes more here ahead level at items aside spare → link_at nodes here ≡ Some link → count_in (tally_at nodes link.left) < ahead → Seeks nodes more link.right (ahead - count_in (tally_at nodes link.left) - 1) (level + 1) at items aside spare
  seeks_right nodes more here ahead level at items aside spare link s el h = right_at nodes s.sub s.way more here ahead level at items aside spare link s.on s.place s.inside el h

  stop_at : (nodes : List (Node M V)) (sub : Tree M V) (way : Way M V) (here ahead level at : ℕ) (items : List (M × V)) (aside : Tree M V) (spare : List ℕ) (link : Link M) → On nodes sub way here level items aside spare → length (before way) + ahead ≡ at → link_at nodes here ≡ Some link → ahead ≡ count_in (tally_at nodes link.left) → StandsAt unit add weight nodes here at items aside spare
  stop_at nodes Leaf way here ahead level at items aside spare link o p el h = absurd (no_link nodes way here level items aside spare link o el)
  stop_at nodes (Fork i m v l r) way here ahead level at items aside spare link o p el h =
      let k = reads nodes i m v l r way here level items aside spare link o el in
      subst (λ x. StandsAt unit add weight nodes x at items aside spare) o.here_is
      (record {
        front = before way ++ flat l;
        measure = m;
        value = v;
        back = flat r ++ after way;
        above = depth way;
        stands = record { left = l; right = r; way = way; zipped = o.zipped; front_is = refl; back_is = refl; above_is = refl };
        place = omega (arith, h, p, ap count_in k.left_tally, count_in-tally unit add (flat l), length-append (before way) (flat l));
        items_are = regroup_left (before way) (flat l) (m, v) (flat r) (after way) ∙ o.items_are;
      })

  pub seeks_stop : (nodes : List (Node M V)) (here ahead level at : ℕ) (items : List (M × V)) (aside : Tree M V) (spare : List ℕ) (link : Link M) → Seeks nodes 1 here ahead level at items aside spare → link_at nodes here ≡ Some link → ahead ≡ count_in (tally_at nodes link.left) → StandsAt unit add weight nodes here at items aside spare
  seeks_stop nodes here ahead level at items aside spare link s el h = stop_at nodes s.sub s.way here ahead level at items aside spare link s.on s.place el h

  -- a walk to an item ends at no empty subtree
  pub seeks_unread : (nodes : List (Node M V)) (here ahead level at : ℕ) (items : List (M × V)) (aside : Tree M V) (spare : List ℕ) → Seeks nodes 1 here ahead level at items aside spare → link_at nodes here ≡ None → ⊥
  seeks_unread nodes here ahead level at items aside spare s e =
      let f : length (flat s.sub) ≡ 0 = ap (λ t. length (flat t)) (ends_unread nodes s.sub s.way here level items aside spare s.on e) in omega (arith, s.inside)

  pub seeks_deep : (nodes : List (Node M V)) (here ahead level at : ℕ) (items : List (M × V)) (aside : Tree M V) (spare : List ℕ) → Seeks nodes 1 here ahead level at items aside spare → length nodes ≤ level → ⊥
  seeks_deep nodes here ahead level at items aside spare s e =
      let f : length (flat s.sub) ≡ 0 = ap (λ t. length (flat t)) (ends_deep nodes s.sub s.way here level items aside spare s.on e) in omega (arith, s.inside)
