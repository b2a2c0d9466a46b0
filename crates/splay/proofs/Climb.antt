-- How lifting a node or its parent changes where the node stands.
use Rattle.std.proofs.Common.{◌≡◌, ℕ, zero, suc, ◌+◌, ◌≤◌, ◌<◌, List, [], ◌∷◌, ◌++◌, length, Some, refl, sym, ap, ◌∙◌, subst, arith, length-append, append_assoc}
use Rattle.splay.specs.Tree.{Tree, Way, Fork, Top, LeftOf, RightOf, flat, before, after, above, depth}
use Rattle.splay.specs.Nodes.{link_at, Zipped}
use Rattle.splay.specs.Places.{IsNode, Stands, LiftsLeft, LiftsRight, Rises, RisesToTop, IsTop}
use Rattle.splay.proofs.LiftCalls.{link_read, none_read}
use Rattle.splay.proofs.Zip.{up_left, up_right, down_left, down_right}
use Rattle.splay.specs.declared.store.Link.{Link}
use Rattle.splay.specs.declared.store.Node.{Node}

module _ {M V : Type 0} (unit : M) (add : M → M → M) (weight : M → ℕ) where
  pub stands_node : (nodes : List (Node M V)) (x : ℕ) (front : List (M × V)) (m : M) (v : V) (back : List (M × V)) (aside : Tree M V) (spare : List ℕ) (n : ℕ) → Stands unit add weight nodes x front m v back aside spare n → IsNode unit add weight nodes x
  stands_node nodes x front m v back aside spare n s = record {
    measure = m;
    value = v;
    left = s.left;
    right = s.right;
    way = s.way;
    aside = aside;
    spare = spare;
    zipped = s.zipped;
  }

  pub node_stands : (nodes : List (Node M V)) (x : ℕ) (i : IsNode unit add weight nodes x) → Stands unit add weight nodes x (before i.way ++ flat i.left) i.measure i.value (flat i.right ++ after i.way) i.aside i.spare (depth i.way)
  node_stands nodes x i = record {
    left = i.left;
    right = i.right;
    way = i.way;
    zipped = i.zipped;
    front_is = refl;
    back_is = refl;
    above_is = refl;
  }

  -- one lifting takes a node up by one
  lifted_once : (old new : List (Node M V)) (x : ℕ) (m : M) (v : V) (a b : Tree M V) (w : Way M V) (aside : Tree M V) (spare : List ℕ) (k : ℕ) → LiftsLeft unit add weight old new x → LiftsRight unit add weight old new x → Zipped unit add weight old (Fork x m v a b) w aside spare → depth w ≡ suc k → Stands unit add weight new x (before w ++ flat a) m v (flat b ++ after w) aside spare k
  lifted_once old new x m v a b Top aside spare k ll lr z e = absurd (omega arith)
  lifted_once old new x m v a b (LeftOf y n u c w) aside spare k ll lr z e = record {
    left = a;
    right = Fork y n u b c;
    way = w;
    zipped = ll y m n v u a b c w aside spare z;
    front_is = refl;
    back_is = append_assoc (flat b) ((n, u) ∷ flat c) (after w);
    above_is = omega arith;
  }
  lifted_once old new x m v a b (RightOf y n u c w) aside spare k ll lr z e = record {
    left = Fork y n u c a;
    right = b;
    way = w;
    zipped = lr y m n v u a b c w aside spare z;
    front_is = sym (append_assoc (before w) (flat c ++ (n, u) ∷ []) (flat a) ∙ ap (λ zs. before w ++ zs) (append_assoc (flat c) ((n, u) ∷ []) (flat a)));
    back_is = refl;
    above_is = omega arith;
  }

  same_stand : (nodes : List (Node M V)) (x : ℕ) (f f' : List (M × V)) (m : M) (v : V) (b b' : List (M × V)) (aside : Tree M V) (spare : List ℕ) (n : ℕ) → f ≡ f' → b ≡ b' → Stands unit add weight nodes x f m v b aside spare n → Stands unit add weight nodes x f' m v b' aside spare n
  same_stand nodes x f f' m v b b' aside spare n ef eb s = record {
    left = s.left;
    right = s.right;
    way = s.way;
    zipped = s.zipped;
    front_is = s.front_is ∙ ef;
    back_is = s.back_is ∙ eb;
    above_is = s.above_is;
  }

  pub lift_once : (old new : List (Node M V)) (x : ℕ) (front : List (M × V)) (m : M) (v : V) (back : List (M × V)) (aside : Tree M V) (spare : List ℕ) (k : ℕ) → LiftsLeft unit add weight old new x → LiftsRight unit add weight old new x → Stands unit add weight old x front m v back aside spare (suc k) → Stands unit add weight new x front m v back aside spare k
  lift_once old new x front m v back aside spare k ll lr s =
      same_stand new x _ front m v _ back aside spare k s.front_is s.back_is (lifted_once old new x m v s.left s.right s.way aside spare k ll lr s.zipped s.above_is)

  regroup : (f d : List (M × V)) (p : M × V) (r : List (M × V)) → f ++ (d ++ p ∷ r) ≡ f ++ (d ++ p ∷ []) ++ r
  regroup f d p r = ap (λ zs. f ++ zs) (sym (append_assoc d (p ∷ []) r)) ∙ sym (append_assoc f (d ++ p ∷ []) r)

  -- lifting the parent takes a node no further down
  record NotLower (new : List (Node M V)) (x : ℕ) (front : List (M × V)) (m : M) (v : V) (back : List (M × V)) (aside : Tree M V) (spare : List ℕ) (n : ℕ) : Type 0 where
    count : ℕ
    stands : Stands unit add weight new x front m v back aside spare (suc count)
    bound : suc count ≤ n

  parent_of_left : (old new : List (Node M V)) (x y : ℕ) (m n : M) (v u : V) (a b c : Tree M V) (w : Way M V) (aside : Tree M V) (spare : List ℕ) → LiftsLeft unit add weight old new y → LiftsRight unit add weight old new y → Zipped unit add weight old (Fork x m v a b) (LeftOf y n u c w) aside spare → 1 ≤ depth w → NotLower new x (before w ++ flat a) m v (flat b ++ (n, u) ∷ (flat c ++ after w)) aside spare (suc (depth w))
  parent_of_left old new x y m n v u a b c Top aside spare ll lr z e = absurd (omega arith)
  parent_of_left old new x y m n v u a b c (LeftOf z p q d w) aside spare ll lr h e =
      let k = up_left unit add weight old y n u (Fork x m v a b) c (LeftOf z p q d w) aside spare h in
      let l = ll z n p u q (Fork x m v a b) c d w aside spare k in
      record {
        count = depth w;
        stands = record {
          left = a;
          right = b;
          way = LeftOf y n u (Fork z p q c d) w;
          zipped = down_left unit add weight new y n u (Fork x m v a b) (Fork z p q c d) w aside spare l;
          front_is = refl;
          back_is = ap (λ zs. flat b ++ (n, u) ∷ zs) (append_assoc (flat c) ((p, q) ∷ flat d) (after w));
          above_is = refl;
        };
        bound = omega arith;
      }
  parent_of_left old new x y m n v u a b c (RightOf z p q d w) aside spare ll lr h e =
      let k = up_left unit add weight old y n u (Fork x m v a b) c (RightOf z p q d w) aside spare h in
      let l = lr z n p u q (Fork x m v a b) c d w aside spare k in
      let i = down_left unit add weight new y n u (Fork z p q d (Fork x m v a b)) c w aside spare l in
      record {
        count = suc (depth w);
        stands = record {
          left = a;
          right = b;
          way = RightOf z p q d (LeftOf y n u c w);
          zipped = down_right unit add weight new z p q (Fork x m v a b) d (LeftOf y n u c w) aside spare i;
          front_is = refl;
          back_is = refl;
          above_is = refl;
        };
        bound = omega arith;
      }

  parent_of_right : (old new : List (Node M V)) (x y : ℕ) (m n : M) (v u : V) (a b c : Tree M V) (w : Way M V) (aside : Tree M V) (spare : List ℕ) → LiftsLeft unit add weight old new y → LiftsRight unit add weight old new y → Zipped unit add weight old (Fork x m v a b) (RightOf y n u c w) aside spare → 1 ≤ depth w → NotLower new x (before w ++ (flat c ++ (n, u) ∷ []) ++ flat a) m v (flat b ++ after w) aside spare (suc (depth w))
  parent_of_right old new x y m n v u a b c Top aside spare ll lr z e = absurd (omega arith)
  parent_of_right old new x y m n v u a b c (LeftOf z p q d w) aside spare ll lr h e =
      let k = up_right unit add weight old y n u (Fork x m v a b) c (LeftOf z p q d w) aside spare h in
      let l = ll z n p u q c (Fork x m v a b) d w aside spare k in
      let i = down_right unit add weight new y n u (Fork z p q (Fork x m v a b) d) c w aside spare l in
      record {
        count = suc (depth w);
        stands = record {
          left = a;
          right = b;
          way = LeftOf z p q d (RightOf y n u c w);
          zipped = down_left unit add weight new z p q (Fork x m v a b) d (RightOf y n u c w) aside spare i;
          front_is = refl;
          back_is = refl;
          above_is = refl;
        };
        bound = omega arith;
      }
  parent_of_right old new x y m n v u a b c (RightOf z p q d w) aside spare ll lr h e =
      let k = up_right unit add weight old y n u (Fork x m v a b) c (RightOf z p q d w) aside spare h in
      let l = lr z n p u q c (Fork x m v a b) d w aside spare k in
      record {
        count = depth w;
        stands = record {
          left = a;
          right = b;
          way = RightOf y n u (Fork z p q d c) w;
          zipped = down_right unit add weight new y n u (Fork x m v a b) (Fork z p q d c) w aside spare l;
          front_is = ap (λ zs. zs ++ flat a) (ap (λ zs. before w ++ zs) (append_assoc (flat d) ((p, q) ∷ flat c) ((n, u) ∷ [])) ∙ regroup (before w) (flat d) (p, q) (flat c ++ (n, u) ∷ []));
          back_is = refl;
          above_is = refl;
        };
        bound = omega arith;
      }

  -- the parent lifted, and then the node
  both_lifted : (old mid new : List (Node M V)) (x y : ℕ) (m : M) (v : V) (a b : Tree M V) (w : Way M V) (aside : Tree M V) (spare : List ℕ) → LiftsLeft unit add weight old mid y → LiftsRight unit add weight old mid y → LiftsLeft unit add weight mid new x → LiftsRight unit add weight mid new x → Zipped unit add weight old (Fork x m v a b) w aside spare → above w ≡ y → 2 ≤ depth w → (k : ℕ) × (k < depth w) × Stands unit add weight new x (before w ++ flat a) m v (flat b ++ after w) aside spare k
  both_lifted old mid new x y m v a b Top aside spare ll lr ml mr z e h = absurd (omega arith)
  both_lifted old mid new x y m v a b (LeftOf y' n u c w) aside spare ll lr ml mr z e h =
      let s = parent_of_left old mid x y' m n v u a b c w aside spare (subst (λ i. LiftsLeft unit add weight old mid i) (sym e) ll) (subst (λ i. LiftsRight unit add weight old mid i) (sym e) lr) z (omega arith) in
      (s.count, omega (arith, s.bound), lift_once mid new x _ m v _ aside spare s.count ml mr s.stands)
  both_lifted old mid new x y m v a b (RightOf y' n u c w) aside spare ll lr ml mr z e h =
      let s = parent_of_right old mid x y' m n v u a b c w aside spare (subst (λ i. LiftsLeft unit add weight old mid i) (sym e) ll) (subst (λ i. LiftsRight unit add weight old mid i) (sym e) lr) z (omega arith) in
      (s.count, omega (arith, s.bound), lift_once mid new x _ m v _ aside spare s.count ml mr s.stands)

  under : (old mid : List (Node M V)) (x y : ℕ) (m : M) (v : V) (a b : Tree M V) (w : Way M V) (aside : Tree M V) (spare : List ℕ) → LiftsLeft unit add weight old mid y → LiftsRight unit add weight old mid y → Zipped unit add weight old (Fork x m v a b) w aside spare → above w ≡ y → 2 ≤ depth w → IsNode unit add weight mid x
  under old mid x y m v a b Top aside spare ll lr z e h = absurd (omega arith)
  under old mid x y m v a b (LeftOf y' n u c w) aside spare ll lr z e h =
      let s = parent_of_left old mid x y' m n v u a b c w aside spare (subst (λ i. LiftsLeft unit add weight old mid i) (sym e) ll) (subst (λ i. LiftsRight unit add weight old mid i) (sym e) lr) z (omega arith) in
      stands_node mid x _ m v _ aside spare (suc s.count) s.stands
  under old mid x y m v a b (RightOf y' n u c w) aside spare ll lr z e h =
      let s = parent_of_right old mid x y' m n v u a b c w aside spare (subst (λ i. LiftsLeft unit add weight old mid i) (sym e) ll) (subst (λ i. LiftsRight unit add weight old mid i) (sym e) lr) z (omega arith) in
      stands_node mid x _ m v _ aside spare (suc s.count) s.stands

  -- the node that is read above is there
  way_read : (nodes : List (Node M V)) (x : ℕ) (low : Link M) (m : M) (v : V) (a b : Tree M V) (w : Way M V) (aside : Tree M V) (spare : List ℕ) → Zipped unit add weight nodes (Fork x m v a b) w aside spare → link_at nodes x ≡ Some low → above w ≡ low.parent
  way_read nodes x low m v a b w aside spare z el = ap (λ (k : Link M). k.parent) (link_read nodes x _ low z.here.0 el)

  one_above : (nodes : List (Node M V)) (t : Tree M V) (w : Way M V) (aside : Tree M V) (spare : List ℕ) (high : Link M) → Zipped unit add weight nodes t w aside spare → link_at nodes (above w) ≡ Some high → 1 ≤ depth w
  one_above nodes t Top aside spare high z eh = absurd (none_read nodes high (omega (arith, z.small)) eh)
  one_above nodes t (LeftOf y n u c w) aside spare high z eh = omega arith
  one_above nodes t (RightOf y n u c w) aside spare high z eh = omega arith

  two_above : (nodes : List (Node M V)) (t : Tree M V) (w : Way M V) (aside : Tree M V) (spare : List ℕ) (mid high : Link M) → Zipped unit add weight nodes t w aside spare → link_at nodes (above w) ≡ Some mid → link_at nodes mid.parent ≡ Some high → 2 ≤ depth w
  two_above nodes t Top aside spare mid high z em eh = absurd (none_read nodes mid (omega (arith, z.small)) em)
  two_above nodes t (LeftOf y n u c w) aside spare mid high z em eh =
      let e = link_read nodes y _ mid z.way.0 em in
      let k = one_above nodes (Fork y n u t c) w aside spare high (up_left unit add weight nodes y n u t c w aside spare z) (subst (λ (k : Link M). link_at nodes k.parent ≡ Some high) (sym e) eh) in
      omega arith
  two_above nodes t (RightOf y n u c w) aside spare mid high z em eh =
      let e = link_read nodes y _ mid z.way.0 em in
      let k = one_above nodes (Fork y n u c t) w aside spare high (up_right unit add weight nodes y n u t c w aside spare z) (subst (λ (k : Link M). link_at nodes k.parent ≡ Some high) (sym e) eh) in
      omega arith

  -- the cases of a climb
  pub rises_once : (old new : List (Node M V)) (x : ℕ) (low high : Link M) → link_at old x ≡ Some low → link_at old low.parent ≡ Some high → LiftsLeft unit add weight old new x → LiftsRight unit add weight old new x → Rises unit add weight old new x
  rises_once old new x low high el eh ll lr front m v back aside spare zero s =
      absurd (let k = one_above old (Fork x m v s.left s.right) s.way aside spare high s.zipped (rw (way_read old x low m v s.left s.right s.way aside spare s.zipped el) eh) in omega (arith, s.above_is))
  rises_once old new x low high el eh ll lr front m v back aside spare (suc n) s = (n, omega arith, lift_once old new x front m v back aside spare n ll lr s)

  two_or_more : (old : List (Node M V)) (x : ℕ) (low mid high : Link M) (front : List (M × V)) (m : M) (v : V) (back : List (M × V)) (aside : Tree M V) (spare : List ℕ) (n : ℕ) → link_at old x ≡ Some low → link_at old low.parent ≡ Some mid → link_at old mid.parent ≡ Some high → Stands unit add weight old x front m v back aside spare n → 2 ≤ n
  two_or_more old x low mid high front m v back aside spare n el em eh s =
      let k = two_above old (Fork x m v s.left s.right) s.way aside spare mid high s.zipped (rw (way_read old x low m v s.left s.right s.way aside spare s.zipped el) em) eh in omega (arith, s.above_is)

  pub rises_twice : (old mid new : List (Node M V)) (x : ℕ) (low middle high : Link M) → link_at old x ≡ Some low → link_at old low.parent ≡ Some middle → link_at old middle.parent ≡ Some high → LiftsLeft unit add weight old mid x → LiftsRight unit add weight old mid x → LiftsLeft unit add weight mid new x → LiftsRight unit add weight mid new x → Rises unit add weight old new x
  rises_twice old mid new x low middle high el em eh ll lr ml mr front m v back aside spare zero s =
      absurd (let k = two_or_more old x low middle high front m v back aside spare 0 el em eh s in omega arith)
  rises_twice old mid new x low middle high el em eh ll lr ml mr front m v back aside spare (suc zero) s =
      absurd (let k = two_or_more old x low middle high front m v back aside spare 1 el em eh s in omega arith)
  rises_twice old mid new x low middle high el em eh ll lr ml mr front m v back aside spare (suc (suc n)) s =
      (n, omega arith, lift_once mid new x front m v back aside spare n ml mr (lift_once old mid x front m v back aside spare (suc n) ll lr s))

  pub rises_with_parent : (old mid new : List (Node M V)) (x : ℕ) (low middle high : Link M) → link_at old x ≡ Some low → link_at old low.parent ≡ Some middle → link_at old middle.parent ≡ Some high → LiftsLeft unit add weight old mid low.parent → LiftsRight unit add weight old mid low.parent → LiftsLeft unit add weight mid new x → LiftsRight unit add weight mid new x → Rises unit add weight old new x
  rises_with_parent old mid new x low middle high el em eh ll lr ml mr front m v back aside spare n s =
      let two = two_or_more old x low middle high front m v back aside spare n el em eh s in
      let r = both_lifted old mid new x low.parent m v s.left s.right s.way aside spare ll lr ml mr s.zipped (way_read old x low m v s.left s.right s.way aside spare s.zipped el) (omega (arith, s.above_is)) in
      (r.0, omega (arith, r.1, s.above_is), same_stand new x _ front m v _ back aside spare r.0 s.front_is s.back_is r.2)

  -- what the second lifting of a climb asks for
  parent_node : (nodes : List (Node M V)) (x y : ℕ) (m : M) (v : V) (a b : Tree M V) (w : Way M V) (aside : Tree M V) (spare : List ℕ) → Zipped unit add weight nodes (Fork x m v a b) w aside spare → above w ≡ y → 1 ≤ depth w → IsNode unit add weight nodes y
  parent_node nodes x y m v a b Top aside spare z e h = absurd (omega arith)
  parent_node nodes x y m v a b (LeftOf y' n u c w) aside spare z e h =
      subst (λ i. IsNode unit add weight nodes i) e
      (record { measure = n; value = u; left = Fork x m v a b; right = c; way = w; aside = aside; spare = spare; zipped = up_left unit add weight nodes y' n u (Fork x m v a b) c w aside spare z })
  parent_node nodes x y m v a b (RightOf y' n u c w) aside spare z e h =
      subst (λ i. IsNode unit add weight nodes i) e
      (record { measure = n; value = u; left = c; right = Fork x m v a b; way = w; aside = aside; spare = spare; zipped = up_right unit add weight nodes y' n u (Fork x m v a b) c w aside spare z })

  pub node_above : (nodes : List (Node M V)) (x : ℕ) (low high : Link M) → IsNode unit add weight nodes x → link_at nodes x ≡ Some low → link_at nodes low.parent ≡ Some high → IsNode unit add weight nodes low.parent
  node_above nodes x low high i el eh =
      let e = way_read nodes x low i.measure i.value i.left i.right i.way i.aside i.spare i.zipped el in
      parent_node nodes x low.parent i.measure i.value i.left i.right i.way i.aside i.spare i.zipped e
      (one_above nodes (Fork x i.measure i.value i.left i.right) i.way i.aside i.spare high i.zipped (rw e eh))

  pub node_lifted : (old mid : List (Node M V)) (x : ℕ) (low high : Link M) → IsNode unit add weight old x → link_at old x ≡ Some low → link_at old low.parent ≡ Some high → LiftsLeft unit add weight old mid x → LiftsRight unit add weight old mid x → IsNode unit add weight mid x
  node_lifted old mid x low high i el eh ll lr =
      let r = rises_once old mid x low high el eh ll lr _ i.measure i.value _ i.aside i.spare (depth i.way) (node_stands old x i) in
      stands_node mid x _ i.measure i.value _ i.aside i.spare r.0 r.2

  pub node_under_lifted : (old mid : List (Node M V)) (x : ℕ) (low middle high : Link M) → IsNode unit add weight old x → link_at old x ≡ Some low → link_at old low.parent ≡ Some middle → link_at old middle.parent ≡ Some high → LiftsLeft unit add weight old mid low.parent → LiftsRight unit add weight old mid low.parent → IsNode unit add weight mid x
  node_under_lifted old mid x low middle high i el em eh ll lr =
      let e = way_read old x low i.measure i.value i.left i.right i.way i.aside i.spare i.zipped el in
      let two = two_above old (Fork x i.measure i.value i.left i.right) i.way i.aside i.spare middle high i.zipped (rw e em) eh in
      under old mid x low.parent i.measure i.value i.left i.right i.way i.aside i.spare ll lr i.zipped e two

  -- the node stands at least so many levels higher
  abbrev pub RisesBy : List (Node M V) → List (Node M V) → ℕ → ℕ → Type 0
  RisesBy old new x level =
      (front : List (M × V)) (m : M) (v : V) (back : List (M × V)) (aside : Tree M V) (spare : List ℕ) (n : ℕ)
      → Stands unit add weight old x front m v back aside spare n
      → (k : ℕ) × (k + level ≤ n) × Stands unit add weight new x front m v back aside spare k

  pub risen_node : (old new : List (Node M V)) (x level : ℕ) → IsNode unit add weight old x → RisesBy old new x level → IsNode unit add weight new x
  risen_node old new x level i by =
      let r = by _ i.measure i.value _ i.aside i.spare (depth i.way) (node_stands old x i) in
      stands_node new x _ i.measure i.value _ i.aside i.spare r.0 r.2

  pub risen_more : (old mid new : List (Node M V)) (x level : ℕ) → RisesBy old mid x level → Rises unit add weight mid new x → RisesBy old new x (level + 1)
  risen_more old mid new x level by more front m v back aside spare n s =
      let r = by front m v back aside spare n s in
      let q = more front m v back aside spare r.0 r.2 in
      (q.0, omega (arith, r.1, q.1), q.2)

  pub risen_top : (old mid : List (Node M V)) (x level : ℕ) → RisesBy old mid x level → IsTop unit add weight mid x → RisesToTop unit add weight old mid x
  risen_top old mid x level by top front m v back aside spare n s =
      let r = by front m v back aside spare n s in
      subst (λ k. Stands unit add weight mid x front m v back aside spare k) (top front m v back aside spare r.0 r.2) r.2

  way_within : (w : Way M V) → depth w ≤ length (before w) + length (after w)
  way_within Top = omega arith
  way_within (LeftOf y n u c w) = omega (arith, way_within w, length-append (flat c) (after w))
  way_within (RightOf y n u c w) = omega (arith, way_within w, length-append (before w) (flat c ++ (n, u) ∷ []), length-append (flat c) ((n, u) ∷ []))

  -- after as many levels as there are nodes a node is at the top
  pub risen_all : (old mid : List (Node M V)) (x level : ℕ) → RisesBy old mid x level → length old ≤ level → RisesToTop unit add weight old mid x
  risen_all old mid x level by all front m v back aside spare n s =
      let r = by front m v back aside spare n s in
      let e : r.0 ≡ 0 = omega (arith, r.1, s.above_is, way_within s.way, s.zipped.counted) in
      subst (λ k. Stands unit add weight mid x front m v back aside spare k) e r.2
