-- The first element that passes a test, in lists that grow or lose elements.
use Rattle.std.proofs.Common.{◌≡◌, suc, Bool, true, false, cond, List, [], ◌∷◌, ◌++◌, map, Some, None, refl, arith, All, AllPairs, Contains}
use Rattle.std.specs.Prelude.{find, filter, option_map}
use Rattle.std.proofs.lemmas.List.Elements.{All-cons, All-head, All-tail, All-contains}

module _ {X : Type 0} where
  pub pairs_head : (R : X → X → Type 0) (x : X) (xs : List X) → AllPairs R (x ∷ xs) → All (R x) xs
  pairs_head R x xs h = λ k d within. h 0 (suc k) d (omega arith) (omega arith)

  pub pairs_tail : (R : X → X → Type 0) (x : X) (xs : List X) → AllPairs R (x ∷ xs) → AllPairs R xs
  pairs_tail R x xs h = λ i j d less within. h (suc i) (suc j) d (omega arith) (omega arith)

  found_at : (q : X → Bool) (y : X) (ys : List X) (x : X) (b : Bool) → q y ≡ b → cond b (Some y) (find q ys) ≡ Some x → (find q ys ≡ Some x → q x ≡ true) → q x ≡ true
  found_at q y ys x true s e ih = cc
  found_at q y ys x false s e ih = ih e

  -- what is found passes
  pub found : (q : X → Bool) (xs : List X) (x : X) → find q xs ≡ Some x → q x ≡ true
  found q [] x e = cc
  found q (y ∷ ys) x e = found_at q y ys x (q y) refl e (found q ys x)

  there : (y : X) (ys : List X) (x : X) → Contains ys x → Contains (y ∷ ys) x
  there y ys x h = (suc h.0, (omega arith), h.2)

  found_in_at : (q : X → Bool) (y : X) (ys : List X) (x : X) (b : Bool) → cond b (Some y) (find q ys) ≡ Some x → (find q ys ≡ Some x → Contains ys x) → Contains (y ∷ ys) x
  found_in_at q y ys x true e ih = (0, (omega arith), (cc))
  found_in_at q y ys x false e ih = there y ys x (ih e)

  -- and is an element
  pub found_in : (q : X → Bool) (xs : List X) (x : X) → find q xs ≡ Some x → Contains xs x
  found_in q [] x e = cc
  found_in q (y ∷ ys) x e = found_in_at q y ys x (q y) e (found_in q ys x)

  pub found_all : (P : X → Type 0) (q : X → Bool) (xs : List X) (x : X) → find q xs ≡ Some x → All P xs → P x
  found_all P q xs x e h = All-contains P xs x h (found_in q xs x e)

  none_at : (q : X → Bool) (y : X) (ys : List X) (b : Bool) → q y ≡ b → cond b (Some y) (find q ys) ≡ None → (find q ys ≡ None → All (λ x. q x ≡ false) ys) → All (λ x. q x ≡ false) (y ∷ ys)
  none_at q y ys true s e ih = cc
  none_at q y ys false s e ih = All-cons (λ x. q x ≡ false) y ys s (ih e)

  -- where none is found, none passes
  pub none_found : (q : X → Bool) (xs : List X) → find q xs ≡ None → All (λ x. q x ≡ false) xs
  none_found q [] e = λ k d within. absurd (omega arith)
  none_found q (y ∷ ys) e = none_at q y ys (q y) refl e (none_found q ys)

  none_from : (q : X → Bool) (xs : List X) → All (λ x. q x ≡ false) xs → find q xs ≡ None
  none_from q [] h = refl
  none_from q (y ∷ ys) h = let here : q y ≡ false = All-head (λ x. q x ≡ false) y ys h in rw here (none_from q ys (All-tail (λ x. q x ≡ false) y ys h))

  push_at : (q : X → Bool) (y : X) (ys zs : List X) (x : X) (b : Bool) → cond b (Some y) (find q ys) ≡ Some x → (find q ys ≡ Some x → find q (ys ++ zs) ≡ Some x) → cond b (Some y) (find q (ys ++ zs)) ≡ Some x
  push_at q y ys zs x true e ih = e
  push_at q y ys zs x false e ih = ih e

  -- what is found stays found with more behind
  pub found_push : (q : X → Bool) (xs zs : List X) (x : X) → find q xs ≡ Some x → find q (xs ++ zs) ≡ Some x
  found_push q [] zs x e = cc
  found_push q (y ∷ ys) zs x e = push_at q y ys zs x (q y) e (found_push q ys zs x)

  filter_at : (q k : X → Bool) (y : X) (ys : List X) (x : X) (a b : Bool) → q y ≡ a → k y ≡ b → k x ≡ true → cond a (Some y) (find q ys) ≡ Some x → (find q ys ≡ Some x → find q (filter k ys) ≡ Some x) → find q (cond b (y ∷ filter k ys) (filter k ys)) ≡ Some x
  filter_at q k y ys x true true s t h e ih = rw s e
  filter_at q k y ys x true false s t h e ih = cc
  filter_at q k y ys x false true s t h e ih = rw s (ih e)
  filter_at q k y ys x false false s t h e ih = ih e

  -- what is found and kept is found among those kept
  pub found_filter : (q k : X → Bool) (xs : List X) (x : X) → find q xs ≡ Some x → k x ≡ true → find q (filter k xs) ≡ Some x
  found_filter q k [] x e h = cc
  found_filter q k (y ∷ ys) x e h = filter_at q k y ys x (q y) (k y) refl refl h e (λ s. found_filter q k ys x s h)

  map_at : (q : X → Bool) (f : X → X) (y : X) (ys : List X) (b : Bool) → (find q (map f ys) ≡ option_map f (find q ys)) → cond b (Some (f y)) (find q (map f ys)) ≡ option_map f (cond b (Some y) (find q ys))
  map_at q f y ys true ih = refl
  map_at q f y ys false ih = ih

  -- a change that the test doesn't see
  pub found_map : (q : X → Bool) (f : X → X) → ((x : X) → q (f x) ≡ q x) → (xs : List X) → find q (map f xs) ≡ option_map f (find q xs)
  found_map q f same [] = refl
  found_map q f same (y ∷ ys) = rw (same y) (map_at q f y ys (q y) (found_map q f same ys))

  filters_at : (p q : X → Bool) (y : X) (ys : List X) (b : Bool) → p y ≡ b → q y ≡ b → filter p ys ≡ filter q ys → filter p (y ∷ ys) ≡ filter q (y ∷ ys)
  filters_at p q y ys true s t ih = rw (s, t, ih) refl
  filters_at p q y ys false s t ih = rw (s, t) ih

  -- two tests that agree at each element of the list
  pub filters_agree : (p q : X → Bool) (xs : List X) → All (λ x. p x ≡ q x) xs → filter p xs ≡ filter q xs
  filters_agree p q [] h = refl
  filters_agree p q (y ∷ ys) h = filters_at p q y ys (q y) (All-head (λ x. p x ≡ q x) y ys h) refl (filters_agree p q ys (All-tail (λ x. p x ≡ q x) y ys h))
