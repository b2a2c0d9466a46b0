-- Lists that a loop changes from one end.
use Rattle.std.proofs.Common.{◌≡◌, ◌≢◌, ℕ, zero, suc, ◌+◌, ◌-◌, ◌<◌, ◌≤◌, Bool, true, false, cond, List, [], ◌∷◌, ◌++◌, map, length, get_or, set, take, drop, replicate, refl, sym, ap, ◌∙◌, arith, add-one, append-nil}
use Rattle.std.proofs.lemmas.Grind.{get_or-set_at}
use Rattle.std.proofs.lemmas.List.{get_or-set_other, take_more, length-map, length-take, take-append-drop, take-append-le, take_all}
use Rattle.std.proofs.Math.ListN.{drop_of_length-le}
use Rattle.std.specs.Prelude.{Option, Some, None, is_some, eqb, find, bit_or, ◌==◌, ◌||◌}
use Rattle.std.proofs.lemmas.Bool.Decides.{nat_tests}
use Rattle.std.specs.List.{list_any}
use Rattle.std.proofs.lemmas.Map.Steps.{le-length_from_below}
use Rattle.places.specs.declared.placed.Placed.{Placed}
use Rattle.places.specs.Placed.{without, newest_alone, hands_of, is_live, placed_at, others_of, top_alone}

module _ {X : Type 0} where
  -- the first i elements are changed by f, and the others not yet
  abbrev pub changed_upto : (X → X) → ℕ → List X → List X
  changed_upto f i s = map f (take i s) ++ drop i s

  changed_next : (f : X → X) (i : ℕ) (s : List X) (d : X) → i < length s → set (changed_upto f i s) i (f (get_or (changed_upto f i s) i d)) ≡ changed_upto f (suc i) s
  changed_next f i [] d h = absurd (omega arith)
  changed_next f zero (x ∷ xs) d h = refl
  changed_next f (suc i) (x ∷ xs) d h = ap (λ l. f x ∷ l) (changed_next f i xs d (omega arith))

  pub changed_more : (f : X → X) (i : ℕ) (s ys : List X) (d : X) → ys ≡ changed_upto f i s → i < length s → set ys i (f (get_or ys i d)) ≡ changed_upto f (i + 1) s
  changed_more f i s ys d e h = rw (e, add-one) (changed_next f i s d h)

  same_next : (f : X → X) (i : ℕ) (s : List X) (d : X) → i < length s → f (get_or (changed_upto f i s) i d) ≡ get_or (changed_upto f i s) i d → changed_upto f i s ≡ changed_upto f (suc i) s
  same_next f i [] d h e = absurd (omega arith)
  same_next f zero (x ∷ xs) d h e = ap (λ y. y ∷ xs) (sym e)
  same_next f (suc i) (x ∷ xs) d h e = ap (λ l. f x ∷ l) (same_next f i xs d (omega arith) e)

  -- where f leaves the next element as it is, nothing has to be done
  pub changed_same : (f : X → X) (i : ℕ) (s ys : List X) (d : X) → ys ≡ changed_upto f i s → i < length s → f (get_or ys i d) ≡ get_or ys i d → ys ≡ changed_upto f (i + 1) s
  changed_same f i s ys d e h same = e ∙ rw add-one (same_next f i s d h (rw e at same))

module _ {X : Type 0} where
  -- the entries from i on are narrowed, and those before not yet
  abbrev pub narrowed_from : ℕ → List (Placed X) → List (Placed X)
  narrowed_from i s = take i s ++ newest_alone (drop i s)

  narrowed_next : (j : ℕ) (s z : List (Placed X)) (d : Placed X) → j < length s → set (narrowed_from (suc j) s ++ z) j (without (hands_of (drop (suc j) s)) (get_or (narrowed_from (suc j) s ++ z) j d)) ≡ narrowed_from j s ++ z
  narrowed_next j [] z d h = absurd (omega arith)
  narrowed_next zero (x ∷ xs) z d h = refl
  narrowed_next (suc j) (x ∷ xs) z d h = ap (λ l. x ∷ l) (narrowed_next j xs z d (omega arith))

  pub narrowed_more : (i j : ℕ) (s z ys : List (Placed X)) (d : Placed X) → i ≡ suc j → j < length s → ys ≡ narrowed_from i s ++ z → set ys j (without (hands_of (drop i s)) (get_or ys j d)) ≡ narrowed_from j s ++ z
  narrowed_more i j s z ys d at h e = rw (e, at) (narrowed_next j s z d h)

  hands_next : (j : ℕ) (s z : List (Placed X)) (d : Placed X) → j < length s → bit_or (hands_of (drop (suc j) s)) (get_or (narrowed_from (suc j) s ++ z) j d).mask ≡ hands_of (drop j s)
  hands_next j [] z d h = absurd (omega arith)
  hands_next zero (x ∷ xs) z d h = refl
  hands_next (suc j) (x ∷ xs) z d h = hands_next j xs z d (omega arith)

  pub hands_more : (i j : ℕ) (s z ys : List (Placed X)) (d : Placed X) → i ≡ suc j → j < length s → ys ≡ narrowed_from i s ++ z → bit_or (hands_of (drop i s)) (get_or ys j d).mask ≡ hands_of (drop j s)
  hands_more i j s z ys d at h e = rw (e, at) (hands_next j s z d h)

module _ {X : Type 0} where
  -- before the first step nothing is narrowed
  pub narrowed_none : (t : List (Placed X)) → (0 ≡ hands_of (drop (length t - 1) (others_of t))) × (t ≡ narrowed_from (length t - 1) (others_of t) ++ top_alone t)
  narrowed_none t =
      let long : length (others_of t) ≤ length t - 1 = omega (arith, length-take (length t - 1) t) in
      let none = drop_of_length-le (others_of t) {i = length t - 1} long in
      let all = take_all (length t - 1) (others_of t) long in
      (rw none refl, rw (none, all, append-nil) (sym (take-append-drop (length t - 1) t)))

  -- a list that was lent whole and written
  pub whole_again : (n : ℕ) (new items : List (Placed X)) → length new ≡ n → take n (new ++ drop (length new) items) ≡ new
  whole_again n new items e = take-append-le n new (drop (length new) items) (omega arith) ∙ take_all n new (omega arith)

-- nothing is marked in a list of no marks
pub unmarked : (n p : ℕ) → get_or (replicate n false) p false ≡ false
unmarked zero p = refl
unmarked (suc n) zero = refl
unmarked (suc n) (suc p) = unmarked n p

set_at : (ks : List Bool) (i p : ℕ) (b : Bool) → p < length ks → (i == p) ≡ b → get_or (set ks i true) p false ≡ b || get_or ks p false
set_at ks i p true h s = let e : p ≡ i = grind (arith, nat_tests) in get_or-set_at ks i p true false e (omega arith)
set_at ks i p false h s = let e : p ≢ i = grind (arith, nat_tests) in get_or-set_other ks i p true false e

-- one more is marked
pub set_marks : (ks : List Bool) (i : ℕ) → (p : ℕ) → p < length ks → get_or (set ks i true) p false ≡ (i == p) || get_or ks p false
set_marks ks i p h = set_at ks i p (i == p) h refl

-- none is marked but one
pub marked_alone : (b c : Bool) → c ≡ false → b || c ≡ b
marked_alone true c e = refl
marked_alone false c e = e

or_true : (b : Bool) → true ≡ b || true
or_true true = refl
or_true false = refl

live_one : {X : Type 0} (e : Placed X) (p : ℕ) (b : Bool) → is_some (cond b (Some e) None) ≡ b || false
live_one e p true = refl
live_one e p false = refl

live_at : {X : Type 0} (e y : Placed X) (ys : List (Placed X)) (p : ℕ) (a : Bool) → is_live (ys ++ e ∷ []) p ≡ (e.place == p) || is_live ys p → is_some (cond a (Some y) (find (λ e. e.place == p) (ys ++ e ∷ []))) ≡ (e.place == p) || is_some (cond a (Some y) (find (λ e. e.place == p) ys))
live_at e y ys p true ih = or_true (e.place == p)
live_at e y ys p false ih = ih

-- one more is live
pub live_push : {X : Type 0} (xs : List (Placed X)) (e : Placed X) (p : ℕ) → is_live (xs ++ e ∷ []) p ≡ (e.place == p) || is_live xs p
live_push [] e p = live_one e p (e.place == p)
live_push (y ∷ ys) e p = live_at e y ys p (y.place == p) (live_push ys e p)

pub live_more : {X : Type 0} (s : List (Placed X)) (i : ℕ) (e : Placed X) (p : ℕ) → i < length s → e ≡ get_or s i e → is_live (take (i + 1) s) p ≡ (e.place == p) || is_live (take i s) p
live_more s i e p h at = let one : take (i + 1) s ≡ take i s ++ e ∷ [] = take_more s i e h ∙ ap (λ x. take i s ++ x ∷ []) (sym at) in rw one (live_push (take i s) e p)

not_live_at : {X : Type 0} (o : Option (Placed X)) → is_some o ≡ false → o ≡ None
not_live_at None e = refl
not_live_at (Some x) e = cc

pub not_live : {X : Type 0} (t : List (Placed X)) (p : ℕ) → is_live t p ≡ false → placed_at t p ≡ None
not_live t p e = not_live_at (placed_at t p) e

among_at : {X : Type 0} (e : Placed X) (es : List (Placed X)) (q : ℕ) (b : Bool) → (e.place == q) ≡ b → is_some (cond b (Some e) (placed_at es q)) ≡ true → (is_live es q ≡ true → list_any (eqb q) (map (λ e. e.place) es) ≡ true) → list_any (eqb q) (map (λ e. e.place) (e ∷ es)) ≡ true
among_at e es q true s h ih = let same : eqb q e.place ≡ true = grind (arith, nat_tests) in rw same refl
among_at e es q false s h ih = let other : eqb q e.place ≡ false = grind (arith, nat_tests) in rw other (ih h)

live_among : {X : Type 0} (t : List (Placed X)) (q : ℕ) → is_live t q ≡ true → list_any (eqb q) (map (λ e. e.place) t) ≡ true
live_among [] q h = cc
live_among (e ∷ es) q h = among_at e es q (e.place == q) refl h (live_among es q)

-- where each of n places is taken, there are n of them
pub all_live : {X : Type 0} (t : List (Placed X)) (n : ℕ) → ((q : ℕ) → q < n → is_live t q ≡ true) → n ≤ length t
all_live t n h = omega (arith, le-length_from_below (map (λ e. e.place) t) n (λ q less. live_among t q (h q less)), length-map t (λ e. e.place))
