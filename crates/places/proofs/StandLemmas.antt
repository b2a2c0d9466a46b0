-- What stands on what.
use Rattle.std.proofs.Common.{◌≡◌, ◌≢◌, ℕ, zero, suc, ◌-◌, ◌<◌, Bool, true, false, List, [], ◌∷◌, length, get_or, Option, Some, None, refl, arith, All, AllPairs, Contains}
use Rattle.std.specs.Prelude.{◌==◌, ◌||◌, MatchOption}
use Rattle.std.specs.List.{list_any}
use Rattle.std.proofs.lemmas.Bool.Decides.{nat_tests}
use Rattle.std.proofs.lemmas.Option.{slice_get-get_or}
use Rattle.std.proofs.lemmas.List.Elements.{All-cons, All-contains, Contains-get_or}
use Rattle.places.specs.declared.placed.Placed.{Placed}
use Rattle.places.specs.Placed.{placed_at, parent_of, top_of}
use Rattle.places.specs.Table.{IsOver, StandsIn, IsTable}
use Rattle.places.specs.Marking.{is_parent}
use Rattle.places.proofs.FindLemmas.{pairs_head, pairs_tail, found, found_all}

pub same_number : (n : ℕ) → (n == n) ≡ true
same_number n = grind (arith, nat_tests)

pub number_is : (m n : ℕ) → (m == n) ≡ true → m ≡ n
number_is m n e = grind (arith, nat_tests)

pub number_not : (m n : ℕ) → m ≢ n → (m == n) ≡ false
number_not m n h = grind (arith, nat_tests)

any_at : {X : Type 0} (q : X → Bool) (x : X) (xs : List X) (b : Bool) → q x ≡ b → b || list_any q xs ≡ true → (list_any q xs ≡ true → (y : X) × Contains xs y × (q y ≡ true)) → (y : X) × Contains (x ∷ xs) y × (q y ≡ true)
any_at q x xs true s e ih = (x, (0, (omega arith), refl), s)
any_at q x xs false s e ih = let got = ih e in (got.0, (suc got.1.0, (omega (arith, got.1.1)), got.1.2), got.2)

pub any_found : {X : Type 0} (q : X → Bool) (xs : List X) → list_any q xs ≡ true → (x : X) × Contains xs x × (q x ≡ true)
any_found q [] e = cc
any_found q (x ∷ xs) e = any_at q x xs (q x) refl e (any_found q xs)

or_right : (a b : Bool) → b ≡ true → a || b ≡ true
or_right true b e = refl
or_right false b e = e

pub any_true : {X : Type 0} (q : X → Bool) (xs : List X) (x : X) → Contains xs x → q x ≡ true → list_any q xs ≡ true
any_true q [] x h e = absurd (omega (arith, h.1))
any_true q (y ∷ ys) x (zero, within, at) e = let here : q y ≡ true = rw (at) e in rw here refl
any_true q (y ∷ ys) x (suc k, within, at) e = or_right (q y) (list_any q ys) (any_true q ys x (k, (omega arith), at) e)

module _ {X : Type 0} where
  itself_at : (e f : Placed X) (es : List (Placed X)) → e.place ≢ f.place → placed_at es f.place ≡ Some f → placed_at (e ∷ es) f.place ≡ Some f
  itself_at e f es ne h = rw (number_not e.place f.place ne) h

  -- at its place an entry is found
  pub itself : (t : List (Placed X)) → AllPairs (λ a b. a.place ≢ b.place) t → All (λ e. placed_at t e.place ≡ Some e) t
  itself [] h = λ k d within. absurd (omega arith)
  itself (e ∷ es) h =
      All-cons (λ f. placed_at (e ∷ es) f.place ≡ Some f) e es
      (rw (same_number e.place) refl)
      (λ k d within. itself_at e (get_or es k d) es (pairs_head (λ a b. a.place ≢ b.place) e es h k d within) (itself es (pairs_tail (λ a b. a.place ≢ b.place) e es h) k d within))

  pub here_is : (t : List (Placed X)) → IsTable t → (e : Placed X) → Contains t e → placed_at t e.place ≡ Some e
  here_is t is e h = All-contains (λ e. placed_at t e.place ≡ Some e) t e (itself t is.apart) h

  -- what stands at a place has its number
  pub place_is : (t : List (Placed X)) (p : ℕ) (f : Placed X) → placed_at t p ≡ Some f → f.place ≡ p
  place_is t p f e = number_is f.place p (found (λ e. e.place == p) t f e)

  parent_at : (t : List (Placed X)) (p : ℕ) (f : Placed X) (q : ℕ) → placed_at t p ≡ Some f → parent_of t p ≡ Some q → f.parent ≡ Some q
  parent_at t p f q e h = rw e at h

  stands_at : (f : Placed X) (t : List (Placed X)) (q : ℕ) (o : Option ℕ) → o ≡ Some q → MatchOption o (f.depth ≡ 1) (λ p. MatchOption (placed_at t p) ⊥ (λ g. IsOver f g)) → MatchOption (placed_at t q) ⊥ (λ g. IsOver f g)
  stands_at f t q None e h = cc
  stands_at f t q (Some p) e h = let same : p ≡ q = cc in rw same at h

  over_some : (f : Placed X) (o : Option (Placed X)) → MatchOption o ⊥ (λ g. IsOver f g) → (g : Placed X) × (o ≡ Some g) × IsOver f g
  over_some f None h = absurd h
  over_some f (Some g) h = (g, refl, h)

  -- what is below stands there
  pub below : (t : List (Placed X)) → IsTable t → (p : ℕ) (f : Placed X) (q : ℕ) → placed_at t p ≡ Some f → f.parent ≡ Some q → (g : Placed X) × (placed_at t q ≡ Some g) × IsOver f g
  below t is p f q e h = over_some f (placed_at t q) (stands_at f t q f.parent h (found_all (StandsIn t) (λ e. e.place == p) t f e is.over))

  -- the top is there
  pub top_there : (t : List (Placed X)) → 0 < length t → (e : Placed X) × Contains t e × (top_of t ≡ Some e)
  top_there [] h = absurd (omega arith)
  top_there (x ∷ xs) h = let at : length (x ∷ xs) - 1 < length (x ∷ xs) = omega arith in
      (get_or (x ∷ xs) (length (x ∷ xs) - 1) x, Contains-get_or (x ∷ xs) (length (x ∷ xs) - 1) x at, slice_get-get_or (x ∷ xs) (length (x ∷ xs) - 1) x at)

  -- no older entry stands on a newer one
  not_below_at : (t : List (Placed X)) → IsTable t → (a b : Placed X) (o : Option ℕ) → Contains t a → Contains t b → a.age < b.age → a.parent ≡ o → is_parent o b.place ≡ false
  not_below_at t is a b None ha hb older e = refl
  not_below_at t is a b (Some p) ha hb older e = number_not p b.place (λ same.
      let under = below t is a.place a p (here_is t is a ha) e in
      let there = here_is t is b hb in
      let one : under.0 ≡ b = cc in
      let less : under.0.age < a.age = under.2.older in
      omega (arith, rw one at less))

  pub not_below : (t : List (Placed X)) → IsTable t → AllPairs (λ a b. is_parent a.parent b.place ≡ false) t
  not_below t is i j d less within = not_below_at t is (get_or t i d) (get_or t j d) (get_or t i d).parent (Contains-get_or t i d (omega arith)) (Contains-get_or t j d within) (is.rising i j d less within) refl
