-- What holds of every view stays so when a step sets one view or adds one, and so does that no number stands with two seats.
use Rattle.std.proofs.Common.{◌≡◌, ℕ, zero, suc, ◌≢◌, ◌⊎◌, Bool, true, List, [], ◌∷◌, ◌++◌, length, set, refl, sym, ◌∙◌, subst, inl, inr, ⊎_elim, arith}
use mathlib.Core.Option.{some, some-injective, some-ne-none}
use lib.ListN.{get_elem?}
use Rattle.atomic_table.proofs.Lists.{at_set}
use Rattle.turn_table.specs.Views.{Each, OneSeat}

module _ {V : Type 0} where
  -- where an element stands that was there before, or was added at the end
  pub at_push : (l : List V) (a b : V) (j : ℕ) → get_elem? (l ++ a ∷ []) j ≡ some b → (get_elem? l j ≡ some b) ⊎ ((j ≡ length l) × (a ≡ b))
  at_push [] a b zero e = inr (refl, some-injective a b e)
  at_push [] a b (suc j) e = absurd (some-ne-none b (sym e))
  at_push (x ∷ xs) a b zero e = inl e
  at_push (x ∷ xs) a b (suc j) e = ⊎_elim (λ t. inl t) (λ t. let f = t.0 in inr (omega arith, t.1)) (at_push xs a b j e)

  pub same_at : (l : List V) (i : ℕ) (a b : V) → get_elem? l i ≡ some a → get_elem? l i ≡ some b → a ≡ b
  same_at l i a b e f = some-injective a b (sym e ∙ f)

  pub here : (l : List V) (i : ℕ) (v w : V) → get_elem? l i ≡ some v → get_elem? (set l i w) i ≡ some w
  here [] i v w e = absurd (some-ne-none v (sym e))
  here (x ∷ xs) zero v w e = refl
  here (x ∷ xs) (suc i) v w e = here xs i v w e

  pub each_other : (P : V → Type 0) (vs : List V) (id : ℕ) (w : V) → P w → ((j : ℕ) (v : V) → j ≢ id → get_elem? vs j ≡ some v → P v) → Each P (set vs id w)
  each_other P vs id w mine others j v e = ⊎_elim (λ (t : (j ≡ id) × (w ≡ v)). subst P t.1 mine) (λ (t : (j ≢ id) × (get_elem? vs j ≡ some v)). others j v t.0 t.1) (at_set vs id j w v e)

  pub each_set : (P : V → Type 0) (vs : List V) (id : ℕ) (w : V) → P w → Each P vs → Each P (set vs id w)
  each_set P vs id w mine all = each_other P vs id w mine (λ j v _ e. all j v e)

  pub each_push : (P : V → Type 0) (vs : List V) (w : V) → P w → Each P vs → Each P (vs ++ w ∷ [])
  each_push P vs w mine all j v e = ⊎_elim (λ (t : get_elem? vs j ≡ some v). all j v t) (λ (t : (j ≡ length vs) × (w ≡ v)). subst P t.1 mine) (at_push vs w v j e)

  pub each_one : (P : V → Type 0) (w : V) → P w → Each P (w ∷ [])
  each_one P w mine zero v e = subst P (some-injective w v e) mine
  each_one P w mine (suc j) v e = absurd (some-ne-none v (sym e))

  module _ (f : V → ℕ → Bool) where
    before : (vs : List V) (id : ℕ) (v w : V) → get_elem? vs id ≡ some v → ((n : ℕ) → f w n ≡ true → f v n ≡ true) → (i n : ℕ) (x : V) → get_elem? (set vs id w) i ≡ some x → f x n ≡ true
        → (y : V) × (get_elem? vs i ≡ some y) × (f y n ≡ true)
    before vs id v w at less i n x e h = ⊎_elim
        (λ (t : (i ≡ id) × (w ≡ x)). (v, subst (λ (k : ℕ). get_elem? vs k ≡ some v) (sym t.0) at, less n (subst (λ (z : V). f z n ≡ true) (sym t.1) h)))
        (λ (t : (i ≢ id) × (get_elem? vs i ≡ some x)). (x, t.1, h)) (at_set vs id i w x e)

    -- the changed seat stands for no more than before
    pub one_set : (vs : List V) (id : ℕ) (v w : V) → get_elem? vs id ≡ some v → ((n : ℕ) → f w n ≡ true → f v n ≡ true) → OneSeat f vs → OneSeat f (set vs id w)
    one_set vs id v w at less one i j n x y ei ej fx fy = let a = before vs id v w at less i n x ei fx in let b = before vs id v w at less j n y ej fy in one i j n a.0 b.0 a.1 b.1 a.2 b.2

    -- the numbers of the new seat are nobody's
    pub one_push : (vs : List V) (w : V) → OneSeat f vs → ((j n : ℕ) (x : V) → f w n ≡ true → get_elem? vs j ≡ some x → f x n ≡ true → ⊥) → OneSeat f (vs ++ w ∷ [])
    one_push vs w one nobody i j n x y ei ej fx fy = ⊎_elim
        (λ (s : get_elem? vs i ≡ some x). ⊎_elim
        (λ (t : get_elem? vs j ≡ some y). one i j n x y s t fx fy)
        (λ (t : (j ≡ length vs) × (w ≡ y)). absurd (nobody i n x (subst (λ (z : V). f z n ≡ true) (sym t.1) fy) s fx)) (at_push vs w y j ej))
        (λ (s : (i ≡ length vs) × (w ≡ x)). ⊎_elim
        (λ (t : get_elem? vs j ≡ some y). absurd (nobody j n y (subst (λ (z : V). f z n ≡ true) (sym s.1) fx) t fy))
        (λ (t : (j ≡ length vs) × (w ≡ y)). s.0 ∙ sym t.0) (at_push vs w y j ej)) (at_push vs w x i ei)

    -- a view's numbers are cut in two
    pub one_split : (vs : List V) (id : ℕ) (v left right : V) → get_elem? vs id ≡ some v → ((n : ℕ) → f left n ≡ true → f v n ≡ true) → ((n : ℕ) → f right n ≡ true → f v n ≡ true)
        → ((n : ℕ) → f left n ≡ true → f right n ≡ true → ⊥) → OneSeat f vs → OneSeat f (set vs id left ++ right ∷ [])
    one_split vs id v left right at less part apart one = one_push (set vs id left) right (one_set vs id v left at less one) (λ j n x fr e fx. ⊎_elim
        (λ (t : (j ≡ id) × (left ≡ x)). apart n (subst (λ (z : V). f z n ≡ true) (sym t.1) fx) fr)
        (λ (t : (j ≢ id) × (get_elem? vs j ≡ some x)). t.0 (sym (one id j n v x at t.1 (part n fr) fx))) (at_set vs id j left x e))

    -- whose a number was, before two seats were joined
    abbrev Owner : List V → ℕ → ℕ → ℕ → ℕ → Type 0
    Owner vs id other i n = (k : ℕ) × (y : V) × (get_elem? vs k ≡ some y) × (f y n ≡ true) × ((k ≡ i) ⊎ ((k ≡ other) × (i ≡ id))) × (i ≢ other)

    owner : (vs : List V) (id other : ℕ) (v w both spent : V) → get_elem? vs id ≡ some v → get_elem? vs other ≡ some w → ((n : ℕ) → f both n ≡ true → (f v n ≡ true) ⊎ (f w n ≡ true)) → ((n : ℕ) → f spent n ≡ true → ⊥) → id ≢ other
        → (i n : ℕ) (x : V) → get_elem? (set (set vs id both) other spent) i ≡ some x → f x n ≡ true → Owner vs id other i n
    owner vs id other v w both spent at there of none ne i n x e h = ⊎_elim
        (λ (t : (i ≡ other) × (spent ≡ x)). absurd (none n (subst (λ (z : V). f z n ≡ true) (sym t.1) h)))
        (λ (t : (i ≢ other) × (get_elem? (set vs id both) i ≡ some x)). ⊎_elim
        (λ (s : (i ≡ id) × (both ≡ x)). ⊎_elim
        (λ (r : f v n ≡ true). (id, v, at, r, inl (sym s.0), t.0))
        (λ (r : f w n ≡ true). (other, w, there, r, inr (refl, s.0), t.0)) (of n (subst (λ (z : V). f z n ≡ true) (sym s.1) h)))
        (λ (s : (i ≢ id) × (get_elem? vs i ≡ some x)). (i, x, s.1, h, inl refl, t.0)) (at_set vs id i both x t.1))
        (at_set (set vs id both) other i spent x e)

    pub one_join : (vs : List V) (id other : ℕ) (v w both spent : V) → get_elem? vs id ≡ some v → get_elem? vs other ≡ some w → ((n : ℕ) → f both n ≡ true → (f v n ≡ true) ⊎ (f w n ≡ true)) → ((n : ℕ) → f spent n ≡ true → ⊥) → id ≢ other
        → OneSeat f vs → OneSeat f (set (set vs id both) other spent)
    one_join vs id other v w both spent at there of none ne one i j n x y ei ej fx fy =
        let a = owner vs id other v w both spent at there of none ne i n x ei fx in
        let b = owner vs id other v w both spent at there of none ne j n y ej fy in
        let same : a.0 ≡ b.0 = one a.0 b.0 n a.1 b.1 a.2 b.2 a.3 b.3 in
        ⊎_elim
        (λ (p : a.0 ≡ i). ⊎_elim
        (λ (q : b.0 ≡ j). sym p ∙ same ∙ q)
        (λ (q : (b.0 ≡ other) × (j ≡ id)). absurd (a.5 (sym p ∙ same ∙ q.0))) b.4)
        (λ (p : (a.0 ≡ other) × (i ≡ id)). ⊎_elim
        (λ (q : b.0 ≡ j). absurd (b.5 (sym q ∙ sym same ∙ p.0)))
        (λ (q : (b.0 ≡ other) × (j ≡ id)). p.1 ∙ sym q.1) b.4) a.4
