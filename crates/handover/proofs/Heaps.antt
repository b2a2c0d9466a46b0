-- Lists that accounts show, one behind the other, when one account changes.
use Rattle.std.proofs.Common.{◌≡◌, ◌≢◌, ℕ, zero, suc, List, [], ◌∷◌, ◌++◌, set, sym, refl, ap, ◌∙◌, subst, append_assoc}
use Rattle.std.specs.List.{flat_map}
use Rattle.std.specs.List.Sorted.{IsPermutation}
use Rattle.std.proofs.lemmas.List.Sorted.{IsPermutation-refl, IsPermutation-trans, IsPermutation-append_left, IsPermutation-append_right, IsPermutation-append_comm}
use mathlib.Core.Option.{some, some-injective, some-ne-none}
use lib.ListN.{get_elem?}

module _ {T : Type 0} where
  pub equal : (xs ys : List T) → xs ≡ ys → IsPermutation xs ys
  equal xs ys e = subst (λ (l : List T). IsPermutation xs l) e (IsPermutation-refl xs)

  -- the first two of three stretches change places
  pub front_swap : (a b c : List T) → IsPermutation (a ++ (b ++ c)) (b ++ (a ++ c))
  front_swap a b c =
      IsPermutation-trans _ _ _ (equal _ _ (sym (append_assoc a b c)))
      (IsPermutation-trans _ _ _ (IsPermutation-append_left c _ _ (IsPermutation-append_comm a b)) (equal _ _ (append_assoc b a c)))

module _ {T V : Type 0} (f : V → List T) where
  -- an account shows more
  pub grown : (views : List V) (p : ℕ) (v w : V) (ys : List T) → get_elem? views p ≡ some v → f w ≡ f v ++ ys
      → IsPermutation (flat_map f (set views p w)) (ys ++ flat_map f views)
  grown [] p v w ys at e = absurd (some-ne-none v (sym at))
  grown (u ∷ us) zero v w ys at e =
      let is : f w ++ flat_map f us ≡ (f u ++ ys) ++ flat_map f us = ap (λ (l : List T). l ++ flat_map f us) (e ∙ ap (λ (z : V). f z ++ ys) (sym (some-injective u v at))) in
      IsPermutation-trans _ _ _ (equal _ _ is)
      (IsPermutation-trans _ _ _ (IsPermutation-append_left (flat_map f us) _ _ (IsPermutation-append_comm (f u) ys)) (equal _ _ (append_assoc ys (f u) (flat_map f us))))
  grown (u ∷ us) (suc p) v w ys at e =
      IsPermutation-trans _ _ _ (IsPermutation-append_right (f u) _ _ (grown us p v w ys at e)) (front_swap (f u) ys (flat_map f us))

  -- an account shows as much as before
  pub kept : (views : List V) (p : ℕ) (v w : V) → get_elem? views p ≡ some v → f w ≡ f v → flat_map f (set views p w) ≡ flat_map f views
  kept [] p v w at e = refl
  kept (u ∷ us) zero v w at e = ap (λ (l : List T). l ++ flat_map f us) (e ∙ ap f (sym (some-injective u v at)))
  kept (u ∷ us) (suc p) v w at e = ap (λ (l : List T). f u ++ l) (kept us p v w at e)

  -- an account shows nothing any more
  pub emptied : (views : List V) (p : ℕ) (v w : V) → get_elem? views p ≡ some v → f w ≡ []
      → IsPermutation (f v ++ flat_map f (set views p w)) (flat_map f views)
  emptied [] p v w at e = absurd (some-ne-none v (sym at))
  emptied (u ∷ us) zero v w at e =
      equal _ _ (ap (λ (l : List T). f v ++ (l ++ flat_map f us)) e ∙ ap (λ (z : V). f z ++ flat_map f us) (sym (some-injective u v at)))
  emptied (u ∷ us) (suc p) v w at e =
      IsPermutation-trans _ _ _ (front_swap (f v) (f u) (flat_map f (set us p w))) (IsPermutation-append_right (f u) _ _ (emptied us p v w at e))

  -- one account takes over what another shows
  pub merged : (views : List V) (p o : ℕ) (v w both spent : V) → get_elem? views p ≡ some v → o ≢ p → get_elem? views o ≡ some w
      → f both ≡ f v ++ f w → f spent ≡ [] → IsPermutation (flat_map f (set (set views p both) o spent)) (flat_map f views)
  merged [] p o v w both spent at two there b s = absurd (some-ne-none v (sym at))
  merged (u ∷ us) zero zero v w both spent at two there b s = absurd (two refl)
  merged (u ∷ us) zero (suc o) v w both spent at two there b s =
      let is : f both ++ flat_map f (set us o spent) ≡ f u ++ (f w ++ flat_map f (set us o spent)) =
      ap (λ (l : List T). l ++ flat_map f (set us o spent)) (b ∙ ap (λ (z : V). f z ++ f w) (sym (some-injective u v at))) ∙ append_assoc (f u) (f w) (flat_map f (set us o spent)) in
      IsPermutation-trans _ _ _ (equal _ _ is) (IsPermutation-append_right (f u) _ _ (emptied us o w spent there s))
  merged (u ∷ us) (suc p) zero v w both spent at two there b s =
      let is : f spent ++ flat_map f (set us p both) ≡ flat_map f (set us p both) = ap (λ (l : List T). l ++ flat_map f (set us p both)) s in
      IsPermutation-trans _ _ _ (equal _ _ is)
      (IsPermutation-trans _ _ _ (grown us p v both (f w) at b) (equal _ _ (ap (λ (z : V). f z ++ flat_map f us) (sym (some-injective u w there)))))
  merged (u ∷ us) (suc p) (suc o) v w both spent at two there b s =
      IsPermutation-append_right (f u) _ _ (merged us p o v w both spent at (λ e. two (ap suc e)) there b s)

  -- a new account shows nothing
  pub joined : (views : List V) (w : V) → f w ≡ [] → flat_map f (views ++ w ∷ []) ≡ flat_map f views
  joined [] w e = ap (λ (l : List T). l ++ []) e
  joined (u ∷ us) w e = ap (λ (l : List T). f u ++ l) (joined us w e)
