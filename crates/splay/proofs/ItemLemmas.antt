-- Sums, weights and lengths of lists that are joined.
use Rattle.std.proofs.Common.{◌≡◌, ℕ, ◌+◌, ◌≤◌, List, [], ◌∷◌, ◌++◌, length, refl, sym, ap, ◌∙◌, arith, length-append}
use Rattle.splay.specs.Items.{load, total}
use Rattle.splay.specs.Nodes.{tally_of, tally}
use Rattle.splay.specs.Sums.{count_in, weight_of_part, tally_between}
use Rattle.splay.specs.declared.store.Tally.{Tally}

-- two tallies with the same parts are the same
cong_tally : {M : Type 0} {c d : ℕ} {a b : M} → c ≡ d → a ≡ b → ◌≡◌ {A = Tally M} (record { count = c; all = a }) (record { count = d; all = b })
cong_tally {M} {c} {d} {a} {b} p q = cc

module _ {M V : Type 0} (weight : M → ℕ) where
  pub load-append : (xs ys : List (M × V)) → load weight (xs ++ ys) ≡ load weight xs + load weight ys
  load-append [] ys = omega arith
  load-append (x ∷ xs) ys = omega (arith, load-append xs ys)

module _ {M : Type 0} {V : Type 0} (unit : M) (add : M → M → M) (associative : (a b c : M) → add (add a b) c ≡ add a (add b c)) (unit_left : (a : M) → add unit a ≡ a) (unit_right : (a : M) → add a unit ≡ a) where
  pub total-append : (xs ys : List (M × V)) → total unit add (xs ++ ys) ≡ add (total unit add xs) (total unit add ys)
  total-append [] ys = sym (unit_left (total unit add ys))
  total-append (x ∷ xs) ys =
      ap (add x.0) (total-append xs ys) ∙ sym (associative x.0 (total unit add xs) (total unit add ys))

  -- the tally of two parts is that of their items
  pub tally_between-tally : (xs ys : List (M × V)) (m : M) (v : V) → tally_between add (tally unit add xs) m (tally unit add ys) ≡ tally_of unit add (xs ++ (m, v) ∷ ys)
  tally_between-tally [] [] m v = ap (λ (s : M). record { count = 1; all = s }) (sym (unit_right m))
  tally_between-tally [] (y ∷ ys) m v = cong_tally (omega arith) refl
  tally_between-tally (x ∷ xs) [] m v =
      cong_tally
      (omega (arith, length-append xs ((m, v) ∷ [])))
      (sym (total-append (x ∷ xs) ((m, v) ∷ []) ∙ ap (add (total unit add (x ∷ xs))) (unit_right m)))
  tally_between-tally (x ∷ xs) (y ∷ ys) m v =
      cong_tally
      (omega (arith, length-append xs ((m, v) ∷ (y ∷ ys))))
      (associative (total unit add (x ∷ xs)) m (total unit add (y ∷ ys)) ∙ sym (total-append (x ∷ xs) ((m, v) ∷ (y ∷ ys))))

module _ {M V : Type 0} (weight : M → ℕ) (unit : M) (add : M → M → M) (unit_right : (a : M) → add a unit ≡ a) (lighter : (a b : M) → weight (add a b) ≤ weight a + weight b) where
  -- a sum weighs at most what its items weigh
  pub weight-total : (x : M × V) (xs : List (M × V)) → weight (total unit add (x ∷ xs)) ≤ load weight (x ∷ xs)
  weight-total x [] = let e : weight (add x.0 unit) ≡ weight x.0 = ap weight (unit_right x.0) in omega arith
  weight-total x (y ∷ ys) = omega (arith, lighter x.0 (total unit add (y ∷ ys)), weight-total y ys)

  pub weight_of_part-tally : (xs : List (M × V)) → weight_of_part weight (tally unit add xs) ≤ load weight xs
  weight_of_part-tally [] = omega arith
  weight_of_part-tally (x ∷ xs) = weight-total x xs

module _ {M V : Type 0} (unit : M) (add : M → M → M) where
  pub count_in-tally : (xs : List (M × V)) → count_in (tally unit add xs) ≡ length xs
  count_in-tally [] = refl
  count_in-tally (x ∷ xs) = refl
