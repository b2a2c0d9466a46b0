-- The weights of the leading items of a list, one item more at a time.
use Rattle.std.proofs.Common.{◌≡◌, ℕ, zero, suc, ◌+◌, ◌≤◌, ◌<◌, List, [], ◌∷◌, ◌++◌, length, take, drop, Some, slice_get, refl, sym, ap, ◌∙◌, arith, length-append, append_assoc}
use Rattle.std.proofs.lemmas.Option.{slice_get_within}
use Rattle.std.proofs.lemmas.List.{take_at, length-take-le}
use Rattle.splay.specs.Items.{load}
use Rattle.splay.proofs.CutLemmas.{split_after}
use Rattle.splay.proofs.ItemLemmas.{load-append}

module _ {M V : Type 0} (weight : M → ℕ) where
  -- one more item's weight
  pub load-more : (xs : List (M × V)) (n : ℕ) (y : M × V) → slice_get xs n ≡ Some y → load weight (take (n + 1) xs) ≡ load weight (take n xs) + weight y.0
  load-more xs n y e =
      let within = slice_get_within xs n y e in
      let long : length (take n xs) ≡ n = length-take-le n xs (omega arith) in
      let same : take (n + 1) xs ≡ take n xs ++ y ∷ [] =
      ap (take (n + 1)) (sym (split_after xs n y e) ∙ sym (append_assoc (take n xs) (y ∷ []) (drop (n + 1) xs)))
      ∙ take_at (take n xs ++ y ∷ []) (drop (n + 1) xs) (n + 1) (length-append (take n xs) (y ∷ []) ∙ omega arith) in
      omega (arith, ap (load weight) same, load-append weight (take n xs) (y ∷ []))

  pub load-take : (xs : List (M × V)) (n : ℕ) → load weight (take n xs) ≤ load weight xs
  load-take [] zero = omega arith
  load-take [] (suc n) = omega arith
  load-take (x ∷ xs) zero = omega arith
  load-take (x ∷ xs) (suc n) = omega (arith, load-take xs n)

-- there is an element at each place of a list
pub some_at : {X : Type 0} (xs : List X) (n : ℕ) → n < length xs → (y : X) × (slice_get xs n ≡ Some y)
some_at [] n h = absurd (omega arith)
some_at (x ∷ xs) zero h = (x, refl)
some_at (x ∷ xs) (suc n) h = some_at xs n (omega arith)
