-- What a contract sees of a tree: the list of its measured values, and how many nodes are spare.
use Rattle.std.specs.Prelude.{◌≡◌, ℕ, ◌+◌, ◌≤◌, ◌<◌, Bool, true, false, List, [], ◌∷◌, length, take, refl}
use Rattle.std.specs.Coded.{Coded, code_by, coded×, coded_ℕ, coded_list}

-- the measured values in order, and the nodes that later insertions use again
pub record Items (M V : Type 0) : Type 0 where
  pub items : List (M × V)
  pub spare : ℕ

-- it is stored as the pair of its fields
abbrev pub items_code : {M V : Type 0} → Coded M → Coded V → Coded (Items M V)
items_code {M} {V} measure value =
    code_by
    (List (M × V) × ℕ)
    (coded× (coded_list (coded× measure value)) coded_ℕ)
    (λ s. (s.items, s.spare))
    (λ p. record { items = p.0; spare = p.1 })
    (λ _. refl)

module _ {M V : Type 0} where
  -- the weights of the items together
  abbrev pub load : (M → ℕ) → List (M × V) → ℕ
  load weight [] = 0
  load weight (x ∷ xs) = weight x.0 + load weight xs

  -- the sum of the measures in order
  abbrev pub total : M → (M → M → M) → List (M × V) → M
  total unit add [] = unit
  total unit add (x ∷ xs) = add x.0 (total unit add xs)

  -- so many leading sums of these items pass, and the next fails
  pub record PassesUpTo (unit : M) (add : M → M → M) (passes : M → Bool) (items : List (M × V)) (count : ℕ) : Type 0 where
    pub within : count ≤ length items
    pub pass : (k : ℕ) → 1 ≤ k → k ≤ count → passes (total unit add (take k items)) ≡ true
    pub fails : count < length items → passes (total unit add (take (count + 1) items)) ≡ false
