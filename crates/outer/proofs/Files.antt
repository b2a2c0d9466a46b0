-- Look-ups in a list of files.
use Rattle.std.proofs.Common.{◌≡◌, ℕ, suc, ◌+◌, ◌<◌, List, [], ◌∷◌, ◌++◌, length, map, get_or, set, Bool, true, false, cond, Some, None, is_some, refl, sym, ap, subst, ◌∙◌, inl, inr, arith}
use Rattle.std.proofs.lemmas.Bool.{cases_Bool, cond-true, cond-false, both_ways}
use Rattle.std.proofs.lemmas.Slice.Eq.{bytes_eq-Decides}
use Rattle.std.specs.List.{position_from}
use Rattle.std.specs.Str.{bytes_eq}
use Rattle.outer.specs.FileList.{FileList, found, with_name, with_bytes}

same_name : (name : List ℕ) → bytes_eq name name ≡ true
same_name name = (bytes_eq-Decides name name).1 refl

-- a file of one name is none of another
apart_name : (at name other : List ℕ) → (other ≡ name → ⊥) → bytes_eq at name ≡ true → bytes_eq at other ≡ false
apart_name at name other apart hit = elim (cases_Bool (bytes_eq at other)) [
  | inl both ↦ absurd (apart (sym ((bytes_eq-Decides at other).0 both) ∙ (bytes_eq-Decides at name).0 hit))
  | inr miss ↦ miss
]

-- bytes put under a name that is there are found under it
pub found_put : (name bytes : List ℕ) (fs : FileList) → is_some (found fs name) ≡ true → found (with_bytes name bytes fs) name ≡ Some bytes
found_put name bytes [] there = absurd (both_ways false refl there)
found_put name bytes (f ∷ fs) there = elim (cases_Bool (bytes_eq f.0 name)) [
  | inl hit ↦ ap (λ es. found es name) (cond-true (bytes_eq f.0 name) ((f.0, bytes) ∷ fs) (f ∷ with_bytes name bytes fs) hit) ∙ cond-true (bytes_eq f.0 name) (Some bytes) (found fs name) hit
  | inr miss ↦ ap (λ es. found es name) (cond-false (bytes_eq f.0 name) ((f.0, bytes) ∷ fs) (f ∷ with_bytes name bytes fs) miss)
      ∙ (cond-false (bytes_eq f.0 name) (Some f.1) (found (with_bytes name bytes fs) name) miss
      ∙ found_put name bytes fs (sym (ap is_some (cond-false (bytes_eq f.0 name) (Some f.1) (found fs name) miss)) ∙ there))
]

-- every other name is as it was
pub found_put_apart : (name bytes : List ℕ) (fs : FileList) (other : List ℕ) → (other ≡ name → ⊥) → found (with_bytes name bytes fs) other ≡ found fs other
found_put_apart name bytes [] other apart = refl
found_put_apart name bytes (f ∷ fs) other apart = elim (cases_Bool (bytes_eq f.0 name)) [
  | inl hit ↦ let none = apart_name f.0 name other apart hit in
      ap (λ es. found es other) (cond-true (bytes_eq f.0 name) ((f.0, bytes) ∷ fs) (f ∷ with_bytes name bytes fs) hit)
      ∙ (cond-false (bytes_eq f.0 other) (Some bytes) (found fs other) none ∙ sym (cond-false (bytes_eq f.0 other) (Some f.1) (found fs other) none))
  | inr miss ↦ ap (λ es. found es other) (cond-false (bytes_eq f.0 name) ((f.0, bytes) ∷ fs) (f ∷ with_bytes name bytes fs) miss)
      ∙ ap (cond (bytes_eq f.0 other) (Some f.1)) (found_put_apart name bytes fs other apart)
]

-- bytes put under a name that isn't there are dropped
pub put_nowhere : (name bytes : List ℕ) (fs : FileList) → found fs name ≡ None → with_bytes name bytes fs ≡ fs
put_nowhere name bytes [] none = refl
put_nowhere name bytes (f ∷ fs) none = elim (cases_Bool (bytes_eq f.0 name)) [
  | inl hit ↦ absurd (both_ways true (ap is_some (sym (cond-true (bytes_eq f.0 name) (Some f.1) (found fs name) hit) ∙ none)) refl)
  | inr miss ↦ cond-false (bytes_eq f.0 name) ((f.0, bytes) ∷ fs) (f ∷ with_bytes name bytes fs) miss
      ∙ ap (λ es. f ∷ es) (put_nowhere name bytes fs (sym (cond-false (bytes_eq f.0 name) (Some f.1) (found fs name) miss) ∙ none))
]

found_last : (name bytes : List ℕ) (fs : FileList) → is_some (found (fs ++ (name, bytes) ∷ []) name) ≡ true
found_last name bytes [] = ap is_some (cond-true (bytes_eq name name) (Some bytes) None (same_name name))
found_last name bytes (f ∷ fs) = elim (cases_Bool (bytes_eq f.0 name)) [
  | inl hit ↦ ap is_some (cond-true (bytes_eq f.0 name) (Some f.1) (found (fs ++ (name, bytes) ∷ []) name) hit)
  | inr miss ↦ ap is_some (cond-false (bytes_eq f.0 name) (Some f.1) (found (fs ++ (name, bytes) ∷ []) name) miss) ∙ found_last name bytes fs
]

found_before : (name bytes : List ℕ) (fs : FileList) (other : List ℕ) → (other ≡ name → ⊥) → found (fs ++ (name, bytes) ∷ []) other ≡ found fs other
found_before name bytes [] other apart = cond-false (bytes_eq name other) (Some bytes) None (apart_name name name other apart (same_name name))
found_before name bytes (f ∷ fs) other apart = ap (cond (bytes_eq f.0 other) (Some f.1)) (found_before name bytes fs other apart)

-- a name that was added is there
pub found_added : (name : List ℕ) (fs : FileList) → is_some (found (with_name name fs) name) ≡ true
found_added name fs = elim (cases_Bool (is_some (found fs name))) [
  | inl there ↦ ap (λ es. is_some (found es name)) (cond-true (is_some (found fs name)) fs (fs ++ (name, []) ∷ []) there) ∙ there
  | inr new ↦ ap (λ es. is_some (found es name)) (cond-false (is_some (found fs name)) fs (fs ++ (name, []) ∷ []) new) ∙ found_last name [] fs
]

-- every other name is as it was
pub found_added_apart : (name : List ℕ) (fs : FileList) (other : List ℕ) → (other ≡ name → ⊥) → found (with_name name fs) other ≡ found fs other
found_added_apart name fs other apart = elim (cases_Bool (is_some (found fs name))) [
  | inl there ↦ ap (λ es. found es other) (cond-true (is_some (found fs name)) fs (fs ++ (name, []) ∷ []) there)
  | inr new ↦ ap (λ es. found es other) (cond-false (is_some (found fs name)) fs (fs ++ (name, []) ∷ []) new) ∙ found_before name [] fs other apart
]

pub added_old : (name : List ℕ) (fs : FileList) → is_some (found fs name) ≡ true → with_name name fs ≡ fs
added_old name fs there = cond-true (is_some (found fs name)) fs (fs ++ (name, []) ∷ []) there

pub added_new : (name : List ℕ) (fs : FileList) → is_some (found fs name) ≡ false → with_name name fs ≡ fs ++ (name, []) ∷ []
added_new name fs new = cond-false (is_some (found fs name)) fs (fs ++ (name, []) ∷ []) new

-- Where the first file of a name stands among entries that are seen as files.
module _ {A : Type 0} (key value : A → List ℕ) (name : List ℕ) where
  abbrev seen : List A → FileList
  seen xs = map (λ (x : A). (key x, value x)) xs

  abbrev named : A → Bool
  named x = bytes_eq (key x) name

  pub found_nowhere : (i : ℕ) (xs : List A) → position_from named i xs ≡ None → found (seen xs) name ≡ None
  found_nowhere i [] none = refl
  found_nowhere i (x ∷ xs) none = elim (cases_Bool (named x)) [
    | inl hit ↦ absurd (both_ways true (ap is_some (sym (cond-true (named x) (Some i) (position_from named (i + 1) xs) hit) ∙ none)) refl)
    | inr miss ↦ cond-false (named x) (Some (value x)) (found (seen xs) name) miss
        ∙ found_nowhere (i + 1) xs (sym (cond-false (named x) (Some i) (position_from named (i + 1) xs) miss) ∙ none)
  ]

  pub is_there : (i : ℕ) (xs : List A) → is_some (found (seen xs) name) ≡ is_some (position_from named i xs)
  is_there i [] = refl
  is_there i (x ∷ xs) = elim (cases_Bool (named x)) [
    | inl hit ↦ ap is_some (cond-true (named x) (Some (value x)) (found (seen xs) name) hit) ∙ sym (ap is_some (cond-true (named x) (Some i) (position_from named (i + 1) xs) hit))
    | inr miss ↦ ap is_some (cond-false (named x) (Some (value x)) (found (seen xs) name) miss)
        ∙ (is_there (i + 1) xs ∙ sym (ap is_some (cond-false (named x) (Some i) (position_from named (i + 1) xs) miss)))
  ]

  -- the first one stands at this index, and is what is found and what gives way
  pub record StandsAt (xs : List A) (j : ℕ) : Type 0 where
    pub within : j < length xs
    pub found_is : (d : A) → found (seen xs) name ≡ Some (value (get_or xs j d))
    pub put_is : (y d : A) → key y ≡ key (get_or xs j d) → seen (set xs j y) ≡ with_bytes name (value y) (seen xs)

  stands_first : (x : A) (xs : List A) → named x ≡ true → StandsAt (x ∷ xs) 0
  stands_first x xs hit = record {
    within = omega arith;
    found_is = λ d. cond-true (named x) (Some (value x)) (found (seen xs) name) hit;
    put_is = λ y d e. ap (λ (k : List ℕ). (k, value y) ∷ seen xs) e ∙ sym (cond-true (named x) ((key x, value y) ∷ seen xs) ((key x, value x) ∷ with_bytes name (value y) (seen xs)) hit);
  }

  stands_later : (x : A) (xs : List A) (j : ℕ) → named x ≡ false → StandsAt xs j → StandsAt (x ∷ xs) (suc j)
  stands_later x xs j miss at = record {
    within = let low = at.within in omega arith;
    found_is = λ d. cond-false (named x) (Some (value x)) (found (seen xs) name) miss ∙ at.found_is d;
    put_is = λ y d e. ap (λ (es : FileList). (key x, value x) ∷ es) (at.put_is y d e) ∙ sym (cond-false (named x) ((key x, value y) ∷ seen xs) ((key x, value x) ∷ with_bytes name (value y) (seen xs)) miss);
  }

  -- the index of a look-up that began to count at `i`
  pub stands_from : (i : ℕ) (xs : List A) (k : ℕ) → position_from named i xs ≡ Some k → (j : ℕ) × (k ≡ i + j) × StandsAt xs j
  stands_from i [] k e = absurd (both_ways false refl (ap is_some e))
  stands_from i (x ∷ xs) k e = elim (cases_Bool (named x)) [
    | inl hit ↦ (0, first hit, stands_first x xs hit)
    | inr miss ↦ let later = stands_from (i + 1) xs k (sym (cond-false (named x) (Some i) (position_from named (i + 1) xs) miss) ∙ e) in
        (suc later.0, next later.0 later.1, stands_later x xs later.0 miss later.2)
  ]
    where
      first : named x ≡ true → k ≡ i + 0
      first hit = let here : Some i ≡ Some k = sym (cond-true (named x) (Some i) (position_from named (i + 1) xs) hit) ∙ e in grind (arith, here)

      next : (j : ℕ) → k ≡ i + 1 + j → k ≡ i + suc j
      next j at = omega (arith, at)

  pub stands_at : (xs : List A) (k : ℕ) → position_from named 0 xs ≡ Some k → StandsAt xs k
  stands_at xs k e = let at = stands_from 0 xs k e in let same : at.0 ≡ k = omega (arith, at.1) in subst (StandsAt xs) same at.2
