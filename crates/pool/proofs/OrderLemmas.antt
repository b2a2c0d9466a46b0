-- A list that is in order is told by its members: where no key falls along it, and the keys of another list of the same members rise, the two are one.
use Rattle.std.proofs.Common.{◌≡◌, ℕ, suc, zero, ◌+◌, ◌*◌, ◌^◌, ◌≤◌, ◌<◌, ◌⊎◌, inl, inr, List, [], ◌∷◌, ◌++◌, length, map, Option, refl, sym, ap, ◌∙◌, subst, arith, All, IsPermutation}
use Rattle.std.specs.List.{AllByRecursion}
use Rattle.std.specs.List.Sorted.{IsNonDecreasingBy}
use Rattle.std.proofs.lemmas.List.Elements.{All-from_recursion, recursion_from_All}
use Rattle.std.proofs.lemmas.List.Sorted.{All-permutation, IsPermutation-sym, IsPermutation-trans, IsPermutation-map, length_permutation}
use Rattle.outer.specs.Matcher.{ToldHits}
use Rattle.workers.specs.declared.done.Done.{Done}
use Rattle.pool.specs.Sendings.{Sending, IsRising, IsEnded, order, sending_of}

module _ {X : Type 0} where
  abbrev pub In : List X → X → Type 0
  In [] y = ⊥
  In (x ∷ xs) y = (y ≡ x) ⊎ In xs y

  in_all : (P : X → Type 0) (xs : List X) (y : X) → AllByRecursion P xs → In xs y → P y
  in_all P [] y all is = absurd is
  in_all P (x ∷ xs) y all (inl e) = subst P (sym e) all.0
  in_all P (x ∷ xs) y all (inr is) = in_all P xs y all.1 is

  one_more : (x : X) (xs zs : List X) → AllByRecursion (In xs) zs → AllByRecursion (In (x ∷ xs)) zs
  one_more x xs [] all = tt
  one_more x xs (z ∷ zs) all = (inr all.0, one_more x xs zs all.1)

  itself : (xs : List X) → AllByRecursion (In xs) xs
  itself [] = tt
  itself (x ∷ xs) = (inl refl, one_more x xs xs (itself xs))

  pub members : (xs ys : List X) → IsPermutation xs ys → AllByRecursion (In xs) ys
  members xs ys p = recursion_from_All (In xs) ys (All-permutation (In xs) xs ys p (All-from_recursion (In xs) xs (itself xs)))

  -- what is true of each is true of each, where it follows
  pub all_so : (P Q : X → Type 0) (xs : List X) → ((x : X) → P x → Q x) → AllByRecursion P xs → AllByRecursion Q xs
  all_so P Q [] so all = tt
  all_so P Q (x ∷ xs) so all = (so x all.0, all_so P Q xs so all.1)

  pub all_both : (P : X → Type 0) (xs ys : List X) → AllByRecursion P xs → AllByRecursion P ys → AllByRecursion P (xs ++ ys)
  all_both P [] ys all more = more
  all_both P (x ∷ xs) ys all more = (all.0, all_both P xs ys all.1 more)

module _ {X : Type 0} (key : X → ℕ) where
  -- no key falls
  abbrev pub IsLevel : List X → Type 0
  IsLevel [] = Unit {0}
  IsLevel (x ∷ xs) = AllByRecursion (λ y. key x ≤ key y) xs × IsLevel xs

  pub level_of : (xs : List X) → IsNonDecreasingBy key xs → IsLevel xs
  level_of [] h = tt
  level_of (x ∷ xs) h = (recursion_from_All (λ y. key x ≤ key y) xs (λ k d low. h 0 (suc k) d (omega arith) (omega arith)), level_of xs (λ i j d le lt. h (suc i) (suc j) d (omega arith) (omega arith)))

  -- those above the first are among the rest
  past_first : (x : X) (xs ws : List X) → AllByRecursion (In (x ∷ xs)) ws → AllByRecursion (λ w. key x < key w) ws → AllByRecursion (In xs) ws
  past_first x xs [] all above = tt
  past_first x xs (w ∷ ws) (inl e, all) above = absurd (let same = ap key e in omega (arith, same, above.0))
  past_first x xs (w ∷ ws) (inr is, all) above = (is, past_first x xs ws all above.1)

  -- where the first of those that rise is further back, all are
  further_back : (x : X) (xs : List X) (y : X) (ys : List X) → AllByRecursion (λ z. key x ≤ key z) xs → IsRising key (y ∷ ys) → In xs y → AllByRecursion (In (x ∷ xs)) ys → AllByRecursion (In xs) (y ∷ ys)
  further_back x xs y ys low rising is all =
      let first : key x ≤ key y = in_all (λ z. key x ≤ key z) xs y low is in
      (is, past_first x xs ys all (all_so (λ w. key y < key w) (λ w. key x < key w) ys (λ w above. omega (arith, first, above)) rising.0))

  no_longer : (xs ys : List X) → IsLevel xs → IsRising key ys → AllByRecursion (In xs) ys → length ys ≤ length xs
  no_longer xs [] level rising all = omega arith
  no_longer [] (y ∷ ys) level rising all = absurd all.0
  no_longer (x ∷ xs) (y ∷ ys) level rising (inl e, all) =
      let above : AllByRecursion (λ w. key x < key w) ys = subst (λ z. AllByRecursion (λ w. key z < key w) ys) e rising.0 in
      let rest = no_longer xs ys level.1 rising.1 (past_first x xs ys all above) in omega (arith, rest)
  no_longer (x ∷ xs) (y ∷ ys) level rising (inr is, all) =
      let rest = no_longer xs (y ∷ ys) level.1 rising (further_back x xs y ys level.0 rising is all) in omega (arith, rest)

  pub one_order : (xs ys : List X) → IsLevel xs → IsRising key ys → AllByRecursion (In xs) ys → length xs ≤ length ys → xs ≡ ys
  one_order [] [] level rising all short = refl
  one_order (x ∷ xs) [] level rising all short = absurd (omega (arith, short))
  one_order [] (y ∷ ys) level rising all short = absurd all.0
  one_order (x ∷ xs) (y ∷ ys) level rising (inl e, all) short =
      let above : AllByRecursion (λ w. key x < key w) ys = subst (λ z. AllByRecursion (λ w. key z < key w) ys) e rising.0 in
      let rest = one_order xs ys level.1 rising.1 (past_first x xs ys all above) (omega (arith, short)) in
      ap (λ z. z ∷ xs) (sym e) ∙ ap (λ l. y ∷ l) rest
  one_order (x ∷ xs) (y ∷ ys) level rising (inr is, all) short =
      let rest = no_longer xs (y ∷ ys) level.1 rising (further_back x xs y ys level.0 rising is all) in absurd (omega (arith, rest, short))

  -- two lists that rise, one behind the other
  pub rising_both : (xs ys : List X) → IsRising key xs → IsRising key ys → AllByRecursion (λ x. AllByRecursion (λ y. key x < key y) ys) xs → IsRising key (xs ++ ys)
  rising_both [] ys up more above = more
  rising_both (x ∷ xs) ys up more above = (all_both (λ y. key x < key y) xs ys up.0 above.0, rising_both xs ys up.1 more above.1)

module _ {M K : Type 0} (tells : M → Option ToldHits) (taken : K → Option (List ℕ)) (faults : K → ℕ) where
  same_order : (d : Done M K) → IsEnded tells taken faults d → d.session * 2 ^ 32 + d.number ≡ order (sending_of d)
  same_order d e = ap (λ n. n * 2 ^ 32 + d.number) e.done.session ∙ ap (λ n. d.task.value.session * 2 ^ 32 + n) e.done.number

  none_below : (d : Done M K) (es : List (Done M K)) → IsEnded tells taken faults d → AllByRecursion (IsEnded tells taken faults) es → AllByRecursion (λ e. d.session * 2 ^ 32 + d.number ≤ e.session * 2 ^ 32 + e.number) es → AllByRecursion (λ s. order (sending_of d) ≤ order s) (map sending_of es)
  none_below d [] ended all level = tt
  none_below d (e ∷ es) ended all level = (subst (λ n. n ≤ order (sending_of e)) (same_order d ended) (subst (λ n. d.session * 2 ^ 32 + d.number ≤ n) (same_order e all.0) level.0), none_below d es ended all.1 level.1)

  level_as : (ds : List (Done M K)) → AllByRecursion (IsEnded tells taken faults) ds → IsLevel (λ (d : Done M K). d.session * 2 ^ 32 + d.number) ds → IsLevel order (map sending_of ds)
  level_as [] ended level = tt
  level_as (d ∷ ds) ended level = (none_below d ds ended.0 ended.1 level.0, level_as ds ended.1 level.1)

  -- what is sorted by session and number is what was sent
  pub sorted_is : (ds es : List (Done M K)) (sent : List (Sending M K)) → IsPermutation ds es → IsNonDecreasingBy (λ (d : Done M K). d.session * 2 ^ 32 + d.number) es → All (IsEnded tells taken faults) ds → IsRising order sent → IsPermutation (map sending_of ds) sent → map sending_of es ≡ sent
  sorted_is ds es sent moved level ended rising once =
      let all : AllByRecursion (IsEnded tells taken faults) es = recursion_from_All (IsEnded tells taken faults) es (All-permutation (IsEnded tells taken faults) ds es moved ended) in
      let same : IsPermutation (map sending_of es) sent = IsPermutation-trans _ _ _ (IsPermutation-map sending_of es ds (IsPermutation-sym ds es moved)) once in
      let long : length (map sending_of es) ≡ length sent = sym (length_permutation _ _ same) in
      one_order order (map sending_of es) sent (level_as es all (level_of (λ (d : Done M K). d.session * 2 ^ 32 + d.number) es level)) rising (members (map sending_of es) sent same) (omega (arith, long))
