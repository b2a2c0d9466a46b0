-- What halving finds: the last item that passes, and the items between two places.
use Rattle.std.proofs.Common.{◌≡◌, ℕ, suc, zero, ◌+◌, ◌-◌, ◌<◌, ◌≤◌, List, [], ◌∷◌, length, get_or, cond, ltb, eqb, Bool, true, false, Option, Some, None, unwrap_or, count_by, map, refl, sym, ap, ◌∙◌, arith, IfSome, SomeIff}
use Rattle.std.specs.Option.{option_or}
use Rattle.std.specs.List.{position_from}
use Rattle.std.specs.List.Sorted.{IsPartitionPoint}
use Rattle.std.proofs.lemmas.List.Sums.{sum_by-cons}
use Rattle.std.proofs.lemmas.Bool.{ne_eqb, lt-ltb, le-ltb}
use Rattle.std.proofs.lemmas.Bool.Decides.{nat_tests}
use Rattle.patch.specs.LookUp.{last_from, run_where}
use Rattle.patch.specs.declared.change.Run.{Run}

none_last : {X : Type 0} (q : X → Bool) (i : ℕ) (xs : List X) → ((k : ℕ) (d : X) → k < length xs → q (get_or xs k d) ≡ false) → last_from q i xs ≡ None
none_last q i [] none = refl
none_last q i (x ∷ xs) none = rw (none_last q (i + 1) xs (λ k d lt. none (suc k) d (omega arith))) (rw (none 0 x (omega arith)) refl)

last_is : {X : Type 0} (q : X → Bool) (i n : ℕ) (xs : List X) → n < length xs → ((k : ℕ) (d : X) → k ≤ n → q (get_or xs k d) ≡ true) → ((k : ℕ) (d : X) → n < k → k < length xs → q (get_or xs k d) ≡ false) → last_from q i xs ≡ Some (i + n)
last_is q i n [] within passes fails = absurd (omega arith)
last_is q i zero (x ∷ xs) within passes fails = rw (none_last q (i + 1) xs (λ k d lt. fails (suc k) d (omega arith) (omega arith))) (rw (passes 0 x (omega arith)) (ap Some (omega arith)))
last_is q i (suc n) (x ∷ xs) within passes fails = ap (λ (o : Option ℕ). option_or o (cond (q x) (Some i) None)) (last_is q (i + 1) n xs (omega arith) (λ k d le. passes (suc k) d (omega arith)) (λ k d gt lt. fails (suc k) d (omega arith) (omega arith))) ∙ ap Some (omega arith)

none_here : (n : ℕ) → (1 ≤ n → ⊥) → let none : Option ℕ = None in cond (eqb n 0) none (Some (n - 1)) ≡ none
none_here zero h = refl
none_here (suc n) h = absurd (h (omega arith))

some_here : (n at : ℕ) → 1 ≤ n → at ≡ n - 1 → Some at ≡ cond (eqb n 0) None (Some (n - 1))
some_here zero at some_before e = absurd (omega arith)
some_here (suc n) at some_before e = rw (ne_eqb (suc n) 0 (λ same. omega arith)) (ap Some e)

-- the items that pass come first: the last of them
pub last_found : {X : Type 0} (q : X → Bool) (xs : List X) (n : ℕ) → n ≤ length xs → IsPartitionPoint (λ x. q x ≡ true) (λ x. q x ≡ false) xs n → last_from q 0 xs ≡ cond (eqb n 0) None (Some (n - 1))
last_found q xs zero within found = none_last q 0 xs (λ k d lt. found.1 k d (omega arith) lt)
last_found q xs (suc n) within found = last_is q 0 n xs (omega arith) (λ k d le. found.0 k d (omega arith) (omega arith)) (λ k d gt lt. found.1 k d (omega arith) lt) ∙ some_here (suc n) (0 + n) (omega arith) (omega arith)

-- the place of the last item that passes, found by halving: it is the one before those that fail
pub last-map : {X Y : Type 0} (f : X → Y) (q : Y → Bool) (i : ℕ) (xs : List X) → last_from q i (map f xs) ≡ last_from (λ x. q (f x)) i xs
last-map f q i [] = refl
last-map f q i (x ∷ xs) = ap (λ (o : Option ℕ). option_or o (cond (q (f x)) (Some i) None)) (last-map f q (i + 1) xs)

pub position-map : {X Y : Type 0} (f : X → Y) (q : Y → Bool) (i : ℕ) (xs : List X) → position_from q i (map f xs) ≡ position_from (λ x. q (f x)) i xs
position-map f q i [] = refl
position-map f q i (x ∷ xs) = ap (cond (q (f x)) (Some i)) (position-map f q (i + 1) xs)

pub count-map : {X Y : Type 0} (f : X → Y) (q : Y → Bool) (xs : List X) → count_by q (map f xs) ≡ count_by (λ x. q (f x)) xs
count-map f q [] = refl
count-map f q (x ∷ xs) = sum_by-cons (λ y. cond (q y) 1 0) (f x) (map f xs) ∙ (ap (λ (n : ℕ). cond (q (f x)) 1 0 + n) (count-map f q xs) ∙ sym (sum_by-cons (λ z. cond (q (f z)) 1 0) x xs))

-- the items between two places pass, and no other
pub record IsBetween {X : Type 0} (q : X → Bool) (xs : List X) (first stop : ℕ) : Type 0 where
  pub first_in : first ≤ length xs
  pub stop_in : stop ≤ length xs
  pub inside : (k : ℕ) (d : X) → first ≤ k → k < stop → q (get_or xs k d) ≡ true
  pub before : (k : ℕ) (d : X) → k < first → q (get_or xs k d) ≡ false
  pub after : (k : ℕ) (d : X) → stop ≤ k → k < length xs → q (get_or xs k d) ≡ false

first_passes : {X : Type 0} (q : X → Bool) (i : ℕ) (x : X) (xs : List X) → q x ≡ true → (position_from q i (x ∷ xs) ≡ Some i) × (count_by q (x ∷ xs) ≡ 1 + count_by q xs)
first_passes q i x xs yes_at = (rw yes_at refl, sum_by-cons (λ y. cond (q y) 1 0) x xs ∙ (rw yes_at refl))

first_fails : {X : Type 0} (q : X → Bool) (i : ℕ) (x : X) (xs : List X) → q x ≡ false → (position_from q i (x ∷ xs) ≡ position_from q (i + 1) xs) × (count_by q (x ∷ xs) ≡ count_by q xs)
first_fails q i x xs no_at = (rw no_at refl, sum_by-cons (λ y. cond (q y) 1 0) x xs ∙ (rw no_at (omega arith)))

pub between_found : {X : Type 0} (q : X → Bool) (i : ℕ) (xs : List X) (first stop : ℕ) → IsBetween q xs first stop → (position_from q i xs ≡ cond (ltb first stop) (Some (i + first)) None) × (count_by q xs ≡ stop - first)
between_found q i [] first stop h = (sym (rw (le-ltb first stop (omega (arith, h.first_in, h.stop_in))) refl), omega (arith, h.stop_in))
between_found q i (x ∷ xs) zero zero h = let f = first_fails q i x xs (h.after 0 x (omega arith) (omega arith)) in let rest = between_found q (i + 1) xs 0 0 record { first_in = omega arith; stop_in = omega arith; inside = λ k d low high. absurd (omega arith); before = λ k d low. absurd (omega arith); after = λ k d low lt. h.after (suc k) d (omega arith) (omega arith) } in
    (f.0 ∙ (rest.0 ∙ refl), omega (arith, f.1, rest.1))
between_found q i (x ∷ xs) zero (suc stop) h = let f = first_passes q i x xs (h.inside 0 x (omega arith) (omega arith)) in let rest = between_found q (i + 1) xs 0 stop record { first_in = omega arith; stop_in = omega (arith, h.stop_in); inside = λ k d low high. h.inside (suc k) d (omega arith) (omega arith); before = λ k d low. absurd (omega arith); after = λ k d low lt. h.after (suc k) d (omega arith) (omega arith) } in
    (f.0 ∙ sym (rw (lt-ltb 0 (suc stop) (omega arith)) (ap Some (omega arith))), omega (arith, f.1, rest.1))
between_found q i (x ∷ xs) (suc first) zero h = let f = first_fails q i x xs (h.before 0 x (omega arith)) in let rest = between_found q (i + 1) xs first 0 record { first_in = omega (arith, h.first_in); stop_in = omega arith; inside = λ k d low high. absurd (omega arith); before = λ k d low. h.before (suc k) d (omega arith); after = λ k d low lt. h.after (suc k) d (omega arith) (omega arith) } in
    (f.0 ∙ (rest.0 ∙ (rw (le-ltb first 0 (omega arith)) (sym (rw (le-ltb (suc first) 0 (omega arith)) refl)))), omega (arith, f.1, rest.1))
between_found q i (x ∷ xs) (suc first) (suc stop) h = let f = first_fails q i x xs (h.before 0 x (omega arith)) in let rest = between_found q (i + 1) xs first stop record { first_in = omega (arith, h.first_in); stop_in = omega (arith, h.stop_in); inside = λ k d low high. h.inside (suc k) d (omega arith) (omega arith); before = λ k d low. h.before (suc k) d (omega arith); after = λ k d low lt. h.after (suc k) d (omega arith) (omega arith) } in
    (f.0 ∙ (rest.0 ∙ one_more (ltb first stop) (ltb (suc first) (suc stop)) first i (same_test first stop)), omega (arith, f.1, rest.1))
  where
    same_test : (a b : ℕ) → ltb a b ≡ ltb (suc a) (suc b)
    same_test a b = grind (arith, nat_tests)

    one_more : (s t : Bool) (a k : ℕ) → s ≡ t → cond s (Some (k + 1 + a)) None ≡ cond t (Some (k + suc a)) None
    one_more s t a k e = let n : k + 1 + a ≡ k + suc a = omega arith in ap (λ (b : Bool). cond b (Some (k + 1 + a)) None) e ∙ ap (λ (m : ℕ). cond t (Some m) None) n

-- the run of the items that pass
pub run_found : {X : Type 0} (q : X → Bool) (xs : List X) (first stop : ℕ) (r : Run) → IsBetween q xs first stop → r.first ≡ cond (ltb first stop) first 0 → r.count ≡ stop - first → r ≡ run_where q xs
run_found q xs first stop r h first_is count_is = let found = between_found q 0 xs first stop h in
    same_run r (run_where q xs) (first_is ∙ (first_at (ltb first stop) first ∙ sym (ap (λ (o : Option ℕ). unwrap_or o 0) found.0))) (count_is ∙ sym found.1)
  where
    first_at : (b : Bool) (n : ℕ) → cond b n 0 ≡ unwrap_or (cond b (Some (0 + n)) None) 0
    first_at true n = omega arith
    first_at false n = refl

    same_run : (a b : Run) → a.first ≡ b.first → a.count ≡ b.count → a ≡ b
    same_run a b e f = ap (λ (n : ℕ). let r : Run = record { first = n; count = a.count } in r) e ∙ ap (λ (n : ℕ). let r : Run = record { first = b.first; count = n } in r) f

-- the answer of a look-up by halving: the last change that passes, seen in the list of what changes show
pub record IsLast {X Y : Type 0} (f : X → Y) (q : Y → Bool) (xs : List X) (r : Option ℕ) : Type 0 where
  pub value : r ≡ last_from q 0 (map f xs)
  pub within : IfSome r (λ at. at < length xs)
  pub passes : IfSome r (λ at. (d : X) → q (f (get_or xs at d)) ≡ true)

pub last_before : {X Y : Type 0} (f : X → Y) (q : Y → Bool) (xs : List X) (n : ℕ) (r : Option ℕ) → n ≤ length xs → IsPartitionPoint (λ x. q (f x) ≡ true) (λ x. q (f x) ≡ false) xs n → SomeIff r (1 ≤ n) (n - 1) → IsLast f q xs r
last_before f q xs n None bound found none = record {
  value = sym (last-map f q 0 xs ∙ (last_found (λ x. q (f x)) xs n bound found ∙ none_here n none));
  within = tt;
  passes = tt;
}
last_before f q xs n (Some at) bound found is = record {
  value = some_here n at is.0 is.1 ∙ sym (last-map f q 0 xs ∙ last_found (λ x. q (f x)) xs n bound found);
  within = omega (arith, is.0, is.1);
  passes = λ d. found.0 at d (omega arith) (omega (arith, is.0, is.1));
}

-- the run of the changes that pass, seen in the list of what changes show
pub run_found_in : {X Y : Type 0} (f : X → Y) (q : Y → Bool) (xs : List X) (first stop : ℕ) (r : Run) → IsBetween (λ x. q (f x)) xs first stop → r.first ≡ cond (ltb first stop) first 0 → r.count ≡ stop - first → r ≡ run_where q (map f xs)
run_found_in f q xs first stop r h first_is count_is = run_found (λ x. q (f x)) xs first stop r h first_is count_is
    ∙ (ap (λ (o : Option ℕ). let r : Run = record { first = unwrap_or o 0; count = count_by (λ x. q (f x)) xs } in r) (sym (position-map f q 0 xs))
    ∙ ap (λ (n : ℕ). let r : Run = record { first = unwrap_or (position_from q 0 (map f xs)) 0; count = n } in r) (sym (count-map f q xs)))
