-- Places among slots whose ids rise.
use Rattle.std.proofs.Common.{◌≡◌, ℕ, zero, suc, ◌+◌, ◌<◌, ◌≤◌, Bool, true, false, cond, List, [], ◌∷◌, length, get_or, drop, refl, sym, ap, ◌∙◌, inl, inr, arith, add-one}
use Rattle.std.proofs.lemmas.Bool.Decides.{nat_tests}
use Rattle.std.proofs.lemmas.Bool.{cases_lt, lt-ltb, le-ltb, false≢true}
use Rattle.std.proofs.Math.ListN.{drop_of_length-le}
use Rattle.std.specs.Prelude.{Option, Some, None, ◌==◌, ◌||◌, insert, remove}
use Rattle.watch.specs.declared.seat.Seat.{Seat}
use Rattle.watch.specs.Seats.{AreSeats, is_of, is_below, is_there, slot_of, RisesFrom, count_below, Stands}

one_more : (b : Bool) (k n : ℕ) → k ≤ n → cond b (suc k) 0 ≤ suc n
one_more true k n h = omega (arith, h)
one_more false k n h = omega arith

or_false : (b : Bool) → b ≡ (b || false)
or_false true = refl
or_false false = refl

both_false : (a b : Bool) → (a || b) ≡ false → (a ≡ false) × (b ≡ false)
both_false true b h = cc
both_false false b h = (refl, h)

first_true : (a b : Bool) → (a || b) ≡ true → b ≡ false → a ≡ true
first_true true b h e = refl
first_true false b h e = cc

module _ {W : Type 0} where
  count_next : (n i : ℕ) (os : List (Option (Seat W))) (o : Option (Seat W)) → i < length os → o ≡ get_or os i o → is_below n o ≡ true → count_below n (drop i os) ≡ suc (count_below n (drop (suc i) os))
  count_next n i [] o h is b = absurd (omega arith)
  count_next n zero (x ∷ xs) o h is b = let e : is_below n x ≡ true = ap (λ y. is_below n y) (sym is) ∙ b in rw e refl
  count_next n (suc i) (x ∷ xs) o h is b = count_next n i xs o (omega arith) is b

  count_stops : (n i : ℕ) (os : List (Option (Seat W))) (o : Option (Seat W)) → i < length os → o ≡ get_or os i o → is_below n o ≡ false → count_below n (drop i os) ≡ 0
  count_stops n i [] o h is b = absurd (omega arith)
  count_stops n zero (x ∷ xs) o h is b = let e : is_below n x ≡ false = ap (λ y. is_below n y) (sym is) ∙ b in rw e refl
  count_stops n (suc i) (x ∷ xs) o h is b = count_stops n i xs o (omega arith) is b

  -- the pass over the slots: the next has a lower id, or it hasn't, or there is none
  pub place_goes_on : (n i : ℕ) (os : List (Option (Seat W))) (o : Option (Seat W)) → i < length os → o ≡ get_or os i o → is_below n o ≡ true → i + count_below n (drop i os) ≡ count_below n os → (i + 1) + count_below n (drop (i + 1) os) ≡ count_below n os
  place_goes_on n i os o h is b e = let next = count_next n i os o h is b in rw add-one (omega (arith, next, e))

  pub place_stops : (n i : ℕ) (os : List (Option (Seat W))) (o : Option (Seat W)) → i < length os → o ≡ get_or os i o → is_below n o ≡ false → i + count_below n (drop i os) ≡ count_below n os → i ≡ count_below n os
  place_stops n i os o h is b e = let none = count_stops n i os o h is b in omega (arith, none, e)

  pub place_ends : (n i : ℕ) (os : List (Option (Seat W))) → length os ≤ i → i + count_below n (drop i os) ≡ count_below n os → i ≡ count_below n os
  place_ends n i os h e = let none : count_below n (drop i os) ≡ 0 = ap (λ l. count_below n l) (drop_of_length-le os {i = i} h) in omega (arith, none, e)

  pub count_within : (n : ℕ) (os : List (Option (Seat W))) → count_below n os ≤ length os
  count_within n [] = omega arith
  count_within n (o ∷ os) = one_more (is_below n o) (count_below n os) (length os) (count_within n os)

  -- where all are above n, there is none of n
  none_below : (n m : ℕ) (os : List (Option (Seat W))) → RisesFrom m os → n < m → is_there n os ≡ false
  none_below n m [] r h = refl
  none_below n m (None ∷ os) r h = absurd r
  none_below n m (Some s ∷ os) r h =
      let low = r.0 in
      let e : (s.id == n) ≡ false = grind (arith, nat_tests, low, h) in
      rw e (none_below n (suc s.id) os r.1 (omega (arith, low, h)))

  -- the place that the count tells holds the seat of n, where there is one
  pub here_there : (n m : ℕ) (os : List (Option (Seat W))) (o : Option (Seat W)) → RisesFrom m os → count_below n os < length os → o ≡ get_or os (count_below n os) o → is_of n o ≡ is_there n os
  here_there n m [] o r l is = absurd (omega arith)
  here_there n m (None ∷ os) o r l is = absurd r
  here_there n m (Some s ∷ os) o r l is = elim (cases_lt s.id n) [
    | inl low ↦
        let e : (s.id == n) ≡ false = grind (arith, nat_tests, low) in
        let within : suc (count_below n os) < suc (length os) = rw (lt-ltb s.id n low) at l in
        let next : o ≡ get_or os (count_below n os) o = rw (lt-ltb s.id n low) at is in
        rw e (here_there n (suc s.id) os o r.1 (omega (arith, within)) next)
    | inr high ↦
        let next : o ≡ Some s = rw (le-ltb s.id n high) at is in
        rw (next, none_below n (suc s.id) os r.1 (omega (arith, high))) (or_false (s.id == n))
  ]

  pub not_here : (n m : ℕ) (os : List (Option (Seat W))) → RisesFrom m os → length os ≤ count_below n os → false ≡ is_there n os
  not_here n m [] r l = refl
  not_here n m (None ∷ os) r l = absurd r
  not_here n m (Some s ∷ os) r l = elim (cases_lt s.id n) [
    | inl low ↦
        let e : (s.id == n) ≡ false = grind (arith, nat_tests, low) in
        let within : suc (length os) ≤ suc (count_below n os) = rw (lt-ltb s.id n low) at l in
        rw e (not_here n (suc s.id) os r.1 (omega (arith, within)))
    | inr high ↦
        let within : suc (length os) ≤ 0 = rw (le-ltb s.id n high) at l in
        absurd (omega (arith, within))
  ]

  -- the seat of n, and where it is
  pub record Found (n : ℕ) (os : List (Option (Seat W))) : Type 0 where
    pub seat : Seat W
    pub within : count_below n os < length os
    pub here : (d : Option (Seat W)) → get_or os (count_below n os) d ≡ Some seat
    pub first : slot_of n os ≡ Some seat

  pub found : (n m : ℕ) (os : List (Option (Seat W))) → RisesFrom m os → is_there n os ≡ true → Found n os
  found n m [] r t = absurd (false≢true t)
  found n m (None ∷ os) r t = absurd r
  found n m (Some s ∷ os) r t = elim (cases_lt s.id n) [
    | inl low ↦
        let e : (s.id == n) ≡ false = grind (arith, nat_tests, low) in
        let rest = found n (suc s.id) os r.1 (rw e at t) in
        let more = rest.within in
        record { seat = rest.seat; within = rw (lt-ltb s.id n low) (omega (arith, more)); here = λ d. rw (lt-ltb s.id n low) (rest.here d); first = rw e rest.first }
    | inr high ↦
        let e : (s.id == n) ≡ true = first_true (s.id == n) (is_there n os) t (none_below n (suc s.id) os r.1 (omega (arith, high))) in
        record { seat = s; within = rw (le-ltb s.id n high) (omega arith); here = λ d. rw (le-ltb s.id n high) refl; first = rw e refl }
  ]

  pub slot_none : (n : ℕ) (os : List (Option (Seat W))) → is_there n os ≡ false → slot_of n os ≡ None
  slot_none n [] h = refl
  slot_none n (o ∷ os) h = let none = both_false (is_of n o) (is_there n os) h in rw none.0 (slot_none n os none.1)

  -- the ids still rise when one is put in or taken out
  pub insert_rises : (n m : ℕ) (s : Seat W) (os : List (Option (Seat W))) → RisesFrom m os → m ≤ n → s.id ≡ n → is_there n os ≡ false → RisesFrom m (insert os (count_below n os) (Some s))
  insert_rises n m s [] r h e t = (omega (arith, h, e), record {})
  insert_rises n m s (None ∷ os) r h e t = absurd r
  insert_rises n m s (Some x ∷ os) r h e t =
      let none = both_false (x.id == n) (is_there n os) t in
      let apart = none.0 in
      elim (cases_lt x.id n) [
        | inl low ↦ rw (lt-ltb x.id n low) (r.0, insert_rises n (suc x.id) s os r.1 (omega (arith, low)) e none.1)
        | inr high ↦
            let above : suc s.id ≤ x.id = grind (arith, nat_tests, high, apart, e) in
            rw (le-ltb x.id n high) (omega (arith, h, e), (above, r.1))
      ]

  rises_lower : (m k : ℕ) (os : List (Option (Seat W))) → m ≤ k → RisesFrom k os → RisesFrom m os
  rises_lower m k [] h r = r
  rises_lower m k (None ∷ os) h r = absurd r
  rises_lower m k (Some s ∷ os) h r = let low = r.0 in (omega (arith, low, h), r.1)

  pub remove_rises : (k m : ℕ) (os : List (Option (Seat W))) → RisesFrom m os → RisesFrom m (remove os k)
  remove_rises zero m [] r = r
  remove_rises (suc k) m [] r = r
  remove_rises k m (None ∷ os) r = absurd r
  remove_rises zero m (Some s ∷ os) r = let low = r.0 in rises_lower m (suc s.id) os (omega (arith, low)) r.1
  remove_rises (suc k) m (Some s ∷ os) r = (r.0, remove_rises k (suc s.id) os r.1)

  -- what holds of each seat
  pub insert_seats : (K : Seat W → Type 0) (k : ℕ) (s : Seat W) (os : List (Option (Seat W))) → AreSeats K os → K s → AreSeats K (insert os k (Some s))
  insert_seats K zero s [] a h = (h, a)
  insert_seats K (suc k) s [] a h = (h, a)
  insert_seats K zero s (o ∷ os) a h = (h, a)
  insert_seats K (suc k) s (o ∷ os) a h = (a.0, insert_seats K k s os a.1 h)

  pub remove_seats : (K : Seat W → Type 0) (k : ℕ) (os : List (Option (Seat W))) → AreSeats K os → AreSeats K (remove os k)
  remove_seats K zero [] a = a
  remove_seats K (suc k) [] a = a
  remove_seats K zero (o ∷ os) a = a.1
  remove_seats K (suc k) (o ∷ os) a = (a.0, remove_seats K k os a.1)

  -- the slots stand as they should when a seat is put in or taken out
  pub insert_stands : (K : Seat W → Type 0) (told n : ℕ) (s : Seat W) (os : List (Option (Seat W))) → Stands K told os → s.id ≡ n → s.told ≡ 0 → is_there n os ≡ false → K s → Stands K told (insert os (count_below n os) (Some s))
  insert_stands K told n s os h e z t k = record {
    order = insert_rises n 0 s os h.order (omega arith) e t;
    kept = insert_seats K (count_below n os) s os h.kept k;
    few = insert_seats (λ x. x.told ≤ told) (count_below n os) s os h.few (omega (arith, z));
  }

  pub remove_stands : (K : Seat W → Type 0) (told k : ℕ) (os : List (Option (Seat W))) → Stands K told os → Stands K told (remove os k)
  remove_stands K told k os h = record {
    order = remove_rises k 0 os h.order;
    kept = remove_seats K k os h.kept;
    few = remove_seats (λ x. x.told ≤ told) k os h.few;
  }

  -- what the calls read of a slice is true of the slots
  pub tested : (n : ℕ) (os qs : List (Option (Seat W))) (b t : Bool) → qs ≡ os → b ≡ is_there n qs → b ≡ t → is_there n os ≡ t
  tested n os qs b t q e h = ap (λ (l : List (Option (Seat W))). is_there n l) (sym q) ∙ (sym e ∙ h)

  pub placed : (n p : ℕ) (os qs : List (Option (Seat W))) → qs ≡ os → p ≡ count_below n qs → p ≡ count_below n os
  placed n p os qs q e = e ∙ ap (λ (l : List (Option (Seat W))). count_below n l) q

  pub put_in : (n p : ℕ) (s : Seat W) (os news : List (Option (Seat W))) → p ≡ count_below n os → news ≡ insert os p (Some s) → news ≡ insert os (count_below n os) (Some s)
  put_in n p s os news e h = h ∙ ap (λ (k : ℕ). insert os k (Some s)) e

  pub put_out : (n p : ℕ) (os news : List (Option (Seat W))) → p ≡ count_below n os → news ≡ remove os p → news ≡ remove os (count_below n os)
  put_out n p os news e h = h ∙ ap (λ (k : ℕ). remove os k) e

  pub taken_out : (n p : ℕ) (os : List (Option (Seat W))) (d : Option (Seat W)) (f : Found n os) → p ≡ count_below n os → d ≡ get_or os p d → d ≡ Some f.seat
  taken_out n p os d f e h = h ∙ (ap (λ (k : ℕ). get_or os k d) e ∙ f.here d)
