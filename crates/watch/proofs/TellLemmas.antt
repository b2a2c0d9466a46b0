-- Slots whose seats are told a change in turn.
use Rattle.std.proofs.Common.{◌≡◌, ℕ, zero, suc, ◌+◌, ◌<◌, ◌≤◌, List, [], ◌∷◌, length, get_or, set, refl, ap, arith, add-one}
use Rattle.std.specs.Prelude.{Option, Some, None}
use Rattle.std.specs.List.{refill}
use Rattle.patch.specs.declared.change.Change.{Change}
use Rattle.watch.specs.declared.seat.Seat.{Seat}
use Rattle.watch.specs.Seats.{Holds, AreSeats, WasTold, Follows, AllFollow, RisesFrom, Stands}

module _ {W : Type 0} where
  module _ (R : Option (Seat W) → Option (Seat W) → Type 0) where
    -- R holds of the first i slots before and after, and the others are as they were
    abbrev pub Partly : ℕ → List (Option (Seat W)) → List (Option (Seat W)) → Type 0
    Partly zero os ps = ps ≡ os
    Partly (suc i) [] ps = ps ≡ []
    Partly (suc i) (o ∷ os) [] = ⊥
    Partly (suc i) (o ∷ os) (p ∷ ps) = R o p × Partly i os ps

    same_next : (i : ℕ) (os ps : List (Option (Seat W))) (d : Option (Seat W)) → Partly i os ps → i < length os → get_or ps i d ≡ get_or os i d
    same_next i [] ps d h l = absurd (omega arith)
    same_next zero (o ∷ os) ps d h l = ap (λ q. get_or q 0 d) h
    same_next (suc i) (o ∷ os) [] d h l = absurd h
    same_next (suc i) (o ∷ os) (p ∷ ps) d h l = same_next i os ps d h.1 (omega arith)

    next_told : (i : ℕ) (os ps : List (Option (Seat W))) (d p : Option (Seat W)) → Partly i os ps → i < length os → R (get_or os i d) p → Partly (suc i) os (set ps i p)
    next_told i [] ps d p h l r = absurd (omega arith)
    next_told zero (o ∷ os) ps d p h l r = rw h (r, refl)
    next_told (suc i) (o ∷ os) [] d p h l r = absurd h
    next_told (suc i) (o ∷ os) (q ∷ ps) d p h l r = (h.0, next_told i os ps d p h.1 (omega arith) r)

    pub told_more : (i : ℕ) (os ps : List (Option (Seat W))) (d p : Option (Seat W)) → Partly i os ps → i < length os → R (get_or ps i d) p → Partly (i + 1) os (set ps i p)
    told_more i os ps d p h l r = rw add-one (next_told i os ps d p h l (rw (same_next i os ps d h l) at r))

  module _ (c : Change) (K : Seat W → Type 0) where
    -- a slot whose seat was told the change
    abbrev pub Told : Option (Seat W) → Option (Seat W) → Type 0
    Told o p = Follows (WasTold c) o p × Holds K p

    pub all_told : (i : ℕ) (os ps : List (Option (Seat W))) → length os ≤ i → Partly Told i os ps → AllFollow (WasTold c) os ps × AreSeats K ps
    all_told zero [] ps l h = rw h (record {}, record {})
    all_told zero (o ∷ os) ps l h = absurd (omega arith)
    all_told (suc i) [] ps l h = rw h (record {}, record {})
    all_told (suc i) (o ∷ os) [] l h = absurd h
    all_told (suc i) (o ∷ os) (p ∷ ps) l h = let rest = all_told i os ps (omega arith) h.1 in ((h.0.0, rest.0), (h.0.1, rest.1))

  -- telling leaves the ids
  pub told_rises : (c : Change) (m : ℕ) (os ps : List (Option (Seat W))) → AllFollow (WasTold c) os ps → RisesFrom m os → RisesFrom m ps
  told_rises c m [] [] h r = record {}
  told_rises c m [] (p ∷ ps) h r = absurd h
  told_rises c m (o ∷ os) [] h r = absurd h
  told_rises c m (None ∷ os) (p ∷ ps) h r = absurd r
  told_rises c m (Some s ∷ os) (None ∷ ps) h r = absurd h.0
  told_rises c m (Some s ∷ os) (Some t ∷ ps) h r = rw h.0.id (r.0, told_rises c (suc s.id) os ps h.1 r.1)

  -- what is true of a seat in the next slot
  pub seat_next : (R : Option (Seat W) → Option (Seat W) → Type 0) (K : Seat W → Type 0) (i : ℕ) (os ps : List (Option (Seat W))) (d : Option (Seat W)) → Partly R i os ps → i < length os → AreSeats K os → Holds K (get_or ps i d)
  seat_next R K i [] ps d h l a = absurd (omega arith)
  seat_next R K zero (o ∷ os) ps d h l a = rw h a.0
  seat_next R K (suc i) (o ∷ os) [] d h l a = absurd h
  seat_next R K (suc i) (o ∷ os) (p ∷ ps) d h l a = seat_next R K i os ps d h.1 (omega arith) a.1

  pub fewer : (m n : ℕ) (os : List (Option (Seat W))) → m < n → AreSeats (λ s. s.told ≤ m) os → AreSeats (λ s. s.told < n) os
  fewer m n [] h a = record {}
  fewer m n (None ∷ os) h a = absurd a.0
  fewer m n (Some s ∷ os) h a = let low = a.0 in (omega (arith, low, h), fewer m n os h a.1)

  one_more : (c : Change) (m : ℕ) (os ps : List (Option (Seat W))) → AllFollow (WasTold c) os ps → AreSeats (λ s. s.told ≤ m) os → AreSeats (λ s. s.told ≤ m + 1) ps
  one_more c m [] [] h a = record {}
  one_more c m [] (p ∷ ps) h a = absurd h
  one_more c m (o ∷ os) [] h a = absurd h
  one_more c m (None ∷ os) (p ∷ ps) h a = absurd a.0
  one_more c m (Some s ∷ os) (None ∷ ps) h a = absurd h.0
  one_more c m (Some s ∷ os) (Some t ∷ ps) h a = let low = a.0 in let told = h.0.told in (omega (arith, low, told), one_more c m os ps h.1 a.1)

  -- the slots stand as they should when each seat was told a change
  pub told_stands : (K : Seat W → Type 0) (c : Change) (m : ℕ) (os ps : List (Option (Seat W))) → Stands K m os → AllFollow (WasTold c) os ps → AreSeats K ps → Stands K (m + 1) ps
  told_stands K c m os ps h told kept = record {
    order = told_rises c 0 os ps told h.order;
    kept = kept;
    few = one_more c m os ps told h.few;
  }

  same_length : (c : Change) (os ps : List (Option (Seat W))) → AllFollow (WasTold c) os ps → length ps ≡ length os
  same_length c [] [] h = refl
  same_length c [] (p ∷ ps) h = absurd h
  same_length c (o ∷ os) [] h = absurd h
  same_length c (o ∷ os) (p ∷ ps) h = ap (λ n. suc n) (same_length c os ps h.1)

  filled : (os ps : List (Option (Seat W))) → length ps ≡ length os → refill (length os) os ps ≡ ps
  filled [] [] h = refl
  filled [] (p ∷ ps) h = absurd (omega (arith, h))
  filled (o ∷ os) [] h = absurd (omega (arith, h))
  filled (o ∷ os) (p ∷ ps) h = ap (λ l. p ∷ l) (filled os ps (omega (arith, h)))

  -- so where they are written back
  pub refilled_stands : (K : Seat W → Type 0) (c : Change) (m : ℕ) (os qs ps : List (Option (Seat W))) → qs ≡ os → Stands K m os → AllFollow (WasTold c) qs ps → AreSeats K ps → Stands K (m + 1) (refill (length os) os ps)
  refilled_stands K c m os qs ps q h told kept =
      let told' : AllFollow (WasTold c) os ps = rw q at told in
      rw (filled os ps (same_length c os ps told')) (told_stands K c m os ps h told' kept)
