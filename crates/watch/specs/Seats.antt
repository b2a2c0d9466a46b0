-- The slots of a table of watchers. Each holds a seat, in rising order of ids.
use Rattle.std.specs.Prelude.{◌≡◌, ℕ, suc, ◌+◌, ◌≤◌, ◌==◌, ◌||◌, ⊤, Bool, false, if◌then◌else◌, nat_lt, List, [], ◌∷◌, ◌++◌, insert, Option, Some, None}
use Rattle.patch.specs.declared.change.Change.{Change}
use Rattle.watch.specs.declared.seat.Seat.{Seat}
use Rattle.watch.specs.declared.watcher.Heard.{Heard}
use Rattle.watch.specs.Heard.{heard_of}
use Rattle.watch.specs.Kept.{IsKept}
use Rattle.watch.specs.Log.{log_of}

module _ {W : Type 0} where
  -- the watcher of a seat, which counts and lists so, heard what it was told since it was attached
  abbrev pub HasHeard : (W → ℕ) → (W → Option (List Heard)) → Seat W → Type 0
  HasHeard count_of list_of s = IsKept (count_of s.watcher.value) (list_of s.watcher.value) (count_of s.opened.value.value) (list_of s.opened.value.value) s.told (log_of s.log)

  -- K holds of the seat in a slot, and there is one
  abbrev pub Holds : (Seat W → Type 0) → Option (Seat W) → Type 0
  Holds K None = ⊥
  Holds K (Some s) = K s

  -- so in each slot
  abbrev pub AreSeats : (Seat W → Type 0) → List (Option (Seat W)) → Type 0
  AreSeats K [] = ⊤
  AreSeats K (o ∷ os) = Holds K o × AreSeats K os

  -- the seat was told one change more, and is as it was otherwise
  pub record WasTold (change : Change) (old new : Seat W) : Type 0 where
    pub id : new.id ≡ old.id
    pub told : new.told ≡ old.told + 1
    pub opened : new.opened ≡ old.opened
    pub log : log_of new.log ≡ log_of old.log ++ heard_of change ∷ []

  -- R holds of the seats in a slot before a call and after it
  abbrev pub Follows : (Seat W → Seat W → Type 0) → Option (Seat W) → Option (Seat W) → Type 0
  Follows R None o = ⊥
  Follows R (Some s) None = ⊥
  Follows R (Some s) (Some t) = R s t

  -- so in each slot, and none is added or taken off
  abbrev pub AllFollow : (Seat W → Seat W → Type 0) → List (Option (Seat W)) → List (Option (Seat W)) → Type 0
  AllFollow R [] [] = ⊤
  AllFollow R [] (p ∷ ps) = ⊥
  AllFollow R (o ∷ os) [] = ⊥
  AllFollow R (o ∷ os) (p ∷ ps) = Follows R o p × AllFollow R os ps

  -- the new slots are the old ones with one more at a place, and K holds of its seat
  pub record Inserts (K : Seat W → Type 0) (at : ℕ) (old new : List (Option (Seat W))) : Type 0 where
    pub seat : Seat W
    pub slots : new ≡ insert old at (Some seat)
    pub holds : K seat

  -- whether a slot holds the seat of n
  abbrev pub is_of : ℕ → Option (Seat W) → Bool
  is_of n None = false
  is_of n (Some s) = s.id == n

  -- whether its seat's id is below n
  abbrev pub is_below : ℕ → Option (Seat W) → Bool
  is_below n None = false
  is_below n (Some s) = nat_lt s.id n

  -- whether any is the seat of n
  abbrev pub is_there : ℕ → List (Option (Seat W)) → Bool
  is_there n [] = false
  is_there n (o ∷ os) = is_of n o || is_there n os

  -- the first slot that holds the seat of n
  abbrev pub slot_of : ℕ → List (Option (Seat W)) → Option (Seat W)
  slot_of n [] = None
  slot_of n (o ∷ os) = if is_of n o then o else slot_of n os

  -- each slot holds a seat, and their ids rise from n on
  abbrev pub RisesFrom : ℕ → List (Option (Seat W)) → Type 0
  RisesFrom n [] = ⊤
  RisesFrom n (None ∷ os) = ⊥
  RisesFrom n (Some s ∷ os) = (n ≤ s.id) × RisesFrom (suc s.id) os

  -- how many seats have an id below n, where they rise
  abbrev pub count_below : ℕ → List (Option (Seat W)) → ℕ
  count_below n [] = 0
  count_below n (o ∷ os) = if is_below n o then suc (count_below n os) else 0

  -- the slots are as calls leave them: the ids rise, K holds of each seat, and none was told more than all were
  pub record Stands (K : Seat W → Type 0) (told : ℕ) (os : List (Option (Seat W))) : Type 0 where
    pub order : RisesFrom 0 os
    pub kept : AreSeats K os
    pub few : AreSeats (λ s. s.told ≤ told) os
