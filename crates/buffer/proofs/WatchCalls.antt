-- What the calls on watchers do and answer, case by case.
use Rattle.std.proofs.Common.{◌≡◌, ℕ, ◌<◌, ◌≤◌, List, [], ◌∷◌, length, Bool, true, false, cond, Option, Some, None, refl, sym, subst, ap, ◌∙◌, ◌⊎◌, inl, inr, arith}
use Rattle.std.specs.Prelude.{nat_le, ◌==◌, not, is_some, Result, Ok, Err, IsErr, MatchOption, ◌↔◌}
use Rattle.std.proofs.lemmas.Bool.{cases_Bool}
use Rattle.std.specs.List.{filter}
use Rattle.std.proofs.lemmas.Bool.Decides.{nat_tests}
use Rattle.std.proofs.lemmas.List.{length-map}
use Rattle.watch.specs.declared.seat.Seat.{Seat}
use Rattle.watch.specs.Log.{log_of}
use Rattle.watch.specs.Seats.{AreSeats, RisesFrom, is_there, slot_of}
use Rattle.followers.specs.Following.{told_of, watching, watchings}
use Rattle.followers.proofs.WatchLemmas.{as_many, there_is}
use Rattle.points.specs.declared.limits.TheConstants.{MAX_WATCHERS}
use Rattle.machine.specs.declared.reply.CallRefusal.TheVariants as no
use Rattle.machine.specs.Machine.{State, Answer, Watching, Done, Heard, Refused, step, counted, tells, with_watchers, with_watcher, watcher_with, unwatch_step, watch, unwatch}

abbrev watch_by : State → ℕ → Bool → Bool → State × Answer
watch_by s id taken full = cond taken (tells s (Refused no.WatchTaken)) (cond full (tells s (Refused no.WatchFull)) (with_watchers s (with_watcher id s.watchers) Done))

taken_by : (s : State) (id : ℕ) (taken full : Bool) → taken ≡ true → watch_by s id taken full ≡ (counted s, Refused no.WatchTaken)
taken_by s id taken full is = rw is refl

full_by : (s : State) (id : ℕ) (taken full : Bool) → taken ≡ false → full ≡ true → watch_by s id taken full ≡ (counted s, Refused no.WatchFull)
full_by s id taken full isnt is = rw (isnt, is) refl

attached_by : (s : State) (id : ℕ) (taken full : Bool) → taken ≡ false → full ≡ false → watch_by s id taken full ≡ (counted (record s { watchers = with_watcher id s.watchers }), Done)
attached_by s id taken full isnt room = rw (isnt, room) refl

pub watch_taken : (s : State) (id : ℕ) → is_some (watcher_with id s.watchers) ≡ true → step s (watch id) ≡ (counted s, Refused no.WatchTaken)
unfolding step
watch_taken s id taken = taken_by s id _ _ taken

pub watch_full : (s : State) (id : ℕ) → is_some (watcher_with id s.watchers) ≡ false → MAX_WATCHERS ≤ length s.watchers → step s (watch id) ≡ (counted s, Refused no.WatchFull)
unfolding step
watch_full s id new full = full_by s id _ _ new (grind (arith, nat_tests, full))

pub attached : (s : State) (id : ℕ) → is_some (watcher_with id s.watchers) ≡ false → length s.watchers < MAX_WATCHERS
    → step s (watch id) ≡ (counted (record s { watchers = with_watcher id s.watchers }), Done)
unfolding step
attached s id new room = attached_by s id _ _ new (grind (arith, nat_tests, room))

off_by : (s : State) (id : ℕ) (o : Option Watching) (w : Watching) → o ≡ Some w → unwatch_step s id o ≡ (counted (record s { watchers = filter (λ v. not (v.id == id)) s.watchers }), Heard (length w.heard))
off_by s id o w is = rw is refl

unknown_by : (s : State) (id : ℕ) (o : Option Watching) → is_some o ≡ false → unwatch_step s id o ≡ (counted s, Refused no.WatchUnknown)
unknown_by s id None none = refl
unknown_by s id (Some w) none = cc

pub taken_off : (s : State) (id : ℕ) (w : Watching) → watcher_with id s.watchers ≡ Some w
    → step s (unwatch id) ≡ (counted (record s { watchers = filter (λ v. not (v.id == id)) s.watchers }), Heard (length w.heard))
unfolding step
taken_off s id w is = off_by s id (watcher_with id s.watchers) w is

pub watch_unknown : (s : State) (id : ℕ) → is_some (watcher_with id s.watchers) ≡ false → step s (unwatch id) ≡ (counted s, Refused no.WatchUnknown)
unfolding step
watch_unknown s id none = unknown_by s id (watcher_with id s.watchers) none

-- ---- from the slots to the machine's list

-- one of two, and not the other
pub one_of_two : {A P : Type 0} (x a b : A) → (x ≡ a) ⊎ (x ≡ b) → (x ≡ b → ⊥) → (x ≡ a → P) → P
one_of_two x a b (inl is) other call = call is
one_of_two x a b (inr is) other call = absurd (other is)

pub turned : {P Q : Type 0} → P ⊎ Q → Q ⊎ P
turned (inl p) = inr p
turned (inr q) = inl q

-- where a call was done, its refusal's cause wasn't there
pub there_where_ok : (b : Bool) → ((false ≡ true) ↔ (b ≡ false)) → b ≡ true
there_where_ok b h = elim (cases_Bool b) [ inl is ↦ is | inr isnt ↦ let bad : false ≡ true = h.1 isnt in cc ]

same_told : {B E : Type 0} (p q : B × ℕ) (r : Result (B × ℕ) E) → r ≡ Ok p → r ≡ Ok q → p.1 ≡ q.1
same_told {B} p q r a b = let pair : p ≡ q = cc in ap (λ (x : B × ℕ). x.1) pair

module _ {W : Type 0} where
  -- the number that comes with a box that is handed back
  pub told_is : {B E : Type 0} (o : Option (Seat W)) (seat : Seat W) (box : Seat W → B) (p : B × ℕ) (r : Result (B × ℕ) E) → o ≡ Some seat → r ≡ Ok p → MatchOption o (IsErr r) (λ s. r ≡ Ok (box s, s.told)) → p.1 ≡ seat.told
  told_is None seat box p r e done h = cc
  told_is (Some x) seat box p r e done h = let same : x ≡ seat = cc in same_told p (box x, x.told) r done h ∙ ap (λ (y : Seat W). y.told) same

  pub not_there : (s : State) (id : ℕ) (os : List (Option (Seat W))) → s.watchers ≡ watchings os → RisesFrom 0 os → is_there id os ≡ false → is_some (watcher_with id s.watchers) ≡ false
  not_there s id os same rises none = ap (λ (ws : List Watching). is_some (watcher_with id ws)) same ∙ (there_is id 0 os rises ∙ none)

  pub there : (s : State) (id : ℕ) (os : List (Option (Seat W))) → s.watchers ≡ watchings os → RisesFrom 0 os → is_there id os ≡ true → is_some (watcher_with id s.watchers) ≡ true
  there s id os same rises is = ap (λ (ws : List Watching). is_some (watcher_with id ws)) same ∙ (there_is id 0 os rises ∙ is)

  pub as_long : (s : State) (os : List (Option (Seat W))) → s.watchers ≡ watchings os → RisesFrom 0 os → length s.watchers ≡ length os
  as_long s os same rises = ap (λ (ws : List Watching). length ws) same ∙ as_many 0 os rises

  -- what is true of each seat is true of the one that is found
  of_first : (K : Seat W → Type 0) (b : Bool) (s seat : Seat W) (o : Option (Seat W)) → cond b (Some s) o ≡ Some seat → K s → (o ≡ Some seat → K seat) → K seat
  of_first K true s seat o e here later = let same : s ≡ seat = cc in subst K same here
  of_first K false s seat o e here later = later e

  pub of_found : (K : Seat W → Type 0) (n : ℕ) (os : List (Option (Seat W))) (seat : Seat W) → AreSeats K os → slot_of n os ≡ Some seat → K seat
  of_found K n [] seat all is = cc
  of_found K n (None ∷ os) seat all is = absurd all.0
  of_found K n (Some s ∷ os) seat all is = of_first K (s.id == n) s seat (slot_of n os) is all.0 (λ h. of_found K n os seat all.1 h)

  pub heard_all : (seat : Seat W) (told : ℕ) → told ≡ seat.told → seat.told ≡ length (log_of seat.log) → told ≡ length (watching seat).heard
  heard_all seat told is long = is ∙ (long ∙ sym (length-map (log_of seat.log) told_of))
