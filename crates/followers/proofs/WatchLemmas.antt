-- Watchers as the plain machine lists them.
use Rattle.std.proofs.Common.{◌≡◌, ℕ, zero, suc, ◌+◌, ◌<◌, ◌≤◌, Bool, true, false, cond, List, [], ◌∷◌, ◌++◌, length, map, Option, Some, None, refl, sym, ap, ◌∙◌, inl, inr, arith}
use Rattle.std.specs.Prelude.{◌==◌, ◌||◌, not, nat_lt, is_some, insert, remove}
use Rattle.std.specs.List.{filter}
use Rattle.std.proofs.lemmas.Bool.{cases_lt, lt-ltb, le-ltb}
use Rattle.std.proofs.lemmas.Bool.Decides.{nat_tests}
use Rattle.std.proofs.lemmas.List.{map-append}
use Rattle.patch.specs.declared.change.Change as code
use Rattle.watch.specs.declared.seat.Seat.{Seat}
use Rattle.watch.specs.Heard.{heard_of}
use Rattle.watch.specs.Log.{log_of}
use Rattle.watch.specs.Seats.{WasTold, AllFollow, RisesFrom, is_there, slot_of, count_below}
use Rattle.machine.specs.Machine.{Watching, heard_more, watcher_with, with_watcher}
use Rattle.followers.specs.Following.{splice_by, told_of, watching, watchings}

both_false : (a b : Bool) → (a || b) ≡ false → (a ≡ false) × (b ≡ false)
both_false true b h = cc
both_false false b h = (refl, h)

first_true : (a b : Bool) → (a || b) ≡ true → (b ≡ true → ⊥) → a ≡ true
first_true true b h none = refl
first_true false b h none = absurd (none h)

some_or : {Y : Type 0} (b : Bool) (y : Y) (o : Option Y) → is_some (cond b (Some y) o) ≡ (b || is_some o)
some_or true y o = refl
some_or false y o = refl

module _ {W : Type 0} where
  told_one : (c : code.Change) (s t : Seat W) → WasTold c s t → watching t ≡ heard_more (splice_by c) (watching s)
  told_one c s t h = rw (h.id, h.log) (ap (λ l. record { id = s.id; heard = l }) (map-append told_of (log_of s.log) (heard_of c ∷ [])))

  -- each watcher that was told heard one change more
  pub told_watchings : (c : code.Change) (os ps : List (Option (Seat W))) → AllFollow (WasTold c) os ps → watchings ps ≡ map (heard_more (splice_by c)) (watchings os)
  told_watchings c [] [] h = refl
  told_watchings c [] (p ∷ ps) h = absurd h
  told_watchings c (o ∷ os) [] h = absurd h
  told_watchings c (None ∷ os) (p ∷ ps) h = absurd h.0
  told_watchings c (Some s ∷ os) (None ∷ ps) h = absurd h.0
  told_watchings c (Some s ∷ os) (Some t ∷ ps) h =
      let one : watching t ≡ heard_more (splice_by c) (watching s) = told_one c s t h.0 in
      let rest : watchings ps ≡ map (heard_more (splice_by c)) (watchings os) = told_watchings c os ps h.1 in
      rw (one, rest) refl

  -- ---- the watchers that are there, by their ids

  pub as_many : (m : ℕ) (os : List (Option (Seat W))) → RisesFrom m os → length (watchings os) ≡ length os
  as_many m [] r = refl
  as_many m (None ∷ os) r = absurd r
  as_many m (Some s ∷ os) r = ap (λ n. suc n) (as_many (suc s.id) os r.1)

  pub there_is : (n m : ℕ) (os : List (Option (Seat W))) → RisesFrom m os → is_some (watcher_with n (watchings os)) ≡ is_there n os
  there_is n m [] r = refl
  there_is n m (None ∷ os) r = absurd r
  there_is n m (Some s ∷ os) r = some_or (s.id == n) (watching s) (watcher_with n (watchings os)) ∙ ap (λ b. (s.id == n) || b) (there_is n (suc s.id) os r.1)

  -- the watcher that is found
  found_by : (b : Bool) (s seat : Seat W) (o : Option (Seat W)) (w : Option Watching) → cond b (Some s) o ≡ Some seat → (o ≡ Some seat → w ≡ Some (watching seat)) → cond b (Some (watching s)) w ≡ Some (watching seat)
  found_by true s seat o w is rest = let e : s ≡ seat = cc in rw e refl
  found_by false s seat o w is rest = rest is

  pub found_watching : (n m : ℕ) (os : List (Option (Seat W))) (seat : Seat W) → RisesFrom m os → slot_of n os ≡ Some seat → watcher_with n (watchings os) ≡ Some (watching seat)
  found_watching n m [] seat r is = cc
  found_watching n m (None ∷ os) seat r is = absurd r
  found_watching n m (Some s ∷ os) seat r is = found_by (s.id == n) s seat (slot_of n os) (watcher_with n (watchings os)) is (λ h. found_watching n (suc s.id) os seat r.1 h)

  -- all ids from m on are above n
  all_above : (n m : ℕ) (os : List (Option (Seat W))) → RisesFrom m os → n < m → filter (λ w. nat_lt n w.id) (watchings os) ≡ watchings os
  all_above n m [] r h = refl
  all_above n m (None ∷ os) r h = absurd r
  all_above n m (Some s ∷ os) r h =
      let low = r.0 in
      let above : n < s.id = omega (arith, low, h) in
      rw (lt-ltb n s.id above) (ap (λ l. watching s ∷ l) (all_above n (suc s.id) os r.1 (omega (arith, above))))

  none_below : (n m : ℕ) (os : List (Option (Seat W))) → RisesFrom m os → n ≤ m → filter (λ w. nat_lt w.id n) (watchings os) ≡ []
  none_below n m [] r h = refl
  none_below n m (None ∷ os) r h = absurd r
  none_below n m (Some s ∷ os) r h =
      let low = r.0 in
      let above : n ≤ s.id = omega (arith, low, h) in
      rw (le-ltb s.id n above) (none_below n (suc s.id) os r.1 (omega (arith, above)))

  none_is : (n m : ℕ) (os : List (Option (Seat W))) → RisesFrom m os → n < m → filter (λ w. not (w.id == n)) (watchings os) ≡ watchings os
  none_is n m [] r h = refl
  none_is n m (None ∷ os) r h = absurd r
  none_is n m (Some s ∷ os) r h =
      let low = r.0 in
      let e : (s.id == n) ≡ false = grind (arith, nat_tests, low, h) in
      rw e (ap (λ l. watching s ∷ l) (none_is n (suc s.id) os r.1 (omega (arith, low, h))))

  none_there : (n m : ℕ) (os : List (Option (Seat W))) → RisesFrom m os → n < m → is_there n os ≡ true → ⊥
  none_there n m [] r h t = cc
  none_there n m (None ∷ os) r h t = r
  none_there n m (Some s ∷ os) r h t =
      let low = r.0 in
      let e : (s.id == n) ≡ false = grind (arith, nat_tests, low, h) in
      none_there n (suc s.id) os r.1 (omega (arith, low, h)) (rw e at t)

  -- a watcher that is new stands in its place
  pub put_watching : (n m : ℕ) (s : Seat W) (os : List (Option (Seat W))) → RisesFrom m os → s.id ≡ n → log_of s.log ≡ [] → is_there n os ≡ false
      → watchings (insert os (count_below n os) (Some s)) ≡ with_watcher n (watchings os)
  put_watching n m s [] r e l none = rw (e, l) refl
  put_watching n m s (None ∷ os) r e l none = absurd r
  put_watching n m s (Some x ∷ os) r e l none =
      let apart = both_false (x.id == n) (is_there n os) none in
      elim (cases_lt x.id n) [
        | inl low ↦
            rw (lt-ltb x.id n low, le-ltb n x.id (omega (arith, low))) (ap (λ ws. watching x ∷ ws) (put_watching n (suc x.id) s os r.1 e l apart.1))
        | inr high ↦
            let other = apart.0 in
            let above : n < x.id = grind (arith, nat_tests, high, other) in
            rw (le-ltb x.id n high, lt-ltb n x.id above, none_below n (suc x.id) os r.1 (omega (arith, above)), all_above n (suc x.id) os r.1 (omega (arith, above)), e, l) refl
      ]

  -- the watchers without one
  pub cut_watching : (n m : ℕ) (os : List (Option (Seat W))) → RisesFrom m os → is_there n os ≡ true → watchings (remove os (count_below n os)) ≡ filter (λ w. not (w.id == n)) (watchings os)
  cut_watching n m [] r there = cc
  cut_watching n m (None ∷ os) r there = absurd r
  cut_watching n m (Some x ∷ os) r there = elim (cases_lt x.id n) [
    | inl low ↦
        let e : (x.id == n) ≡ false = grind (arith, nat_tests, low) in
        rw (lt-ltb x.id n low, e) (ap (λ ws. watching x ∷ ws) (cut_watching n (suc x.id) os r.1 (rw e at there)))
    | inr high ↦
        let here : (x.id == n) ≡ true = first_true (x.id == n) (is_there n os) there (λ h. none_there n (suc x.id) os r.1 (omega (arith, high)) h) in
        rw (le-ltb x.id n high, here) (sym (none_is n (suc x.id) os r.1 (grind (arith, nat_tests, here))))
  ]
