-- What layers do to the text, and what an installed layer does to a shelf.
use Rattle.std.proofs.Common.{◌≡◌, ◌≢◌, ℕ, ◌+◌, ◌-◌, Bool, true, false, cond, List, [], ◌∷◌, ◌++◌, length, length-append, Option, Some, None, refl, ap, ◌∙◌, arith}
use Rattle.std.specs.Prelude.{nat_lt, if◌then◌else◌, find, slice_get, option_map, ◌==◌}
use Rattle.std.specs.Option.{unwrap_or}
use Rattle.points.specs.Text.{replaced}
use Rattle.patch.specs.Tagged.{Tagged, tagged, units_of, edited}
use Rattle.places.specs.declared.placed.Placed.{Placed}
use Rattle.places.specs.Placed.{placed_at, depth_on, top_of, top_id, id_of}
use Rattle.places.specs.Table.{IsLowestFree}
use Rattle.places.proofs.StandLemmas.{same_number, number_not}
use Rattle.chains.specs.Layered.{Layered, text_above, on_base, depth_of, size_of, is_small, is_within, with_layer, changed_above, after_change, squashed, tags_since, whole_text}
use Rattle.chains.proofs.ChangeLemmas.{units_edited}
use Rattle.chains.proofs.RetagLemmas.{units_tagged, units_retagged}
use Rattle.layers.specs.declared.versioned.Versioned.{Versioned}
use Rattle.layers.specs.Unplaced.{Unplaced}
use Rattle.layers.specs.Shelf.{Shelved, held_at, top_held, ground_of, installed}

either_text : (b : Bool) (v w : Layered) (t : List ℕ) → whole_text v ≡ t → whole_text w ≡ t → whole_text (if b then v else w) ≡ t
either_text true v w t a b = a
either_text false v w t a b = b

layer_text : (base : List ℕ) (above : List Tagged) (i j : ℕ) (put : List ℕ) → whole_text (with_layer base above ((i, j, put) ∷ [])) ≡ replaced (text_above base above) i j put
layer_text base above i j put =
    let t = text_above base above in
    let g = edited (tagged t) i j put in
    let same = units_edited (tagged t) i j put ∙ ap (λ us. replaced us i j put) (units_tagged 0 t) in
    either_text (nat_lt (1 + length above) 8) (on_base base (g ∷ above)) (on_base (units_of g) []) (replaced t i j put) same same

above_text : (base : List ℕ) (above : List Tagged) (i j : ℕ) (put : List ℕ) → whole_text (changed_above base above ((i, j, put) ∷ [])) ≡ replaced (text_above base above) i j put
above_text base [] i j put = layer_text base [] i j put
above_text base (g ∷ gs) i j put = either_text (is_small (size_of (text_above base gs) g)) (on_base base (edited g i j put ∷ gs)) (with_layer base (g ∷ gs) ((i, j, put) ∷ [])) (replaced (units_of g) i j put)
    (units_edited g i j put) (layer_text base (g ∷ gs) i j put)

-- an edit replaces
pub change_text : (v : Layered) (i j : ℕ) (put : List ℕ) → whole_text (after_change v ((i, j, put) ∷ [])) ≡ replaced (whole_text v) i j put
change_text v i j put = above_text v.base v.above i j put

since_text : (base : List ℕ) (above : List Tagged) → units_of (tags_since base above) ≡ text_above base above
since_text base [] = units_tagged 0 base
since_text base (g ∷ gs) = units_retagged (tags_since base gs) g

-- a squash keeps the text
pub squash_text : (v : Layered) → whole_text (squashed v) ≡ whole_text v
squash_text v = either_text (is_within 512 65536 (size_of v.base (tags_since v.base v.above))) (on_base v.base (tags_since v.base v.above ∷ [])) (on_base (whole_text v) []) (whole_text v) (since_text v.base v.above) refl

-- ---- one more at the end
module _ {X : Type 0} where
  pub last_got : (xs : List X) (x : X) → slice_get (xs ++ x ∷ []) (length (xs ++ x ∷ []) - 1) ≡ Some x
  last_got xs x = let long : length (xs ++ x ∷ []) - 1 ≡ length xs = omega (arith, length-append xs (x ∷ [])) in rw long (got_last xs x)
    where
      got_last : (xs : List X) (x : X) → slice_get (xs ++ x ∷ []) (length xs) ≡ Some x
      got_last [] x = refl
      got_last (y ∷ ys) x = got_last ys x

  find_step : (q : X → Bool) (y : X) (o : Option X) (o' : Option X) (b : Bool) → o' ≡ o → cond b (Some y) o' ≡ cond b (Some y) o
  find_step q y o o' true e = refl
  find_step q y o o' false e = e

  find_other : (q : X → Bool) (xs : List X) (x : X) → q x ≡ false → find q (xs ++ x ∷ []) ≡ find q xs
  find_other q [] x h = rw h refl
  find_other q (y ∷ ys) x h = find_step q y (find q ys) (find q (ys ++ x ∷ [])) (q y) (find_other q ys x h)

  last_at : (q : X → Bool) (y : X) (ys : List X) (x : X) (b : Bool) → cond b (Some y) (find q ys) ≡ None → (find q ys ≡ None → find q (ys ++ x ∷ []) ≡ Some x) → cond b (Some y) (find q (ys ++ x ∷ [])) ≡ Some x
  last_at q y ys x true e ih = cc
  last_at q y ys x false e ih = ih e

  find_last : (q : X → Bool) (xs : List X) (x : X) → find q xs ≡ None → q x ≡ true → find q (xs ++ x ∷ []) ≡ Some x
  find_last q [] x e h = rw h refl
  find_last q (y ∷ ys) x e h = last_at q y ys x (q y) e (λ s. find_last q ys x s h)

pub held_there : (s : Shelved) (p : ℕ) (e : Placed Versioned) → placed_at s p ≡ Some e → held_at s p ≡ e.held
held_there s p e at = rw (at, held_at) refl

pub top_is : (s : Shelved) (e : Placed Versioned) → top_of s ≡ Some e → (top_id s).place ≡ e.place
top_is s e at = rw (at, top_id) refl

abbrev entry : Shelved → ℕ → Unplaced → Placed Versioned
entry s p n = record { place = p; age = (top_id s).age + 1; parent = ground_of s (depth_of n.layers); depth = depth_on s (ground_of s (depth_of n.layers)); mask = 0; held = record { layers = n.layers; version = n.version } }

-- what is installed is the top
pub installed_top : (s : Shelved) (p : ℕ) → IsLowestFree s p → (n : Unplaced) → top_held (installed s p n) ≡ record { layers = n.layers; version = n.version }
installed_top s p free n =
    let e = entry s p n in
    let place : (top_id (installed s p n)).place ≡ p = top_is (s ++ e ∷ []) e (last_got s e) in
    let found : placed_at (s ++ e ∷ []) p ≡ Some e = find_last (λ e. e.place == p) s e free.free (same_number p) in
    ap (held_at (installed s p n)) place ∙ held_there (s ++ e ∷ []) p e found

-- and what stands elsewhere stays
pub installed_others : (s : Shelved) (p : ℕ) (n : Unplaced) (q : ℕ) → p ≢ q → placed_at (installed s p n) q ≡ placed_at s q
installed_others s p n q other = find_other (λ e. e.place == q) s (entry s p n) (number_not p q other)

-- a top comes after those before it
pub installed_age : (s : Shelved) (p : ℕ) (n : Unplaced) → (top_id (installed s p n)).age ≡ (top_id s).age + 1
installed_age s p n = ap (λ (o : Option (Placed Versioned)). (unwrap_or (option_map id_of o) (record { place = 0; age = 0; depth = 0 })).age) (last_got s (entry s p n))
