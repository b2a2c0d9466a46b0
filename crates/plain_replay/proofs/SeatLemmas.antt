-- Watchers as they are kept, and as they are seen: what the calls on the one make of the other.
use Rattle.std.proofs.Common.{◌≡◌, ℕ, suc, ◌-◌, ◌≤◌, Bool, true, false, cond, List, [], ◌∷◌, ◌++◌, map, find, length, drop, Option, Some, None, not, ◌==◌, nat_lt, refl, sym, ap, ◌∙◌, subst, arith, length-append, length-drop}
use Rattle.std.specs.Prelude.{option_map}
use Rattle.std.specs.List.{filter}
use Rattle.std.proofs.lemmas.List.{drop-append-le, drop_all, map-append, length-map}
use Rattle.std.proofs.lemmas.List.Elements.{All-cons, All-append, All-filter, All-weaker}
use Rattle.points.specs.declared.mark.Splice.{Splice}
use Rattle.machine.specs.Machine.{Told, Watching, heard_more, with_watcher, watcher_with}
use Rattle.plain_replay.specs.declared.watchers.Seat.{Seat}
use Rattle.plain_replay.specs.Seats.{told_of, watching, AreSeats, with_seat}

filter_by : {A B : Type 0} (f : A → B) (p : B → Bool) (x : A) (xs : List A) (passes : Bool) → filter p (map f xs) ≡ map f (filter (λ y. p (f y)) xs)
    → cond passes (f x ∷ filter p (map f xs)) (filter p (map f xs)) ≡ map f (cond passes (x ∷ filter (λ y. p (f y)) xs) (filter (λ y. p (f y)) xs))
filter_by f p x xs true rest = ap (λ ys. f x ∷ ys) rest
filter_by f p x xs false rest = rest

pub filter_of_map : {A B : Type 0} (f : A → B) (p : B → Bool) (xs : List A) → filter p (map f xs) ≡ map f (filter (λ y. p (f y)) xs)
filter_of_map f p [] = refl
filter_of_map f p (x ∷ xs) = filter_by f p x xs (p (f x)) (filter_of_map f p xs)

find_by : {A B : Type 0} (f : A → B) (x : A) (o : Option B) (r : Option A) (passes : Bool) → o ≡ option_map f r → cond passes (Some (f x)) o ≡ option_map f (cond passes (Some x) r)
find_by f x o r true rest = refl
find_by f x o r false rest = rest

pub find_of_map : {A B : Type 0} (f : A → B) (p : B → Bool) (xs : List A) → find p (map f xs) ≡ option_map f (find (λ y. p (f y)) xs)
find_of_map f p [] = refl
find_of_map f p (x ∷ xs) = find_by f x (find p (map f xs)) (find (λ y. p (f y)) xs) (p (f x)) (find_of_map f p xs)

-- a new watcher was told nothing
nothing_told : (told : List Splice) (id : ℕ) → watching told (record { id = id; since = length told }) ≡ record { id = id; heard = [] }
nothing_told told id = ap (λ (xs : List Splice). watching_by id (map told_of xs)) (drop_all (length told) told (omega arith)) where
  watching_by : ℕ → List Told → Watching
  watching_by n heard = record { id = n; heard = heard }

pub seats_with : (told : List Splice) (id : ℕ) (seats : List Seat) → map (watching told) (with_seat (record { id = id; since = length told }) seats) ≡ with_watcher id (map (watching told) seats)
seats_with told id seats = map-append (watching told) (filter (λ s. nat_lt s.id id) seats) _
    ∙ ap (λ (w : Watching). map (watching told) (filter (λ s. nat_lt s.id id) seats) ++ w ∷ map (watching told) (filter (λ s. nat_lt id s.id) seats)) (nothing_told told id)
    ∙ ap (λ (ws : List Watching). ws ++ record { id = id; heard = [] } ∷ map (watching told) (filter (λ s. nat_lt id s.id) seats)) (sym (filter_of_map (watching told) (λ w. nat_lt w.id id) seats))
    ∙ ap (λ (ws : List Watching). filter (λ w. nat_lt w.id id) (map (watching told) seats) ++ record { id = id; heard = [] } ∷ ws) (sym (filter_of_map (watching told) (λ w. nat_lt id w.id) seats))

pub are_seats_with : (n id : ℕ) (seats : List Seat) → AreSeats n seats → AreSeats n (with_seat (record { id = id; since = n }) seats)
are_seats_with n id seats all = All-append InTime (filter (λ s. nat_lt s.id id) seats) _ (All-filter _ InTime seats all)
    (All-cons InTime (record { id = id; since = n }) (filter (λ s. nat_lt id s.id) seats) (omega arith) (All-filter _ InTime seats all)) where
      InTime : Seat → Type 0
      InTime s = s.since ≤ n

pub seats_without : (told : List Splice) (id : ℕ) (seats : List Seat) → map (watching told) (filter (λ s. not (s.id == id)) seats) ≡ filter (λ v. not (v.id == id)) (map (watching told) seats)
seats_without told id seats = sym (filter_of_map (watching told) (λ v. not (v.id == id)) seats)

pub are_seats_without : (n id : ℕ) (seats : List Seat) → AreSeats n seats → AreSeats n (filter (λ s. not (s.id == id)) seats)
are_seats_without n id seats all = All-filter (λ s. not (s.id == id)) (λ s. s.since ≤ n) seats all

-- each watcher is told one change more
told_more : (told : List Splice) (c : Splice) (s : Seat) → s.since ≤ length told → watching (told ++ c ∷ []) s ≡ heard_more c (watching told s)
told_more told c s within = ap (λ (heard : List Told). watching_by s.id heard)
    (ap (map told_of) (drop-append-le s.since told (c ∷ []) within) ∙ map-append told_of (drop s.since told) (c ∷ [])) where
      watching_by : ℕ → List Told → Watching
      watching_by n heard = record { id = n; heard = heard }

pub seats_told : (told : List Splice) (c : Splice) (seats : List Seat) → AreSeats (length told) seats → map (watching (told ++ c ∷ [])) seats ≡ map (heard_more c) (map (watching told) seats)
seats_told told c [] all = refl
seats_told told c (s ∷ ss) all = ap (λ (w : Watching). w ∷ map (watching (told ++ c ∷ [])) ss) (told_more told c s (all 0 s (omega arith)))
    ∙ ap (λ (ws : List Watching). heard_more c (watching told s) ∷ ws) (seats_told told c ss (λ k d within. all (suc k) d (omega arith)))

pub are_seats_told : (told : List Splice) (c : Splice) (seats : List Seat) → AreSeats (length told) seats → AreSeats (length (told ++ c ∷ [])) seats
are_seats_told told c seats all = All-weaker (λ s. s.since ≤ length told) (λ s. s.since ≤ length (told ++ c ∷ [])) (λ s within. omega (arith, length-append told (c ∷ []))) seats all

-- the same, at the lists that the code makes
pub with_is : (told told' : List Splice) (seats seats' : List Seat) (id n : ℕ) (now : List Watching) → told' ≡ told → n ≡ length told
    → seats' ≡ with_seat (record { id = id; since = n }) seats → map (watching told) seats ≡ now → map (watching told') seats' ≡ with_watcher id now
with_is told told' seats seats' id n now same long is seen = rw (same, is, long) (seats_with told id seats ∙ ap (with_watcher id) seen)

pub are_with : (told told' : List Splice) (seats seats' : List Seat) (id n : ℕ) → told' ≡ told → n ≡ length told
    → seats' ≡ with_seat (record { id = id; since = n }) seats → AreSeats (length told) seats → AreSeats (length told') seats'
are_with told told' seats seats' id n same long is all = subst (λ (t : List Splice). AreSeats (length t) seats') (sym same) (subst (AreSeats (length told)) (sym (is ∙ ap (λ (k : ℕ). with_seat (record { id = id; since = k }) seats) long))
    (are_seats_with (length told) id seats all))

pub without_is : (told told' : List Splice) (seats seats' : List Seat) (id : ℕ) (now : List Watching) → told' ≡ told
    → seats' ≡ filter (λ s. not (s.id == id)) seats → map (watching told) seats ≡ now → map (watching told') seats' ≡ filter (λ v. not (v.id == id)) now
without_is told told' seats seats' id now same is seen = rw (same, is) (seats_without told id seats ∙ ap (filter (λ v. not (v.id == id))) seen)

pub are_without : (told told' : List Splice) (seats seats' : List Seat) (id : ℕ) → told' ≡ told
    → seats' ≡ filter (λ s. not (s.id == id)) seats → AreSeats (length told) seats → AreSeats (length told') seats'
are_without told told' seats seats' id same is all = subst (λ (t : List Splice). AreSeats (length t) seats') (sym same) (subst (AreSeats (length told)) (sym is)
    (are_seats_without (length told) id seats all))

pub told_is : (told told' : List Splice) (seats seats' : List Seat) (c : Splice) (now : List Watching) → told' ≡ told ++ c ∷ [] → seats' ≡ seats
    → AreSeats (length told) seats → map (watching told) seats ≡ now → map (watching told') seats' ≡ map (heard_more c) now
told_is told told' seats seats' c now more same all seen = rw (more, same) (seats_told told c seats all ∙ ap (map (heard_more c)) seen)

pub heard_is : (told : List Splice) (seats : List Seat) (id : ℕ) (o : Option Seat) (now : List Watching) → o ≡ find (λ s. s.id == id) seats → map (watching told) seats ≡ now
    → option_map (λ s. length told - s.since) o ≡ option_map (λ w. length w.heard) (watcher_with id now)
heard_is told seats id o now is seen = by_case o ∙ ap (option_map (λ w. length w.heard)) (ap (option_map (watching told)) is ∙ sym (find_of_map (watching told) (λ w. w.id == id) seats) ∙ ap (watcher_with id) seen) where
  by_case : (r : Option Seat) → option_map (λ s. length told - s.since) r ≡ option_map (λ w. length w.heard) (option_map (watching told) r)
  by_case None = refl
  by_case (Some s) = ap Some (sym (length-map (drop s.since told) told_of ∙ length-drop s.since told))
