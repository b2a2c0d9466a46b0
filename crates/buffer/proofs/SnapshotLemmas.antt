-- Snapshots of a text, and the list of those that are live.
use Rattle.std.proofs.Common.{◌≡◌, ℕ, zero, suc, ◌+◌, ◌-◌, ◌<◌, ◌≤◌, Bool, true, false, cond, List, [], ◌∷◌, ◌++◌, length, get_or, drop, take, refl, sym, ap, ◌∙◌, arith, add-one, length-append}
use Rattle.std.specs.Prelude.{◌==◌, map, remove, find, Option, Some, None, option_map}
use Rattle.std.proofs.Math.ListN.{length-map, drop_of_length-le}
use Rattle.std.proofs.lemmas.List.{length-take, length-drop}
use Rattle.points.specs.declared.point.Point.{Point}
use Rattle.points.specs.Point.{point_le}
use Rattle.points.specs.Place.{clipped_offset}
use Rattle.points.proofs.ClipLemmas.{clipped_offset_mono, clipped_at}
use Rattle.machine.specs.Machine.{between}
use Rattle.places.specs.declared.placed.Placed.{Placed}
use Rattle.places.specs.Placed.{without, others_of, top_alone, quieted}
use Rattle.machine.specs.Plain.{Kept}
use Rattle.buffer.specs.declared.snapshots.Live.{Live}
use Rattle.buffer.specs.Reads.{has_number, without_first}
use Rattle.buffer.specs.Live.{kept_of, place_in}

-- a hand that lets go leaves as many places
pub quieted_long : {X : Type 0} (hands : ℕ) (t : List (Placed X)) → length (quieted hands t) ≡ length t
quieted_long hands t =
    omega (arith, length-append (map (without hands) (others_of t)) (top_alone t), length-map (others_of t) (without hands), length-take (length t - 1) t, length-drop (length t - 1) t)

-- the units of a clipped range are as many as its ends are apart
pub span_long : (t : List ℕ) (p q : Point) → point_le p q ≡ true → length (between t (clipped_offset t p) (clipped_offset t q)) ≡ clipped_offset t q - clipped_offset t p
span_long t p q order =
    let i : ℕ = clipped_offset t p in
    let j : ℕ = clipped_offset t q in
    let within : j ≤ length t = (clipped_at t q).within in
    omega (arith, length-take (j - i) (drop i t), length-drop i t, clipped_offset_mono t p q order, within)

-- ---- the pass over the live ones: the next has the number, or it hasn't, or there is none
next_not : (k i : ℕ) (ls : List Live) (l : Live) → i < length ls → l ≡ get_or ls i l → (l.number == k) ≡ false → place_in k (drop i ls) ≡ suc (place_in k (drop (suc i) ls))
next_not k i [] l h is b = absurd (omega arith)
next_not k zero (x ∷ xs) l h is b = let e : (x.number == k) ≡ false = ap (λ (y : Live). y.number == k) (sym is) ∙ b in rw e refl
next_not k (suc i) (x ∷ xs) l h is b = next_not k i xs l (omega arith) is b

next_is : (k i : ℕ) (ls : List Live) (l : Live) → i < length ls → l ≡ get_or ls i l → (l.number == k) ≡ true → place_in k (drop i ls) ≡ 0
next_is k i [] l h is b = absurd (omega arith)
next_is k zero (x ∷ xs) l h is b = let e : (x.number == k) ≡ true = ap (λ (y : Live). y.number == k) (sym is) ∙ b in rw e refl
next_is k (suc i) (x ∷ xs) l h is b = next_is k i xs l (omega arith) is b

pub goes_on : (k i : ℕ) (ls : List Live) (l : Live) → i < length ls → l ≡ get_or ls i l → (l.number == k) ≡ false → i + place_in k (drop i ls) ≡ place_in k ls → (i + 1) + place_in k (drop (i + 1) ls) ≡ place_in k ls
goes_on k i ls l h is b e = let next = next_not k i ls l h is b in rw add-one (omega (arith, next, e))

pub stops : (k i : ℕ) (ls : List Live) (l : Live) → i < length ls → l ≡ get_or ls i l → (l.number == k) ≡ true → i + place_in k (drop i ls) ≡ place_in k ls → i ≡ place_in k ls
stops k i ls l h is b e = let none = next_is k i ls l h is b in omega (arith, none, e)

pub ends_there : (k i : ℕ) (ls : List Live) → length ls ≤ i → i + place_in k (drop i ls) ≡ place_in k ls → i ≡ place_in k ls
ends_there k i ls h e = let none : place_in k (drop i ls) ≡ 0 = ap (λ l. place_in k l) (drop_of_length-le ls {i = i} h) in omega (arith, none, e)

-- ---- what the place says of the list
abbrev pub texts : Option Kept → Option (List ℕ)
texts o = option_map (λ s. s.text) o

there_by : (k : ℕ) (x : Live) (xs : List Live) (l : Live) (b : Bool) → (x.number == k) ≡ b → cond b 0 (suc (place_in k xs)) < suc (length xs) → l ≡ get_or (x ∷ xs) (cond b 0 (suc (place_in k xs))) l
    → (place_in k xs < length xs → l ≡ get_or xs (place_in k xs) l → find (has_number k) (map kept_of xs) ≡ Some (kept_of l))
    → cond b (Some (kept_of x)) (find (has_number k) (map kept_of xs)) ≡ Some (kept_of l)
there_by k x xs l true e h is more = ap (λ (y : Live). Some (kept_of y)) (sym is)
there_by k x xs l false e h is more = more (omega (arith, h)) is

-- the one at the place is the first with the number
pub found_there : (k : ℕ) (ls : List Live) (l : Live) → place_in k ls < length ls → l ≡ get_or ls (place_in k ls) l → find (has_number k) (map kept_of ls) ≡ Some (kept_of l)
found_there k [] l h is = absurd (omega (arith, h))
found_there k (x ∷ xs) l h is = there_by k x xs l (x.number == k) refl h is (λ within at. found_there k xs l within at)

none_by : (k : ℕ) (x : Live) (xs : List Live) (b : Bool) → suc (length xs) ≤ cond b 0 (suc (place_in k xs)) → (length xs ≤ place_in k xs → find (has_number k) (map kept_of xs) ≡ None)
    → cond b (Some (kept_of x)) (find (has_number k) (map kept_of xs)) ≡ None
none_by k x xs true h more = absurd (omega (arith, h))
none_by k x xs false h more = more (omega (arith, h))

pub found_none : (k : ℕ) (ls : List Live) → length ls ≤ place_in k ls → find (has_number k) (map kept_of ls) ≡ None
found_none k [] h = refl
found_none k (x ∷ xs) h = none_by k x xs (x.number == k) h (λ more. found_none k xs more)

without_by : (k : ℕ) (x : Live) (xs : List Live) (b : Bool) → cond b 0 (suc (place_in k xs)) < suc (length xs) → (place_in k xs < length xs → map kept_of (remove xs (place_in k xs)) ≡ without_first k (map kept_of xs))
    → map kept_of (remove (x ∷ xs) (cond b 0 (suc (place_in k xs)))) ≡ cond b (map kept_of xs) (kept_of x ∷ without_first k (map kept_of xs))
without_by k x xs true h more = refl
without_by k x xs false h more = ap (λ (l : List Kept). kept_of x ∷ l) (more (omega (arith, h)))

-- and to take it out is to take the first with the number out
pub taken_out : (k : ℕ) (ls : List Live) → place_in k ls < length ls → map kept_of (remove ls (place_in k ls)) ≡ without_first k (map kept_of ls)
taken_out k [] h = absurd (omega (arith, h))
taken_out k (x ∷ xs) h = without_by k x xs (x.number == k) h (λ more. taken_out k xs more)

kept_by : (k : ℕ) (x : Live) (xs : List Live) (b : Bool) → suc (length xs) ≤ cond b 0 (suc (place_in k xs)) → (length xs ≤ place_in k xs → map kept_of xs ≡ without_first k (map kept_of xs))
    → kept_of x ∷ map kept_of xs ≡ cond b (map kept_of xs) (kept_of x ∷ without_first k (map kept_of xs))
kept_by k x xs true h more = absurd (omega (arith, h))
kept_by k x xs false h more = ap (λ (l : List Kept). kept_of x ∷ l) (more (omega (arith, h)))

pub none_out : (k : ℕ) (ls : List Live) → length ls ≤ place_in k ls → map kept_of ls ≡ without_first k (map kept_of ls)
none_out k [] h = refl
none_out k (x ∷ xs) h = kept_by k x xs (x.number == k) h (λ more. none_out k xs more)
