-- The live snapshots of a session: the place of a number among them.
use Rattle.std.proofs.Common.{◌≡◌, ℕ, zero, suc, ◌+◌, ◌<◌, ◌≤◌, Bool, true, false, cond, List, [], ◌∷◌, length, get_or, drop, refl, sym, ap, ◌∙◌, arith, add-one}
use Rattle.std.specs.Prelude.{◌==◌, ◌||◌, map, remove, find, Some}
use Rattle.std.specs.List.{list_any}
use Rattle.std.proofs.Math.ListN.{drop_of_length-le}
use Rattle.std.proofs.lemmas.Bool.{false≢true}
use Rattle.machine.specs.Plain.{Kept, text_kept, kept_text}
use Rattle.sessions.specs.declared.holding.Live.{Live}
use Rattle.sessions.specs.Running.{without_first}
use Rattle.sessions.specs.Holding.{number_of, kept_of, place_in}

-- ---- the pass over the live ones: the next has the number, or it hasn't, or there is none

next_not : (k i : ℕ) (ls : List Live) (l : Live) → i < length ls → l ≡ get_or ls i l → (l.number == k) ≡ false → place_in k (drop i ls) ≡ suc (place_in k (drop (suc i) ls))
next_not k i [] l h is b = absurd (omega arith)
next_not k zero (x ∷ xs) l h is b = let e : (x.number == k) ≡ false = ap (λ (y : Live). y.number == k) (sym is) ∙ b in rw e refl
next_not k (suc i) (x ∷ xs) l h is b = next_not k i xs l (omega arith) is b

next_is : (k i : ℕ) (ls : List Live) (l : Live) → i < length ls → l ≡ get_or ls i l → (l.number == k) ≡ true → place_in k (drop i ls) ≡ 0
next_is k i [] l h is b = absurd (omega arith)
next_is k zero (x ∷ xs) l h is b = let e : (x.number == k) ≡ true = ap (λ (y : Live). y.number == k) (sym is) ∙ b in rw e refl
next_is k (suc i) (x ∷ xs) l h is b = next_is k i xs l (omega arith) is b

pub goes_on : (k i : ℕ) (ls : List Live) (l : Live) → i < length ls → l ≡ get_or ls i l → (l.number == k) ≡ false → i + place_in k (drop i ls) ≡ place_in k ls → (i + 1) + place_in k (drop (i + 1) ls) ≡ place_in k ls
goes_on k i ls l h is b e = let next = next_not k i ls l h is b in rw add-one (omega (arith, next, e))

pub stops : (k i : ℕ) (ls : List Live) (l : Live) → i < length ls → l ≡ get_or ls i l → (l.number == k) ≡ true → i + place_in k (drop i ls) ≡ place_in k ls → i ≡ place_in k ls
stops k i ls l h is b e = let none = next_is k i ls l h is b in omega (arith, none, e)

pub ends_there : (k i : ℕ) (ls : List Live) → length ls ≤ i → i + place_in k (drop i ls) ≡ place_in k ls → i ≡ place_in k ls
ends_there k i ls h e = let none : place_in k (drop i ls) ≡ 0 = ap (λ l. place_in k l) (drop_of_length-le ls {i = i} h) in omega (arith, none, e)

-- ---- what the place says of the list

within_by : (k : ℕ) (x : Live) (xs : List Live) (b : Bool) → (b || list_any (λ n. n == k) (map number_of (map kept_of xs))) ≡ true → (list_any (λ n. n == k) (map number_of (map kept_of xs)) ≡ true → place_in k xs < length xs)
    → cond b 0 (suc (place_in k xs)) < suc (length xs)
within_by k x xs true there more = omega arith
within_by k x xs false there more = omega (arith, more there)

-- a number that is live has a place
pub within : (k : ℕ) (ls : List Live) → list_any (λ n. n == k) (map number_of (map kept_of ls)) ≡ true → place_in k ls < length ls
within k [] there = absurd (false≢true there)
within k (x ∷ xs) there = within_by k x xs (x.number == k) there (λ more. within k xs more)

there_by : (k : ℕ) (x : Live) (xs : List Live) (l : Live) (b : Bool) → cond b 0 (suc (place_in k xs)) < suc (length xs) → l ≡ get_or (x ∷ xs) (cond b 0 (suc (place_in k xs))) l
    → (place_in k xs < length xs → l ≡ get_or xs (place_in k xs) l → l.snapshot.reader.text ≡ kept_text k (map kept_of xs))
    → l.snapshot.reader.text ≡ text_kept (cond b (Some (kept_of x)) (find (λ s. s.number == k) (map kept_of xs)))
there_by k x xs l true h is more = ap (λ (y : Live). y.snapshot.reader.text) is
there_by k x xs l false h is more = more (omega (arith, h)) is

-- the one at the place shows the text under the number
pub text_there : (k : ℕ) (ls : List Live) (l : Live) → place_in k ls < length ls → l ≡ get_or ls (place_in k ls) l → l.snapshot.reader.text ≡ kept_text k (map kept_of ls)
text_there k [] l h is = absurd (omega (arith, h))
text_there k (x ∷ xs) l h is = there_by k x xs l (x.number == k) h is (λ inside at. text_there k xs l inside at)

without_by : (k : ℕ) (x : Live) (xs : List Live) (b : Bool) → cond b 0 (suc (place_in k xs)) < suc (length xs) → (place_in k xs < length xs → map kept_of (remove xs (place_in k xs)) ≡ without_first k (map kept_of xs))
    → map kept_of (remove (x ∷ xs) (cond b 0 (suc (place_in k xs)))) ≡ cond b (map kept_of xs) (kept_of x ∷ without_first k (map kept_of xs))
without_by k x xs true h more = refl
without_by k x xs false h more = ap (λ (l : List Kept). kept_of x ∷ l) (more (omega (arith, h)))

-- and to take it out is to take the first with the number out
pub taken_out : (k : ℕ) (ls : List Live) → place_in k ls < length ls → map kept_of (remove ls (place_in k ls)) ≡ without_first k (map kept_of ls)
taken_out k [] h = absurd (omega (arith, h))
taken_out k (x ∷ xs) h = without_by k x xs (x.number == k) h (λ more. taken_out k xs more)

kept_by : (k : ℕ) (x : Live) (xs : List Live) (b : Bool) → suc (length xs) ≤ cond b 0 (suc (place_in k xs)) → (length xs ≤ place_in k xs → map kept_of xs ≡ without_first k (map kept_of xs))
    → kept_of x ∷ map kept_of xs ≡ cond b (map kept_of xs) (kept_of x ∷ without_first k (map kept_of xs))
kept_by k x xs true h more = absurd (omega (arith, h))
kept_by k x xs false h more = ap (λ (l : List Kept). kept_of x ∷ l) (more (omega (arith, h)))

pub none_out : (k : ℕ) (ls : List Live) → length ls ≤ place_in k ls → map kept_of ls ≡ without_first k (map kept_of ls)
none_out k [] h = refl
none_out k (x ∷ xs) h = kept_by k x xs (x.number == k) h (λ more. none_out k xs more)
