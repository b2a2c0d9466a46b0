-- The last item of a list, and a list that is kept short.
use Rattle.std.proofs.Common.{◌≡◌, ℕ, suc, ◌+◌, ◌-◌, ◌<◌, ◌≤◌, List, [], ◌∷◌, ◌++◌, length, get_or, Some, None, refl, sym, ◌∙◌, arith, length-append, append-nil, drop-cons}
use Rattle.std.proofs.lemmas.Option.{slice_get-get_or, slice_get_within}
use Rattle.std.proofs.Math.ListN.{drop_of_length-le}
use Rattle.circular_buffer.proofs.Places.{slice_get-last}
use Rattle.edit_history.specs.History.{next_of, others_of, next_alone, latest}

some_next : {X : Type 0} (x : X) (xs : List X) → next_of (x ∷ xs) ≡ Some (get_or (x ∷ xs) (length (x ∷ xs) - 1) x)
some_next x xs = slice_get-get_or (x ∷ xs) (length (x ∷ xs) - 1) x (omega arith)

-- a list without a last item is empty
pub none_left : {X : Type 0} (xs : List X) → next_of xs ≡ None → xs ≡ []
none_left [] e = refl
none_left (x ∷ xs) e = let h = some_next x xs in cc

pub alone : {X : Type 0} (xs : List X) (x : X) → next_of xs ≡ Some x → next_alone xs ≡ x ∷ []
alone xs x e =
    let within = slice_get_within xs (length xs - 1) x e in
    let all : length xs ≤ suc (length xs - 1) = omega arith in
    let here = slice_get-get_or xs (length xs - 1) x within in
    let first = drop-cons xs (length xs - 1) x within in
    let rest = drop_of_length-le xs {i = suc (length xs - 1)} all in
    cc

pub next_behind : {X : Type 0} (xs : List X) (x : X) → next_of (xs ++ x ∷ []) ≡ Some x
next_behind xs x = slice_get-last xs x (length (xs ++ x ∷ []) - 1) (omega (arith, length-append xs (x ∷ [])))

-- a short list keeps all
pub all_latest : {X : Type 0} (n : ℕ) (xs : List X) → length xs ≤ n → latest n xs ≡ xs
all_latest n xs h = let e : length xs - n ≡ 0 = omega arith in rw e refl

-- where there is no last item, nothing moves across
pub stays : {X : Type 0} (from to : List X) → next_of from ≡ None → (length from ≡ 0) × (others_of from ≡ from) × (to ++ next_alone from ≡ to)
stays from to e = rw (none_left from e) (refl, refl, append-nil to)

-- where there is one, it moves across: with room for all, none falls out
pub crosses : {X : Type 0} (n : ℕ) (from to : List X) (x : X) → next_of from ≡ Some x → length from + length to ≤ n → (0 < length from) × (latest n (to ++ x ∷ []) ≡ to ++ next_alone from)
crosses n from to x e h =
    let within = slice_get_within from (length from - 1) x e in
    let all = all_latest n (to ++ x ∷ []) (omega (arith, length-append to (x ∷ []))) in
    let one = alone from x e in
    ((omega arith), (cc))

-- and it is then the last one there
pub last_over : {X : Type 0} (from to : List X) → 0 < length from → next_of (to ++ next_alone from) ≡ next_of from
last_over [] to h = absurd (omega (arith, h))
last_over (x ∷ xs) to h = let one = alone (x ∷ xs) (get_or (x ∷ xs) (length (x ∷ xs) - 1) x) (some_next x xs) in
    rw one (next_behind to (get_or (x ∷ xs) (length (x ∷ xs) - 1) x) ∙ sym (some_next x xs))

pub none_over : {X : Type 0} (from to : List X) → length from ≤ 0 → (next_of from ≡ None) × (others_of from ≡ from) × (to ++ next_alone from ≡ to)
none_over [] to h = (refl, refl, append-nil to)
none_over (x ∷ xs) to h = absurd (omega (arith, h))
