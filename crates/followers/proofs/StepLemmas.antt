-- Steps as the plain machine lists them, the last one first.
use Rattle.std.proofs.Common.{◌≡◌, ℕ, ◌+◌, ◌-◌, ◌<◌, ◌≤◌, List, [], ◌∷◌, ◌++◌, length, take, drop, map, reverse, Option, Some, None, refl, sym, ap, ◌∙◌, inl, inr, arith, append-nil, length-drop}
use Rattle.std.specs.Prelude.{slice_get, option_map}
use Rattle.std.proofs.lemmas.List.{reverse-append, length-reverse, take-append-drop, take_at, take_all, map-append, drop-map, length-map}
use Rattle.std.proofs.lemmas.Bool.{cases_lt}
use Rattle.patch.specs.declared.change.Change as code
use Rattle.edit_history.specs.History.{next_of, others_of, next_alone, latest}
use Rattle.edit_history.proofs.LastLemmas.{none_left, alone}
use Rattle.machine.specs.Machine.{Step}
use Rattle.followers.specs.Following.{step_of, steps_of}

reverse_parted : {X : Type 0} (k : ℕ) (xs : List X) → reverse xs ≡ reverse (drop k xs) ++ reverse (take k xs)
reverse_parted k xs = ap (λ l. reverse l) (sym (take-append-drop k xs)) ∙ reverse-append (take k xs) (drop k xs)

latest_few : {X : Type 0} (n : ℕ) (xs : List X) → n < length xs → reverse (drop (length xs - n) xs) ≡ take n (reverse xs)
latest_few n xs few = let k : ℕ = length xs - n in
    let all : length (reverse (drop k xs)) ≡ n = omega (arith, length-reverse (drop k xs), length-drop k xs) in
    sym (ap (λ l. take n l) (reverse_parted k xs) ∙ take_at (reverse (drop k xs)) (reverse (take k xs)) n all)

latest_all : {X : Type 0} (n : ℕ) (xs : List X) → length xs ≤ n → reverse (drop (length xs - n) xs) ≡ take n (reverse xs)
latest_all n xs all = let none : length xs - n ≡ 0 = omega arith in
    let short : length (reverse xs) ≤ n = omega (arith, length-reverse xs) in
    rw none (sym (take_all n (reverse xs) short))

-- the latest n, the last one first
reverse_latest : {X : Type 0} (n : ℕ) (xs : List X) → reverse (drop (length xs - n) xs) ≡ take n (reverse xs)
reverse_latest n xs = elim (cases_lt n (length xs)) [ inl few ↦ latest_few n xs few | inr all ↦ latest_all n xs all ]

-- one more at the end comes first
pub steps_behind : (cs : List code.Change) (c : code.Change) → steps_of (cs ++ c ∷ []) ≡ step_of c ∷ steps_of cs
steps_behind cs c = ap (λ l. reverse l) (map-append step_of cs (c ∷ [])) ∙ reverse-append (map step_of cs) (step_of c ∷ [])

steps_latest : (n : ℕ) (cs : List code.Change) → steps_of (latest n cs) ≡ take n (steps_of cs)
steps_latest n cs = ap (λ l. reverse l) (sym (drop-map step_of (length cs - n) cs))
    ∙ ap (λ k. reverse (drop (k - n) (map step_of cs))) (sym (length-map cs step_of)) ∙ reverse_latest n (map step_of cs)

pub steps_pushed : (n : ℕ) (cs : List code.Change) (c : code.Change) → steps_of (latest n (cs ++ c ∷ [])) ≡ take n (step_of c ∷ steps_of cs)
steps_pushed n cs c = steps_latest n (cs ++ c ∷ []) ∙ ap (λ l. take n l) (steps_behind cs c)

-- the last one comes first
pub steps_last : (cs : List code.Change) (c : code.Change) → next_of cs ≡ Some c → steps_of cs ≡ step_of c ∷ steps_of (others_of cs)
steps_last cs c last = ap steps_of (sym (take-append-drop (length cs - 1) cs))
    ∙ (ap (λ l. steps_of (others_of cs ++ l)) (alone cs c last) ∙ steps_behind (others_of cs) c)

pub first_step : (cs : List code.Change) (c : code.Change) → next_of cs ≡ Some c → slice_get (steps_of cs) 0 ≡ Some (step_of c)
first_step cs c last = rw (steps_last cs c last) refl

pub no_step : (cs : List code.Change) → next_of cs ≡ None → slice_get (steps_of cs) 0 ≡ None
no_step cs none = rw (none_left cs none) refl

-- the last one moves over
steps_left_by : (cs : List code.Change) (last : Option code.Change) → next_of cs ≡ last → steps_of (others_of cs) ≡ drop 1 (steps_of cs)
steps_left_by cs None none = rw (none_left cs none) refl
steps_left_by cs (Some c) last = rw (steps_last cs c last) refl

pub steps_left : (cs : List code.Change) → steps_of (others_of cs) ≡ drop 1 (steps_of cs)
steps_left cs = steps_left_by cs (next_of cs) refl

steps_moved_by : (cs ds : List code.Change) (last : Option code.Change) → next_of cs ≡ last → steps_of (ds ++ next_alone cs) ≡ take 1 (steps_of cs) ++ steps_of ds
steps_moved_by cs ds None none = rw (none_left cs none) (ap steps_of (append-nil ds))
steps_moved_by cs ds (Some c) last = rw (alone cs c last, steps_last cs c last) (steps_behind ds c)

pub steps_moved : (cs ds : List code.Change) → steps_of (ds ++ next_alone cs) ≡ take 1 (steps_of cs) ++ steps_of ds
steps_moved cs ds = steps_moved_by cs ds (next_of cs) refl
