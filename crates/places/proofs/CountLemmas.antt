-- How many places are kept.
use Rattle.std.proofs.Common.{◌≡◌, ℕ, ◌+◌, ◌*◌, ◌≤◌, Bool, true, false, cond, List, [], ◌∷◌, length, refl, arith, All}
use Rattle.std.specs.Prelude.{filter, ◌||◌, ◌&&◌}
use Rattle.std.specs.List.{list_any}
use Rattle.std.proofs.lemmas.List.Elements.{All-head, All-tail}

abbrev one : Bool → ℕ
one b = cond b 1 0

-- how many pass
abbrev pub how_many : {E : Type 0} → (E → Bool) → List E → ℕ
how_many p [] = 0
how_many p (e ∷ es) = one (p e) + how_many p es

or_few : (a b : Bool) (m n k : ℕ) → m ≤ n + k → one (a || b) + m ≤ (one a + n) + (one b + k)
or_few true true m n k h = omega arith
or_few true false m n k h = omega arith
or_few false true m n k h = omega arith
or_few false false m n k h = omega arith

-- what passes one of two tests
pub count_or : {E : Type 0} (a b : E → Bool) (t : List E) → how_many (λ e. a e || b e) t ≤ how_many a t + how_many b t
count_or a b [] = omega arith
count_or a b (e ∷ es) = or_few (a e) (b e) (how_many (λ e. a e || b e) es) (how_many a es) (how_many b es) (count_or a b es)

pub count_none : {E : Type 0} (a : E → Bool) (t : List E) → All (λ e. a e ≡ false) t → how_many a t ≡ 0
count_none a [] h = refl
count_none a (e ∷ es) h = let here : a e ≡ false = All-head (λ e. a e ≡ false) e es h in rw here (omega (arith, count_none a es (All-tail (λ e. a e ≡ false) e es h)))

step_union : {W E : Type 0} (q : W → Bool) (P : W → E → Bool) (n : ℕ) (w : W) (ws : List W) (t : List E) (b : Bool) → q w ≡ b → how_many (P w) t ≤ n → how_many (λ e. list_any (λ w. q w && P w e) ws) t ≤ n * how_many q ws → how_many (λ e. (b && P w e) || list_any (λ w. q w && P w e) ws) t ≤ n * (one b + how_many q ws)
step_union q P n w ws t true s few ih =
    let all = count_or (P w) (λ e. list_any (λ w. q w && P w e) ws) t in
    grind (arith, all, few, ih)
step_union q P n w ws t false s few ih = grind (arith, ih)

-- each of some stands for at most n
pub count_union : {W E : Type 0} (q : W → Bool) (P : W → E → Bool) (n : ℕ) (ws : List W) (t : List E) → ((w : W) → how_many (P w) t ≤ n) → how_many (λ e. list_any (λ w. q w && P w e) ws) t ≤ n * how_many q ws
count_union q P n [] t few = grind (arith, count_none (λ e. false) t (λ k d h. refl))
count_union q P n (w ∷ ws) t few = step_union q P n w ws t (q w) refl (few w) (count_union q P n ws t few)

filter_step : {E : Type 0} (p : E → Bool) (e : E) (es : List E) (b : Bool) → p e ≡ b → length (filter p es) ≡ how_many p es → length (cond b (e ∷ filter p es) (filter p es)) ≡ one b + how_many p es
filter_step p e es true s ih = omega (arith, ih)
filter_step p e es false s ih = omega (arith, ih)

pub length_filter : {E : Type 0} (p : E → Bool) (t : List E) → length (filter p t) ≡ how_many p t
length_filter p [] = refl
length_filter p (e ∷ es) = filter_step p e es (p e) refl (length_filter p es)
