-- The first number that isn't taken, found by one look after another.
use Rattle.std.proofs.Common.{◌≡◌, ◌≢◌, ℕ, zero, suc, ◌+◌, ◌-◌, ◌<◌, Bool, true, false, cond, nat_lt, List, length, get_or, set, replicate, refl, ap, sym, ◌∙◌, arith, get_or-set_same, get_or-set_other}
use Rattle.std.proofs.lemmas.Bool.Decides.{nat_tests}
use mathlib.Core.Logic.{dite}
use native.Mathlib.Decide.{ℕ_discrete}
use Rattle.turn_table.specs.Meaning.{first_free}

pub taken_one : (taken : ℕ → Bool) (i : ℕ) → i < 32 → taken i ≡ true → first_free taken (32 - i) i ≡ first_free taken (32 - (i + 1)) (i + 1)
unfolding first_free
taken_one taken i h is = let e : 32 - i ≡ suc (32 - (i + 1)) = omega arith in
    ap (λ k. first_free taken k i) e ∙ ap (λ b. cond b (first_free taken (32 - (i + 1)) (i + 1)) i) is

pub free_one : (taken : ℕ → Bool) (i : ℕ) → i < 32 → taken i ≡ false → first_free taken (32 - i) i ≡ i
unfolding first_free
free_one taken i h is = let e : 32 - i ≡ suc (32 - (i + 1)) = omega arith in
    ap (λ k. first_free taken k i) e ∙ ap (λ b. cond b (first_free taken (32 - (i + 1)) (i + 1)) i) is

pub none_free : (taken : ℕ → Bool) → first_free taken 0 32 ≡ 32
unfolding first_free
none_free taken = refl

pub free_end : (taken : ℕ → Bool) (i : ℕ) → i ≡ 32 → first_free taken (32 - i) i ≡ 32
free_end taken i e = ap (λ k. first_free taken (32 - k) k) e ∙ none_free taken

read_false : (k n : ℕ) → get_or (replicate k false) n false ≡ false
read_false zero n = refl
read_false (suc k) zero = refl
read_false (suc k) (suc n) = read_false k n

none_below : (n : ℕ) → nat_lt n 0 ≡ false
none_below n = grind (arith, nat_tests)

pub none_out : (n : ℕ) → get_or (replicate 32 false) n false ≡ nat_lt n 0
none_out n = read_false 32 n ∙ sym (none_below n)

lt_true : (a b : ℕ) → a < b → nat_lt a b ≡ true
lt_true a b h = grind (arith, nat_tests)

lt_more : (n i : ℕ) → n ≢ i → nat_lt n i ≡ nat_lt n (i + 1)
lt_more n i ne = grind (arith, nat_tests)

-- one hand more is out
pub one_out : (xs : List Bool) (i : ℕ) → i < length xs → ((n : ℕ) → get_or xs n false ≡ nat_lt n i) → (n : ℕ) → get_or (set xs i true) n false ≡ nat_lt n (i + 1)
one_out xs i h all n = dite (ℕ_discrete n i)
    (λ (e : n ≡ i). ap (λ k. get_or (set xs i true) k false) e ∙ (get_or-set_same xs i true false h ∙ sym (lt_true n (i + 1) (omega arith))))
    (λ (ne : n ≢ i). get_or-set_other xs i n true false ne ∙ (all n ∙ lt_more n i ne))
