-- What a look shows stands in the first units of its range.
use Rattle.std.proofs.Common.{◌≡◌, ℕ, ◌+◌, ◌-◌, ◌<◌, ◌≤◌, List, length, take, drop, get_or, get_or-take, take-take, length-take, Bool, true, false, refl, sym, ap, ◌∙◌, arith}
use Rattle.std.specs.Prelude.{◌&&◌, min, nat_le, if◌then◌else◌}
use Rattle.std.proofs.lemmas.Bool.Decides.{nat_tests}
use Rattle.std.specs.Char.Utf16.{is_high_surrogate, is_low_surrogate}
use Rattle.points.specs.Place.{splits_pair}
use Rattle.machine.specs.Machine.{between, shown}

few : (b : Bool) (k n : ℕ) → k ≤ n → (if b then k - 1 else k) ≤ n
few true k n h = omega (arith, h)
few false k n h = h

-- one unit more than are shown is enough
shown_of_first : (u : List ℕ) (limit : ℕ) → shown limit (take (limit + 1) u) ≡ shown limit u
shown_of_first u limit =
    let v : List ℕ = take (limit + 1) u in
    let k : ℕ = min limit (length u) in
    let k_is : min limit (length v) ≡ k = omega (arith, length-take (limit + 1) u) in
    let before = get_or-take (limit + 1) u (k - 1) 0 (omega arith) in
    let at = get_or-take (limit + 1) u k 0 (omega arith) in
    let splits : splits_pair v k ≡ splits_pair u k = ap (λ (x : ℕ). is_high_surrogate x && is_low_surrogate (get_or v k 0)) before
    ∙ ap (λ (x : ℕ). is_high_surrogate (get_or u (k - 1) 0) && is_low_surrogate x) at in
    ap (λ (n : ℕ). take (if splits_pair v n then n - 1 else n) v) k_is
    ∙ (ap (λ (b : Bool). take (if b then k - 1 else k) v) splits
    ∙ take-take (if splits_pair u k then k - 1 else k) (limit + 1) u (few (splits_pair u k) k (limit + 1) (omega arith)))

first_shown : (t : List ℕ) (i j limit k : ℕ) (b : Bool) → nat_le (j - i) (limit + 1) ≡ b → k ≡ i + min (j - i) (limit + 1) → shown limit (between t i k) ≡ shown limit (between t i j)
first_shown t i j limit k true s is =
    let less : j - i ≤ limit + 1 = grind (arith, nat_tests) in
    let e : k - i ≡ j - i = omega (arith, less, is) in
    ap (λ (n : ℕ). shown limit (take n (drop i t))) e
first_shown t i j limit k false s is =
    let more : limit + 1 ≤ j - i = grind (arith, nat_tests) in
    let e : k - i ≡ limit + 1 = omega (arith, more, is) in
    ap (λ (n : ℕ). shown limit (take n (drop i t))) e
    ∙ (ap (λ (u : List ℕ). shown limit u) (sym (take-take (limit + 1) (j - i) (drop i t) more)) ∙ shown_of_first (between t i j) limit)

pub shown_is : (t : List ℕ) (i j limit k : ℕ) → k ≡ i + min (j - i) (limit + 1) → shown limit (between t i k) ≡ shown limit (between t i j)
shown_is t i j limit k is = first_shown t i j limit k (nat_le (j - i) (limit + 1)) refl is
