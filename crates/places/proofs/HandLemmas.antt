-- Hands as the bits of masks.
use Rattle.std.proofs.Common.{◌≡◌, ◌≢◌, ℕ, zero, suc, ◌+◌, ◌^◌, ◌<◌, ◌≤◌, Bool, true, false, cond, List, [], ◌∷◌, refl, sym, ap, ◌∙◌, arith, All, AllPairs}
use Rattle.std.specs.Prelude.{bit_and, bit_or, min, not, ◌==◌}
use Rattle.std.specs.Int.{bit_at}
use Rattle.std.proofs.lemmas.Bool.Decides.{nat_tests}
use Rattle.std.proofs.lemmas.Nat.Bits.{bit_at_and, bit_at_or, bit_at-zero, bit_at-lt, same_from_bits, same_from_bits_below}
use Rattle.std.proofs.lemmas.List.Elements.{All-head, All-tail}
use Rattle.places.specs.declared.placed.Placed.{Placed}
use Rattle.places.specs.Placed.{hands_of}
use Rattle.places.proofs.CountLemmas.{how_many}
use Rattle.places.proofs.FindLemmas.{pairs_head, pairs_tail}

-- how many of the first k bits are set
bits_in : ℕ → ℕ → ℕ
bits_in n zero = 0
bits_in n (suc k) = bits_in n k + bit_at n k

bits_few : (n k : ℕ) → bits_in n k ≤ k
unfolding bits_in
bits_few n zero = omega arith
bits_few n (suc k) = omega (arith, bits_few n k, bit_at-lt n k)

-- no bit is in both
pub record Apart (a b : ℕ) : Type 0 where
  pub bits : (i : ℕ) → min (bit_at a i) (bit_at b i) ≡ 0

pub apart_from : (a b : ℕ) → bit_and a b ≡ 0 → Apart a b
apart_from a b e = record { bits = λ i. sym (bit_at_and a b i) ∙ (ap (λ n. bit_at n i) e ∙ bit_at-zero i) }

pub apart_to : (a b : ℕ) → Apart a b → bit_and a b ≡ 0
apart_to a b h = same_from_bits (bit_and a b) 0 (λ i. bit_at_and a b i ∙ (h.bits i ∙ sym (bit_at-zero i)))

bits_or : (a b k : ℕ) → Apart a b → bits_in (bit_or a b) k ≡ bits_in a k + bits_in b k
unfolding bits_in
bits_or a b zero h = refl
bits_or a b (suc k) h = omega (arith, bits_or a b k h, bit_at_or a b k, h.bits k)

no_bits_at : (n k i : ℕ) (b : Bool) → (i == k) ≡ b → bits_in n k + bit_at n k ≡ 0 → i < suc k → (bits_in n k ≡ 0 → i < k → bit_at n i ≡ 0) → bit_at n i ≡ 0
no_bits_at n k i true s e h ih = let same : i ≡ k = grind (arith, nat_tests) in let last : bit_at n k ≡ 0 = omega arith in rw same last
no_bits_at n k i false s e h ih = let other : i ≢ k = grind (arith, nat_tests) in ih (omega arith) (omega arith)

no_bits : (n k : ℕ) → bits_in n k ≡ 0 → (i : ℕ) → i < k → bit_at n i ≡ 0
unfolding bits_in
no_bits n zero e i h = absurd (omega arith)
no_bits n (suc k) e i h = no_bits_at n k i (i == k) refl e h (λ d less. no_bits n k d i less)

some_bit_at : (n k m : ℕ) → bits_in n k ≡ m → 0 < 2 ^ k → n < 2 ^ k → n ≢ 0 → 1 ≤ m
some_bit_at n k zero e room h some = absurd (some (same_from_bits_below k n 0 h room (λ i less. no_bits n k e i less ∙ sym (bit_at-zero i))))
some_bit_at n k (suc m) e room h some = omega arith

-- a mask that isn't empty has a bit
some_bit : (n k : ℕ) → n < 2 ^ k → n ≢ 0 → 1 ≤ bits_in n k
some_bit n k h some = some_bit_at n k (bits_in n k) refl (omega arith) h some

turned : (a b : ℕ) → Apart a b → Apart b a
turned a b h = record { bits = λ i. omega (arith, h.bits i) }

hand_counts : (n k : ℕ) (b : Bool) → (n == 0) ≡ b → n < 2 ^ k → cond (not b) 1 0 ≤ bits_in n k
hand_counts n k true s h = omega arith
hand_counts n k false s h = some_bit n k h (λ e. let same : (n == 0) ≡ true = grind (arith, nat_tests) in cc)

module _ {X : Type 0} where
  apart_hands : (a : ℕ) (es : List (Placed X)) → All (λ e. bit_and a e.mask ≡ 0) es → Apart a (hands_of es)
  apart_hands a [] h = record { bits = λ i. omega (arith, bit_at-zero i) }
  apart_hands a (e ∷ es) h =
      let rest = apart_hands a es (All-tail (λ e. bit_and a e.mask ≡ 0) e es h) in
      let here = apart_from a e.mask (All-head (λ e. bit_and a e.mask ≡ 0) e es h) in
      record { bits = λ i. omega (arith, rest.bits i, here.bits i, bit_at_or (hands_of es) e.mask i) }

  -- each of so many masks takes a bit of its own
  hands_fill : (k : ℕ) (es : List (Placed X)) → All (λ e. e.mask < 2 ^ k) es → AllPairs (λ a b. bit_and a.mask b.mask ≡ 0) es → how_many (λ e. not (e.mask == 0)) es ≤ bits_in (hands_of es) k
  hands_fill k [] h ap = omega arith
  hands_fill k (e ∷ es) h ap =
      let rest = hands_fill k es (All-tail (λ e. e.mask < 2 ^ k) e es h) (pairs_tail (λ a b. bit_and a.mask b.mask ≡ 0) e es ap) in
      let apart = apart_hands e.mask es (pairs_head (λ a b. bit_and a.mask b.mask ≡ 0) e es ap) in
      let both = bits_or (hands_of es) e.mask k (turned e.mask (hands_of es) apart) in
      let here = hand_counts e.mask k (e.mask == 0) refl (All-head (λ e. e.mask < 2 ^ k) e es h) in
      omega (arith, rest, both, here)

  -- so few places share k hands
  pub few_hands : (k : ℕ) (es : List (Placed X)) → All (λ e. e.mask < 2 ^ k) es → AllPairs (λ a b. bit_and a.mask b.mask ≡ 0) es → how_many (λ e. not (e.mask == 0)) es ≤ k
  few_hands k es h apart = omega (arith, hands_fill k es h apart, bits_few (hands_of es) k)
