-- A table stays one when hands come and go, and what narrow leaves.
use Rattle.std.proofs.Common.{◌≡◌, ℕ, suc, ◌+◌, ◌-◌, ◌^◌, ◌<◌, ◌≤◌, Bool, true, false, List, [], ◌∷◌, ◌++◌, map, length, length-append, refl, sym, ap, subst, ◌∙◌, arith, All, AllPairs}
use Rattle.std.specs.Prelude.{◌==◌, nat_lt, bit_and}
use Rattle.std.specs.Int.{bit_at}
use Rattle.std.proofs.lemmas.Bool.Decides.{nat_tests}
use Rattle.std.proofs.lemmas.Nat.{and_le_l, or_of_32}
use Rattle.std.proofs.lemmas.Nat.Bits.{bit_at_and, bit_at_or, bit_at-zero, bit_at_not, bit_at-lt, bit_at_above, same_from_bits}
use Rattle.std.proofs.lemmas.List.{length-take, take-append-drop, take-append-le, take_all}
use Rattle.std.proofs.lemmas.List.Kept.{AllPairs-cons}
use Rattle.std.proofs.lemmas.List.Elements.{All-cons, All-head, All-tail, All-append, All-take, All-drop, All-weaker, All-nil}
use Rattle.places.specs.declared.placed.Placed.{Placed}
use Rattle.places.specs.Placed.{hands_of, without, noted, quieted, narrowed, newest_alone, others_of, top_alone, IsNarrow}
use Rattle.places.specs.Table.{IsPlaced, IsTable}
use Rattle.places.proofs.TableLemmas.{unmasked, remasked}
use Rattle.std.specs.Int.{w64}

module _ {X : Type 0} where
  abbrev Few : Placed X → Type 0
  Few e = e.mask < 2 ^ 32

  map_append : (f : Placed X → Placed X) (xs ys : List (Placed X)) → map f (xs ++ ys) ≡ map f xs ++ map f ys
  map_append f [] ys = refl
  map_append f (x ∷ xs) ys = ap (λ l. f x ∷ l) (map_append f xs ys)

  noted_at : (p h : ℕ) (e : Placed X) (b : Bool) → (e.place == p) ≡ b → unmasked (noted p h e) ≡ unmasked e
  noted_at p h e true s = rw s refl
  noted_at p h e false s = rw s refl

  noted_few : (p h : ℕ) (e : Placed X) (b : Bool) → (e.place == p) ≡ b → h < 2 ^ 32 → Few e → Few (noted p h e)
  noted_few p h e true s few k = rw s (or_of_32 e.mask h k few)
  noted_few p h e false s few k = rw s k

  map_same : (f : Placed X → Placed X) → ((e : Placed X) → unmasked (f e) ≡ unmasked e) → (t : List (Placed X)) → map unmasked (map f t) ≡ map unmasked t
  map_same f same [] = refl
  map_same f same (e ∷ es) = rw (same e, map_same f same es) refl

  map_few : (f : Placed X → Placed X) → ((e : Placed X) → Few e → Few (f e)) → (t : List (Placed X)) → All Few t → All Few (map f t)
  map_few f keep [] h = All-nil Few
  map_few f keep (e ∷ es) h = All-cons Few (f e) (map f es) (keep e (All-head Few e es h)) (map_few f keep es (All-tail Few e es h))

  all_few : (t : List (Placed X)) → IsTable t → All Few t
  all_few t is = All-weaker IsPlaced Few (λ e h. h.hands) t is.numbers

  pub noted_is : (t : List (Placed X)) → IsTable t → (p h : ℕ) → h < 2 ^ 32 → IsTable (map (noted p h) t)
  noted_is t is p h few = remasked t (map (noted p h) t) (map_same (noted p h) (λ e. noted_at p h e (e.place == p) refl) t) (map_few (noted p h) (λ e k. noted_few p h e (e.place == p) refl few k) t (all_few t is)) is

  without_few : (h : ℕ) (e : Placed X) → Few e → Few (without h e)
  without_few h e k = omega (arith, and_le_l e.mask (2 ^ 64 - 1 - h))

  -- others changed and the top left
  changed_is : (t : List (Placed X)) → IsTable t → (us : List (Placed X)) → map unmasked us ≡ map unmasked (others_of t) → All Few us → IsTable (us ++ top_alone t)
  changed_is t is us same few =
      let split = take-append-drop (length t - 1) t in
      remasked t (us ++ top_alone t)
      (map_append unmasked us (top_alone t) ∙ (ap (λ l. l ++ map unmasked (top_alone t)) same ∙ (sym (map_append unmasked (others_of t) (top_alone t)) ∙ ap (map unmasked) split)))
      (All-append Few us (top_alone t) few (All-drop Few (length t - 1) t (all_few t is))) is

  others_few : (t : List (Placed X)) → IsTable t → All Few (others_of t)
  others_few t is = All-take Few (length t - 1) t (all_few t is)

  pub quieted_is : (t : List (Placed X)) → IsTable t → (h : ℕ) → IsTable (quieted h t)
  quieted_is t is h = changed_is t is (map (without h) (others_of t)) (map_same (without h) (λ e. refl) (others_of t)) (map_few (without h) (without_few h) (others_of t) (others_few t is))

  newest_same : (es : List (Placed X)) → map unmasked (newest_alone es) ≡ map unmasked es
  newest_same [] = refl
  newest_same (e ∷ es) = rw (newest_same es) refl

  newest_few : (es : List (Placed X)) → All Few es → All Few (newest_alone es)
  newest_few [] h = All-nil Few
  newest_few (e ∷ es) h = All-cons Few (without (hands_of es) e) (newest_alone es) (without_few (hands_of es) e (All-head Few e es h)) (newest_few es (All-tail Few e es h))

  pub narrowed_is : (t : List (Placed X)) → IsTable t → IsTable (narrowed t)
  narrowed_is t is = changed_is t is (newest_alone (others_of t)) (newest_same (others_of t)) (newest_few (others_of t) (others_few t is))

  -- ---- no hand twice
  abbrev Within : ℕ → Placed X → Type 0
  Within hands e = (i : ℕ) → bit_at e.mask i ≤ bit_at hands i

  within_head : (es : List (Placed X)) (e : Placed X) → Within (hands_of (e ∷ es)) (without (hands_of es) e)
  within_head es e i = omega (arith, bit_at_or (hands_of es) e.mask i, bit_at_and e.mask (2 ^ 64 - 1 - hands_of es) i)

  within_more : (es : List (Placed X)) (e f : Placed X) → Within (hands_of es) f → Within (hands_of (e ∷ es)) f
  within_more es e f h i = omega (arith, bit_at_or (hands_of es) e.mask i, h i)

  within_all : (es : List (Placed X)) → All (Within (hands_of es)) (newest_alone es)
  within_all [] = All-nil (Within 0)
  within_all (e ∷ es) =
      All-cons (Within (hands_of (e ∷ es))) (without (hands_of es) e) (newest_alone es) (within_head es e)
      (All-weaker (Within (hands_of es)) (Within (hands_of (e ∷ es))) (within_more es e) (newest_alone es) (within_all es))

  hands_few : (es : List (Placed X)) → All Few es → hands_of es < 2 ^ 32
  hands_few [] h = omega arith
  hands_few (e ∷ es) h = or_of_32 (hands_of es) e.mask (hands_few es (All-tail Few e es h)) (All-head Few e es h)

  apart_bit : (e f : Placed X) (hands : ℕ) (i : ℕ) (b : Bool) → nat_lt i 64 ≡ b → hands < 2 ^ 32 → Within hands f → bit_at (bit_and (without hands e).mask f.mask) i ≡ 0
  apart_bit e f hands i true s few h =
      let less : i < 64 = grind (arith, nat_tests) in
      let not = bit_at_not w64 hands i (omega arith) less in
      let a = bit_at_and (without hands e).mask f.mask i in
      let b = bit_at_and e.mask (2 ^ 64 - 1 - hands) i in
      omega (arith, not, a, b, h i, bit_at-lt hands i, bit_at-lt f.mask i)
  apart_bit e f hands i false s few h =
      let more : 64 ≤ i = grind (arith, nat_tests) in
      let none = bit_at_above hands 64 i (omega arith) more in
      let a = bit_at_and (without hands e).mask f.mask i in
      omega (arith, none, a, h i)

  apart_newest : (e f : Placed X) (hands : ℕ) → hands < 2 ^ 32 → Within hands f → bit_and (without hands e).mask f.mask ≡ 0
  apart_newest e f hands few h = same_from_bits (bit_and (without hands e).mask f.mask) 0 (λ i. apart_bit e f hands i (nat_lt i 64) refl few h ∙ sym (bit_at-zero i))

  newest_apart : (es : List (Placed X)) → All Few es → AllPairs (λ a b. bit_and a.mask b.mask ≡ 0) (newest_alone es)
  newest_apart [] h = λ i j d less within. absurd (omega arith)
  newest_apart (e ∷ es) h =
      AllPairs-cons (λ a b. bit_and a.mask b.mask ≡ 0) (without (hands_of es) e) (newest_alone es)
      (All-weaker (Within (hands_of es)) (λ f. bit_and (without (hands_of es) e).mask f.mask ≡ 0) (λ f k. apart_newest e f (hands_of es) (hands_few es (All-tail Few e es h)) k) (newest_alone es) (within_all es))
      (newest_apart es (All-tail Few e es h))

  newest_long : (es : List (Placed X)) → length (newest_alone es) ≡ length es
  newest_long [] = refl
  newest_long (e ∷ es) = ap suc (newest_long es)

  narrowed_others : (t : List (Placed X)) → others_of (narrowed t) ≡ newest_alone (others_of t)
  narrowed_others t =
      let all = take-append-drop (length t - 1) t in
      let long : length (narrowed t) ≡ length t = length-append (newest_alone (others_of t)) (top_alone t) ∙ (ap (λ n. n + length (top_alone t)) (newest_long (others_of t)) ∙ (sym (length-append (others_of t) (top_alone t)) ∙ ap length all)) in
      let short : length (newest_alone (others_of t)) ≡ length t - 1 = omega (arith, newest_long (others_of t), length-take (length t - 1) t) in
      rw long (take-append-le (length t - 1) (newest_alone (others_of t)) (top_alone t) (omega arith) ∙ take_all (length t - 1) (newest_alone (others_of t)) (omega arith))

  -- narrow leaves each hand at one place, the top aside
  pub narrow_is : (t : List (Placed X)) → IsTable t → IsNarrow (narrowed t)
  narrow_is t is = let P : List (Placed X) → Type 0 = AllPairs (λ a b. bit_and a.mask b.mask ≡ 0) in subst P (sym (narrowed_others t)) (newest_apart (others_of t) (others_few t is))
