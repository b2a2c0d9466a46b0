-- How many places a narrow table keeps.
use Rattle.std.proofs.Common.{◌≡◌, ◌≢◌, ℕ, zero, suc, ◌+◌, ◌-◌, ◌^◌, ◌<◌, ◌≤◌, Bool, true, false, cond, List, [], ◌∷◌, ◌++◌, length, get_or, Option, Some, None, refl, sym, ap, ◌∙◌, arith, All, AllPairs}
use Rattle.std.specs.Prelude.{filter, not, ◌==◌}
use Rattle.std.proofs.lemmas.List.{length-take, get_or-take, length-drop, take-append-drop}
use Rattle.std.proofs.lemmas.List.Elements.{All-take, All-weaker}
use Rattle.std.proofs.lemmas.Option.{slice_get-get_or}
use Rattle.places.specs.declared.placed.Placed.{Placed}
use Rattle.places.specs.Placed.{chain_of, parent_of, is_among, is_wanted, is_kept, top_id, others_of, top_alone, free_of, IsNarrow}
use Rattle.places.specs.Table.{IsPlaced, IsTable}
use Rattle.places.proofs.FindLemmas.{pairs_head, pairs_tail}
use Rattle.places.proofs.CountLemmas.{how_many, count_or, count_none, count_union, length_filter}
use Rattle.places.proofs.HandLemmas.{few_hands}
use Rattle.places.proofs.StandLemmas.{number_is, number_not}

few_at : (b : Bool) (m n : ℕ) → m ≤ n → cond b 1 0 + m ≤ suc n
few_at true m n h = omega arith
few_at false m n h = omega arith

module _ {X : Type 0} where
  one_at : (p : ℕ) (e : Placed X) (es : List (Placed X)) (b : Bool) → (p == e.place) ≡ b → All (λ f. e.place ≢ f.place) es → how_many (λ f. p == f.place) es ≤ 1 → cond b 1 0 + how_many (λ f. p == f.place) es ≤ 1
  one_at p e es true s h ih =
      let same = number_is p e.place s in
      let none = count_none (λ f. p == f.place) es (λ k d within. number_not p (get_or es k d).place (λ at. h k d within (sym same ∙ at))) in
      omega (arith, none)
  one_at p e es false s h ih = omega (arith, ih)

  -- one entry at most stands at a place
  one_place : (p : ℕ) (t : List (Placed X)) → AllPairs (λ a b. a.place ≢ b.place) t → how_many (λ f. p == f.place) t ≤ 1
  one_place p [] h = omega arith
  one_place p (e ∷ es) h = one_at p e es (p == e.place) refl (pairs_head (λ a b. a.place ≢ b.place) e es h) (one_place p es (pairs_tail (λ a b. a.place ≢ b.place) e es h))

  -- a chain of n places has n entries at most
  chain_few : (t u : List (Placed X)) → AllPairs (λ a b. a.place ≢ b.place) u → (n : ℕ) (o : Option ℕ) → how_many (λ e. is_among e.place (chain_of t n o)) u ≤ n
  chain_few t u h zero o = omega (arith, count_none (λ (e : Placed X). false) u (λ k d within. refl))
  chain_few t u h (suc n) None = omega (arith, count_none (λ (e : Placed X). false) u (λ k d within. refl))
  chain_few t u h (suc n) (Some p) =
      let both = count_or (λ (e : Placed X). p == e.place) (λ e. is_among e.place (chain_of t n (parent_of t p))) u in
      omega (arith, both, one_place p u h, chain_few t u h n (parent_of t p))

  how_append : (p : Placed X → Bool) (xs ys : List (Placed X)) → how_many p (xs ++ ys) ≡ how_many p xs + how_many p ys
  how_append p [] ys = omega arith
  how_append p (x ∷ xs) ys = omega (arith, how_append p xs ys)

  how_few : (p : Placed X → Bool) (xs : List (Placed X)) → how_many p xs ≤ length xs
  how_few p [] = omega arith
  how_few p (x ∷ xs) = few_at (p x) (how_many p xs) (length xs) (how_few p xs)

  other_places : (t : List (Placed X)) → IsTable t → All (λ e. (e.place == (top_id t).place) ≡ false) (others_of t)
  other_places t is = λ k d within.
      let some = is.some in
      let less : k < length t - 1 = omega (arith, length-take (length t - 1) t) in
      let here = get_or-take (length t - 1) t k d less in
      let top = slice_get-get_or t (length t - 1) d (omega arith) in
      rw (here, top) (number_not (get_or t k d).place (get_or t (length t - 1) d).place (is.apart k (length t - 1) d less (omega arith)))

  -- the top and at most 32 others are wanted
  wanted_few : (t : List (Placed X)) → IsTable t → IsNarrow t → how_many (is_wanted t) t ≤ 33
  wanted_few t is narrow =
      let split = take-append-drop (length t - 1) t in
      let whole : how_many (is_wanted t) t ≡ how_many (is_wanted t) (others_of t) + how_many (is_wanted t) (top_alone t) = ap (how_many (is_wanted t)) (sym split) ∙ how_append (is_wanted t) (others_of t) (top_alone t) in
      let tests = count_or (λ (e : Placed X). e.place == (top_id t).place) (λ e. not (e.mask == 0)) (others_of t) in
      let none = count_none (λ (e : Placed X). e.place == (top_id t).place) (others_of t) (other_places t is) in
      let hands = few_hands 32 (others_of t) (All-weaker IsPlaced (λ e. e.mask < 2 ^ 32) (λ e h. h.hands) (others_of t) (All-take IsPlaced (length t - 1) t is.numbers)) narrow in
      let top = how_few (is_wanted t) (top_alone t) in
      let long = length-drop (length t - 1) t in
      omega (arith, whole, tests, none, hands, top, long)

  -- so at most 264 are kept
  pub at_most_264 : (t : List (Placed X)) → IsTable t → IsNarrow t → length (filter (is_kept t) t) ≤ 264
  at_most_264 t is narrow =
      let all = count_union (is_wanted t) (λ (w e : Placed X). is_among e.place (chain_of t 8 (Some w.place))) 8 t t (λ w. chain_few t t is.apart 8 (Some w.place)) in
      omega (arith, length_filter (is_kept t) t, all, wanted_few t is narrow)

  -- and at least 8 are free
  pub room : (t : List (Placed X)) → IsTable t → IsNarrow t → 8 ≤ free_of (filter (is_kept t) t)
  room t is narrow = omega (arith, at_most_264 t is narrow)
