-- Hits in a list of characters and in its spelling: where each character's first unit tells it from the middle of another, and
-- no spelling begins another, the hits of a spelled needle are those of the needle.
use Rattle.std.proofs.Common.{◌≡◌, ℕ, zero, suc, ◌+◌, ◌-◌, ◌<◌, List, [], ◌∷◌, ◌++◌, length, take, drop, map, flat_map, Bool, true, false, refl, sym, ap, subst, ◌∙◌, inl, inr, arith, length-append, append_assoc}
use Rattle.std.specs.List.{AllByRecursion}
use Rattle.std.proofs.lemmas.Bool.{cases_Bool, both_ways}
use Rattle.std.proofs.lemmas.List.{take_at}
use Rattle.std.proofs.lemmas.Grind.{flat_map-append}
use Rattle.points.specs.Literal.{stands_in_front, hits_from, hits}
use Rattle.outer.proofs.HitLemmas.{hits_hit, hits_miss, stands_split, stands_from}

-- units of which the first alone begins a character
pub record IsWord (lead : ℕ → Bool) (xs : List ℕ) : Type 0 where
  pub first : ℕ
  pub rest : List ℕ
  pub parts : xs ≡ first ∷ rest
  pub begins : lead first ≡ true
  pub goes_on : AllByRecursion (λ u. lead u ≡ false) rest

pub record IsSpelling (spell : ℕ → List ℕ) (good lead : ℕ → Bool) : Type 0 where
  pub words : (c : ℕ) → good c ≡ true → IsWord lead (spell c)
  pub apart : (c d : ℕ) (r t : List ℕ) → good c ≡ true → good d ≡ true → spell c ++ r ≡ spell d ++ t → (c ≡ d) × (r ≡ t)

same_test : (a b : Bool) → (a ≡ true → b ≡ true) → (b ≡ true → a ≡ true) → a ≡ b
same_test true b there back = sym (there refl)
same_test false true there back = back refl
same_test false false there back = refl

-- hits behind units that are skipped
pub skipped : (needle : List ℕ) (at skip : ℕ) (xs ys : List ℕ) → hits_from needle at (length xs + skip) (xs ++ ys) ≡ hits_from needle (at + length xs) skip ys
skipped needle at skip [] ys = let e : 0 + skip ≡ skip = omega arith in let d : at ≡ at + 0 = omega arith in
    ap (λ (k : ℕ). hits_from needle at k ys) e ∙ ap (λ (k : ℕ). hits_from needle k skip ys) d
skipped needle at skip (x ∷ xs) ys = let e : length (x ∷ xs) + skip ≡ suc (length xs + skip) = omega arith in let d : at + 1 + length xs ≡ at + length (x ∷ xs) = omega arith in
    ap (λ (k : ℕ). hits_from needle at k (x ∷ (xs ++ ys))) e ∙ (skipped needle (at + 1) skip xs ys ∙ ap (λ (k : ℕ). hits_from needle k skip ys) d)

-- hits behind units that begin none
module _ (lead : ℕ → Bool) (n : ℕ) (ns : List ℕ) (begins : lead n ≡ true) where
  no_front : (x : ℕ) (us : List ℕ) → lead x ≡ false → stands_in_front (n ∷ ns) (x ∷ us) ≡ false
  no_front x us inner = elim (cases_Bool (stands_in_front (n ∷ ns) (x ∷ us))) [
    | inl stands ↦ absurd (both_ways (lead x) inner (ap lead (heads (stands_split (n ∷ ns) (x ∷ us) stands)) ∙ begins))
    | inr apart ↦ apart
  ]
    where
      heads : {m : ℕ} {a b : List ℕ} → x ∷ a ≡ m ∷ b → x ≡ m
      heads e = cc

  pub glided : (at : ℕ) (xs ys : List ℕ) → AllByRecursion (λ u. lead u ≡ false) xs → hits_from (n ∷ ns) at 0 (xs ++ ys) ≡ hits_from (n ∷ ns) (at + length xs) 0 ys
  glided at [] ys inner = let d : at ≡ at + 0 = omega arith in ap (λ (k : ℕ). hits_from (n ∷ ns) k 0 ys) d
  glided at (x ∷ xs) ys inner = let d : at + 1 + length xs ≡ at + length (x ∷ xs) = omega arith in
      hits_miss (n ∷ ns) at x (xs ++ ys) (no_front x (xs ++ ys) inner.0) ∙ (glided (at + 1) xs ys inner.1 ∙ ap (λ (k : ℕ). hits_from (n ∷ ns) k 0 ys) d)

module _ (spell : ℕ → List ℕ) (good lead : ℕ → Bool) (spelling : IsSpelling spell good lead) where
  abbrev Good : List ℕ → Type 0
  Good cs = AllByRecursion (λ c. good c ≡ true) cs

  abbrev spelled : List ℕ → List ℕ
  spelled cs = flat_map spell cs

  some_units : (c : ℕ) (r : List ℕ) → good c ≡ true → spell c ++ r ≡ [] → ⊥
  some_units c r is_good none = let w = spelling.words c is_good in omega (arith, ap length none, length-append (spell c) r, ap length w.parts)

  -- characters whose spelling begins a spelling come first in it
  parsed : (ns cs rest : List ℕ) → Good ns → Good cs → spelled cs ≡ spelled ns ++ rest → (ds : List ℕ) × (cs ≡ ns ++ ds)
  parsed [] cs rest g h e = (cs, refl)
  parsed (n ∷ ns) [] rest g h e = absurd (some_units n (spelled ns ++ rest) g.0 (sym (append_assoc (spell n) (spelled ns) rest) ∙ sym e))
  parsed (n ∷ ns) (c ∷ cs) rest g h e =
      let same = spelling.apart c n (spelled cs) (spelled ns ++ rest) h.0 g.0 (e ∙ append_assoc (spell n) (spelled ns) rest) in
      let more = parsed ns cs rest g.1 h.1 same.1 in
      (more.0, ap (λ (x : ℕ). x ∷ cs) same.0 ∙ ap (λ (xs : List ℕ). n ∷ xs) more.1)

  stands_spelled : (ns cs : List ℕ) → Good ns → Good cs → stands_in_front (spelled ns) (spelled cs) ≡ stands_in_front ns cs
  stands_spelled ns cs g h = same_test _ _
      (λ stands. let p = parsed ns cs (drop (length (spelled ns)) (spelled cs)) g h (stands_split (spelled ns) (spelled cs) stands) in stands_from ns cs p.0 p.1)
      (λ stands. let rest = drop (length ns) cs in stands_from (spelled ns) (spelled cs) (spelled rest) (ap spelled (stands_split ns cs stands) ∙ flat_map-append spell ns rest))

  -- the offset, in the spelling, of a place in the characters
  abbrev place_in : List ℕ → ℕ → ℕ
  place_in cs k = length (spelled (take k cs))

  place_at : (whole p cs : List ℕ) → whole ≡ p ++ cs → place_in whole (length p) ≡ length (spelled p)
  place_at whole p cs e = ap (λ (xs : List ℕ). length (spelled (take (length p) xs))) e ∙ ap (λ (xs : List ℕ). length (spelled xs)) (take_at p cs (length p) refl)

  module _ (whole ns : List ℕ) (needle : Good ns) (some : 0 < length ns) where
    abbrev Agree : List ℕ → List ℕ → ℕ → Type 0
    Agree p cs skip = hits_from (spelled ns) (length (spelled p)) (place_in cs skip) (spelled cs) ≡ map (place_in whole) (hits_from ns (length p) skip cs)

    -- a place more is passed
    agree_behind : (p : List ℕ) (c : ℕ) (cs : List ℕ) (skip : ℕ) → Agree (p ++ c ∷ []) cs skip
        → hits_from (spelled ns) (length (spelled p) + length (spell c)) (place_in cs skip) (spelled cs) ≡ map (place_in whole) (hits_from ns (length p + 1) skip cs)
    agree_behind p c cs skip h =
        let at : length (spelled p) + length (spell c) ≡ length (spelled (p ++ c ∷ [])) = omega (arith, ap length (flat_map-append spell p (c ∷ [])), length-append (spelled p) (spell c ++ []), length-append (spell c) []) in
        let place : length (p ++ c ∷ []) ≡ length p + 1 = omega (arith, length-append p (c ∷ [])) in
        ap (λ (k : ℕ). hits_from (spelled ns) k (place_in cs skip) (spelled cs)) at ∙ (h ∙ ap (λ (k : ℕ). map (place_in whole) (hits_from ns k skip cs)) place)

    agree_skip : (p : List ℕ) (c : ℕ) (cs : List ℕ) (skip : ℕ) → Agree (p ++ c ∷ []) cs skip
        → hits_from (spelled ns) (length (spelled p)) (place_in (c ∷ cs) (suc skip)) (spelled (c ∷ cs)) ≡ map (place_in whole) (hits_from ns (length p + 1) skip cs)
    agree_skip p c cs skip h =
        ap (λ (k : ℕ). hits_from (spelled ns) (length (spelled p)) k (spelled (c ∷ cs))) (length-append (spell c) (spelled (take skip cs)))
        ∙ (skipped (spelled ns) (length (spelled p)) (place_in cs skip) (spell c) (spelled cs) ∙ agree_behind p c cs skip h)

    -- a hit, from which the search goes on at its end
    hit_whole : (at u : ℕ) (needle us : List ℕ) → 0 < length needle → stands_in_front needle (u ∷ us) ≡ true → hits_from needle at 0 (u ∷ us) ≡ at ∷ hits_from needle at (length needle) (u ∷ us)
    hit_whole at u needle us more stands = let e : suc (length needle - 1) ≡ length needle = omega (arith, more) in
        hits_hit needle at u us stands ∙ ap (λ (k : ℕ). at ∷ hits_from needle at k (u ∷ us)) e

    hit_spelled : (at : ℕ) (xs : List ℕ) (u : ℕ) (us : List ℕ) → xs ≡ u ∷ us → 0 < length (spelled ns) → stands_in_front (spelled ns) xs ≡ true → hits_from (spelled ns) at 0 xs ≡ at ∷ hits_from (spelled ns) at (length (spelled ns)) xs
    hit_spelled at xs u us e more stands = subst (λ (ys : List ℕ). stands_in_front (spelled ns) ys ≡ true → hits_from (spelled ns) at 0 ys ≡ at ∷ hits_from (spelled ns) at (length (spelled ns)) ys) (sym e)
        (hit_whole at u (spelled ns) us more) stands

    needle_word : (m : ℕ) (ms : List ℕ) (l : List ℕ) → l ≡ m ∷ ms → Good l → IsWord lead (spell m)
    needle_word m ms l e g = spelling.words m (subst Good e g).0

    -- no hit at this character: none in its middle either
    miss_spelled : (at c : ℕ) (cs m : List ℕ) (mm : ℕ) → good c ≡ true → ns ≡ mm ∷ m → stands_in_front (spelled ns) (spelled (c ∷ cs)) ≡ false
        → hits_from (spelled ns) at 0 (spelled (c ∷ cs)) ≡ hits_from (spelled ns) (at + length (spell c)) 0 (spelled cs)
    miss_spelled at c cs m mm is_good e apart = let w = spelling.words c is_good in let v = needle_word mm m ns e needle in
        by_parts (spell c) w.first w.rest w.parts w.goes_on (spelled ns) v.first (v.rest ++ spelled m) (ap spelled e ∙ ap (λ (xs : List ℕ). xs ++ spelled m) v.parts) v.begins apart
      where
        behind : (u : ℕ) (us : List ℕ) → at + 1 + length us ≡ at + length (u ∷ us)
        behind u us = omega arith

        by_parts : (word : List ℕ) (u : ℕ) (us : List ℕ) → word ≡ u ∷ us → AllByRecursion (λ x. lead x ≡ false) us → (needle_units : List ℕ) (n : ℕ) (rest : List ℕ) → needle_units ≡ n ∷ rest → lead n ≡ true
            → stands_in_front needle_units (word ++ spelled cs) ≡ false → hits_from needle_units at 0 (word ++ spelled cs) ≡ hits_from needle_units (at + length word) 0 (spelled cs)
        by_parts word u us word_is inner needle_units n rest needle_is begins apart =
            subst (λ (w : List ℕ). stands_in_front needle_units (w ++ spelled cs) ≡ false → hits_from needle_units at 0 (w ++ spelled cs) ≡ hits_from needle_units (at + length w) 0 (spelled cs)) (sym word_is)
            (subst (λ (xs : List ℕ). stands_in_front xs (u ∷ (us ++ spelled cs)) ≡ false → hits_from xs at 0 (u ∷ (us ++ spelled cs)) ≡ hits_from xs (at + length (u ∷ us)) 0 (spelled cs)) (sym needle_is)
            (λ none. hits_miss (n ∷ rest) at u (us ++ spelled cs) none ∙ (glided lead n rest begins (at + 1) us (spelled cs) inner ∙ ap (λ (k : ℕ). hits_from (n ∷ rest) k 0 (spelled cs)) (behind u us))))
            apart

    pub agree : (p cs : List ℕ) (skip : ℕ) → whole ≡ p ++ cs → Good cs → Agree p cs skip
    agree p [] skip e h = refl
    agree p (c ∷ cs) (suc skip) e h = agree_skip p c cs skip (agree (p ++ c ∷ []) cs skip (e ∙ sym (append_assoc p (c ∷ []) cs)) h.1)
    agree p (c ∷ cs) zero e h = elim (cases_Bool (stands_in_front ns (c ∷ cs))) [
      | inl stands ↦ at_hit stands (agree (p ++ c ∷ []) cs (length ns - 1) (e ∙ sym (append_assoc p (c ∷ []) cs)) h.1)
      | inr apart ↦ at_miss apart (agree (p ++ c ∷ []) cs 0 (e ∙ sym (append_assoc p (c ∷ []) cs)) h.1)
    ]
      where
        w : IsWord lead (spell c)
        w = spelling.words c h.0

        at_hit : stands_in_front ns (c ∷ cs) ≡ true → Agree (p ++ c ∷ []) cs (length ns - 1) → Agree p (c ∷ cs) zero
        at_hit stands later =
            let split = stands_split ns (c ∷ cs) stands in
            let reach : length (spelled ns) ≡ place_in (c ∷ cs) (suc (length ns - 1)) = let k : suc (length ns - 1) ≡ length ns = omega (arith, some) in
            sym (ap (λ (n : ℕ). place_in (c ∷ cs) n) k ∙ place_at (c ∷ cs) ns (drop (length ns) (c ∷ cs)) split) in
            let front : spelled (c ∷ cs) ≡ w.first ∷ (w.rest ++ spelled cs) = ap (λ (xs : List ℕ). xs ++ spelled cs) w.parts in
            let some_spelled : 0 < length (spelled ns) = spelled_some ns some needle in
            hit_spelled (length (spelled p)) (spelled (c ∷ cs)) w.first (w.rest ++ spelled cs) front some_spelled (stands_spelled ns (c ∷ cs) needle h ∙ stands)
            ∙ (ap (λ (k : ℕ). length (spelled p) ∷ hits_from (spelled ns) (length (spelled p)) k (spelled (c ∷ cs))) reach
            ∙ (ap (λ (hs : List ℕ). length (spelled p) ∷ hs) (agree_skip p c cs (length ns - 1) later)
            ∙ (ap (λ (k : ℕ). k ∷ map (place_in whole) (hits_from ns (length p + 1) (length ns - 1) cs)) (sym (place_at whole p (c ∷ cs) e))
            ∙ ap (λ (hs : List ℕ). map (place_in whole) hs) (sym (hits_hit ns (length p) c cs stands)))))
          where
            spelled_some : (l : List ℕ) → 0 < length l → Good l → 0 < length (spelled l)
            spelled_some [] more g = absurd (omega (arith, more))
            spelled_some (m ∷ ms) more g = omega (arith, length-append (spell m) (spelled ms), ap length (spelling.words m g.0).parts)

        at_miss : stands_in_front ns (c ∷ cs) ≡ false → Agree (p ++ c ∷ []) cs 0 → Agree p (c ∷ cs) zero
        at_miss apart later = by_needle ns refl
          where
            by_needle : (l : List ℕ) → ns ≡ l → Agree p (c ∷ cs) zero
            by_needle [] none = absurd (omega (arith, some, ap length none))
            by_needle (m ∷ ms) is = miss_spelled (length (spelled p)) c cs ms m h.0 is (stands_spelled ns (c ∷ cs) needle h ∙ apart)
                ∙ (agree_behind p c cs 0 later ∙ ap (λ (hs : List ℕ). map (place_in whole) hs) (sym (hits_miss ns (length p) c cs apart)))

  pub hits_spelled : (cs ns : List ℕ) → Good cs → Good ns → 0 < length ns → hits (spelled cs) (spelled ns) ≡ map (place_in cs) (hits cs ns)
  hits_spelled cs ns h g some = agree cs ns g some [] cs 0 refl h
