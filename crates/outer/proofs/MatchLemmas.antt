-- The matches of `memchr` are the literal hits.
use Rattle.std.proofs.Common.{◌≡◌, ℕ, zero, suc, ◌+◌, ◌-◌, ◌<◌, max, List, [], ◌∷◌, length, drop, false, refl, sym, ap, ◌∙◌, inl, inr, arith, length-drop}
use Rattle.std.proofs.lemmas.Bool.{cases_Bool, cond-true, cond-false}
use Rattle.std.proofs.lemmas.List.{drop-drop}
use Rattle.memchr.specs.Find.{OccursAt, occurs_at, matches_from, matches}
use Rattle.memchr.proofs.lemmas.MatchLemmas.{occurs_at-true, OccursAt-true}
use Rattle.points.specs.Literal.{stands_in_front, hits_from, hits}
use Rattle.outer.proofs.HitLemmas.{hits_hit, hits_miss, occurs_here, occurs_not}

module _ (hay needle : List ℕ) (some : 0 < length needle) where
  occurs_false : (at : ℕ) → (OccursAt hay needle at → ⊥) → occurs_at hay needle at ≡ false
  occurs_false at never = elim (cases_Bool (occurs_at hay needle at)) [
    | inl so ↦ absurd (never (OccursAt-true hay needle at so))
    | inr apart ↦ apart
  ]

  from_hit : (at n : ℕ) → OccursAt hay needle at → matches_from hay needle 0 at (suc n) ≡ at ∷ matches_from hay needle (length needle - 1) (at + 1) n
  unfolding matches_from
  from_hit at n occurs = let e : max (length needle) 1 - 1 ≡ length needle - 1 = omega (arith, some) in
      cond-true _ _ _ (occurs_at-true hay needle at occurs) ∙ ap (λ (k : ℕ). at ∷ matches_from hay needle k (at + 1) n) e

  from_miss : (at n : ℕ) → (OccursAt hay needle at → ⊥) → matches_from hay needle 0 at (suc n) ≡ matches_from hay needle 0 (at + 1) n
  unfolding matches_from
  from_miss at n never = cond-false _ _ _ (occurs_false at never)

  from_skip : (skip at n : ℕ) → matches_from hay needle (suc skip) at (suc n) ≡ matches_from hay needle skip (at + 1) n
  unfolding matches_from
  from_skip skip at n = refl

  from_none : (skip at : ℕ) → matches_from hay needle skip at 0 ≡ []
  unfolding matches_from
  from_none skip at = refl

  -- no needle with some units occurs at the end
  at_end : (skip at : ℕ) → drop at hay ≡ [] → matches_from hay needle skip at 1 ≡ []
  at_end (suc skip) at here = from_skip skip at 0 ∙ from_none skip (at + 1)
  at_end zero at here = from_miss at 0 (λ occurs. absurd (omega (arith, occurs.fits, some, length-drop at hay, ap length here))) ∙ from_none 0 (at + 1)

  next : (at u : ℕ) (us : List ℕ) → drop at hay ≡ u ∷ us → drop (at + 1) hay ≡ us
  next at u us e = sym (drop-drop 1 at hay) ∙ ap (λ (xs : List ℕ). drop 1 xs) e

  matches-hits_from : (at skip : ℕ) (us : List ℕ) → drop at hay ≡ us → matches_from hay needle skip at (suc (length us)) ≡ hits_from needle at skip us
  matches-hits_from at skip [] here = at_end skip at here
  matches-hits_from at (suc skip) (u ∷ us) here = from_skip skip at (suc (length us)) ∙ matches-hits_from (at + 1) skip us (next at u us here)
  matches-hits_from at zero (u ∷ us) here = elim (cases_Bool (stands_in_front needle (u ∷ us))) [
    | inl stands ↦ from_hit at (suc (length us)) (occurs_here hay needle some at (u ∷ us) here stands)
        ∙ (ap (λ (hs : List ℕ). at ∷ hs) (matches-hits_from (at + 1) (length needle - 1) us (next at u us here)) ∙ sym (hits_hit needle at u us stands))
    | inr stands ↦ from_miss at (suc (length us)) (occurs_not hay needle some at (u ∷ us) here stands)
        ∙ (matches-hits_from (at + 1) 0 us (next at u us here) ∙ sym (hits_miss needle at u us stands))
  ]

  pub matches-hits : matches hay needle 0 ≡ hits hay needle
  matches-hits = let e : length hay + 1 - 0 ≡ suc (length hay) = omega arith in
      ap (λ (n : ℕ). matches_from hay needle 0 0 n) e ∙ matches-hits_from 0 0 hay refl
