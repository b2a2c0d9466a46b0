-- Literal hits are the leftmost occurrences that don't overlap.
use Rattle.std.proofs.Common.{◌≡◌, ℕ, zero, suc, ◌+◌, ◌-◌, ◌<◌, ◌≤◌, List, [], ◌∷◌, ◌++◌, length, take, drop, Bool, true, false, cond, Contains, refl, sym, ap, subst, ◌∙◌, inl, inr, arith, length-append, length-drop}
use Rattle.std.proofs.lemmas.Bool.{cases_Bool, cases_lt, both_ways}
use Rattle.std.proofs.lemmas.Bool.Decides.{Decides-eqb}
use Rattle.std.proofs.lemmas.List.{take_at, drop-drop}
use Rattle.std.proofs.lemmas.List.Elements.{Contains-append_right}
use Rattle.std.proofs.lemmas.Slice.Eq.{starts_is}
use Rattle.memchr.specs.Find.{OccursAt}
use Rattle.memchr.proofs.lemmas.MatchLemmas.{OccursAt-split, OccursAt-from_part}
use Rattle.points.specs.Literal.{stands_in_front, hits_from, hits}
use Rattle.outer.specs.Leftmost.{AreApartFrom, AreLeftmost}

-- the hits behind an offset with a hit, and behind one with none
pub hits_hit : (needle : List ℕ) (at u : ℕ) (us : List ℕ) → stands_in_front needle (u ∷ us) ≡ true → hits_from needle at 0 (u ∷ us) ≡ at ∷ hits_from needle (at + 1) (length needle - 1) us
hits_hit needle at u us stands = ap (λ (b : Bool). cond b (at ∷ []) [] ++ hits_from needle (at + 1) (cond b (length needle - 1) 0) us) stands

pub hits_miss : (needle : List ℕ) (at u : ℕ) (us : List ℕ) → stands_in_front needle (u ∷ us) ≡ false → hits_from needle at 0 (u ∷ us) ≡ hits_from needle (at + 1) 0 us
hits_miss needle at u us stands = ap (λ (b : Bool). cond b (at ∷ []) [] ++ hits_from needle (at + 1) (cond b (length needle - 1) 0) us) stands

-- what the test at the front says
pub stands_split : (needle us : List ℕ) → stands_in_front needle us ≡ true → us ≡ needle ++ drop (length needle) us
stands_split needle us stands = (starts_is Decides-eqb us needle (stands_in_front needle us) refl).0 stands

pub stands_from : (needle us rest : List ℕ) → us ≡ needle ++ rest → stands_in_front needle us ≡ true
stands_from needle us rest e = (starts_is Decides-eqb us needle (stands_in_front needle us) refl).1 rest e

drop_next : (t : List ℕ) (at u : ℕ) (us : List ℕ) → drop at t ≡ u ∷ us → drop (at + 1) t ≡ us
drop_next t at u us e = sym (drop-drop 1 at t) ∙ ap (λ (xs : List ℕ). drop 1 xs) e

module _ (t needle : List ℕ) (some : 0 < length needle) where
  pub occurs_here : (at : ℕ) (us : List ℕ) → drop at t ≡ us → stands_in_front needle us ≡ true → OccursAt t needle at
  occurs_here at us here stands = let split = stands_split needle us stands in
      OccursAt-from_part t needle at (omega (arith, length-drop at t, ap length here, ap length split, length-append needle (drop (length needle) us), some))
      (ap (λ (xs : List ℕ). take (length needle) xs) (here ∙ split) ∙ take_at needle (drop (length needle) us) (length needle) refl)

  pub occurs_not : (at : ℕ) (us : List ℕ) → drop at t ≡ us → stands_in_front needle us ≡ false → OccursAt t needle at → ⊥
  occurs_not at us here stands occurs = both_ways _ stands (stands_from needle us (drop (at + length needle) t) (sym here ∙ OccursAt-split t needle at occurs))

  sooner : (a b : ℕ) (hs : List ℕ) → a ≤ b → AreApartFrom t needle b hs → AreApartFrom t needle a hs
  sooner a b [] le h = tt
  sooner a b (i ∷ is) le h = (omega (arith, le, h.0), h.1, h.2)

  apart_at : (a b : ℕ) (hs : List ℕ) → a ≡ b → AreApartFrom t needle a hs → AreApartFrom t needle b hs
  apart_at a b hs e h = subst (λ (k : ℕ). AreApartFrom t needle k hs) e h

  hits-apart : (at skip : ℕ) (us : List ℕ) → drop at t ≡ us → AreApartFrom t needle (at + skip) (hits_from needle at skip us)
  hits-apart at skip [] here = tt
  hits-apart at (suc skip) (u ∷ us) here = apart_at (at + 1 + skip) (at + suc skip) _ (omega arith) (hits-apart (at + 1) skip us (drop_next t at u us here))
  hits-apart at zero (u ∷ us) here = elim (cases_Bool (stands_in_front needle (u ∷ us))) [
    | inl stands ↦ subst (λ (hs : List ℕ). AreApartFrom t needle (at + 0) hs) (sym (hits_hit needle at u us stands))
        (omega arith, occurs_here at (u ∷ us) here stands, apart_at (at + 1 + (length needle - 1)) (at + length needle) _ (omega (arith, some)) (hits-apart (at + 1) (length needle - 1) us (drop_next t at u us here)))
    | inr stands ↦ subst (λ (hs : List ℕ). AreApartFrom t needle (at + 0) hs) (sym (hits_miss needle at u us stands))
        (sooner (at + 0) (at + 1 + 0) _ (omega arith) (hits-apart (at + 1) 0 us (drop_next t at u us here)))
  ]

  -- an occurrence has units in common with one of these hits that starts no later
  abbrev Meets : List ℕ → ℕ → Type 0
  Meets hs k = (i : ℕ) × Contains hs i × (i ≤ k) × (k < i + length needle)

  meets_later : (h k : ℕ) (hs : List ℕ) → Meets hs k → Meets (h ∷ hs) k
  meets_later h k hs m = (m.0, Contains-append_right (h ∷ []) hs m.0 m.1, m.2, m.3)

  meets_in : (hs more : List ℕ) (k : ℕ) → hs ≡ more → Meets hs k → Meets more k
  meets_in hs more k e m = subst (λ (xs : List ℕ). Meets xs k) e m

  hits-first : (at skip : ℕ) (us : List ℕ) → drop at t ≡ us → (k : ℕ) → at + skip ≤ k → OccursAt t needle k → Meets (hits_from needle at skip us) k
  hits-first at skip [] here k past occurs = absurd (omega (arith, occurs.fits, some, length-drop at t, ap length here))
  hits-first at (suc skip) (u ∷ us) here k past occurs = hits-first (at + 1) skip us (drop_next t at u us here) k (omega arith) occurs
  hits-first at zero (u ∷ us) here k past occurs = elim (cases_Bool (stands_in_front needle (u ∷ us))) [
    | inl stands ↦ meets_in _ _ k (sym (hits_hit needle at u us stands)) (elim (cases_lt k (at + length needle)) [
      | inl lt ↦ (at, (0, omega arith, refl), omega arith, lt)
      | inr ge ↦ meets_later at k _ (hits-first (at + 1) (length needle - 1) us (drop_next t at u us here) k (omega (arith, some)) occurs)
    ])
    | inr stands ↦ meets_in _ _ k (sym (hits_miss needle at u us stands)) (hits-first (at + 1) 0 us (drop_next t at u us here) k (later stands) occurs)
  ]
    where
      later : stands_in_front needle (u ∷ us) ≡ false → at + 1 + 0 ≤ k
      later stands = elim (cases_lt at k) [
        | inl lt ↦ omega arith
        | inr ge ↦ let same : k ≡ at = omega arith in absurd (occurs_not at (u ∷ us) here stands (subst (OccursAt t needle) same occurs))
      ]

  pub hits-leftmost : AreLeftmost t needle (hits t needle)
  hits-leftmost = record {
    apart = hits-apart 0 0 t refl;
    first = λ k occurs. hits-first 0 0 t refl k (omega arith) occurs;
  }
