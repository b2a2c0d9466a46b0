-- Hits that are put into a list one by one, up to a limit.
use Rattle.std.proofs.Common.{◌≡◌, ℕ, suc, ◌+◌, ◌-◌, ◌<◌, ◌≤◌, List, [], ◌∷◌, ◌++◌, length, take, subst, sym, ap, ◌∙◌, arith, append_assoc}
use Rattle.std.specs.List.{AllByRecursion}
use Rattle.memchr.specs.Find.{matches}
use Rattle.points.specs.Literal.{hits}
use Rattle.outer.specs.Literal.{spans_of}
use Rattle.outer.specs.Leftmost.{AreApartFrom}
use Rattle.outer.proofs.HitLemmas.{hits-leftmost}
use Rattle.outer.proofs.MatchLemmas.{matches-hits}

apart-fit : (t needle : List ℕ) (at : ℕ) (hs : List ℕ) → AreApartFrom t needle at hs → AllByRecursion (λ start. start + length needle ≤ length t) hs
apart-fit t needle at [] h = tt
apart-fit t needle at (i ∷ is) h = (h.1.fits, apart-fit t needle (i + length needle) is h.2)

-- what a search has before its first hit
pub record Begins (t needle rest : List ℕ) (limit : ℕ) (before : List (ℕ × ℕ)) : Type 0 where
  pub count : 0 + length rest ≡ length (hits t needle)
  pub first : before ++ take (limit - 0) (spans_of (length needle) rest) ≡ before ++ take limit (spans_of (length needle) (hits t needle))
  pub fit : AllByRecursion (λ start. start + length needle ≤ length t) rest

begins_with : (t needle : List ℕ) → 0 < length needle → (limit : ℕ) (before : List (ℕ × ℕ)) → Begins t needle (hits t needle) limit before
begins_with t needle some limit before = record {
  count = omega arith;
  first = let e : limit - 0 ≡ limit = omega arith in ap (λ (n : ℕ). before ++ take n (spans_of (length needle) (hits t needle))) e;
  fit = apart-fit t needle 0 (hits t needle) (hits-leftmost t needle some).apart;
}

pub begins : (t needle rest : List ℕ) → 0 < length needle → rest ≡ matches t needle 0 → (limit : ℕ) (before : List (ℕ × ℕ)) → Begins t needle rest limit before
begins t needle rest some e limit before = subst (λ (hs : List ℕ). Begins t needle hs limit before) (sym (e ∙ matches-hits t needle some)) (begins_with t needle some limit before)

-- a hit that is put, and one that is past the limit
pub put_more : (n limit count start : ℕ) (before after all : List (ℕ × ℕ)) (left rest : List ℕ) → left ≡ start ∷ rest → before ++ take (limit - count) (spans_of n left) ≡ all
    → count < limit → after ≡ before ++ (start, start + n) ∷ [] → after ++ take (limit - (count + 1)) (spans_of n rest) ≡ all
put_more n limit count start before after all left rest steps so_far below put = let e : suc (limit - (count + 1)) ≡ limit - count = omega arith in
    ap (λ (xs : List (ℕ × ℕ)). xs ++ take (limit - (count + 1)) (spans_of n rest)) put
    ∙ (append_assoc before ((start, start + n) ∷ []) (take (limit - (count + 1)) (spans_of n rest))
    ∙ (ap (λ (k : ℕ). before ++ take k (spans_of n (start ∷ rest))) e
    ∙ (ap (λ (hs : List ℕ). before ++ take (limit - count) (spans_of n hs)) (sym steps) ∙ so_far)))

pub none_more : (n limit count start : ℕ) (before after all : List (ℕ × ℕ)) (left rest : List ℕ) → left ≡ start ∷ rest → before ++ take (limit - count) (spans_of n left) ≡ all
    → limit ≤ count → after ≡ before → after ++ take (limit - (count + 1)) (spans_of n rest) ≡ all
none_more n limit count start before after all left rest steps so_far past same = let e : limit - (count + 1) ≡ 0 = omega arith in let d : 0 ≡ limit - count = omega arith in
    ap (λ (xs : List (ℕ × ℕ)). xs ++ take (limit - (count + 1)) (spans_of n rest)) same
    ∙ (ap (λ (k : ℕ). before ++ take k (spans_of n rest)) e
    ∙ (ap (λ (k : ℕ). before ++ take k (spans_of n left)) d ∙ so_far))
