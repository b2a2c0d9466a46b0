-- Literal hits of a needle in a text stand between characters.
use Rattle.std.proofs.Common.{◌≡◌, ℕ, ◌+◌, ◌<◌, List, [], ◌∷◌, ◌++◌, length, take, drop, get_or, Some, Ok, Err, Result, IfOk, IsUtf8, IsCharBoundary, encode_utf8, encode_utf8_all, refl, sym, ap, subst, ◌∙◌, arith, append_assoc, length-take-le, take-append-drop}
use Rattle.std.proofs.lemmas.List.{length-map}
use Rattle.std.proofs.lemmas.Str.{IsUtf8-drop, IsCharBoundary-start, IsCharBoundary-at_seam, IsUtf8-past_char}
use Rattle.memchr.specs.Find.{OccursAt}
use Rattle.memchr.proofs.lemmas.MatchLemmas.{OccursAt-split}
use Rattle.points.specs.Literal.{hits}
use Rattle.outer.specs.Matcher.{AreHitsFrom, AreHits, Finds}
use Rattle.outer.specs.Literal.{spans_of, literal_hits}
use Rattle.outer.specs.Leftmost.{AreApartFrom}
use Rattle.outer.proofs.HitLemmas.{hits-leftmost}

-- what follows characters in a text is a text
utf8_past : (cs bs rest : List ℕ) → bs ≡ encode_utf8_all cs ++ rest → IsUtf8 bs → IsUtf8 rest
utf8_past [] bs rest e u = subst IsUtf8 e u
utf8_past (c ∷ cs) bs rest e u = utf8_past cs (encode_utf8_all cs ++ rest) rest refl
    (IsUtf8-past_char bs (encode_utf8_all cs ++ rest) c u (e ∙ append_assoc (encode_utf8 c) (encode_utf8_all cs) rest))

start_boundary : (t needle : List ℕ) (i : ℕ) → 0 < length needle → IsUtf8 needle → OccursAt t needle i → IsCharBoundary t i
start_boundary t needle i some word occurs = let e : i + 0 ≡ i = omega arith in let same : get_or t i 0 ≡ get_or needle 0 0 = ap (λ (k : ℕ). get_or t k 0) (sym e) ∙ occurs.reads 0 some in
    (omega (arith, occurs.fits), λ within high. omega (arith, same, (IsCharBoundary-start needle word).1 some (omega (arith, same, high))))

end_boundary : (t needle : List ℕ) (i : ℕ) → 0 < length needle → IsUtf8 needle → IsUtf8 t → OccursAt t needle i → IsCharBoundary t (i + length needle)
end_boundary t needle i some word text occurs = subst (IsCharBoundary t) (length-take-le (i + length needle) t occurs.fits)
    (IsCharBoundary-at_seam t (take (i + length needle) t) (drop (i + length needle) t) (sym (take-append-drop (i + length needle) t)) rest)
  where
    rest : IsUtf8 (drop (i + length needle) t)
    rest = utf8_past word.0 (drop i t) (drop (i + length needle) t)
        (OccursAt-split t needle i occurs ∙ ap (λ (xs : List ℕ). xs ++ drop (i + length needle) t) (sym word.1.1))
        (IsUtf8-drop t i text (start_boundary t needle i some word occurs))

spans-sound : (t needle : List ℕ) → 0 < length needle → IsUtf8 needle → IsUtf8 t → (at : ℕ) (hs : List ℕ) → AreApartFrom t needle at hs → AreHitsFrom t at (spans_of (length needle) hs)
spans-sound t needle some word text at [] h = tt
spans-sound t needle some word text at (i ∷ is) h = (h.0, omega arith, start_boundary t needle i some word h.1, end_boundary t needle i some word text h.1, spans-sound t needle some word text (i + length needle) is h.2)

pub literal-sound : (needle t : List ℕ) → IsUtf8 needle → IsUtf8 t → AreHits t (literal_hits needle t)
literal-sound [] t word text = tt
literal-sound (b ∷ bs) t word text = let some : 0 < length (b ∷ bs) = omega arith in
    spans-sound t (b ∷ bs) some word text 0 (hits t (b ∷ bs)) (hits-leftmost t (b ∷ bs) some).apart

-- so a search that found them keeps what is promised of a matcher that tells them
pub finds_literals : (needle t : List ℕ) (limit : ℕ) (before : List (ℕ × ℕ)) (count : ℕ) (after : List (ℕ × ℕ)) → IsUtf8 needle → IsUtf8 t
    → count ≡ length (literal_hits needle t) → after ≡ before ++ take limit (literal_hits needle t) → Finds (Some (literal_hits needle)) t limit before count after
finds_literals needle t limit before count after word text counted put = record {
  hits = literal_hits needle t;
  sound = literal-sound needle t word text;
  count_is = counted;
  first_are = put;
  told_are = refl;
}

-- the same of a search whose hits are told by their starts
pub found_literals : {E : Type 0} (needle t word hay : List ℕ) (limit : ℕ) (before after : List (ℕ × ℕ)) (r : Result ℕ E) → word ≡ needle → hay ≡ t → IsUtf8 needle → IsUtf8 t → 0 < length word
    → IfOk r (λ n. n ≡ length (hits hay word)) → IfOk r (λ _. after ≡ before ++ take limit (spans_of (length word) (hits hay word)))
    → IfOk r (λ n. Finds (Some (literal_hits needle)) t limit before n after)
found_literals needle t word hay limit before after (Err e) word_is hay_is spelled text some counted put = tt
found_literals [] t word hay limit before after (Ok n) word_is hay_is spelled text some counted put = absurd (omega (arith, some, ap length word_is))
found_literals (b ∷ bs) t word hay limit before after (Ok n) word_is hay_is spelled text some counted put = finds_literals (b ∷ bs) t limit before n after spelled text
    (counted ∙ (ap length same ∙ sym (length-map (hits t (b ∷ bs)) (λ (i : ℕ). (i, i + length (b ∷ bs))))))
    (put ∙ (ap (λ (hs : List ℕ). before ++ take limit (spans_of (length word) hs)) same ∙ ap (λ (n : ℕ). before ++ take limit (spans_of n (hits t (b ∷ bs)))) (ap length word_is)))
  where
    same : hits hay word ≡ hits t (b ∷ bs)
    same = ap (hits hay) word_is ∙ ap (λ (xs : List ℕ). hits xs (b ∷ bs)) hay_is
