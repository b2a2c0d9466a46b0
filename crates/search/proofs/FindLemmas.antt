-- From the hits of a search to what it answers.
use Rattle.std.proofs.Common.{◌≡◌, ℕ, ◌<◌, ◌≤◌, List, [], length, take, map, Option, Some, IfSome, IsUtf8, sym, ap, subst, ◌∙◌, arith}
use Rattle.std.proofs.lemmas.List.{length-map, take-map}
use Rattle.points.specs.declared.range.Range.{Range}
use Rattle.points.specs.declared.limits.TheConstants.{MAX_UNITS, MAX_COORD}
use Rattle.points.specs.Text.{utf16_of, text_of, mended}
use Rattle.points.specs.Literal.{hits}
use Rattle.machine.specs.declared.reply.Span.{Span}
use Rattle.machine.specs.declared.reads.ReadAnswer.TheVariants as answer
use Rattle.machine.specs.Answers.{found, span_of_bytes}
use Rattle.outer.specs.Matcher.{ToldHits, AreHits, Finds}
use Rattle.outer.specs.Literal.{literal_hits}
use Rattle.search.specs.declared.found.Found.{Found}
use Rattle.search.specs.Answer.{span_of, answer_of, literal_answer, FindsIn}
use Rattle.search.proofs.MendLemmas.{mended_short, read_back}
use Rattle.search.proofs.PlaceLemmas.{AreHitsFrom-take}
use Rattle.search.proofs.LiteralLemmas.{literal_found}

-- a search that began with no hits, and the hits that it put, lent
pub record IsSearch (told : Option ToldHits) (bytes : List ℕ) (limit count : ℕ) (hits : List (ℕ × ℕ)) : Type 0 where
  pub finds : Finds told bytes limit [] count hits

pub is_search : (told : Option ToldHits) (bytes : List ℕ) (limit count : ℕ) (before after hits : List (ℕ × ℕ)) → before ≡ [] → hits ≡ after → Finds told bytes limit before count after → IsSearch told bytes limit count hits
is_search told bytes limit count before after hits none lent h = record {
  finds = subst (λ (xs : List (ℕ × ℕ)). Finds told bytes limit xs count hits) none (subst (λ (xs : List (ℕ × ℕ)). Finds told bytes limit before count xs) (sym lent) h);
}

-- what the places of its hits need
pub shown-sound : (told : Option ToldHits) (bytes : List ℕ) (limit count : ℕ) (hits : List (ℕ × ℕ)) → IsSearch told bytes limit count hits → AreHits bytes hits
shown-sound told bytes limit count hits h = subst (AreHits bytes) (sym h.finds.first_are) (AreHitsFrom-take bytes 0 limit h.finds.hits h.finds.sound)

pub shown-short : (t bytes : List ℕ) → bytes ≡ text_of t → IsUtf8 bytes → length t ≤ MAX_UNITS → length (utf16_of bytes) ≤ MAX_COORD
shown-short t bytes e text short = omega (arith, ap length (read_back t bytes e text), mended_short t, short)

spans_shown : (count : ℕ) (ranges : List Range) (bytes : List ℕ) (limit : ℕ) (all : List (ℕ × ℕ)) → count ≡ length all → map span_of ranges ≡ map (span_of_bytes bytes) (take limit all)
    → answer.Found count (map span_of ranges) ≡ found limit (map (span_of_bytes bytes) all)
spans_shown count ranges bytes limit all counted shown =
    ap (λ (n : ℕ). answer.Found n (map span_of ranges)) (counted ∙ sym (length-map all (span_of_bytes bytes)))
    ∙ ap (λ (ss : List Span). answer.Found (length (map (span_of_bytes bytes) all)) ss) (shown ∙ sym (take-map (span_of_bytes bytes) limit all))

pub shown : (told : Option ToldHits) (t bytes : List ℕ) (limit count : ℕ) (hits : List (ℕ × ℕ)) (ranges first : List Range) → bytes ≡ text_of t → IsSearch told bytes limit count hits
    → first ≡ ranges → map span_of ranges ≡ map (span_of_bytes bytes) hits → FindsIn told t limit (record { count = count; first = first })
shown told t bytes limit count hits ranges first e search same shown_are = let h = search.finds in record {
  hits = h.hits;
  sound = subst (λ (xs : List ℕ). AreHits xs h.hits) e h.sound;
  answer_is = spans_shown count first bytes limit h.hits h.count_is (ap (map span_of) same ∙ (shown_are ∙ ap (map (span_of_bytes bytes)) h.first_are)) ∙ ap (λ (xs : List ℕ). found limit (map (span_of_bytes xs) h.hits)) e;
  told_are = subst (λ (xs : List ℕ). IfSome told (λ tell. h.hits ≡ tell xs)) e h.told_are;
}

pub shown-literal : (t needle : List ℕ) (limit : ℕ) (f : Found) → (bytes : List ℕ) → bytes ≡ text_of t → IsUtf8 bytes → IsUtf8 needle → 0 < length needle → FindsIn (Some (literal_hits needle)) t limit f
    → answer_of f ≡ literal_answer (mended t) limit needle
shown-literal t needle limit f bytes e text word some h = h.answer_is
    ∙ (ap (λ (hs : List (ℕ × ℕ)). found limit (map (span_of_bytes (text_of t)) hs)) h.told_are ∙ ap (found limit) (ap (λ (xs : List ℕ). map (span_of_bytes xs) (literal_hits needle xs)) (sym e) ∙ literal_found t bytes needle e text word some))
