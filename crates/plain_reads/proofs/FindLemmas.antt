-- From the hits of a search to what it answers.
use Rattle.std.proofs.Common.{◌≡◌, ℕ, ◌≤◌, List, [], length, map, Option, Some, None, IfSome, IsUtf8, sym, ap, subst, ◌∙◌, arith}
use Rattle.std.proofs.lemmas.List.{length-map, take-map}
use Rattle.points.specs.declared.limits.TheConstants.{MAX_UNITS, MAX_COORD}
use Rattle.points.specs.Text.{utf16_of, text_of}
use Rattle.machine.specs.declared.reply.Span.{Span}
use Rattle.machine.specs.declared.reads.ReadAnswer.TheVariants as answer
use Rattle.machine.specs.Answers.{found, span_of_bytes, pattern_answer}
use Rattle.outer.specs.Matcher.{ToldHits, AreHits, Finds}
use Rattle.plain_reads.proofs.MendLemmas.{mended_short, read_back}
use Rattle.plain_reads.proofs.PlaceLemmas.{AreHitsFrom-take}

-- a search that began with no hits, and the hits that it put, lent
pub record IsSearch (told : Option ToldHits) (bytes : List ℕ) (limit count : ℕ) (hits : List (ℕ × ℕ)) : Type 0 where
  pub finds : Finds told bytes limit [] count hits

pub is_search : (told : Option ToldHits) (bytes : List ℕ) (limit count : ℕ) (before after hits : List (ℕ × ℕ)) → before ≡ [] → hits ≡ after → Finds told bytes limit before count after → IsSearch told bytes limit count hits
is_search told bytes limit count before after hits empty lent h = record {
  finds = subst (λ (xs : List (ℕ × ℕ)). Finds told bytes limit xs count hits) empty (subst (λ (xs : List (ℕ × ℕ)). Finds told bytes limit before count xs) (sym lent) h);
}

-- what the places of its hits need
pub shown-sound : (told : Option ToldHits) (bytes : List ℕ) (limit count : ℕ) (hits : List (ℕ × ℕ)) → IsSearch told bytes limit count hits → AreHits bytes hits
shown-sound told bytes limit count hits h = subst (AreHits bytes) (sym h.finds.first_are) (AreHitsFrom-take bytes 0 limit h.finds.hits h.finds.sound)

pub shown-short : (t bytes : List ℕ) → bytes ≡ text_of t → IsUtf8 bytes → length t ≤ MAX_UNITS → length (utf16_of bytes) ≤ MAX_COORD
shown-short t bytes e text short = omega (arith, ap length (read_back t bytes e text), mended_short t, short)

-- what the search answers, where its hits are told
pub shown_answer : (told : Option ToldHits) (t bytes : List ℕ) (limit count : ℕ) (hits : List (ℕ × ℕ)) (spans : List Span) → bytes ≡ text_of t → IsSearch told bytes limit count hits
    → spans ≡ map (span_of_bytes bytes) hits → IfSome told (λ tell. answer.Found count spans ≡ pattern_answer t limit tell)
shown_answer None t bytes limit count hits spans e search same = tt
shown_answer (Some tell) t bytes limit count hits spans e search same = let h = search.finds in
    ap (λ (n : ℕ). answer.Found n spans) (h.count_is ∙ sym (length-map h.hits (span_of_bytes bytes)))
    ∙ (ap (λ (ss : List Span). answer.Found (length (map (span_of_bytes bytes) h.hits)) ss) (same ∙ (ap (map (span_of_bytes bytes)) h.first_are ∙ sym (take-map (span_of_bytes bytes) limit h.hits)))
    ∙ (ap (λ (hs : List (ℕ × ℕ)). found limit (map (span_of_bytes bytes) hs)) h.told_are
    ∙ ap (λ (xs : List ℕ). found limit (map (span_of_bytes xs) (tell xs))) e))
