-- What a search answers, in the words of the plain machine.
use Rattle.std.specs.Prelude.{◌≡◌, ℕ, List, length, map, Option, IfSome}
use Rattle.points.specs.declared.range.Range.{Range}
use Rattle.points.specs.Text.{utf16_of, text_of}
use Rattle.points.specs.Literal.{hits}
use Rattle.machine.specs.declared.reply.Span.{Span}
use Rattle.machine.specs.declared.reads.ReadAnswer.{ReadAnswer}
use Rattle.machine.specs.declared.reads.ReadAnswer.TheVariants as answer
use Rattle.machine.specs.Answers.{found, span_at, span_of_bytes}
use Rattle.outer.specs.Matcher.{ToldHits, AreHits}
use Rattle.search.specs.declared.found.Found.{Found}

-- a range as a transcript shows it
abbrev pub span_of : Range → Span
span_of r = record { start = r.start; end = r.end }

-- what was found, as a transcript shows it
abbrev pub answer_of : Found → ReadAnswer
answer_of f = answer.Found f.count (map span_of f.first)

-- the answer to a search of the text t for the needle with these bytes in UTF-8
abbrev pub literal_answer : List ℕ → ℕ → List ℕ → ReadAnswer
literal_answer t limit needle = found limit (map (span_at t (length (utf16_of needle))) (hits t (utf16_of needle)))

-- what was found are the number and the first `limit` of some hits in the text t; where a matcher tells its hits, they are these
pub record FindsIn (told : Option ToldHits) (t : List ℕ) (limit : ℕ) (f : Found) : Type 0 where
  pub hits : List (ℕ × ℕ)
  pub sound : AreHits (text_of t) hits
  pub answer_is : answer_of f ≡ found limit (map (span_of_bytes (text_of t)) hits)
  pub told_are : IfSome told (λ tell. hits ≡ tell (text_of t))
