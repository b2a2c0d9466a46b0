-- Hits of a pattern in a text, and what a search answers.
use Rattle.std.specs.Prelude.{◌≡◌, ℕ, ◌≤◌, List, [], ◌∷◌, ◌++◌, length, take, Option, IfSome}
use Rattle.std.specs.Str.{IsCharBoundary}

-- the hits that are told: for the bytes of a text in UTF-8, each hit as the byte offsets of its start and its end
abbrev pub ToldHits : Type 0
ToldHits = List ℕ → List (ℕ × ℕ)

-- hits in the text from the offset `at` on: each ends no earlier than it starts, the next starts no earlier than that, and all
-- of them stand between characters
abbrev pub AreHitsFrom : List ℕ → ℕ → List (ℕ × ℕ) → Type 0
AreHitsFrom bytes at [] = Unit {0}
AreHitsFrom bytes at (s ∷ ss) = (at ≤ s.0) × (s.0 ≤ s.1) × IsCharBoundary bytes s.0 × IsCharBoundary bytes s.1 × AreHitsFrom bytes s.1 ss

abbrev pub AreHits : List ℕ → List (ℕ × ℕ) → Type 0
AreHits bytes hits = AreHitsFrom bytes 0 hits

-- a search of the text found these hits: it answered their number, and put the first `limit` of them behind those that were
-- there before; where the matcher tells its hits, they are these
pub record Finds (told : Option ToldHits) (bytes : List ℕ) (limit : ℕ) (before : List (ℕ × ℕ)) (count : ℕ) (after : List (ℕ × ℕ)) : Type 0 where
  pub hits : List (ℕ × ℕ)
  pub sound : AreHits bytes hits
  pub count_is : count ≡ length hits
  pub first_are : after ≡ before ++ take limit hits
  pub told_are : IfSome told (λ tell. hits ≡ tell bytes)
