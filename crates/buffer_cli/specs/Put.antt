-- What the matcher of a regular expression has put so far.
use Rattle.std.specs.Prelude.{◌≡◌, ◌⊎◌, ℕ, ◌+◌, ◌<◌, ◌≤◌, List, [], ◌∷◌, ◌++◌, length, take}
use Rattle.std.specs.Str.{IsCharBoundary}
use Rattle.outer.specs.Matcher.{AreHits}
use Rattle.buffer_cli.specs.declared.regexes.Seen.{Seen}

-- a hit stands behind the last one and between characters, and ends behind it
pub record IsNext (bytes : List ℕ) (seen : Seen) (start end : ℕ) : Type 0 where
  pub behind : seen.end ≤ start
  pub order : start ≤ end
  pub later : (seen.count ≡ 0) ⊎ (seen.end < end)
  pub starts : IsCharBoundary bytes start
  pub ends : IsCharBoundary bytes end

-- where the last of some hits ends, or else this offset
abbrev pub end_of : ℕ → List (ℕ × ℕ) → ℕ
end_of at [] = at
end_of at (h ∷ hs) = end_of h.1 hs

-- some hits were counted, and the first `limit` of them stand behind what was there before
pub record ArePut (bytes : List ℕ) (limit : ℕ) (before after : List (ℕ × ℕ)) (seen : Seen) : Type 0 where
  pub hits : List (ℕ × ℕ)
  pub sound : AreHits bytes hits
  pub count_is : seen.count ≡ length hits
  pub first_are : after ≡ before ++ take limit hits
  pub end_is : seen.end ≡ end_of 0 hits
  pub few : seen.count ≤ seen.end + 1
  pub within : seen.end ≤ length bytes
