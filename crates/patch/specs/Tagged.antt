-- Tagged text: which units of an original text survive a run of edits, and the gaps between them.
use Rattle.std.specs.Prelude.{ℕ, ◌+◌, ◌≤◌, ◌==◌, ◌&&◌, List, [], ◌∷◌, ◌++◌, length, take, drop, map, slice_range, if◌then◌else◌, Option, Some, None}
use Rattle.std.specs.List.{All}
use Rattle.points.specs.Place.{extent, point_at}
use Rattle.patch.specs.Hunk.{Hunk}

-- a unit, with its offset in the original text where it comes from there
abbrev pub Tagged : Type 0
Tagged = List (ℕ × Option ℕ)

-- a text that stands in the original text from offset i on
abbrev pub tagged_from : ℕ → List ℕ → Tagged
tagged_from i [] = []
tagged_from i (u ∷ us) = (u, Some i) ∷ tagged_from (i + 1) us

-- the original text itself
abbrev pub tagged : List ℕ → Tagged
tagged s = tagged_from 0 s

-- new units
abbrev pub untagged : List ℕ → Tagged
untagged t = map (λ u. (u, None)) t

abbrev pub units_of : Tagged → List ℕ
units_of g = map (λ x. x.0) g

-- g with its units from offset i up to offset j replaced by the new units t
abbrev pub edited : Tagged → ℕ → ℕ → List ℕ → Tagged
edited g i j t = take i g ++ untagged t ++ drop j g

-- g after these replacements, one after the other
abbrev pub run : Tagged → List (ℕ × ℕ × List ℕ) → Tagged
run g [] = g
run g (e ∷ es) = run (edited g e.0 e.1 e.2) es

-- each of these replacements ends at its start or behind it
abbrev pub AreForward : List (ℕ × ℕ × List ℕ) → Type 0
AreForward edits = All (λ e. e.0 ≤ e.1) edits

-- the change between two neighbouring tagged units: it takes the units of s from offset i up to offset j,
-- and has the new units t, behind the units `before` of the new text; none where both are empty
abbrev pub gap : List ℕ → ℕ → ℕ → List ℕ → List ℕ → List Hunk
gap s i j before t = if (length (slice_range s i j) == 0) && (length t == 0) then [] else record {
  old_start = point_at s i;
  old_end = point_at s j;
  new_start = extent before;
  new_end = extent (before ++ t);
  old_text = slice_range s i j;
  new_text = t;
} ∷ []

-- the gaps of what is left of a tagged text, behind offset i of s: the units `before` stand up to the
-- last tagged unit, and the new units t since
abbrev pub gaps_from : List ℕ → ℕ → List ℕ → List ℕ → Tagged → List Hunk
gaps_from s i before t [] = gap s i (length s) before t
gaps_from s i before t ((u, None) ∷ g) = gaps_from s i before (t ++ u ∷ []) g
gaps_from s i before t ((u, Some j) ∷ g) = gap s i j before t ++ gaps_from s (j + 1) (before ++ t ++ u ∷ []) [] g

-- the changes between s and the units of g: one for each stretch between neighbouring tagged units,
-- before the first and after the last, where the units of s there and those of g aren't both empty
abbrev pub gaps : List ℕ → Tagged → List Hunk
gaps s g = gaps_from s 0 [] [] g
