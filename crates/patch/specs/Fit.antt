-- Patches on texts: where one fits, and what it makes of the text.
use Rattle.std.specs.Prelude.{◌≡◌, ℕ, ◌+◌, ◌≤◌, List, [], ◌∷◌, ◌++◌, length, take, drop, slice_range, unwrap_or}
use Rattle.std.specs.List.{All}
use Rattle.points.specs.declared.point.Point.{Point}
use Rattle.points.specs.Place.{point_at, offset_of}
use Rattle.patch.specs.Hunk.{Hunk}
use Rattle.patch.specs.Tagged.{Tagged, tagged, untagged, units_of}

-- the units stand in the text s from offset i on, between these points
pub record StandsAt (s : List ℕ) (i : ℕ) (start end : Point) (units : List ℕ) : Type 0 where
  pub within : i + length units ≤ length s
  pub start_is : point_at s i ≡ start
  pub end_is : point_at s (i + length units) ≡ end
  pub units_are : take (length units) (drop i s) ≡ units

-- the change's old text stands at its old range
abbrev pub HunkFits : List ℕ → Hunk → Type 0
HunkFits s h = (i : ℕ) × StandsAt s i h.old_start h.old_end h.old_text

-- each change's old text stands at its old range
abbrev pub Fits : List Hunk → List ℕ → Type 0
Fits p s = All (HunkFits s) p

-- the offset of a point that the text has
abbrev pub offset_in : List ℕ → Point → ℕ
offset_in s point = unwrap_or (offset_of s point) 0

-- what the text s is from offset i on, with all old ranges of these changes replaced by their new texts
abbrev pub tag_from : List ℕ → ℕ → List Hunk → Tagged
tag_from s i [] = drop i (tagged s)
tag_from s i (h ∷ hs) = slice_range (tagged s) i (offset_in s h.old_start) ++ untagged h.new_text ++ tag_from s (offset_in s h.old_end) hs

-- the text s with all old ranges of the patch replaced at once by its new texts
abbrev pub tag : List Hunk → List ℕ → Tagged
tag p s = tag_from s 0 p

-- the units of it
abbrev pub applied : List Hunk → List ℕ → List ℕ
applied p s = units_of (tag p s)
