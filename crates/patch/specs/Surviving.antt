-- Units that survive a patch.
use Rattle.std.specs.Prelude.{ℕ, ◌≡◌, List, slice_get, Option, Some, option_and_then}
use Rattle.patch.specs.Hunk.{Hunk}
use Rattle.patch.specs.Tagged.{Tagged}
use Rattle.patch.specs.Fit.{tag}

-- the offset in the original text of the unit at offset j, where it comes from there
abbrev pub source_at : Tagged → ℕ → Option ℕ
source_at g j = option_and_then (λ x. x.1) (slice_get g j)

-- the unit at offset i of the text s survives: it stands at offset j of what the patch makes of s
abbrev pub Survives : List Hunk → List ℕ → ℕ → ℕ → Type 0
Survives p s i j = source_at (tag p s) j ≡ Some i
