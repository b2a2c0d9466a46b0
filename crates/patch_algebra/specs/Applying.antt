-- Why a patch isn't applied to a text.
use Rattle.std.specs.Prelude.{ℕ, ◌<◌, List, length, slice_index_or}
use Rattle.points.specs.declared.limits.TheConstants.{MAX_UNITS}
use Rattle.patch.specs.Hunk.{Hunk}
use Rattle.patch.specs.Fit.{HunkFits, Fits, applied}
use Rattle.patch_algebra.specs.declared.refusal.ApplyRefusal.{ApplyRefusal}
use Rattle.patch_algebra.specs.declared.refusal.ApplyRefusal.TheVariants.{DoesNotFit, TooLong, NoMemory}

-- the change at index `at` doesn't fit the text, and each one before it does
abbrev pub IsFirstMisfit : List Hunk → List ℕ → ℕ → Type 0
IsFirstMisfit p s at = (at < length p) × ((k : ℕ) (d : Hunk) → k < at → HunkFits s (slice_index_or p k d)) × ((d : Hunk) → HunkFits s (slice_index_or p at d) → ⊥)

-- the cause of a refusal; want of memory has none
abbrev pub Explains : List Hunk → List ℕ → ApplyRefusal → Type 0
Explains p s (DoesNotFit at) = IsFirstMisfit p s at
Explains p s TooLong = Fits p s × (MAX_UNITS < length (applied p s))
Explains p s NoMemory = Unit {0}
