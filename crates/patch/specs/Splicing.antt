-- One replacement more in the new text of a patch: where it may stand, what it makes of the patch, and the limits.
use Rattle.std.specs.Prelude.{◌≡◌, ℕ, ◌+◌, ◌≤◌, ◌^◌, List, [], ◌∷◌, ◌++◌, length, false}
use Rattle.points.specs.declared.point.Point.{Point}
use Rattle.points.specs.declared.limits.TheConstants.{MAX_CHANGES}
use Rattle.patch.specs.Hunk.{Hunk}
use Rattle.patch.specs.Tagged.{tagged, edited, run, gaps}
use Rattle.patch.specs.Fit.{StandsAt, Fits, tag, applied}
use Rattle.patch.specs.Stretches.{any_far}

-- the text s fits the patch, and what the patch makes of it has `deleted` between these points, from its offset i on
pub record HasDeleted (p : List Hunk) (start end : Point) (deleted s : List ℕ) (i : ℕ) : Type 0 where
  pub fits : Fits p s
  pub stands : StandsAt (applied p s) i start end deleted

-- some text fits the patch and then has `deleted` at the point `start`
abbrev pub CanSplice : List Hunk → Point → List ℕ → Type 0
CanSplice p start deleted = (s : List ℕ) × (i : ℕ) × (end : Point) × HasDeleted p start end deleted s i

-- on each such text the changes of the whole run, where `deleted` is replaced by `inserted` at its end, are these
abbrev pub IsSpliced : List Hunk → Point → List ℕ → List ℕ → List Hunk → Type 0
IsSpliced p start deleted inserted result = (s : List ℕ) (i : ℕ) (end : Point) → HasDeleted p start end deleted s i
    → gaps s (edited (tag p s) i (i + length deleted) inserted) ≡ result

-- on each such text they stand for that run: they fit it, and make of it what the run makes
abbrev pub StandsForRun : List Hunk → Point → List ℕ → List ℕ → List Hunk → Type 0
StandsForRun p start deleted inserted result = (s : List ℕ) (i : ℕ) (end : Point) → HasDeleted p start end deleted s i
    → Fits result s × (tag result s ≡ edited (tag p s) i (i + length deleted) inserted)

-- the patch stands for these replacements of the text s, one after the other: it fits s, makes of it what they make, and is
-- the changes that they leave
abbrev pub StandsFor : List Hunk → List ℕ → List (ℕ × ℕ × List ℕ) → Type 0
StandsFor p s edits = Fits p s × (tag p s ≡ run (tagged s) edits) × (gaps s (run (tagged s) edits) ≡ p)

-- where the patch p stands for some replacements of a text that then has `deleted` at the place, the result stands for these and
-- for one more
abbrev pub StandsForMore : List Hunk → Point → List ℕ → List ℕ → List Hunk → Type 0
StandsForMore p start deleted inserted result = (s : List ℕ) (edits : List (ℕ × ℕ × List ℕ)) (i : ℕ) (end : Point) → StandsFor p s edits → HasDeleted p start end deleted s i
    → StandsFor result s (edits ++ (i, i + length deleted, inserted) ∷ [])

-- no coordinate passes the greatest one, and there are not too many changes
abbrev pub KeepsLimits : List Hunk → Type 0
KeepsLimits hs = (any_far hs ≡ false) × (length hs ≤ MAX_CHANGES)
