-- Changes of a text in layers: which units can be replaced, and where an edit goes.
use Rattle.std.specs.Prelude.{◌≡◌, ℕ, ◌≤◌, List, [], ◌∷◌, length, Bool, false}
use Rattle.points.specs.Text.{replaced}
use Rattle.points.specs.declared.limits.TheConstants.{MAX_UNITS}
use Rattle.patch.specs.Tagged.{Tagged, edited}
use Rattle.chains.specs.declared.spot.Spot.{Spot}
use Rattle.chains.specs.Spots.{spot_in}
use Rattle.chains.specs.Layered.{text_above, size_of, is_small}

-- these units can take the place of those between two spots of the text
pub record CanReplace (t : List ℕ) (from to : Spot) (put : List ℕ) : Type 0 where
  pub from_is : from ≡ spot_in t from.offset
  pub to_is : to ≡ spot_in t to.offset
  pub order : from.offset ≤ to.offset
  pub within : to.offset ≤ length t
  pub short : length (replaced t from.offset to.offset put) ≤ MAX_UNITS

-- an edit goes into the newest layer above the base
abbrev pub joins_newest : List ℕ → List Tagged → Bool
joins_newest base [] = false
joins_newest base (g ∷ gs) = is_small (size_of (text_above base gs) g)

-- the layers above a base with the newest edited
abbrev pub newest_edited : List Tagged → ℕ → ℕ → List ℕ → List Tagged
newest_edited [] i j put = []
newest_edited (g ∷ gs) i j put = edited g i j put ∷ gs
