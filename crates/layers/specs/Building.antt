-- What a new layer is built from.
use Rattle.std.specs.Prelude.{◌≡◌, ℕ, ◌+◌, ◌≤◌, List, length, slice_range, Bool, if◌then◌else◌}
use Rattle.points.specs.Place.{point_at}
use Rattle.points.specs.declared.limits.TheConstants.{MAX_UNITS}
use Rattle.patch.specs.Hunk.{Hunk, inverted}
use Rattle.chains.specs.declared.spot.Spot.{Spot}
use Rattle.chains.specs.Spots.{spot_in}
use Rattle.chains.specs.Layered.{Edit, Layered, sizes_from}
use Rattle.chains.specs.declared.size.LayerSize.{LayerSize}

-- two places of a text, in order
pub record AreSpots (t : List ℕ) (from to : Spot) : Type 0 where
  pub from_is : from ≡ spot_in t from.offset
  pub to_is : to ≡ spot_in t to.offset
  pub order : from.offset ≤ to.offset
  pub within : to.offset ≤ length t

-- a change, or the change back
abbrev pub turned : Bool → Hunk → Hunk
turned back h = if back then inverted h else h

-- the change's old text stands in t from offset i on, between the points of its range
pub record StandsThere (t : List ℕ) (h : Hunk) (i : ℕ) : Type 0 where
  pub within : i + length h.old_text ≤ length t
  pub units : slice_range t i (i + length h.old_text) ≡ h.old_text
  pub start : point_at t i ≡ h.old_start
  pub end : point_at t (i + length h.old_text) ≡ h.old_end

-- the change can be made in t: its old text stands there, and the text doesn't become too long
pub record CanChange (t : List ℕ) (h : Hunk) : Type 0 where
  pub at : ℕ
  pub stands : StandsThere t h at
  pub short : length t + length h.new_text ≤ MAX_UNITS + length h.old_text

-- the change as a replacement at offset i
abbrev pub edit_at : ℕ → Hunk → Edit
edit_at i h = (i, i + length h.old_text, h.new_text)

-- the sizes of all layers, from the base to the newest
abbrev pub shape_of : Layered → List LayerSize
shape_of v = sizes_from v.base v.above
