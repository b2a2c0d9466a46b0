-- From where a place of a text in layers is reached.
use Rattle.std.specs.Prelude.{◌≡◌, ℕ, ◌+◌, ◌-◌, ◌≤◌, List, length}
use Rattle.patch.specs.Tagged.{units_of}
use Rattle.chains.specs.declared.spot.Spot.{Spot}
use Rattle.chains.specs.declared.overlay.Overlay.{Overlay}
use Rattle.chains.specs.declared.lookup.WayDown.{WayDown}
use Rattle.chains.specs.declared.lookup.WayDown.TheVariants.{Put, Below}
use Rattle.chains.specs.Overlay.{tags_of}
use Rattle.chains.specs.Spots.{ahead, spot_in}

-- the place at offset `at` of the text that the overlay gives lies as far behind `new` as another one lies behind its start: a place
-- in the overlay's text, or one in the text s below
abbrev pub LeadsDown : List ℕ → Overlay → ℕ → WayDown → Type 0
LeadsDown s o at (Put new text) = (new.offset ≤ at) × (text + (at - new.offset) ≤ length o.text)
    × (spot_in (units_of (tags_of s o)) at ≡ ahead new (spot_in o.text text) (spot_in o.text (text + (at - new.offset))))
LeadsDown s o at (Below new old) = (new.offset ≤ at) × (old.offset + (at - new.offset) ≤ length s)
    × (spot_in (units_of (tags_of s o)) at ≡ ahead new old (spot_in s (old.offset + (at - new.offset)))) × (old ≡ spot_in s old.offset)
