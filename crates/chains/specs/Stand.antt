-- Where units of the text that layers give stand: in one of the texts that were put in, or in the base.
use Rattle.std.specs.Prelude.{◌≡◌, ℕ, ◌+◌, ◌<◌, ◌≤◌, List, [], ◌∷◌, length, slice_range, Option, Some, None}
use Rattle.patch.specs.Tagged.{Tagged, tagged_from, untagged}
use Rattle.chains.specs.declared.overlay.Overlay.{Overlay}
use Rattle.chains.specs.declared.stand.Stand.{Stand}
use Rattle.chains.specs.declared.stand.Stand.TheVariants.{Put, Kept}
use Rattle.chains.specs.Overlay.{tags_of}

-- some units from offset `at` of the text that the overlay gives, up to `to` at most: it put them in, or they stand in the text s below
abbrev pub StandsIn : List ℕ → Overlay → ℕ → ℕ → Stand → Type 0
StandsIn s o at to (Put from len) = (0 < len) × (at + len ≤ to) × (from + len ≤ length o.text)
    × (slice_range (tags_of s o) at (at + len) ≡ untagged (slice_range o.text from (from + len)))
StandsIn s o at to (Kept from len) = (0 < len) × (at + len ≤ to) × (from + len ≤ length s)
    × (slice_range (tags_of s o) at (at + len) ≡ tagged_from from (slice_range s from (from + len)))

-- units that stand in the base from an offset on, or that were put in above it
abbrev pub tags_at : List ℕ → Option ℕ → Tagged
tags_at us None = untagged us
tags_at us (Some k) = tagged_from k us

-- they are the base's own units there
abbrev pub StandsAt : List ℕ → List ℕ → Option ℕ → Type 0
StandsAt base us None = Unit {0}
StandsAt base us (Some k) = (k + length us ≤ length base) × (us ≡ slice_range base k (k + length us))
