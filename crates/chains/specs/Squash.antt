-- All layers above the base as one, where that isn't too large.
use Rattle.std.specs.Prelude.{◌≡◌, ℕ, ◌++◌, List, true, false, Option, Some, None}
use Rattle.patch.specs.Tagged.{Tagged}
use Rattle.chains.specs.declared.spot.Spot.{Spot}
use Rattle.chains.specs.declared.overlay.Overlay.{Overlay}
use Rattle.chains.specs.declared.weaver.Weaver.{Weaver}
use Rattle.chains.specs.Layered.{size_of, is_within}
use Rattle.chains.specs.Overlay.{end_of, IsLaid, tags_of}
use Rattle.chains.specs.Stand.{StandsAt, tags_at}
use Rattle.chains.specs.Weaving.{Weaves}

-- a layer on the base that makes `whole` of it, or none where it would be larger than a squash may be
abbrev pub IsSquash : List ℕ → Tagged → Option Overlay → Type 0
IsSquash base whole None = is_within 512 65536 (size_of base whole) ≡ false
IsSquash base whole (Some o) = IsLaid base o × (tags_of base o ≡ whole) × (is_within 512 65536 (size_of base whole) ≡ true)

-- the weaver can take over some units, which stand in the base from an offset on, or were put in, between two spots of the text
pub record CanWeaveStretch (base : List ℕ) (us : List ℕ) (where_ : Option ℕ) (from to : Spot) (w : Weaver) : Type 0 where
  pub front : List ℕ
  pub whole : Tagged
  pub left : Tagged
  pub from_is : from ≡ end_of front
  pub to_is : to ≡ end_of (front ++ us)
  pub stands : StandsAt base us where_
  pub weaves : Weaves base whole (tags_at us where_ ++ left) w
