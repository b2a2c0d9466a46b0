-- A walk over the stretches of a layer: what stands between two spots of the text that it gives.
use Rattle.std.specs.Prelude.{◌≡◌, ◌⊎◌, ℕ, ◌+◌, ◌-◌, ◌<◌, ◌≤◌, List, [], ◌∷◌, ◌++◌, length, take, slice_get, slice_range, Option, Some, None}
use Rattle.points.specs.declared.limits.TheConstants.{MAX_UNITS}
use Rattle.patch.specs.Tagged.{Tagged, tagged_from, untagged, units_of, edited}
use Rattle.patch.proofs.Pieces.{Piece, old_of, new_of, tag_of}
use Rattle.chains.specs.declared.spot.Spot.{Spot}
use Rattle.chains.specs.declared.overlay.Cut.{Cut}
use Rattle.chains.specs.declared.overlay.Overlay.{Overlay}
use Rattle.chains.specs.declared.edit.Overlap.{Overlap}
use Rattle.chains.specs.declared.weaver.Weaver.{Weaver}
use Rattle.chains.specs.Overlay.{end_of, cuts_of, puts_of, tags_of, IsLaid}
use Rattle.chains.specs.Weaving.{Weaves}

-- the spot is one of the text
pub record IsIn (t : List ℕ) (x : Spot) : Type 0 where
  pub is : x ≡ end_of (take x.offset t)
  pub within : x.offset ≤ length t

-- the stretch k stands in t behind n, between these spots
pub record Lies (t n k : List ℕ) (start end : Spot) : Type 0 where
  pub behind : List ℕ
  pub text_is : t ≡ n ++ (k ++ behind)
  pub start_is : start ≡ end_of n
  pub end_is : end ≡ end_of (n ++ k)

-- the second spot where it stands behind the first, else the first
abbrev pub IsLater : Spot → Spot → Spot → Type 0
IsLater a b x = ((x ≡ b) × (a.offset < b.offset)) ⊎ ((x ≡ a) × (b.offset ≤ a.offset))

abbrev pub IsEarlier : Spot → Spot → Spot → Type 0
IsEarlier a b x = ((x ≡ b) × (b.offset < a.offset)) ⊎ ((x ≡ a) × (a.offset ≤ b.offset))

-- what of a stretch lies between two spots, where the stretch stands behind n: its units from a up to b
abbrev pub IsOverlap : List ℕ → List ℕ → ℕ → ℕ → Option Overlap → Type 0
IsOverlap n k a b None = slice_range k a b ≡ []
IsOverlap n k a b (Some x) = (x.from ≡ end_of (n ++ take a k)) × (x.to ≡ end_of (n ++ take b k)) × (a < b) × (a < length k)

-- the spots lie in the text, and the stretch in it
pub record CanOverlap (start end from to : Spot) : Type 0 where
  pub text : List ℕ
  pub front : List ℕ
  pub stretch : List ℕ
  pub lies : Lies text front stretch start end
  pub from_in : IsIn text from
  pub to_in : IsIn text to

-- a walk over the layer o on s, which gives t, stands behind the spots `old` and `new`, and has these cuts ahead;
-- the weaver awaits what of them stands between two spots, and then `left`
pub record Passes (s t : List ℕ) (o : Overlay) (from to : Spot) (whole left : Tagged) (cuts : List Cut) (old new : Spot) (w : Weaver) : Type 0 where
  pub olds : List ℕ
  pub news : List ℕ
  pub puts : List ℕ
  pub pieces : List Piece
  pub tail : List ℕ
  pub text_is : s ≡ olds ++ old_of pieces tail
  pub new_is : t ≡ news ++ new_of pieces tail
  pub puts_are : o.text ≡ puts ++ puts_of pieces
  pub cuts_are : cuts ≡ cuts_of olds news puts pieces
  pub old_at : old ≡ end_of olds
  pub new_at : new ≡ end_of news
  pub end_at : o.end ≡ end_of t
  pub short : length o.text ≤ MAX_UNITS
  pub from_in : IsIn t from
  pub to_in : IsIn t to
  pub weaves : Weaves s whole (slice_range (tag_of (length olds) pieces tail) (from.offset - length news) (to.offset - length news) ++ left) w

-- there are texts that it goes over so
pub record CanPass (o : Overlay) (from to : Spot) (cuts : List Cut) (old new : Spot) (w : Weaver) : Type 0 where
  pub text : List ℕ
  pub made : List ℕ
  pub whole : Tagged
  pub left : Tagged
  pub passes : Passes text made o from to whole left cuts old new w

-- the weaver can take over what of the layer stands between two spots
pub record CanWeave (o : Overlay) (from to : Spot) (w : Weaver) : Type 0 where
  pub text : List ℕ
  pub whole : Tagged
  pub left : Tagged
  pub laid : IsLaid text o
  pub from_in : IsIn (units_of (tags_of text o)) from
  pub to_in : IsIn (units_of (tags_of text o)) to
  pub weaves : Weaves text whole (slice_range (tags_of text o) from.offset to.offset ++ left) w

-- these units can take the place of those between two spots of the layer's text, where it lies on s, which ends at `below`
pub record IsEdit (s : List ℕ) (o : Overlay) (below from to : Spot) (put : List ℕ) : Type 0 where
  pub laid : IsLaid s o
  pub below_is : below ≡ end_of s
  pub from_in : IsIn (units_of (tags_of s o)) from
  pub to_in : IsIn (units_of (tags_of s o)) to
  pub order : from.offset ≤ to.offset
  pub short : length (edited (tags_of s o) from.offset to.offset put) ≤ MAX_UNITS

-- the stretch k stands in s behind d, which ends at the spot
pub record IsKept (s d k : List ℕ) (old : Spot) : Type 0 where
  pub behind : List ℕ
  pub text_is : s ≡ d ++ (k ++ behind)
  pub old_is : old ≡ end_of d
  pub short : length s ≤ MAX_UNITS

pub record CanWeaveKept (w : Weaver) (old new end from to : Spot) : Type 0 where
  pub text : List ℕ
  pub made : List ℕ
  pub olds : List ℕ
  pub news : List ℕ
  pub stretch : List ℕ
  pub whole : Tagged
  pub left : Tagged
  pub kept : IsKept text olds stretch old
  pub lies : Lies made news stretch new end
  pub from_in : IsIn made from
  pub to_in : IsIn made to
  pub weaves : Weaves text whole (slice_range (tagged_from (length olds) stretch) (from.offset - length news) (to.offset - length news) ++ left) w

-- the change put in the units k, which stand in the layer's text behind p
pub record HasPut (o : Overlay) (cut : Cut) (p k : List ℕ) : Type 0 where
  pub behind : List ℕ
  pub text_is : o.text ≡ p ++ (k ++ behind)
  pub at : cut.text ≡ length p

pub record CanWeavePut (o : Overlay) (cut : Cut) (from to : Spot) (w : Weaver) : Type 0 where
  pub text : List ℕ
  pub made : List ℕ
  pub news : List ℕ
  pub stretch : List ℕ
  pub puts : List ℕ
  pub whole : Tagged
  pub left : Tagged
  pub put : HasPut o cut puts stretch
  pub short : length o.text ≤ MAX_UNITS
  pub lies : Lies made news stretch cut.new cut.new_end
  pub from_in : IsIn made from
  pub to_in : IsIn made to
  pub weaves : Weaves text whole (untagged (slice_range stretch (from.offset - length news) (to.offset - length news)) ++ left) w

-- the layer's change at this place is the cut, and the spot stands in what it put in, or at an end of it
pub record Opens (s : List ℕ) (o : Overlay) (j : ℕ) (cut : Cut) (last : Spot) : Type 0 where
  pub laid : IsLaid s o
  pub at : slice_get o.cuts.items j ≡ Some cut
  pub last_in : IsIn (units_of (tags_of s o)) last
  pub behind : cut.new.offset ≤ last.offset
  pub within : last.offset ≤ cut.new_end.offset
