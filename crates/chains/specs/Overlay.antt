-- When an overlay lies on a text, and what it makes of it.
use Rattle.std.specs.Prelude.{◌≡◌, ℕ, ◌+◌, ◌-◌, ◌≤◌, List, [], ◌∷◌, ◌++◌, length, drop, slice_range, sum_by, Option, Some, None}
use Rattle.std.specs.Arc.{arc_value}
use Rattle.points.specs.Place.{extent}
use Rattle.points.specs.declared.limits.TheConstants.{MAX_UNITS}
use Rattle.patch.specs.Tagged.{Tagged, tagged_from, untagged, units_of}
use Rattle.patch.proofs.Pieces.{Piece, AllApartBehind, AllSome, old_of, new_of}
use Rattle.chains.specs.declared.spot.Spot.{Spot}
use Rattle.chains.specs.declared.overlay.Cut.{Cut}
use Rattle.chains.specs.declared.overlay.Overlay.{Overlay}
use Rattle.chains.specs.declared.held.Held.{Held}
use Rattle.chains.specs.Layered.{text_above}

-- the end of a text
abbrev pub end_of : List ℕ → Spot
end_of t = record { offset = length t; point = extent t }

-- the cuts of pieces that stand behind the units a of the old text, b of the new one, and those put in so far
abbrev pub cuts_of : List ℕ → List ℕ → List ℕ → List Piece → List Cut
cuts_of a b put [] = []
cuts_of a b put (p ∷ ps) = record {
  old = end_of (a ++ p.kept);
  old_end = end_of (a ++ p.kept ++ p.old);
  new = end_of (b ++ p.kept);
  new_end = end_of (b ++ p.kept ++ p.new);
  text = length put;
} ∷ cuts_of (a ++ p.kept ++ p.old) (b ++ p.kept ++ p.new) (put ++ p.new) ps

-- the units that pieces put in, one behind the other
abbrev pub puts_of : List Piece → List ℕ
puts_of [] = []
puts_of (p ∷ ps) = p.new ++ puts_of ps

-- what is kept before the first of these pieces, or behind the last
abbrev pub first_kept : List Piece → List ℕ → List ℕ
first_kept [] tail = tail
first_kept (p ∷ ps) tail = p.kept

-- what the first of these pieces puts in
abbrev pub first_new : List Piece → List ℕ
first_new [] = []
first_new (p ∷ ps) = p.new

-- the overlay lies on the text s: both are made of the same pieces, with something kept between them
pub record IsLaid (s : List ℕ) (o : Overlay) : Type 0 where
  pub pieces : List Piece
  pub tail : List ℕ
  pub text_is : s ≡ old_of pieces tail
  pub cuts_are : o.cuts.items ≡ cuts_of [] [] [] pieces
  pub puts_are : o.text ≡ puts_of pieces
  pub end_is : o.end ≡ end_of (new_of pieces tail)
  pub units_are : o.units ≡ sum_by (λ (p : Piece). length p.old + length p.new) pieces
  pub some : AllSome pieces
  pub behind : AllApartBehind pieces
  pub old_short : length s ≤ MAX_UNITS
  pub new_short : length (new_of pieces tail) ≤ MAX_UNITS

-- what cuts make of the text s behind its offset `at`, where `put` is all that is put in
abbrev pub tags_from : List ℕ → List ℕ → ℕ → List Cut → Tagged
tags_from s put at [] = tagged_from at (drop at s)
tags_from s put at (c ∷ cs) = tagged_from at (slice_range s at c.old.offset)
    ++ (untagged (slice_range put c.text (c.text + (c.new_end.offset - c.new.offset))) ++ tags_from s put c.old_end.offset cs)

-- what an overlay makes of the text that it lies on
abbrev pub tags_of : List ℕ → Overlay → Tagged
tags_of s o = tags_from s o.text 0 o.cuts.items

-- the layers of these overlays on a base, the newest first
abbrev pub tags_above : List ℕ → List Overlay → List Tagged
tags_above base [] = []
tags_above base (o ∷ os) = tags_of (text_above base (tags_above base os)) o ∷ tags_above base os

-- the text of the newest of them
abbrev pub text_of_all : List ℕ → List Overlay → List ℕ
text_of_all base os = text_above base (tags_above base os)

-- each overlay lies on the text of those below it
abbrev pub AreLaid : List ℕ → List Overlay → Type 0
AreLaid base [] = Unit {0}
AreLaid base (o ∷ os) = IsLaid (text_of_all base os) o × AreLaid base os

-- the overlays that are held, in order
abbrev pub overlays_of : List (Option Held) → List Overlay
overlays_of [] = []
overlays_of (None ∷ hs) = overlays_of hs
overlays_of (Some h ∷ hs) = arc_value h.overlay ∷ overlays_of hs
