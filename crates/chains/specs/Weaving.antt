-- What a weaver has made so far of a text that it goes over.
use Rattle.std.specs.Prelude.{◌≡◌, ℕ, ◌+◌, ◌-◌, ◌≤◌, List, [], ◌∷◌, ◌++◌, length, sum_by, Option, Some, None}
use Rattle.points.specs.declared.limits.TheConstants.{MAX_UNITS}
use Rattle.patch.specs.Tagged.{Tagged, tagged_from, untagged}
use Rattle.patch.proofs.Pieces.{Piece, AllApartBehind, AllSome, old_of, new_of, tag_of}
use Rattle.chains.specs.declared.spot.Spot.{Spot}
use Rattle.chains.specs.declared.overlay.Cut.{Cut}
use Rattle.chains.specs.declared.weaver.Weaver.{Weaver}
use Rattle.chains.specs.Overlay.{end_of, cuts_of, puts_of}

abbrev pub piece_size : Piece → ℕ
piece_size p = length p.old + length p.new

abbrev pub a_piece : List ℕ → List ℕ → List ℕ → Piece
a_piece kept old new = record { kept = kept; old = old; new = new }

-- the weaver has made g of the beginning of s: closed pieces, an open one, and what is left of s
pub record IsWoven (s : List ℕ) (g : Tagged) (w : Weaver) : Type 0 where
  pub pieces : List Piece
  pub kept : List ℕ
  pub old : List ℕ
  pub new : List ℕ
  pub rest : List ℕ
  pub text_is : s ≡ old_of pieces [] ++ (kept ++ (old ++ rest))
  pub tags_are : g ≡ tag_of 0 pieces [] ++ (tagged_from (length (old_of pieces [])) kept ++ untagged new)
  pub cuts_are : w.cuts.items ≡ cuts_of [] [] [] pieces
  pub puts_are : w.text ≡ puts_of pieces ++ new
  pub open_old : w.open_old ≡ end_of (old_of pieces [] ++ kept)
  pub open_new : w.open_new ≡ end_of (new_of pieces [] ++ kept)
  pub open_text : w.open_text ≡ length (puts_of pieces)
  pub old_is : w.at_old ≡ end_of (old_of pieces [] ++ kept ++ old)
  pub new_is : w.at_new ≡ end_of (new_of pieces [] ++ kept ++ new)
  pub units_are : w.units ≡ sum_by piece_size pieces
  pub some : AllSome pieces
  pub behind : (o n : List ℕ) → AllApartBehind (pieces ++ a_piece kept o n ∷ [])

-- the same where no change is open
pub record IsClosed (s : List ℕ) (g : Tagged) (w : Weaver) : Type 0 where
  pub pieces : List Piece
  pub kept : List ℕ
  pub rest : List ℕ
  pub text_is : s ≡ old_of pieces [] ++ (kept ++ rest)
  pub tags_are : g ≡ tag_of 0 pieces [] ++ tagged_from (length (old_of pieces [])) kept
  pub cuts_are : w.cuts.items ≡ cuts_of [] [] [] pieces
  pub puts_are : w.text ≡ puts_of pieces
  pub old_is : w.at_old ≡ end_of (old_of pieces [] ++ kept)
  pub new_is : w.at_new ≡ end_of (new_of pieces [] ++ kept)
  pub units_are : w.units ≡ sum_by piece_size pieces
  pub some : AllSome pieces
  pub behind : AllApartBehind pieces

-- the offsets in g rise, and none stands before n
abbrev pub Follows : ℕ → Tagged → Type 0
Follows n [] = Unit {0}
Follows n ((u, None) ∷ g) = Follows n g
Follows n ((u, Some i) ∷ g) = (n ≤ i) × Follows (i + 1) g

-- the weaver is on the way to make `whole` of s, and `left` is still to come
pub record Weaves (s : List ℕ) (whole left : Tagged) (w : Weaver) : Type 0 where
  pub done : Tagged
  pub whole_is : done ++ left ≡ whole
  pub woven : IsWoven s done w
  pub follows : Follows w.at_old.offset left
  pub short : length whole ≤ MAX_UNITS
  pub short_text : length s ≤ MAX_UNITS

-- k stands in s behind f, between these spots
pub record IsStretch (s f k : List ℕ) (from to : Spot) : Type 0 where
  pub behind : List ℕ
  pub text_is : s ≡ f ++ (k ++ behind)
  pub from_is : from ≡ end_of f
  pub to_is : to ≡ end_of (f ++ k)

-- the weaver can keep what stands between these spots
pub record CanKeep (w : Weaver) (from to : Spot) : Type 0 where
  pub text : List ℕ
  pub front : List ℕ
  pub kept : List ℕ
  pub whole : Tagged
  pub left : Tagged
  pub stretch : IsStretch text front kept from to
  pub weaves : Weaves text whole (tagged_from (length front) kept ++ left) w

-- it can put these units in, which stand between these spots of their text
pub record CanPut (w : Weaver) (units : List ℕ) (from to : Spot) : Type 0 where
  pub text : List ℕ
  pub whole : Tagged
  pub left : Tagged
  pub front : List ℕ
  pub from_is : from ≡ end_of front
  pub to_is : to ≡ end_of (front ++ units)
  pub weaves : Weaves text whole (untagged units ++ left) w
