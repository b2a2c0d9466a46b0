-- Changes of a layer that are taken over into another, where they stand elsewhere in its text.
use Rattle.std.specs.Prelude.{◌≡◌, ℕ, ◌+◌, ◌-◌, ◌≤◌, List, ◌++◌, length, drop}
use Rattle.points.specs.Point.{IsWithin}
use Rattle.points.specs.declared.limits.TheConstants.{MAX_UNITS, MAX_COORD}
use Rattle.patch.specs.Tagged.{Tagged, units_of}
use Rattle.patch.proofs.Pieces.{Piece, AllApart, AllSome, old_of, new_of, tag_of}
use Rattle.chains.specs.declared.spot.Spot.{Spot}
use Rattle.chains.specs.declared.overlay.Cut.{Cut}
use Rattle.chains.specs.declared.overlay.Overlay.{Overlay}
use Rattle.chains.specs.declared.moving.Shift.{Shift}
use Rattle.chains.specs.declared.weaver.Weaver.{Weaver}
use Rattle.chains.specs.Overlay.{end_of, cuts_of, puts_of, tags_of, IsLaid}
use Rattle.chains.specs.Spots.{ahead}
use Rattle.chains.specs.Weaving.{Weaves}
use Rattle.chains.specs.Walking.{IsIn}

-- the change where the text that it gives is moved, and the text that it holds
abbrev pub moved_cut : Shift → Cut → Cut
moved_cut by c = record {
  old = c.old;
  old_end = c.old_end;
  new = ahead by.to by.from c.new;
  new_end = ahead by.to by.from c.new_end;
  text = c.text - by.text_from + by.text_to;
}

-- the spot can be made
pub record CanReach (x : Spot) : Type 0 where
  pub room : x.offset ≤ MAX_UNITS
  pub near : IsWithin MAX_COORD x.point

-- the change stands behind where the move begins, and within the limits after it
pub record CanMove (by : Shift) (c : Cut) : Type 0 where
  pub new : by.from.offset ≤ c.new.offset
  pub new_end : by.from.offset ≤ c.new_end.offset
  pub text : by.text_from ≤ c.text
  pub new_reached : CanReach (ahead by.to by.from c.new)
  pub end_reached : CanReach (ahead by.to by.from c.new_end)
  pub text_fits : c.text - by.text_from + by.text_to ≤ MAX_UNITS

-- the changes of the layer o from place n on make what is left of s and of its text behind these spots, and the weaver awaits just that
pub record IsRest (s : List ℕ) (o : Overlay) (n : ℕ) (old new : Spot) (whole : Tagged) (w : Weaver) : Type 0 where
  pub olds : List ℕ
  pub news : List ℕ
  pub puts : List ℕ
  pub pieces : List Piece
  pub tail : List ℕ
  pub text_is : s ≡ olds ++ old_of pieces tail
  pub cuts_are : drop n o.cuts.items ≡ cuts_of olds news puts pieces
  pub within : n ≤ length o.cuts.items
  pub puts_are : o.text ≡ puts ++ puts_of pieces
  pub text_short : length o.text ≤ MAX_UNITS
  pub end_is : o.end ≡ end_of (news ++ new_of pieces tail)
  pub old_at : old ≡ end_of olds
  pub new_at : new ≡ end_of news
  pub some : AllSome pieces
  pub apart : AllApart pieces
  pub weaves : Weaves s whole (tag_of (length olds) pieces tail) w

-- the weaver awaits what the layer has behind a spot of its text
pub record IsTail (s : List ℕ) (o : Overlay) (below to : Spot) (whole : Tagged) (w : Weaver) : Type 0 where
  pub laid : IsLaid s o
  pub below_is : below ≡ end_of s
  pub to_in : IsIn (units_of (tags_of s o)) to
  pub weaves : Weaves s whole (drop to.offset (tags_of s o)) w
