-- A replacement between two offsets, as a splice of marks.
use Rattle.std.proofs.Common.{◌≡◌, ℕ, ◌+◌, ◌-◌, ◌≤◌, List, length, true, sym, subst, ap, ◌∙◌, arith}
use Rattle.std.specs.List.{All}
use Rattle.points.specs.declared.point.Point.{Point}
use Rattle.points.specs.declared.mark.Mark.{Mark}
use Rattle.points.specs.declared.mark.Splice.{Splice}
use Rattle.points.specs.declared.limits.TheConstants.{MAX_UNITS, MAX_COORD}
use Rattle.points.specs.Point.{point_le}
use Rattle.points.specs.Place.{point_at}
use Rattle.points.specs.Text.{replaced}
use Rattle.points.specs.MarkList.{SpliceIsWithin}
use Rattle.points.specs.MarkText.{IsMarkOf, splice_in}
use Rattle.points.proofs.ExtentParts.{point_at-replaced_before, point_at-replaced_end}
use Rattle.points.proofs.MarkTextLemmas.{splice_within}
use Rattle.points.proofs.OffsetLemmas.{point_at_le}
use Rattle.points.proofs.TextLemmas.{length-replaced}
use Rattle.chains.specs.declared.spot.Spot.{Spot}
use Rattle.chains.specs.Spots.{spot_in}
use Rattle.layers.specs.Building.{AreSpots}
use Rattle.machine.specs.Machine.{splice_at}

pub splice_is : (t : List ℕ) (i j : ℕ) (s : List ℕ) → i ≤ j → j ≤ length t → splice_at t i j s ≡ splice_in t i j s
splice_is t i j s order within = ap (λ (p : Point). record { start = point_at t i; old_end = point_at t j; new_end = p }) (point_at-replaced_end t i j s (omega arith))

pub marks_may_move : (t : List ℕ) (i j : ℕ) (s : List ℕ) (ms : List Mark) (c : Splice) → i ≤ j → j ≤ length t → length t ≤ MAX_UNITS → length t + length s ≤ MAX_UNITS + (j - i) → All (IsMarkOf t) ms
    → c ≡ splice_at t i j s → SpliceIsWithin MAX_COORD c ms
marks_may_move t i j s ms c order within short fits marks is =
    rw (is, splice_is t i j s order within) (splice_within t s i j MAX_COORD order within (omega arith) (omega (arith, length-replaced t i j s order within)) ms marks)

-- the new units start where the old ones did, and end there or behind
pub ends_behind : (t : List ℕ) (i j : ℕ) (s u : List ℕ) → i ≤ j → j ≤ length t → u ≡ replaced t i j s → point_le (point_at t i) (point_at u (i + length s)) ≡ true
ends_behind t i j s u order within is = subst (λ (p : Point). point_le p (point_at u (i + length s)) ≡ true) before (point_at_le u i (i + length s) (omega arith) long)
  where
    before : point_at u i ≡ point_at t i
    before = rw is (point_at-replaced_before t i j i s (omega arith) (omega arith))

    long : i + length s ≤ length u
    long = omega (arith, ap length is, length-replaced t i j s order within)

-- ---- the places between which a text is replaced
pub are_spots : (t : List ℕ) (i j : ℕ) (from to : Spot) → from ≡ spot_in t i → to ≡ spot_in t j → from.offset ≤ to.offset → to.offset ≤ length t → AreSpots t from to
are_spots t i j from to start end order within =
    let first : from.offset ≡ i = ap (λ (s : Spot). s.offset) start in
    let last : to.offset ≡ j = ap (λ (s : Spot). s.offset) end in
    record { from_is = start ∙ ap (spot_in t) (sym first); to_is = end ∙ ap (spot_in t) (sym last); order = order; within = within }

pub start_is : (t : List ℕ) (from to : Spot) → AreSpots t from to → from.point ≡ point_at t from.offset
start_is t from to at = ap (λ (s : Spot). s.point) at.from_is

pub end_is : (t : List ℕ) (from to : Spot) → AreSpots t from to → to.point ≡ point_at t to.offset
end_is t from to at = ap (λ (s : Spot). s.point) at.to_is
