-- How deep new layers are, and what can be replaced for a change.
use Rattle.std.proofs.Common.{◌≡◌, ℕ, ◌+◌, ◌-◌, ◌≤◌, Bool, true, false, List, [], ◌∷◌, length, sym, ap, ◌∙◌, arith}
use Rattle.std.specs.Prelude.{nat_lt, if◌then◌else◌}
use Rattle.std.proofs.lemmas.List.Elements.{All-contains}
use Rattle.points.specs.Text.{replaced}
use Rattle.points.specs.Place.{point_at}
use Rattle.points.specs.declared.point.Point.{Point}
use Rattle.points.specs.declared.limits.TheConstants.{MAX_UNITS}
use Rattle.points.proofs.TextLemmas.{length-replaced}
use Rattle.patch.specs.Hunk.{Hunk}
use Rattle.patch.specs.Tagged.{Tagged, tagged, units_of, run}
use Rattle.places.specs.Table.{IsPlaced, IsTable}
use Rattle.chains.specs.declared.spot.Spot.{Spot}
use Rattle.chains.specs.Spots.{spot_in}
use Rattle.chains.specs.Layered.{Edit, Layered, text_above, on_base, depth_of, size_of, is_small, is_within, with_layer, changed_above, after_change, squashed, tags_since, whole_text}
use Rattle.chains.specs.Changes.{CanReplace}
use Rattle.layers.specs.Shelf.{Shelved, HasDepths, top_layers}
use Rattle.layers.specs.Building.{AreSpots, CanChange, edit_at}
use Rattle.layers.proofs.GroundLemmas.{top_found}
use Rattle.layers.proofs.ShelfLemmas.{top_depth}

either_deep : (b : Bool) (v w : Layered) (n : ℕ) → depth_of v ≤ n → depth_of w ≤ n → depth_of (if b then v else w) ≤ n
either_deep true v w n a b = a
either_deep false v w n a b = b

layer_deep : (base : List ℕ) (above : List Tagged) (es : List Edit) → depth_of (with_layer base above es) ≤ 2 + length above
layer_deep base above es = either_deep (nat_lt (1 + length above) 8) (on_base base (run (tagged (text_above base above)) es ∷ above)) (on_base (units_of (run (tagged (text_above base above)) es)) []) (2 + length above) (omega arith) (omega arith)

above_deep : (base : List ℕ) (above : List Tagged) (es : List Edit) → depth_of (changed_above base above es) ≤ 2 + length above
above_deep base [] es = layer_deep base [] es
above_deep base (g ∷ gs) es = either_deep (is_small (size_of (text_above base gs) g)) (on_base base (run g es ∷ gs)) (with_layer base (g ∷ gs) es) (2 + length (g ∷ gs)) (omega arith) (layer_deep base (g ∷ gs) es)

-- an edit adds one layer at most
pub change_deep : (v : Layered) (es : List Edit) → depth_of (after_change v es) ≤ depth_of v + 1
change_deep v es = omega (arith, above_deep v.base v.above es)

-- a squash leaves one above the base at most
pub squash_deep : (v : Layered) → depth_of (squashed v) ≤ 2
squash_deep v = either_deep (is_within 512 65536 (size_of v.base (tags_since v.base v.above))) (on_base v.base (tags_since v.base v.above ∷ [])) (on_base (whole_text v) []) 2 (omega arith) (omega arith)

-- the top has at most eight
pub top_shallow : (s : Shelved) → IsTable s → HasDepths s → depth_of (top_layers s) ≤ 8
top_shallow s is deep =
    let top = top_found s is in
    let h = All-contains IsPlaced s top.0 is.numbers top.3 in
    omega (arith, h.shallow, top.2, top_depth s is deep)

-- how long the text becomes
pub long_replaced : (t : List ℕ) (from to : Spot) (put : List ℕ) → AreSpots t from to → length (replaced t from.offset to.offset put) + (to.offset - from.offset) ≡ length t + length put
long_replaced t from to put at = length-replaced t from.offset to.offset put at.order at.within

pub can_replace : (t : List ℕ) (from to : Spot) (put : List ℕ) → AreSpots t from to → length (replaced t from.offset to.offset put) ≤ MAX_UNITS → CanReplace t from to put
can_replace t from to put at short = record { from_is = at.from_is; to_is = at.to_is; order = at.order; within = at.within; short = short }

spots_at : (t : List ℕ) (i j : ℕ) (from to : Spot) → from ≡ spot_in t i → to ≡ spot_in t j → i ≤ j → j ≤ length t → AreSpots t from to
spots_at t i j from to a b order within =
    let start : from.offset ≡ i = ap (λ s. s.offset) a in
    let end : to.offset ≡ j = ap (λ s. s.offset) b in
    record { from_is = a ∙ ap (spot_in t) (sym start); to_is = b ∙ ap (spot_in t) (sym end); order = omega arith; within = omega arith }

-- the places between which a change replaces
pub change_replaces : (t : List ℕ) (h : Hunk) → (can : CanChange t h) → (from to : Spot) → from ≡ spot_in t can.at → to ≡ spot_in t (can.at + length h.old_text) → CanReplace t from to h.new_text
change_replaces t h can from to a b =
    let within = can.stands.within in
    let at = spots_at t can.at (can.at + length h.old_text) from to a b (omega arith) within in
    let start : from.offset ≡ can.at = ap (λ s. s.offset) a in
    let end : to.offset ≡ can.at + length h.old_text = ap (λ s. s.offset) b in
    can_replace t from to h.new_text at (omega (arith, long_replaced t from to h.new_text at, can.short))

-- ---- the places of a change
pub found_spot : (t t' : List ℕ) → t' ≡ t → (p q : Point) → p ≡ q → (spot : Spot) → ((i : ℕ) → i ≤ length t' → point_at t' i ≡ p → spot ≡ spot_in t' i) → (i : ℕ) → i ≤ length t → point_at t i ≡ q → spot ≡ spot_in t i
found_spot t t' e p q f spot h i within at = h i (omega (arith, ap length e)) (ap (λ s. point_at s i) e ∙ (at ∙ sym f)) ∙ ap (λ s. spot_in s i) e

pub same_edit : (t : List ℕ) (h : Hunk) (i : ℕ) (from to : Spot) (put : List ℕ) → from ≡ spot_in t i → to ≡ spot_in t (i + length h.old_text) → put ≡ h.new_text → (es : List Edit) → es ≡ (from.offset, to.offset, put) ∷ [] → es ≡ edit_at i h ∷ []
same_edit t h i from to put a b p es e =
    let start : from.offset ≡ i = ap (λ s. s.offset) a in
    let end : to.offset ≡ i + length h.old_text = ap (λ s. s.offset) b in
    cc
