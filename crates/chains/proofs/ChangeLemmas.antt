-- Edits of a text in layers, from those of one layer.
use Rattle.std.proofs.Common.{◌≡◌, ℕ, zero, suc, ◌+◌, ◌-◌, ◌<◌, ◌≤◌, List, [], ◌∷◌, ◌++◌, length, take, drop, map, cond, ltb, Bool, true, false, Option, Some, None, refl, sym, ap, ◌∙◌, subst, arith, length-append, length-drop}
use Rattle.std.specs.List.{slice_get}
use Rattle.std.proofs.lemmas.Bool.{false≢true}
use Rattle.std.proofs.lemmas.Bool.Decides.{nat_tests}
use Rattle.std.proofs.lemmas.List.{map-append, take-map, drop-map, length-take-le}
use Rattle.points.specs.Place.{point_at}
use Rattle.points.specs.Text.{replaced}
use Rattle.points.specs.declared.limits.TheConstants.{MAX_UNITS}
use Rattle.patch.specs.Tagged.{Tagged, tagged, untagged, units_of, edited, run}
use Rattle.chains.specs.declared.spot.Spot.{Spot}
use Rattle.chains.specs.declared.overlay.Overlay.{Overlay}
use Rattle.chains.specs.declared.held.Held.{Held}
use Rattle.chains.specs.declared.size.LayerSize.{LayerSize}
use Rattle.chains.specs.Layered.{Edit, Layered, on_base, text_above, size_of, is_small, with_layer, changed_above, sizes_from}
use Rattle.chains.specs.Overlay.{IsLaid, AreLaid, tags_above, tags_of, text_of_all, overlays_of, end_of}
use Rattle.chains.specs.Spots.{spot_in}
use Rattle.chains.specs.Walking.{IsIn, IsEdit}
use Rattle.chains.specs.Changes.{CanReplace, joins_newest, newest_edited}
use Rattle.chains.proofs.RetagLemmas.{units_tagged, units_untagged}
use Rattle.chains.proofs.StretchLemmas.{length-units}
use Rattle.chains.proofs.EditLemmas.{spot_of}

abbrev first_of : ℕ × Option ℕ → ℕ
first_of x = x.0

-- the text of an edited layer
pub units_edited : (g : Tagged) (i j : ℕ) (t : List ℕ) → units_of (edited g i j t) ≡ replaced (units_of g) i j t
units_edited g i j t = map-append first_of (take i g ++ untagged t) (drop j g)
    ∙ (ap (λ (x : List ℕ). x ++ units_of (drop j g)) (map-append first_of (take i g) (untagged t) ∙ (ap (λ (x : List ℕ). units_of (take i g) ++ x) (units_untagged t) ∙ ap (λ (x : List ℕ). x ++ t) (sym (take-map first_of i g))))
    ∙ ap (λ (x : List ℕ). take i (units_of g) ++ t ++ x) (sym (drop-map first_of j g)))

spot_is_in : (t : List ℕ) (x : Spot) → x ≡ spot_in t x.offset → x.offset ≤ length t → IsIn t x
spot_is_in t x is within = record { is = is ∙ ap (λ (n : ℕ). spot_of n (point_at t x.offset)) (sym (length-take-le x.offset t within)); within = within }

-- what can be replaced in the text that a layer gives can be edited in the layer
pub can_edit : (s : List ℕ) (o : Overlay) (below from to : Spot) (put : List ℕ) → IsLaid s o → below ≡ end_of s → CanReplace (units_of (tags_of s o)) from to put → IsEdit s o below from to put
can_edit s o below from to put laid below_is h = record {
  laid = laid;
  below_is = below_is;
  from_in = spot_is_in (units_of g) from h.from_is (omega (arith, h.order, h.within));
  to_in = spot_is_in (units_of g) to h.to_is h.within;
  order = h.order;
  short = omega (arith, h.short, ap length (units_edited g from.offset to.offset put), length-units (edited g from.offset to.offset put));
}
  where
    g : Tagged
    g = tags_of s o

-- the same in a layer that changes nothing
pub can_edit_unchanged : (s : List ℕ) (o : Overlay) (below from to : Spot) (put : List ℕ) → IsLaid s o → tags_of s o ≡ tagged s → below ≡ end_of s → CanReplace s from to put → IsEdit s o below from to put
can_edit_unchanged s o below from to put laid tags_are below_is h = can_edit s o below from to put laid below_is (subst (λ (t : List ℕ). CanReplace t from to put) (sym (ap units_of tags_are ∙ units_tagged 0 s)) h)

-- where an edit goes: into the newest layer
pub joins_some : (base : List ℕ) (above : List Tagged) → joins_newest base above ≡ true → 0 < length above
joins_some base [] joins = absurd (false≢true joins)
joins_some base (g ∷ gs) joins = omega arith

pub joins_is : (base : List ℕ) (above : List Tagged) (i j : ℕ) (put : List ℕ) → joins_newest base above ≡ true → on_base base (newest_edited above i j put) ≡ changed_above base above ((i, j, put) ∷ [])
joins_is base [] i j put joins = absurd (false≢true joins)
joins_is base (g ∷ gs) i j put joins = ap (λ (b : Bool). cond b (on_base base (edited g i j put ∷ gs)) (with_layer base (g ∷ gs) ((i, j, put) ∷ []))) (sym joins)

new_layer : (base : List ℕ) (above : List Tagged) (es : List Edit) → joins_newest base above ≡ false → with_layer base above es ≡ changed_above base above es
new_layer base [] es apart = refl
new_layer base (g ∷ gs) es apart = ap (λ (b : Bool). cond b (on_base base (run g es ∷ gs)) (with_layer base (g ∷ gs) es)) (sym apart)

layer_or_base : (base : List ℕ) (above : List Tagged) (g : Tagged) (b : Bool) → ltb (1 + length above) 8 ≡ b
    → cond b (on_base base (g ∷ above)) (on_base (units_of g) []) ≡ cond (ltb (1 + length above) 8) (on_base base (g ∷ above)) (on_base (units_of g) [])
layer_or_base base above g b is = ap (λ (c : Bool). cond c (on_base base (g ∷ above)) (on_base (units_of g) [])) (sym is)

below_eight : (n : ℕ) → 1 + n < 8 → ltb (1 + n) 8 ≡ true
below_eight n lt = grind (arith, nat_tests)

not_below : (n : ℕ) → 8 ≤ 1 + n → ltb (1 + n) 8 ≡ false
not_below n le = grind (arith, nat_tests)

-- into one more layer
pub adds_is : (base : List ℕ) (above : List Tagged) (i j : ℕ) (put : List ℕ) → joins_newest base above ≡ false → 1 + length above < 8
    → on_base base (edited (tagged (text_above base above)) i j put ∷ above) ≡ changed_above base above ((i, j, put) ∷ [])
adds_is base above i j put apart room = layer_or_base base above (edited (tagged (text_above base above)) i j put) true (below_eight (length above) room) ∙ new_layer base above ((i, j, put) ∷ []) apart

-- into a new base
pub renews_is : (base : List ℕ) (above : List Tagged) (i j : ℕ) (put : List ℕ) → joins_newest base above ≡ false → 8 ≤ 1 + length above
    → on_base (units_of (edited (tagged (text_above base above)) i j put)) [] ≡ changed_above base above ((i, j, put) ∷ [])
renews_is base above i j put apart full = layer_or_base base above (edited (tagged (text_above base above)) i j put) false (not_below (length above) full) ∙ new_layer base above ((i, j, put) ∷ []) apart

-- no edit makes a ninth layer
either_way : (b : Bool) (v w : Layered) → length v.above ≤ 7 → length w.above ≤ 7 → length (cond b v w).above ≤ 7
either_way true v w few_v few_w = few_v
either_way false v w few_v few_w = few_w

layer_few : (base : List ℕ) (above : List Tagged) (g : Tagged) (n : ℕ) (b : Bool) → n ≡ length above → ltb (1 + n) 8 ≡ b → length (cond b (on_base base (g ∷ above)) (on_base (units_of g) [])).above ≤ 7
layer_few base above g n true n_is is = let lt : 1 + n < 8 = grind (arith, nat_tests) in omega (arith, lt, n_is)
layer_few base above g n false n_is is = omega arith

pub few_after : (base : List ℕ) (above : List Tagged) (es : List Edit) → length above ≤ 7 → length (changed_above base above es).above ≤ 7
few_after base [] es few = layer_few base [] (run (tagged base) es) 0 _ refl refl
few_after base (g ∷ gs) es few = either_way (is_small (size_of (text_above base gs) g)) (on_base base (run g es ∷ gs)) (with_layer base (g ∷ gs) es) (omega (arith, few))
    (layer_few base (g ∷ gs) (run (tagged (text_above base (g ∷ gs))) es) (length (g ∷ gs)) _ refl refl)

-- the sizes of layers, one after the other
pub sizes_length : (base : List ℕ) (above : List Tagged) → length (sizes_from base above) ≡ 1 + length above
sizes_length base [] = refl
sizes_length base (g ∷ gs) = length-append (sizes_from base gs) (size_of (text_above base gs) g ∷ []) ∙ omega (arith, sizes_length base gs)

got_last : (zs : List LayerSize) (z : LayerSize) (n : ℕ) → n ≡ length zs → slice_get (zs ++ z ∷ []) n ≡ Some z
got_last [] z n n_is = ap (λ (k : ℕ). slice_get (z ∷ []) k) n_is
got_last (y ∷ zs) z n n_is = ap (λ (k : ℕ). slice_get (y ∷ zs ++ z ∷ []) k) n_is ∙ got_last zs z (length zs) refl

got_before : (zs : List LayerSize) (z : LayerSize) (n : ℕ) → n < length zs → slice_get (zs ++ z ∷ []) n ≡ slice_get zs n
got_before [] z n lt = absurd (let no : ⊥ = omega (arith, lt) in no)
got_before (y ∷ zs) z zero lt = refl
got_before (y ∷ zs) z (suc n) lt = got_before zs z n (omega (arith, lt))

pub newest_size : (base : List ℕ) (above : List Tagged) (g : Tagged) (n : ℕ) → n ≡ 1 + length above → slice_get (sizes_from base (g ∷ above)) n ≡ Some (size_of (text_above base above) g)
newest_size base above g n n_is = got_last (sizes_from base above) (size_of (text_above base above) g) n (n_is ∙ sym (sizes_length base above))

pub older_size : (base : List ℕ) (above : List Tagged) (g : Tagged) (n : ℕ) → n ≤ length above → slice_get (sizes_from base (g ∷ above)) n ≡ slice_get (sizes_from base above) n
older_size base above g n le = got_before (sizes_from base above) (size_of (text_above base above) g) n (omega (arith, le, sizes_length base above))

-- what can be replaced, from the offsets of both ends
pub can_replace : (t : List ℕ) (i j : ℕ) (from to : Spot) (put : List ℕ) → from ≡ spot_in t i → to ≡ spot_in t j → i ≤ j → j ≤ length t → length t + length put ≤ MAX_UNITS + (j - i) → CanReplace t from to put
can_replace t i j from to put from_is to_is order within short = record {
  from_is = from_is ∙ ap (spot_in t) (sym at);
  to_is = to_is ∙ ap (spot_in t) (sym end);
  order = omega (arith, at, end, order);
  within = omega (arith, end, within);
  short = omega (arith, at, end, order, within, short, length-append (take from.offset t ++ put) (drop to.offset t), length-append (take from.offset t) put, length-take-le from.offset t (omega (arith, at, order, within)), length-drop to.offset t);
}
  where
    at : from.offset ≡ i
    at = ap (λ (x : Spot). x.offset) from_is

    end : to.offset ≡ j
    end = ap (λ (x : Spot). x.offset) to_is
