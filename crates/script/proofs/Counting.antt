-- The parts of a JSON value: how many there are, and the range between two points.
use Rattle.std.proofs.Common.{◌≡◌, suc, Bool, true, false, List, [], ◌∷◌, length, Some, String, Global, refl, sym, ap, ◌∙◌}
use Rattle.std.proofs.Math.Bool.{Bool-set}
use Rattle.points.specs.declared.point.Point.{Point}
use Rattle.points.specs.Point.{point_le}
use Rattle.script.specs.Parts.{count_members, member_count, count_items, item_count, range_by, range_between}
use Rattle.serde_json.specs.Data.{Data, null, boolean, number, string, array, object}
use Rattle.serde_json.specs.Find.{as_array, as_object}
use Rattle.serde_json.specs.View.{items_view, members_view}
use Rattle.serde_json.specs.declared.value.Value.{Value}

pub count_items-items_view : (vs : List Value) → count_items (items_view vs) ≡ length vs
count_items-items_view [] = refl
count_items-items_view (v ∷ vs) = ap suc (count_items-items_view vs)

count_members-members_view : (ms : List (String Global × Value)) → count_members (members_view ms) ≡ length ms
count_members-members_view [] = refl
count_members-members_view (m ∷ ms) = ap suc (count_members-members_view ms)

some_is : {A : Type 0} (x y : A) → Some x ≡ Some y → x ≡ y
some_is x y e = cc

-- the items of a list, counted
pub length_is_item_count : (d : Data) (vs : List Value) → Some (items_view vs) ≡ as_array d → length vs ≡ item_count d
length_is_item_count null vs e = absurd cc
length_is_item_count (boolean b) vs e = absurd cc
length_is_item_count (number n) vs e = absurd cc
length_is_item_count (string s) vs e = absurd cc
length_is_item_count (array ds) vs e = sym (count_items-items_view vs) ∙ ap count_items (some_is (items_view vs) ds e)
length_is_item_count (object ms) vs e = absurd cc

-- the members of an object, counted
pub length_is_member_count : (d : Data) (ms : List (String Global × Value)) → Some (members_view ms) ≡ as_object d → length ms ≡ member_count d
length_is_member_count null ms e = absurd cc
length_is_member_count (boolean b) ms e = absurd cc
length_is_member_count (number n) ms e = absurd cc
length_is_member_count (string s) ms e = absurd cc
length_is_member_count (array ds) ms e = absurd cc
length_is_member_count (object ns) ms e = sym (count_members-members_view ms) ∙ ap count_members (some_is (members_view ms) ns e)

range_by_test : (start end : Point) (b : Bool) (h : point_le start end ≡ b) (ordered : point_le start end ≡ true) → range_by start end b h ≡ Some (record { start = start; end = end; ordered = ordered })
range_by_test start end true h ordered = ap (λ (g : point_le start end ≡ true). Some (record { start = start; end = end; ordered = g })) (Bool-set (point_le start end) true h ordered)
range_by_test start end false h ordered = absurd cc

-- the range between two points in order
pub range_in_order : (start end : Point) (ordered : point_le start end ≡ true) → range_between start end ≡ Some (record { start = start; end = end; ordered = ordered })
range_in_order start end ordered = range_by_test start end (point_le start end) refl ordered
