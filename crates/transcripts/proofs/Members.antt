-- An object is known by its members: as many as it has, under keys in order.
use Rattle.std.proofs.Common.{◌≡◌, ◌+◌, ℕ, suc, List, [], ◌∷◌, length, map, true, Option, Some, None, Ordering, Less, Equal, Greater, refl, sym, ap, ap₂, subst, ◌∙◌, arith}
use Rattle.std.specs.Prelude.{is_some, option_and_then}
use Rattle.std.specs.List.{AllByRecursion}
use Rattle.std.specs.Ordering.{match_ordering, ordering_reverse}
use Rattle.std.proofs.lemmas.Cmp.{nat_list_cmp_total, tied_itself}
use Rattle.std.proofs.lemmas.Option.{option_and_then_some, none-some, same_Some}
use Rattle.script.specs.Parts.{count_members, member_count}
use Rattle.script.proofs.KeyLemmas.{key_cmp, keys_of, Ascend, AreThere, turned, all_keys}
use Rattle.script.proofs.KeyOrder.{IsInKeyOrder, ItemsInKeyOrder, MembersInKeyOrder}
use Rattle.serde_json.specs.Data.{Data, null, boolean, number, string, array, object, Items, no_items, item, Members, no_members, member}
use Rattle.serde_json.specs.Find.{get, get_member}

-- a member: its key and its value
pub record Field : Type 0 where
  pub key : List ℕ
  pub value : Data

abbrev pub members_from : List Field → Members
members_from [] = no_members
members_from (f ∷ fs) = member f.key f.value (members_from fs)

abbrev pub keys_from : List Field → List (List ℕ)
keys_from [] = []
keys_from (f ∷ fs) = f.key ∷ keys_from fs

abbrev pub AreMembers : List Field → Members → Type 0
AreMembers fs ms = AllByRecursion (λ f. get_member f.key ms ≡ Some f.value) fs

abbrev pub AreIn : List Field → Data → Type 0
AreIn fs d = AllByRecursion (λ f. get f.key d ≡ Some f.value) fs

later : (o : Ordering) (a b : Option Data) → (o ≡ Equal → ⊥) → match_ordering o a b a ≡ a
later Less a b other = refl
later Equal a b other = absurd (other refl)
later Greater a b other = refl

-- a key above the first is looked up among the rest
in_rest : (k l : List ℕ) (d : Data) (ms : Members) → key_cmp l k ≡ Less → get_member k (member l d ms) ≡ get_member k ms
in_rest k l d ms above = later (key_cmp k l) (get_member k ms) (Some d) (λ e. cc (turned l k Less above))

all_in_rest : (fs : List Field) (l : List ℕ) (d : Data) (ms : Members) → AllByRecursion (λ k. key_cmp l k ≡ Less) (keys_from fs) → AreMembers fs (member l d ms) → AreMembers fs ms
all_in_rest [] l d ms above are = tt
all_in_rest (f ∷ fs) l d ms above are = (sym (in_rest f.key l d ms above.0) ∙ are.0, all_in_rest fs l d ms above.1 are.1)

first_found : (k : List ℕ) (d : Data) (ms : Members) → get_member k (member k d ms) ≡ Some d
first_found k d ms = ap (λ o. match_ordering o (get_member k ms) (Some d) (get_member k ms)) (tied_itself nat_list_cmp_total k)

first_is : (k l : List ℕ) (v d : Data) (ms : Members) → l ≡ k → get_member k (member l d ms) ≡ Some v → d ≡ v
first_is k l v d ms same found = same_Some d v (sym (first_found k d ms) ∙ subst (λ x. get_member k (member x d ms) ≡ Some v) same found)

pub are_members : (fs : List Field) (ms : Members) → Ascend (keys_from fs) → keys_of ms ≡ keys_from fs → AreMembers fs ms → ms ≡ members_from fs
are_members [] no_members up same are = refl
are_members [] (member l d ms) up same are = absurd cc
are_members (f ∷ fs) no_members up same are = absurd cc
are_members (f ∷ fs) (member l d ms) up same are =
    let key : l ≡ f.key = cc in
    let rest : keys_of ms ≡ keys_from fs = cc in
    let value = first_is f.key l f.value d ms key are.0 in
    let above = subst (λ x. AllByRecursion (λ k. key_cmp x k ≡ Less) (keys_from fs)) (sym key) up.0 in
    let behind = are_members fs ms up.1 rest (all_in_rest fs l d ms above are.1) in
    cc (key, value, behind)

are_there : (fs : List Field) (ms : Members) → AreMembers fs ms → AreThere (keys_from fs) ms
are_there [] ms are = tt
are_there (f ∷ fs) ms are = (ap is_some are.0, are_there fs ms are.1)

length-keys_from : (fs : List Field) → length (keys_from fs) ≡ length fs
length-keys_from [] = refl
length-keys_from (f ∷ fs) = ap suc (length-keys_from fs)

-- An object in order that has as many members as there are fields in order, all of them there, is the object of the fields.
pub object_is : (f : Field) (fs : List Field) (d : Data) → Ascend (keys_from (f ∷ fs)) → IsInKeyOrder d → member_count d ≡ suc (length fs) → AreIn (f ∷ fs) d → d ≡ object (members_from (f ∷ fs))
object_is f fs null up order n are = absurd (omega arith)
object_is f fs (boolean b) up order n are = absurd (omega arith)
object_is f fs (number m) up order n are = absurd (omega arith)
object_is f fs (string s) up order n are = absurd (omega arith)
object_is f fs (array ds) up order n are = absurd (omega arith)
object_is f fs (object ms) up order n are =
    let many : length (keys_from (f ∷ fs)) ≡ count_members ms = ap suc (length-keys_from fs) ∙ sym n in
    ap object (are_members (f ∷ fs) ms up (all_keys (keys_from (f ∷ fs)) ms up order.0 (are_there (f ∷ fs) ms are) many) are)

-- ---- a value within is in order

found_at : (o : Ordering) (k l : List ℕ) (d x : Data) (ms : Members) → IsInKeyOrder d → match_ordering o (get_member k ms) (Some d) (get_member k ms) ≡ Some x → (get_member k ms ≡ Some x → IsInKeyOrder x) → IsInKeyOrder x
found_at Less k l d x ms own is rest = rest is
found_at Equal k l d x ms own is rest = subst IsInKeyOrder (same_Some d x is) own
found_at Greater k l d x ms own is rest = rest is

member_in_order : (k : List ℕ) (ms : Members) (x : Data) → MembersInKeyOrder ms → get_member k ms ≡ Some x → IsInKeyOrder x
member_in_order k no_members x order is = absurd (none-some x is)
member_in_order k (member l d ms) x order is = found_at (key_cmp k l) k l d x ms order.0 is (member_in_order k ms x order.1)

pub get_in_order : (k : List ℕ) (d x : Data) → IsInKeyOrder d → get k d ≡ Some x → IsInKeyOrder x
get_in_order k null x order is = absurd (none-some x is)
get_in_order k (boolean b) x order is = absurd (none-some x is)
get_in_order k (number n) x order is = absurd (none-some x is)
get_in_order k (string s) x order is = absurd (none-some x is)
get_in_order k (array ds) x order is = absurd (none-some x is)
get_in_order k (object ms) x order is = member_in_order k ms x order.1 is
