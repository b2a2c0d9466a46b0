-- A list that is read item by item.
use Rattle.std.proofs.Common.{◌≡◌, ◌+◌, ◌<◌, ◌≤◌, ℕ, List, [], ◌∷◌, ◌++◌, length, drop, get_or, Option, Some, None, option_map, option_and_then, refl, sym, ap, ◌∙◌, append_assoc, append-nil}
use Rattle.std.proofs.lemmas.List.{at_drop_more, at_drop_all}
use Rattle.serde_json.specs.Data.{Data, Items, item}
use Rattle.serde_json.specs.View.{view, items_view}
use Rattle.serde_json.specs.declared.value.Value.{Value}
use Rattle.transcripts.specs.Reading.{all_of}

-- the members that were read before, and those that are still read
abbrev pub with_front : {A : Type 0} → List A → Option (List A) → Option (List A)
with_front front read = option_map (λ xs. front ++ xs) read

-- so many items are read, as these members
abbrev pub IsReadSoFar : {A : Type 0} → (Data → Option A) → List Value → ℕ → List A → Type 0
IsReadSoFar reads items i front = with_front front (all_of reads (items_view (drop i items))) ≡ all_of reads (items_view items)

front_more : {A : Type 0} (front : List A) (x : A) (o : Option (List A)) → with_front (front ++ x ∷ []) o ≡ with_front front (option_map (λ xs. x ∷ xs) o)
front_more front x None = refl
front_more front x (Some xs) = ap Some (append_assoc front (x ∷ []) xs)

front_all : {A : Type 0} (front : List A) → with_front front (Some []) ≡ Some front
front_all front = ap Some (append-nil front)

front_none : {A : Type 0} (o : Option (List A)) → with_front [] o ≡ o
front_none None = refl
front_none (Some xs) = refl

-- what is left of the items, one item on
rest_is : (items : List Value) (i : ℕ) (v : Value) → i < length items → v ≡ get_or items i v → items_view (drop i items) ≡ item (view v) (items_view (drop (i + 1) items))
rest_is items i v within at = at_drop_more items_view items i v within ∙ ap (λ x. item (view x) (items_view (drop (i + 1) items))) (sym at)

item_step : {A : Type 0} (reads : Data → Option A) (front : List A) (d : Data) (ds : Items) (x : A) → reads d ≡ Some x → with_front front (all_of reads (item d ds)) ≡ with_front (front ++ x ∷ []) (all_of reads ds)
item_step reads front d ds x is =
    ap (λ o. with_front front (option_and_then (λ y. option_map (λ xs. y ∷ xs) (all_of reads ds)) o)) is ∙ sym (front_more front x (all_of reads ds))

item_none : {A : Type 0} (reads : Data → Option A) (front : List A) (d : Data) (ds : Items) → reads d ≡ None → with_front front (all_of reads (item d ds)) ≡ None
item_none reads front d ds is = ap (λ o. with_front front (option_and_then (λ y. option_map (λ xs. y ∷ xs) (all_of reads ds)) o)) is

pub start_read : {A : Type 0} (reads : Data → Option A) (items : List Value) (front : List A) → front ≡ [] → IsReadSoFar reads items 0 front
start_read reads items front none = ap (λ xs. with_front xs (all_of reads (items_view items))) none ∙ front_none (all_of reads (items_view items))

pub one_read : {A : Type 0} (reads : Data → Option A) (items : List Value) (i : ℕ) (front : List A) (v : Value) (x : A) → i < length items → v ≡ get_or items i v → IsReadSoFar reads items i front → reads (view v) ≡ Some x
    → IsReadSoFar reads items (i + 1) (front ++ x ∷ [])
one_read reads items i front v x within at so_far is =
    sym (ap (λ xs. with_front front (all_of reads xs)) (rest_is items i v within at) ∙ item_step reads front (view v) (items_view (drop (i + 1) items)) x is) ∙ so_far

-- an item that isn't read
pub one_unread : {A : Type 0} (reads : Data → Option A) (items : List Value) (i : ℕ) (front : List A) (v : Value) → i < length items → v ≡ get_or items i v → IsReadSoFar reads items i front → reads (view v) ≡ None
    → all_of reads (items_view items) ≡ None
one_unread reads items i front v within at so_far is =
    sym so_far ∙ ap (λ xs. with_front front (all_of reads xs)) (rest_is items i v within at) ∙ item_none reads front (view v) (items_view (drop (i + 1) items)) is

-- the last is read
pub all_read : {A : Type 0} (reads : Data → Option A) (items : List Value) (i : ℕ) (front : List A) → length items ≤ i → IsReadSoFar reads items i front → all_of reads (items_view items) ≡ Some front
all_read reads items i front past so_far = sym so_far ∙ ap (with_front front) (at_drop_all (λ xs. all_of reads (items_view xs)) items i past) ∙ front_all front
