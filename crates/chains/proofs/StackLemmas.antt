-- Layers put on others, and the text in layers that they make.
use Rattle.std.proofs.Common.{◌≡◌, ℕ, ◌+◌, ◌≤◌, List, [], ◌∷◌, ◌++◌, length, Option, Some, sym, ap, ◌∙◌, arith}
use Rattle.std.specs.Arc.{arc_value}
use Rattle.std.specs.List.{slice_get}
use Rattle.chains.specs.declared.spot.Spot.{Spot}
use Rattle.chains.specs.declared.size.LayerSize.{LayerSize}
use Rattle.chains.specs.declared.overlay.Overlay.{Overlay}
use Rattle.chains.specs.declared.held.Held.{Held}
use Rattle.chains.specs.Layered.{Layered, on_base, size_of, sizes_from}
use Rattle.chains.specs.Overlay.{AreLaid, tags_above, tags_of, text_of_all, overlays_of, end_of}
use Rattle.chains.specs.Walking.{IsEdit}
use Rattle.chains.specs.Changes.{CanReplace}
use Rattle.chains.proofs.LaidLemmas.{length_above, overlays-append}
use Rattle.chains.proofs.ChangeLemmas.{can_edit, newest_size, older_size}

-- a slot of a layer that is shared
pub slot_shared : (old items : List (Option Held)) (slot : Option Held) (h k : Held) → items ≡ old ++ Some h ∷ [] → slot ≡ Some k → arc_value h.overlay ≡ arc_value k.overlay → overlays_of items ≡ overlays_of old ++ overlays_of (slot ∷ [])
slot_shared old items slot h k items_is slot_is same = ap overlays_of items_is ∙ (overlays-append old (Some h ∷ []) ∙ (ap (λ (o : Overlay). overlays_of old ++ o ∷ []) same ∙ ap (λ (x : Option Held). overlays_of old ++ overlays_of (x ∷ [])) (sym slot_is)))

pub end_here : (base base' : List ℕ) (os : List Overlay) (end : Spot) → base' ≡ base → end ≡ end_of (text_of_all base' os) → end ≡ end_of (text_of_all base os)
end_here base base' os end same end_is = end_is ∙ ap (λ (b : List ℕ). end_of (text_of_all b os)) same

-- the newest layer can be edited
pub can_edit_newest : (base : List ℕ) (o : Overlay) (os : List Overlay) (end from to : Spot) (put : List ℕ) → AreLaid base (o ∷ os) → end ≡ end_of (text_of_all base os) → CanReplace (text_of_all base (o ∷ os)) from to put
    → IsEdit (text_of_all base os) o end from to put
can_edit_newest base o os end from to put laid end_is h = can_edit (text_of_all base os) o end from to put laid.0 end_is h

-- the size of the newest layer, and of one below it
pub size_newest : (base : List ℕ) (os : List Overlay) (o : Overlay) (below : List Overlay) (layer : ℕ) (z : LayerSize) → os ≡ o ∷ below → layer ≡ 1 + length below → z ≡ size_of (text_of_all base below) (tags_of (text_of_all base below) o)
    → slice_get (sizes_from base (tags_above base os)) layer ≡ Some z
size_newest base os o below layer z os_is layer_is z_is = ap (λ (xs : List Overlay). slice_get (sizes_from base (tags_above base xs)) layer) os_is
    ∙ (newest_size base (tags_above base below) (tags_of (text_of_all base below) o) layer (omega (arith, layer_is, length_above base below)) ∙ ap (λ (y : LayerSize). Some y) (sym z_is))

pub size_older : (base : List ℕ) (os : List Overlay) (o : Overlay) (below : List Overlay) (layer : ℕ) (z : LayerSize) → os ≡ o ∷ below → layer ≤ length below → slice_get (sizes_from base (tags_above base below)) layer ≡ Some z
    → slice_get (sizes_from base (tags_above base os)) layer ≡ Some z
size_older base os o below layer z os_is layer_in is = ap (λ (xs : List Overlay). slice_get (sizes_from base (tags_above base xs)) layer) os_is
    ∙ (older_size base (tags_above base below) (tags_of (text_of_all base below) o) layer (omega (arith, layer_in, length_above base below)) ∙ is)

-- how many layers a text in layers has
pub layers_seen : (v : Layered) (base : List ℕ) (slots items : List (Option Held)) → slots ≡ items → on_base base (tags_above base (overlays_of items)) ≡ v → length (overlays_of slots) ≡ length v.above
layers_seen v base slots items slots_is view = ap (λ (hs : List (Option Held)). length (overlays_of hs)) slots_is ∙ (sym (length_above base (overlays_of items)) ∙ ap (λ (w : Layered). length w.above) view)
