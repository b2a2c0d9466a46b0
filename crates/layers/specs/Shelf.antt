-- A shelf: texts in layers at numbered places, and layers that stand at no place yet.
use Rattle.std.specs.Prelude.{◌≡◌, ℕ, List, [], find, nat_lt, Option, Some, option_map}
use Rattle.std.specs.List.{All}
use Rattle.std.specs.Option.{unwrap_or}
use Rattle.places.specs.declared.placed.Placed.{Placed}
use Rattle.places.specs.Placed.{placed_at, top_id, with_top, chain_of}
use Rattle.chains.specs.Layered.{Layered, Edit, on_base, whole_text, depth_of, after_change, squashed}
use Rattle.layers.specs.declared.versioned.Versioned.{Versioned}
use Rattle.layers.specs.Unplaced.{Unplaced}
use Rattle.layers.specs.Reading.{VersionedText}

-- what stands at each live place, oldest first: the last is the top
abbrev pub Shelved : Type 0
Shelved = List (Placed Versioned)

-- the depth of each place is that of its layers
abbrev pub HasDepths : Shelved → Type 0
HasDepths s = All (λ e. e.depth ≡ depth_of e.held.layers) s

-- what stands at a place
abbrev pub held_at : Shelved → ℕ → Versioned
held_at s p = unwrap_or (option_map (λ e. e.held) (placed_at s p)) (record { layers = on_base [] []; version = 0 })

abbrev pub layers_at : Shelved → ℕ → Layered
layers_at s p = (held_at s p).layers

-- its text and version
abbrev pub shown_at : Shelved → ℕ → VersionedText
shown_at s p = record { text = whole_text (layers_at s p); version = (held_at s p).version }

-- what stands at the top's place, its layers, text and version
abbrev pub top_held : Shelved → Versioned
top_held s = held_at s (top_id s).place

abbrev pub top_layers : Shelved → Layered
top_layers s = (top_held s).layers

abbrev pub top_text : Shelved → List ℕ
top_text s = whole_text (top_layers s)

abbrev pub top_version : Shelved → ℕ
top_version s = (top_held s).version

-- how many places the chain of a place has
abbrev pub depth_at : Shelved → ℕ → ℕ
depth_at s p = unwrap_or (option_map (λ e. e.depth) (placed_at s p)) 0

-- the place on which a layer of this depth stands: the first in the chain of the top that is less deep. A base stands on none
abbrev pub ground_of : Shelved → ℕ → Option ℕ
ground_of s depth = find (λ p. nat_lt (depth_at s p) depth) (chain_of s 8 (Some (top_id s).place))

-- the shelf with a new layer at a place, as the top
abbrev pub installed : Shelved → ℕ → Unplaced → Shelved
installed s place n = with_top s place (ground_of s (depth_of n.layers)) (record { layers = n.layers; version = n.version })

-- the top's layers after edits of its text
abbrev pub changed_top : Shelved → ℕ → List Edit → Unplaced
changed_top s version es = record { layers = after_change (top_layers s) es; version = version; on = top_id s }

-- the top's layers as a base and one layer, or as a new base
abbrev pub squashed_top : Shelved → Unplaced
squashed_top s = record { layers = squashed (top_layers s); version = top_version s; on = top_id s }

-- the top's text as a new base
abbrev pub based_top : Shelved → Unplaced
based_top s = record { layers = on_base (top_text s) []; version = top_version s; on = top_id s }
