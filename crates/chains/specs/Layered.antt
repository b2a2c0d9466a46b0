-- Texts in layers: a base, and above it texts whose units know where they stand in the text below.
use Rattle.std.specs.Prelude.{ℕ, zero, suc, ◌+◌, ◌&&◌, List, [], ◌∷◌, ◌++◌, length, map, sum_by, nat_lt, nat_le, Bool, if◌then◌else◌, slice_get, Option, option_and_then}
use Rattle.patch.specs.Hunk.{hunk_size}
use Rattle.patch.specs.Tagged.{Tagged, tagged, units_of, run, gaps}
use Rattle.chains.specs.declared.size.LayerSize.{LayerSize}

-- one replacement: the units from one offset up to another, by these
abbrev pub Edit : Type 0
Edit = ℕ × ℕ × List ℕ

-- the text of the base, and each layer above it, the newest first: the text that the layer gives, each unit with its offset
-- in the text below where it comes from there
pub record Layered : Type 0 where
  pub base : List ℕ
  pub above : List Tagged

-- the text of the newest layer
abbrev pub text_above : List ℕ → List Tagged → List ℕ
text_above base [] = base
text_above base (g ∷ gs) = units_of g

abbrev pub whole_text : Layered → List ℕ
whole_text v = text_above v.base v.above

abbrev pub on_base : List ℕ → List Tagged → Layered
on_base base above = record { base = base; above = above }

-- how many layers there are, the base among them
abbrev pub depth_of : Layered → ℕ
depth_of v = 1 + length v.above

-- the size of a layer on the text s: its changes, and the units of both their texts
abbrev pub size_of : List ℕ → Tagged → LayerSize
size_of s g = record { changes = length (gaps s g); units = sum_by hunk_size (gaps s g) }

-- at most so many changes and units
abbrev pub is_within : ℕ → ℕ → LayerSize → Bool
is_within changes units z = nat_le z.changes changes && nat_le z.units units

-- an edit may still go into a layer of this size
abbrev pub is_small : LayerSize → Bool
is_small z = is_within 63 65535 z

-- these edits as a layer of its own, or, where that would be the ninth, as a new base
abbrev pub with_layer : List ℕ → List Tagged → List Edit → Layered
with_layer base above es = let g : Tagged = run (tagged (text_above base above)) es in if nat_lt (1 + length above) 8 then on_base base (g ∷ above) else on_base (units_of g) []

-- the layers after edits: they go into the newest layer above the base where it is small
abbrev pub changed_above : List ℕ → List Tagged → List Edit → Layered
changed_above base [] es = with_layer base [] es
changed_above base (g ∷ gs) es = if is_small (size_of (text_above base gs) g) then on_base base (run g es ∷ gs) else with_layer base (g ∷ gs) es

abbrev pub after_change : Layered → List Edit → Layered
after_change v es = changed_above v.base v.above es

-- what g keeps of f's text, each unit with the offset that f gives it
abbrev pub retagged : Tagged → Tagged → Tagged
retagged f g = map (λ (x : ℕ × Option ℕ). (x.0, option_and_then (λ (i : ℕ). option_and_then (λ (y : ℕ × Option ℕ). y.1) (slice_get f i)) x.1)) g

-- the newest text, each unit with its offset in the base where it comes from there
abbrev pub tags_since : List ℕ → List Tagged → Tagged
tags_since base [] = tagged base
tags_since base (g ∷ gs) = retagged (tags_since base gs) g

-- all layers above the base as one, or, where that would be too large, as a new base
abbrev pub squashed : Layered → Layered
squashed v = let g : Tagged = tags_since v.base v.above in if is_within 512 65536 (size_of v.base g) then on_base v.base (g ∷ []) else on_base (whole_text v) []

-- the sizes of the layers, from the base to the newest
abbrev pub sizes_from : List ℕ → List Tagged → List LayerSize
sizes_from base [] = record { changes = 0; units = 0 } ∷ []
sizes_from base (g ∷ gs) = sizes_from base gs ++ size_of (text_above base gs) g ∷ []
