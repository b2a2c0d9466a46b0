-- Texts in layers, as the edits that made them.
use Rattle.std.specs.Prelude.{ℕ, ◌+◌, List, [], ◌∷◌, ◌++◌, length, nat_lt, if◌then◌else◌}
use Rattle.patch.specs.Tagged.{Tagged, tagged, units_of, run}
use Rattle.chains.specs.Layered.{Edit, Layered, text_above, on_base, size_of, is_small, is_within}

-- a base, and for each layer above it the edits made since the text below, the newest layer first
pub record EditChain : Type 0 where
  pub base : List ℕ
  pub edits : List (List Edit)

abbrev pub edits_on : List ℕ → List (List Edit) → EditChain
edits_on base edits = record { base = base; edits = edits }

-- all edits, in the order in which they were made
abbrev pub all_edits : List (List Edit) → List Edit
all_edits [] = []
all_edits (es ∷ ess) = all_edits ess ++ es

-- the text: all edits run on the base
abbrev pub text_of_edits : EditChain → List ℕ
text_of_edits c = units_of (run (tagged c.base) (all_edits c.edits))

-- each layer: its edits run on the text below
abbrev pub layers_of : List ℕ → List (List Edit) → List Tagged
layers_of base [] = []
layers_of base (es ∷ ess) = run (tagged (text_above base (layers_of base ess))) es ∷ layers_of base ess

abbrev pub layered : EditChain → Layered
layered c = on_base c.base (layers_of c.base c.edits)

-- these edits as a layer of its own, or, where that would be the ninth, as a new base
abbrev pub with_newest : List ℕ → List (List Edit) → List Edit → EditChain
with_newest base ess es = if nat_lt (1 + length ess) 8 then edits_on base (es ∷ ess) else edits_on (text_of_edits (edits_on base (es ∷ ess))) []

-- the chain after edits: they join those of the newest layer above the base where it is small
abbrev pub joined_above : List ℕ → List (List Edit) → List Edit → EditChain
joined_above base [] es = with_newest base [] es
joined_above base (e ∷ ess) es = if is_small (size_of (text_above base (layers_of base ess)) (run (tagged (text_above base (layers_of base ess))) e)) then edits_on base ((e ++ es) ∷ ess) else with_newest base (e ∷ ess) es

abbrev pub with_edits : EditChain → List Edit → EditChain
with_edits c es = joined_above c.base c.edits es

-- all edits as one layer, or, where that would be too large, as a new base
abbrev pub squashed_edits : EditChain → EditChain
squashed_edits c = if is_within 512 65536 (size_of c.base (run (tagged c.base) (all_edits c.edits))) then edits_on c.base (all_edits c.edits ∷ []) else edits_on (text_of_edits c) []
