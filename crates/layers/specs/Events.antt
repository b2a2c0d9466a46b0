-- Lists of calls on a shelf, and what they make of the top.
use Rattle.std.specs.Prelude.{◌≡◌, ℕ, ◌<◌, List, [], ◌∷◌, ◌++◌, length, map, filter, get_or}
use Rattle.points.specs.Text.{replaced}
use Rattle.places.specs.Placed.{top_id, noted, quieted, narrowed, is_kept}
use Rattle.places.specs.Table.{IsTable, IsLowestFree}
use Rattle.chains.specs.Layered.{Edit, on_base, whole_text, after_change, squashed}
use Rattle.layers.specs.declared.versioned.Versioned.{Versioned}
use Rattle.layers.specs.Unplaced.{Unplaced}
use Rattle.layers.specs.Shelf.{Shelved, installed, changed_top, squashed_top, based_top}

-- what a layer is built by: an edit, which gives the layer its version; all layers put together; a new base
pub data Plan : Type 0 where
  edit : ℕ → Edit → Plan
  squash : Plan
  rebase : Plan

-- a text in layers after an edit, a squash or a new base
abbrev pub made : Versioned → Plan → Versioned
made v (edit version e) = record { layers = after_change v.layers (e ∷ []); version = version }
made v squash = record { layers = squashed v.layers; version = v.version }
made v rebase = record { layers = on_base (whole_text v.layers) []; version = v.version }

-- and after several in turn: the chain of edits
abbrev pub chained : Versioned → List Plan → Versioned
chained v [] = v
chained v (p ∷ ps) = chained (made v p) ps

-- its text: each edit replaces units, and nothing else changes it
abbrev pub text_after : List ℕ → List Plan → List ℕ
text_after t [] = t
text_after t (edit version e ∷ ps) = text_after (replaced t e.0 e.1 e.2) ps
text_after t (p ∷ ps) = text_after t ps

-- its version: that of the last edit
abbrev pub version_after : ℕ → List Plan → ℕ
version_after n [] = n
version_after n (edit version e ∷ ps) = version_after version ps
version_after n (p ∷ ps) = version_after n ps

-- a call: a layer is built on the top; the layer that was built as number k is installed at a place; hands are put on a
-- place; they are taken from all places but the top; each stays at its newest; and what nobody needs is freed
pub data Event : Type 0 where
  build : Plan → Event
  install : ℕ → ℕ → Event
  note : ℕ → ℕ → Event
  quiet : ℕ → Event
  narrow : Event
  collect : Event

-- a shelf, and all layers that were built on it so far
pub record Work : Type 0 where
  pub shelf : Shelved
  pub layers : List Unplaced

-- nothing was built yet
abbrev pub fresh : Shelved → Work
fresh s = record { shelf = s; layers = [] }

-- what a plan gives on the top
abbrev pub built : Shelved → Plan → Unplaced
built s (edit version e) = changed_top s version (e ∷ [])
built s squash = squashed_top s
built s rebase = based_top s

-- the layer that was built as number k
abbrev pub layer_at : Work → ℕ → Unplaced
layer_at w k = get_or w.layers k (based_top [])

abbrev pub after : Work → Event → Work
after w (build p) = record { shelf = w.shelf; layers = w.layers ++ built w.shelf p ∷ [] }
after w (install k place) = record { shelf = installed w.shelf place (layer_at w k); layers = w.layers }
after w (note place hands) = record { shelf = map (noted place hands) w.shelf; layers = w.layers }
after w (quiet hands) = record { shelf = quieted hands w.shelf; layers = w.layers }
after w narrow = record { shelf = narrowed w.shelf; layers = w.layers }
after w collect = record { shelf = filter (is_kept w.shelf) w.shelf; layers = w.layers }

-- what is installed was built on the top that is there still
pub record CanInstall (w : Work) (k place : ℕ) : Type 0 where
  pub made_before : k < length w.layers
  pub still : (layer_at w k).on ≡ top_id w.shelf
  pub free : IsLowestFree w.shelf place

abbrev pub Allows : Work → Event → Type 0
Allows w (install k place) = CanInstall w k place
Allows w collect = IsTable w.shelf
Allows w e = Unit {0}

abbrev pub after_all : Work → List Event → Work
after_all w [] = w
after_all w (e ∷ es) = after_all (after w e) es

abbrev pub AllowsAll : Work → List Event → Type 0
AllowsAll w [] = Unit {0}
AllowsAll w (e ∷ es) = Allows w e × AllowsAll (after w e) es

-- the edits, squashes and bases that are installed, in turn; `ps` are those of all layers built so far
abbrev pub installs : List Plan → List Event → List Plan
installs ps [] = []
installs ps (build p ∷ es) = installs (ps ++ p ∷ []) es
installs ps (install k place ∷ es) = get_or ps k rebase ∷ installs ps es
installs ps (e ∷ es) = installs ps es
