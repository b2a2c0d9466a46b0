-- Lists of files, and the folders in memory over them.
use Rattle.std.specs.Prelude.{ℕ, List, [], ◌∷◌, ◌++◌, Bool, not, ◌||◌, if◌then◌else◌, Option, Some, None, is_some, option_map}
use Rattle.std.specs.Str.{bytes_eq}
use Rattle.outer.specs.Folder.{Files}
use Rattle.outer.specs.Plan.{Plan, is_due}

-- the name and the bytes of each file
abbrev pub FileList : Type 0
FileList = List (List ℕ × List ℕ)

-- the bytes of the first file with this name
abbrev pub found : FileList → Files
found [] name = None
found (f ∷ fs) name = if bytes_eq f.0 name then Some f.1 else found fs name

-- the list with a file of this name, an empty one where there was none
abbrev pub with_name : List ℕ → FileList → FileList
with_name name files = if is_some (found files name) then files else files ++ (name, []) ∷ []

-- the list with these bytes in the first file with this name
abbrev pub with_bytes : List ℕ → List ℕ → FileList → FileList
with_bytes name bytes [] = []
with_bytes name bytes (f ∷ fs) = if bytes_eq f.0 name then (f.0, bytes) ∷ fs else f ∷ with_bytes name bytes fs

-- a folder whose calls fail by a plan, which counts the faults in loading, and the count of those in saving
pub record PlannedFolder : Type 0 where
  pub files : FileList
  pub plan : Plan
  pub saves : ℕ

-- such a folder fails to fetch this name now
abbrev pub fails_fetch : PlannedFolder → List ℕ → Bool
fails_fetch f name = is_due f.plan || not (is_some (found f.files name))

-- what a folder that never fails tells, after it kept a sink that told this
abbrev pub kept_in : List ℕ → Option (List ℕ) → Option FileList → Option FileList
kept_in name None told = None
kept_in name (Some bytes) told = option_map (with_bytes name bytes) told
