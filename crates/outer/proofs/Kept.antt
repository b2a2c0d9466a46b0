-- What stands in a folder over several calls in a row.
use Rattle.std.proofs.Common.{◌≡◌, ℕ, ◌<◌, List, [], ◌++◌, ap, ◌∙◌, arith}
use Rattle.std.specs.Prelude.{Option, Some, None, IfSome}
use Rattle.outer.specs.Count.{Rose}
use Rattle.outer.specs.Folder.{Files, KeepsOthers, KeepsAll, Holds}
use Rattle.outer.specs.Sink.{Appends}

-- two calls that leave every name
pub KeepsAll-then : (first between last : Option Files) → KeepsAll first between → KeepsAll between last → KeepsAll first last
KeepsAll-then first between None one two = tt
KeepsAll-then first None (Some files) one two = absurd two
KeepsAll-then None (Some had) (Some files) one two = absurd one
KeepsAll-then (Some start) (Some had) (Some files) one two = λ name. two name ∙ one name

-- what leaves every name leaves every other one
pub KeepsOthers-all : (name : List ℕ) (before after : Option Files) → KeepsAll before after → KeepsOthers name before after
KeepsOthers-all name before None all = tt
KeepsOthers-all name None (Some files) all = absurd all
KeepsOthers-all name (Some had) (Some files) all = λ other apart. all other

-- two calls that leave every name but one
pub KeepsOthers-then : (name : List ℕ) (first between last : Option Files) → KeepsOthers name first between → KeepsOthers name between last → KeepsOthers name first last
KeepsOthers-then name first between None one two = tt
KeepsOthers-then name first None (Some files) one two = absurd two
KeepsOthers-then name None (Some had) (Some files) one two = absurd one
KeepsOthers-then name (Some start) (Some had) (Some files) one two = λ other apart. two other apart ∙ one other apart

-- a name holds what was put to a sink that had no bytes
pub Holds-put : (name bytes : List ℕ) (before after : Option (List ℕ)) (told : Option Files) → IfSome before (λ had. had ≡ []) → Appends bytes before after → Holds name after told → IfSome told (λ files. files name ≡ Some bytes)
Holds-put name bytes before after None empty puts holds = tt
Holds-put name bytes before None (Some files) empty puts holds = absurd holds
Holds-put name bytes None (Some taken) (Some files) empty puts holds = absurd puts
Holds-put name bytes (Some had) (Some taken) (Some files) empty puts holds = holds ∙ ap Some (puts ∙ ap (λ b. b ++ bytes) empty)

-- a source or a sink that began with no faults, and whose count rose, has some
pub Rose-fresh : (before after : ℕ) → before ≡ 0 → Rose before after → 0 < after
Rose-fresh before after fresh rose = grind (arith, fresh, rose)
