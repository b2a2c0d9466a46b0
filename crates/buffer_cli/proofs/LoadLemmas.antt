-- What a source gave of the file that a script opens.
use Rattle.std.proofs.Common.{◌≡◌, ℕ, ◌<◌, ◌≤◌, List, ◌++◌, Option, Some, None, Result, Ok, Err, refl, sym, subst, ◌∙◌}
use Rattle.std.specs.Prelude.{Vec, IfSome}
use Rattle.std.specs.declared.alloc.Global.{Global}
use Rattle.std.proofs.lemmas.Option.{none-some, same_Some}
use Rattle.outer.specs.Count.{Rose}
use Rattle.outer.specs.Folder.{Files, bytes_of, KeepsAll}
use Rattle.outer.specs.Source.{Gives, IsAtEnd}
use Rattle.outer.proofs.Counts.{Rose-after}
use Rattle.outer.proofs.Given.{Gives-all}
use Rattle.outer.proofs.Kept.{KeepsAll-then, KeepsOthers-all, Rose-fresh}
use Rattle.machine.specs.declared.reads.Encoding.{Encoding}
use Rattle.buffer_cli.specs.Input.{ReadsAs}
use Rattle.buffer_cli.specs.Load.{IsFileOf, IsFetched, Loads}
use Rattle.buffer_cli.specs.LoadFaults.{of_input}
use Rattle.buffer_cli.specs.declared.input.InputFault.{InputFault}
use Rattle.buffer_cli.specs.declared.input.InputFault.TheVariants as fault
use Rattle.buffer_cli.specs.declared.load.Unloaded.TheVariants as unloaded

-- a folder that wasn't called
pub KeepsAll-self : (told : Option Files) → KeepsAll told told
KeepsAll-self None = tt
KeepsAll-self (Some files) = λ name. refl

module _ (name : List ℕ) where
  whole_of : (told : Option Files) (left after : Option (List ℕ)) (bytes : List ℕ) → IfSome told (λ had. left ≡ Some (bytes_of had name)) → Gives bytes left after → IsAtEnd after → IfSome told (λ files. bytes_of files name ≡ bytes)
  whole_of None left after bytes source gives end = tt
  whole_of (Some files) left after bytes source gives end = subst (λ (l : Option (List ℕ)). IfSome l (λ all. all ≡ bytes)) source (Gives-all bytes left after gives end)

  front_of : (told : Option Files) (left after : Option (List ℕ)) (bytes : List ℕ) → IfSome told (λ had. left ≡ Some (bytes_of had name)) → Gives bytes left after → IfSome told (λ files. (rest : List ℕ) × (bytes_of files name ≡ bytes ++ rest))
  front_of None left after bytes source gives = tt
  front_of (Some files) left None bytes source gives = absurd (none-some _ (sym gives ∙ source))
  front_of (Some files) left (Some rest) bytes source gives = (rest, same_Some _ _ (sym source ∙ gives))

  -- the source was read, and the folder was left as it was
  pub fetched_by : (first between last : Option Files) (left after : Option (List ℕ)) (r : Result (Vec ℕ Global) InputFault) → KeepsAll first between → KeepsAll between last → IfSome first (λ had. left ≡ Some (bytes_of had name))
      → (bytes : List ℕ) × Gives bytes left after × ReadsAs r bytes after → IsFetched name first last r
  fetched_by first between last left after (Ok v) one two source read =
      ((subst (λ (b : List ℕ). IsFileOf name first b) (sym read.2.0) (read.2.1, whole_of first left after read.0 source read.1 read.2.2)), KeepsAll-then first between last one two)
  fetched_by first between last left after (Err fault.Failed) one two source read = KeepsOthers-all name first last (KeepsAll-then first between last one two)
  fetched_by first between last left after (Err fault.TooLong) one two source read =
      (record { file = read.0; over = read.2; front = front_of first left after read.0 source read.1 }, KeepsAll-then first between last one two)
  fetched_by first between last left after (Err fault.NoMemory) one two source read = KeepsAll-then first between last one two

  -- a fault of the source is one of the text
  pub loads_fault : (encoding : Encoding) (before after : Option Files) (f : InputFault) → IsFetched name before after (Err f) → Loads name encoding before after (Err (of_input f))
  loads_fault encoding before after fault.Failed h = h
  loads_fault encoding before after fault.TooLong h = h
  loads_fault encoding before after fault.NoMemory h = h

pub failed_input : (f : InputFault) → of_input f ≡ unloaded.Failed → f ≡ fault.Failed
failed_input fault.Failed is = refl
failed_input fault.TooLong is = absurd cc
failed_input fault.NoMemory is = absurd cc

-- a source that was fresh failed, and was closed
pub closed_fault : (first between last before after : ℕ) → first ≤ between → before ≡ 0 → Rose before after → (0 < after → Rose between last) → Rose first last
closed_fault first between last before after grows fresh rose rises = Rose-after first between last grows (rises (Rose-fresh before after fresh rose))
