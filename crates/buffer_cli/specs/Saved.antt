-- What the saves of a script write: the bytes of each, and what sinks and a folder have of them.
use Rattle.std.specs.Prelude.{◌≡◌, ℕ, List, [], ◌∷◌, ◌++◌, Option, Some, None, IfSome}
use Rattle.outer.specs.Folder.{Files}
use Rattle.outer.specs.Sink.{Appends}
use Rattle.machine.specs.declared.command.Command.{Command}
use Rattle.machine.specs.declared.command.Command.TheVariants as command
use Rattle.machine.specs.declared.command.Script.{Script}
use Rattle.machine.specs.declared.reads.Read.{Read}
use Rattle.machine.specs.declared.reads.Read.TheVariants as read
use Rattle.machine.specs.Answers.{call_of}
use Rattle.machine.specs.Encodings.{encode}
use Rattle.machine.specs.Lawful.{reads_in}
use Rattle.machine.specs.Machine.{State}
use Rattle.machine.specs.Plain.{Kept, kept_text, after_call}
use Rattle.script.specs.Limits.{saved_names}
use Rattle.buffer_cli.specs.Answered.{held_after}

-- ---- what is saved

-- the bytes that a read of the text t saves, if it saves, and those of reads
abbrev pub file_in : List ℕ → Read → List (List ℕ)
file_in t (read.Save name encoding) = encode encoding t ∷ []
file_in t _ = []

abbrev pub files_among : List ℕ → List Read → List (List ℕ)
files_among t [] = []
files_among t (r ∷ rs) = file_in t r ++ files_among t rs

-- the text of the snapshot that a command reads
abbrev pub text_read : Command → List Kept → List ℕ
text_read (command.Read k reads) held = kept_text k held
text_read (command.Send k reads) held = kept_text k held
text_read _ held = []

-- the bytes of each save of these commands, in their order, from this state and with these snapshots live: the whole encoding of the
-- text that the snapshot had at its taking
abbrev pub saved_files : State → List Kept → List Command → List (List ℕ)
saved_files s held [] = []
saved_files s held (c ∷ cs) = files_among (text_read c held) (reads_in c) ++ saved_files (after_call s (call_of c)) (held_after s c held) cs

-- the names of a script's saves, in script order
abbrev pub names_saved : List (List Command) → List (List ℕ)
names_saved [] = []
names_saved (cs ∷ rest) = saved_names cs ++ names_saved rest

abbrev pub names_of : Option Script → List (List ℕ)
names_of None = []
names_of (Some script) = names_saved script.sessions

-- ---- sinks, of which the first takes a save and then stands last

-- by what each tells: the first took these bytes
pub record IsPut (bytes : List ℕ) (before after : List (Option (List ℕ))) : Type 0 where
  pub first : Option (List ℕ)
  pub rest : List (Option (List ℕ))
  pub now : Option (List ℕ)
  pub are : before ≡ first ∷ rest
  pub took : Appends bytes first now
  pub then : after ≡ rest ++ now ∷ []

-- they took these saves in turn
abbrev pub TakeInTurn : List (List ℕ) → List (Option (List ℕ)) → List (Option (List ℕ)) → Type 0
TakeInTurn [] before after = after ≡ before
TakeInTurn (bytes ∷ more) before after = (between : List (Option (List ℕ))) × IsPut bytes before between × TakeInTurn more between after

-- ---- a folder

-- where the folder tells its files, each of these names holds these bytes
abbrev pub HoldFiles : List (List ℕ) → List (List ℕ) → Option Files → Type 0
HoldFiles [] [] told = Unit {0}
HoldFiles [] (b ∷ bytes) told = ⊥
HoldFiles (name ∷ names) [] told = ⊥
HoldFiles (name ∷ names) (b ∷ bytes) told = IfSome told (λ files. files name ≡ Some b) × HoldFiles names bytes told
