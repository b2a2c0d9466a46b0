-- Where nothing fails, a run ends as its input asks for.
use Rattle.std.proofs.Common.{◌≡◌, ◌⊎◌, inl, inr, ℕ, ◌<◌, ◌≤◌, List, length, length-append, true, cond, is_some, Option, Some, None, option_and_then, refl, sym, subst, ap, ◌∙◌, arith}
use Rattle.std.specs.Prelude.{nat_lt, IfSome, Vec, Ok}
use Rattle.std.specs.declared.alloc.Global.{Global}
use Rattle.std.proofs.lemmas.Bool.{le-ltb}
use Rattle.std.proofs.lemmas.Bool.Decides.{nat_tests}
use Rattle.std.proofs.lemmas.Option.{none-some}
use Rattle.points.specs.declared.limits.TheConstants.{MAX_UNITS}
use Rattle.outer.specs.Folder.{Files, bytes_of}
use Rattle.outer.specs.Source.{Gives}
use Rattle.outer.proofs.Given.{Gives-all}
use Rattle.machine.specs.declared.command.Opening.{Opening}
use Rattle.machine.specs.declared.command.Opening.TheVariants as opening
use Rattle.machine.specs.declared.command.Script.{Script}
use Rattle.machine.specs.declared.reads.Encoding.{Encoding}
use Rattle.codecs.specs.Decoding.{decoded}
use Rattle.script.specs.Rules.{Fault, built_place}
use Rattle.script.specs.ScriptDocument.{document, reading, script_of, script_in, place_in, script_place}
use Rattle.machine.specs.Answers.{Matches}
use Rattle.buffer_cli.specs.Input.{max_input, ReadsAs}
use Rattle.buffer_cli.specs.Load.{opened_with, IsFile, IsLongFile, IsLongText, OpensFile}
use Rattle.buffer_cli.specs.declared.answer.Unanswered.{Unanswered}
use Rattle.buffer_cli.specs.declared.answer.Unanswered.TheVariants as unanswered
use Rattle.buffer_cli.specs.Run.{IsAnswer, IsCause, expected, is_of_pattern, of_answer, status_of, status_of_opening}
use Rattle.buffer_cli.specs.declared.status.Status.{Status}
use Rattle.buffer_cli.specs.declared.status.Status.TheVariants as status

above : (m n : ℕ) → m < n → nat_lt m n ≡ true
above m n h = grind (arith, nat_tests)

-- bytes that are a script's have no place that breaks a rule
unbroken_by : (o : Option Fault) (p : Option Script) (s : Script) → cond (is_some o) None p ≡ Some s → o ≡ None
unbroken_by None p s e = refl
unbroken_by (Some x) p s e = absurd (none-some s e)

of_there : {A : Type 0} (f : A → Option Script) (place : Option A → Option Fault) (d : Option A) (s : Script) → ((x : A) → f x ≡ Some s → place (Some x) ≡ None) → option_and_then f d ≡ Some s → place d ≡ None
of_there f place None s each e = absurd (none-some s e)
of_there f place (Some x) s each e = each x e

pub unbroken : (bytes : List ℕ) (s : Script) → script_in bytes ≡ Some s → script_place bytes ≡ None
unfolding script_of
unbroken bytes s e = of_there script_of place_in (document bytes) s (λ d found. unbroken_by (built_place d) (reading d) s found) e

-- this status is the one that is asked for, unless memory ran out
abbrev IsAsked : Status → Option Status → Type 0
IsAsked s asked = IfSome asked (λ wanted. (s ≡ wanted) ⊎ (s ≡ status.NoMemory))

-- memory ran out
no_memory : (asked : Option Status) → IsAsked status.NoMemory asked
no_memory None = tt
no_memory (Some wanted) = inr refl

-- a script that was read, over its opening
done_by : (told : Option Files) (o : Opening) (file : List ℕ) → IsFile o told file → length (opened_with o file) ≤ MAX_UNITS → IsAsked status.Done (status_of_opening told o)
done_by told (opening.Text text) file is short = inl refl
done_by None (opening.File name encoding) file is short = tt
done_by (Some files) (opening.File name encoding) file is short = rw (is.1, le-ltb max_input (length file) is.0, le-ltb MAX_UNITS (length (decoded encoding file)) short) (inl refl)

long_by : (told : Option Files) (name : List ℕ) (encoding : Encoding) → IsLongFile name told → IsAsked status.InputTooLong (status_of_opening told (opening.File name encoding))
long_by None name encoding long = tt
long_by (Some files) name encoding long =
    let over : max_input < length (bytes_of files name) = omega (arith, long.over, ap length long.front.1, length-append long.file long.front.0) in
    rw (above max_input (length (bytes_of files name)) over) (inl refl)

text_by : (told : Option Files) (name : List ℕ) (encoding : Encoding) → IsLongText name encoding told → IsAsked status.TextTooLong (status_of_opening told (opening.File name encoding))
text_by None name encoding long = tt
text_by (Some files) name encoding long = rw (long.is.1, le-ltb max_input (length long.file) long.is.0, above MAX_UNITS (length (decoded encoding long.file)) long.over) (inl refl)

-- an input within its limit
module _ (bytes : List ℕ) (told : Option Files) (short : length bytes ≤ max_input) where
  within : expected bytes told ≡ status_of told (script_place bytes) (script_in bytes)
  within = rw (le-ltb max_input (length bytes) short) refl

  of_script : (s : Status) (script : Script) → script_in bytes ≡ Some script → IsAsked s (status_of_opening told script.opening) → IsAsked s (expected bytes told)
  of_script s script read h = subst (IsAsked s) (sym (within ∙ rw (unbroken bytes script read, read) refl)) h

  of_file : (s : Status) (name : List ℕ) (encoding : Encoding) → OpensFile bytes name encoding → IsAsked s (status_of_opening told (opening.File name encoding)) → IsAsked s (expected bytes told)
  of_file s name encoding opens h = of_script s opens.script opens.read (subst (λ (o : Opening). IsAsked s (status_of_opening told o)) (sym opens.opens) h)

  refused_by : (place : Fault) → script_place bytes ≡ Some place → IsAsked (status.ScriptRefused place.0 place.1 place.2) (expected bytes told)
  refused_by place is =
      let asked : expected bytes told ≡ Some (status.ScriptRefused place.0 place.1 place.2) = within ∙ rw is refl in
      subst (IsAsked (status.ScriptRefused place.0 place.1 place.2)) (sym asked) (inl refl)

-- The faults of a run, each with its cause: the counts that rose.
module _ (read_rose write_rose load_rose save_rose pattern_rose : Type 0) where
  abbrev IsComplete : Status → Option Status → Type 0
  IsComplete s asked = IfSome asked (λ wanted. ¬ read_rose → ¬ write_rose → ¬ load_rose → ¬ save_rose → ¬ pattern_rose → (s ≡ wanted) ⊎ (s ≡ status.NoMemory))

  by_asked : (s : Status) (asked : Option Status) → IsAsked s asked → IsComplete s asked
  by_asked s None h = tt
  by_asked s (Some wanted) h = λ read write load save pattern. h

  by_write : (s : Status) (asked : Option Status) → write_rose → IsComplete s asked
  by_write s None rose = tt
  by_write s (Some wanted) rose = λ read write load save pattern. absurd (write rose)

  by_load : (s : Status) (asked : Option Status) → load_rose → IsComplete s asked
  by_load s None rose = tt
  by_load s (Some wanted) rose = λ read write load save pattern. absurd (load rose)

  by_save : (s : Status) (asked : Option Status) → save_rose → IsComplete s asked
  by_save s None rose = tt
  by_save s (Some wanted) rose = λ read write load save pattern. absurd (save rose)

  by_pattern : (s : Status) (asked : Option Status) → pattern_rose → IsComplete s asked
  by_pattern s None rose = tt
  by_pattern s (Some wanted) rose = λ read write load save pattern. absurd (pattern rose)

  -- the output failed
  pub complete_unwritten : (s : Status) (told : Option Files) (left : Option (List ℕ)) → write_rose → IfSome left (λ bytes. IsComplete s (expected bytes told))
  complete_unwritten s told None rose = tt
  complete_unwritten s told (Some bytes) rose = by_write s (expected bytes told) rose

  -- the whole input was read: these bytes
  read_whole : (P : List ℕ → Type 0) (v : Vec ℕ Global) (left after : Option (List ℕ)) → (bytes : List ℕ) × Gives bytes left after × ReadsAs (Ok v) bytes after → P v.items → IfSome left P
  read_whole P v None after read h = tt
  read_whole P v (Some bytes) after read h = subst P (read.2.0 ∙ sym (Gives-all read.0 (Some bytes) after read.1 read.2.2)) h

  short_enough : (v : Vec ℕ Global) (left after : Option (List ℕ)) → (bytes : List ℕ) × Gives bytes left after × ReadsAs (Ok v) bytes after → length v.items ≤ max_input
  short_enough v left after read = subst (λ (b : List ℕ). length b ≤ max_input) (sym read.2.0) read.2.1

  pub complete_done : (tells : List ℕ → Option Matches) (told later : Option Files) (v : Vec ℕ Global) (text : List ℕ) (left after : Option (List ℕ)) → (bytes : List ℕ) × Gives bytes left after × ReadsAs (Ok v) bytes after
      → IsAnswer tells told later v.items text → IfSome left (λ bytes. IsComplete status.Done (expected bytes told))
  complete_done tells told later v text left after read is =
      read_whole (λ bytes. IsComplete status.Done (expected bytes told)) v left after read
      (by_asked _ _ (of_script v.items told (short_enough v left after read) status.Done is.script is.read (done_by told is.script.opening is.file is.opens is.short)))

  module _ (last : Option (List ℕ)) (told later : Option Files) (v : Vec ℕ Global) (left after : Option (List ℕ)) (read : (bytes : List ℕ) × Gives bytes left after × ReadsAs (Ok v) bytes after) where
    refused : (why : Unanswered) → IsCause v.items last told later why → (why ≡ unanswered.LoadFault → load_rose) → (why ≡ unanswered.SaveFault → save_rose) → (is_of_pattern why ≡ true → pattern_rose) → IsComplete (of_answer why) (expected v.items told)
    refused (unanswered.ScriptRefused session command why) h load save pattern = by_asked _ _ (refused_by v.items told (short_enough v left after read) (session, command, why) h.0)
    refused (unanswered.PatternRefused session command) h load save pattern = by_pattern _ _ (pattern refl)
    refused unanswered.SaveFault h load save pattern = by_save _ _ (save refl)
    refused unanswered.LoadFault h load save pattern = by_load _ _ (load refl)
    refused unanswered.InputTooLong h load save pattern =
        let file = h.0 in by_asked _ _ (of_file v.items told (short_enough v left after read) status.InputTooLong file.name file.encoding file.opens (long_by told file.name file.encoding file.long))
    refused unanswered.TextTooLong h load save pattern =
        let file = h.0 in by_asked _ _ (of_file v.items told (short_enough v left after read) status.TextTooLong file.name file.encoding file.opens (text_by told file.name file.encoding file.long))
    refused unanswered.NoMemory h load save pattern = by_asked _ _ (no_memory (expected v.items told))

    pub complete_refused : (why : Unanswered) (s : Status) → s ≡ of_answer why → IsCause v.items last told later why → (why ≡ unanswered.LoadFault → load_rose) → (why ≡ unanswered.SaveFault → save_rose) → (is_of_pattern why ≡ true → pattern_rose)
        → IfSome left (λ bytes. IsComplete s (expected bytes told))
    complete_refused why s is h load save pattern = read_whole (λ bytes. IsComplete s (expected bytes told)) v left after read (subst (λ (t : Status). IsComplete t (expected v.items told)) (sym is) (refused why h load save pattern))
