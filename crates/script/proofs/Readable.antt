-- The scripts that are read: of what is built, their numbers within their limits.
use Rattle.std.proofs.Common.{◌≡◌, List, [], ◌∷◌, length, Bool, true, refl}
use Rattle.std.specs.List.{AllByRecursion, list_all}
use Rattle.std.proofs.lemmas.Bool.{and_from, eq-eqb}
use Rattle.machine.specs.declared.command.Command.{Command}
use Rattle.machine.specs.declared.command.Command.TheVariants as command
use Rattle.machine.specs.declared.command.Script.{Script}
use Rattle.script.specs.Limits.{has_built_word, IsReadable}
use Rattle.script.specs.ScriptValue.{is_built}

pub record IsReadableScript (s : Script) : Type 0 where
  pub version : s.version ≡ 1
  pub one : length s.sessions ≡ 1
  pub commands : AllByRecursion (AllByRecursion IsReadable) s.sessions

all_hold : {A : Type 0} (P : A → Type 0) (test : A → Bool) → ((x : A) → P x → test x ≡ true) → (xs : List A) → AllByRecursion P xs → list_all test xs ≡ true
all_hold P test each [] h = refl
all_hold P test each (x ∷ xs) h = and_from (test x) (list_all test xs) (each x h.0) (all_hold P test each xs h.1)

pub command_built : (c : Command) → IsReadable c → has_built_word c ≡ true
command_built (command.Edit range text) h = refl
command_built (command.Text range limit) h = refl
command_built command.Undo h = refl
command_built command.Redo h = refl
command_built command.Squash h = refl
command_built (command.Unmark id) h = refl
command_built (command.Range id) h = refl
command_built (command.Exclusive id value) h = refl
command_built (command.Compare a c) h = refl
command_built (command.Mark id range exclusive) h = refl
command_built (command.Marks how range) h = refl
command_built (command.Watch id) h = refl
command_built (command.Unwatch id) h = refl
command_built (command.Take snapshot) h = refl
command_built (command.Read snapshot reads) h = refl
command_built (command.Send snapshot reads) h = refl
command_built (command.Release snapshot) h = refl
command_built c h = absurd h

session_built : (cs : List Command) → AllByRecursion IsReadable cs → AllByRecursion (λ c. has_built_word c ≡ true) cs
session_built [] h = tt
session_built (c ∷ cs) h = (command_built c h.0, session_built cs h.1)

pub each_built : (sessions : List (List Command)) → AllByRecursion (AllByRecursion IsReadable) sessions → AllByRecursion (λ cs. AllByRecursion (λ c. has_built_word c ≡ true) cs) sessions
each_built [] h = tt
each_built (cs ∷ rest) h = (session_built cs h.0, each_built rest h.1)

-- it is built
pub readable_built : (s : Script) → IsReadableScript s → is_built s ≡ true
readable_built s h = rw (eq-eqb (length s.sessions) 1 h.one) (all_hold (AllByRecursion IsReadable) (list_all has_built_word) (all_hold IsReadable has_built_word command_built) s.sessions h.commands)
