-- What the words ask for, by what the parse answers.
use Rattle.std.proofs.Common.{◌≡◌, true, false, List, [], ◌∷◌, Option, None, refl, sym, ◌∙◌, inl, inr, subst}
use Rattle.clap.specs.Values.{kind_of}
use Rattle.clap.specs.Kinds.{Kinds, HasKind, IsAmong}
use Rattle.clap.specs.Walk.{Text, Row}
use Rattle.clap.specs.Simple.{App, is_simple, subcommand_of}
use Rattle.clap.specs.Faults.{fault_of, is_simple_and_free}
use Rattle.clap.specs.declared.error.Error.{Error}
use Rattle.clap.specs.declared.error.kind.ErrorKind.{ErrorKind}
use Rattle.clap.specs.declared.error.kind.ErrorKind.TheVariants.{OutOfMemory}
use Rattle.clap.proofs.OnLiterals.{clap_on_literals}
use Rattle.command_words.specs.declared.line.CommandLine.{CommandLine}
use Rattle.command_words.specs.CommandLine.{words_app, line_of, is_taken, command_line}

-- the command is one whose parse is known exactly
words_app_is_simple : is_simple words_app ≡ true
unfolding clap_on_literals
words_app_is_simple = refl

words_app_is_free : is_simple_and_free words_app ≡ true
unfolding clap_on_literals
words_app_is_free = refl

-- no step of the parse fails
is_line : (words : List Text) (met : Option (Text × List Row)) → fault_of words_app words ≡ [] → met ≡ subcommand_of words_app words → line_of met ≡ command_line words
unfolding command_line
is_line words met taken is = rw (taken, is) refl

-- what the line is, by the command that was built
pub answered : (app : App) (words : List Text) (met : Option (Text × List Row)) (o : Option CommandLine) → app ≡ words_app
    → fault_of app words ≡ [] → met ≡ subcommand_of app words → o ≡ line_of met → command_line words ≡ o
answered app words met o same taken is said =
    sym (said ∙ is_line words met (subst (λ (a : App). fault_of a words ≡ []) same taken) (subst (λ (a : App). met ≡ subcommand_of a words) same is))

among_some : (k : ErrorKind) (kinds : Kinds) → IsAmong k kinds → is_taken kinds ≡ false
among_some k [] h = absurd h
among_some k (x ∷ xs) h = refl

has_some : (kinds : Kinds) (e : Error) → HasKind kinds e → ¬ (kind_of e ≡ OutOfMemory) → is_taken kinds ≡ false
has_some kinds e (inl h) other = absurd (other h)
has_some kinds e (inr h) other = among_some (kind_of e) kinds h

-- one fails
is_no_line : (words : List Text) (e : Error) → HasKind (fault_of words_app words) e → ¬ (kind_of e ≡ OutOfMemory) → command_line words ≡ None
unfolding command_line
is_no_line words e kind other = rw (has_some (fault_of words_app words) e kind other) refl

pub unanswered : (app : App) (words : List Text) (e : Error) → app ≡ words_app → HasKind (fault_of app words) e → ¬ (kind_of e ≡ OutOfMemory) → command_line words ≡ None
unanswered app words e same kind other = is_no_line words e (subst (λ (a : App). HasKind (fault_of a words) e) same kind) other

-- the same of the command that was built
pub built_is_simple : (app : App) → app ≡ words_app → is_simple app ≡ true
built_is_simple app same = rw same words_app_is_simple

pub built_is_free : (app : App) → app ≡ words_app → is_simple_and_free app ≡ true
built_is_free app same = rw same words_app_is_free
