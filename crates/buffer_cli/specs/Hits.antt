-- The hits that a run found, and those that are told.
use Rattle.std.specs.Prelude.{◌≡◌, List, [], ◌∷◌, ◌++◌, ℕ, length, count_by, Option, Some, None}
use Rattle.machine.specs.declared.command.Command.{Command}
use Rattle.machine.specs.declared.reads.Read.{Read}
use Rattle.machine.specs.declared.reads.ReadAnswer.{ReadAnswer}
use Rattle.machine.specs.declared.reply.Reply.{Reply}
use Rattle.machine.specs.Machine.{State}
use Rattle.machine.specs.Answers.{Matches, pattern_answer}
use Rattle.machine.specs.Lawful.{is_pattern, patterns_in}
use Rattle.machine.specs.Plain.{Kept, plain_answers, plain_replies}
use Rattle.buffer_cli.specs.Answered.{answered}

-- what was found of a pattern are the hits that are told of it, where they are told
abbrev pub AgreesWith : Option Matches → Option Matches → Type 0
AgreesWith None found = Unit {0}
AgreesWith (Some hits) found = found ≡ Some hits

-- so of each pattern
abbrev pub Agree : List (Option Matches) → List (Option Matches) → Type 0
Agree [] [] = Unit {0}
Agree [] (f ∷ found) = ⊥
Agree (m ∷ told) [] = ⊥
Agree (m ∷ told) (f ∷ found) = AgreesWith m f × Agree told found

-- What was found of the next n patterns agrees with what was told of them before; the rest is told after.
pub record AreFound (n : ℕ) (before after found : List (Option Matches)) : Type 0 where
  pub told : List (Option Matches)
  pub are : before ≡ told ++ after
  pub many : length found ≡ n
  pub agree : Agree told found

-- the answer to a read of a pattern in the text t is that of the definition, by hits that agree with what is told
pub record IsPatternAnswer (t : List ℕ) (limit : ℕ) (told : Option Matches) (answer : ReadAnswer) : Type 0 where
  pub hits : Matches
  pub agree : AgreesWith told (Some hits)
  pub is : answer ≡ pattern_answer t limit hits

-- the answers to reads of the text t are those of the definition, by the hits that were found
pub record AreAnswers (t : List ℕ) (before after : List (Option Matches)) (reads : List Read) (answers : List ReadAnswer) : Type 0 where
  pub found : List (Option Matches)
  pub hits : AreFound (count_by is_pattern reads) before after found
  pub are : answers ≡ plain_answers t found reads

-- so are the reply to a command and the state after it
pub record IsReply (s : State) (held : List Kept) (before after : List (Option Matches)) (c : Command) (next : State) (r : Reply) : Type 0 where
  pub found : List (Option Matches)
  pub hits : AreFound (patterns_in c) before after found
  pub is : (next, r) ≡ answered s held found c

-- so are the replies to the commands of a session, by hits that agree with what was told of all patterns
pub record AreReplies (s : State) (told : List (Option Matches)) (cs : List Command) (rs : List Reply) : Type 0 where
  pub found : List (Option Matches)
  pub agree : Agree told found
  pub are : rs ≡ plain_replies 1 found s [] cs
