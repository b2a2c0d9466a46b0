-- What one session does from its desk, command by command.
use Rattle.std.specs.Prelude.{◌≡◌, ℕ, ◌==◌, List, [], ◌∷◌, ◌++◌, drop, true, false, nat_lt, if◌then◌else◌, Option}
use Rattle.std.specs.List.{AllByRecursion}
use Rattle.points.specs.declared.limits.TheConstants.{LAST}
use Rattle.machine.specs.declared.command.Command.{Command}
use Rattle.machine.specs.declared.command.Command.TheVariants as command
use Rattle.machine.specs.declared.reads.Read.{Read}
use Rattle.machine.specs.declared.reads.ReadAnswer.{ReadAnswer}
use Rattle.machine.specs.declared.reply.Reply.{Reply}
use Rattle.machine.specs.declared.reply.Reply.TheVariants as reply
use Rattle.machine.specs.Answers.{Matches}
use Rattle.machine.specs.Lawful.{answers_have_forms, asked_in, IsAsked, patterns_in}
use Rattle.machine.specs.Plain.{Kept, kept_text}
use Rattle.shared_buffer.specs.Entries.{is_plain}
use Rattle.shared_buffer.specs.Tokens.{Known, Opening, Called, Stays, IsInformed, IsTaken, behind}

-- what a session knows from its desk, and the snapshots that it has, the last taken first
pub record Doing : Type 0 where
  pub knows : Known
  pub kept : List Kept

-- the snapshots without the first that has this number
abbrev pub without_first : ℕ → List Kept → List Kept
without_first k [] = []
without_first k (s ∷ ss) = if s.number == k then ss else s ∷ without_first k ss

module _ (o : Opening) where
  -- what the desk has seen is a history, and no number is left behind it
  pub record IsOut (w : Known) : Type 0 where
    pub informed : IsInformed o w
    pub none : nat_lt (behind o w.seen).plain.count LAST ≡ false

  -- a numbered call was played
  pub record IsPlay (c : Command) (r : Reply) (v w : Doing) : Type 0 where
    pub plain : is_plain c ≡ true
    pub called : Called o c r v.knows w.knows
    pub kept : w.kept ≡ v.kept

  -- a snapshot was taken under the number k
  pub record IsTake (k : ℕ) (r : Reply) (v w : Doing) : Type 0 where
    pub text : List ℕ
    pub version : ℕ
    pub tells : r ≡ reply.Taken version
    pub took : IsTaken o text version v.knows w.knows
    pub kept : w.kept ≡ record { number = k; text = text } ∷ v.kept

  -- So, and these are the snapshots before and after the take, by what the desk knows
  pub record IsTakenAs (version k : ℕ) (before after : List Kept) (v w : Known) : Type 0 where
    pub text : List ℕ
    pub took : IsTaken o text version v w
    pub kept : after ≡ record { number = k; text = text } ∷ before

  -- the snapshot with the number k was read
  pub record IsRead (told : List (Option Matches)) (k : ℕ) (reads : List Read) (r : Reply) (v w : Doing) : Type 0 where
    pub answers : List ReadAnswer
    pub tells : r ≡ reply.Answered answers
    pub forms : answers_have_forms reads answers ≡ true
    pub right : AllByRecursion (IsAsked (kept_text k v.kept)) (asked_in told reads answers)
    pub same : w ≡ v

  -- the snapshot with the number k was given up
  pub record IsRelease (k : ℕ) (r : Reply) (v w : Doing) : Type 0 where
    pub tells : r ≡ reply.Nothing
    pub knows : w.knows ≡ v.knows
    pub kept : w.kept ≡ without_first k v.kept

  -- the snapshot with the number k was read, and given up
  pub record IsSend (told : List (Option Matches)) (k : ℕ) (reads : List Read) (r : Reply) (v w : Doing) : Type 0 where
    pub answers : List ReadAnswer
    pub tells : r ≡ reply.Answered answers
    pub forms : answers_have_forms reads answers ≡ true
    pub right : AllByRecursion (IsAsked (kept_text k v.kept)) (asked_in told reads answers)
    pub knows : w.knows ≡ v.knows
    pub kept : w.kept ≡ without_first k v.kept

  -- the layers were put together
  pub record IsSquash (r : Reply) (v w : Doing) : Type 0 where
    pub tells : r ≡ reply.Nothing
    pub stays : Stays o v.knows w.knows
    pub kept : w.kept ≡ v.kept

  -- the command was answered by this reply, where these hits are told of the patterns from it on
  abbrev pub IsDone : List (Option Matches) → Command → Reply → Doing → Doing → Type 0
  IsDone told (command.Take k) r v w = IsTake k r v w
  IsDone told (command.Read k reads) r v w = IsRead told k reads r v w
  IsDone told (command.Release k) r v w = IsRelease k r v w
  IsDone told command.Squash r v w = IsSquash r v w
  IsDone told (command.Send k reads) r v w = IsSend told k reads r v w
  IsDone told c r v w = IsPlay c r v w

  -- So, while the snapshots went from these to those and what the desk knows from v to w. What was told of the next matchers is `told` before it and `left` behind it, whatever
  -- is told of those behind them
  abbrev pub IsAnswered : List (Option Matches) → List (Option Matches) → Command → Reply → List Kept → List Kept → Known → Known → Type 0
  IsAnswered told left c r before after v w = (more : List (Option Matches)) → IsDone (told ++ more) c r (record { knows = v; kept = before }) (record { knows = w; kept = after }) × (drop (patterns_in c) (told ++ more) ≡ left ++ more)

  -- so of these commands in turn
  abbrev pub AreDone : List (Option Matches) → List Command → List Reply → Doing → Doing → Type 0
  AreDone told [] [] v w = w ≡ v
  AreDone told [] (r ∷ rs) v w = ⊥
  AreDone told (c ∷ cs) [] v w = ⊥
  AreDone told (c ∷ cs) (r ∷ rs) v w = (u : Doing) × IsDone told c r v u × AreDone (drop (patterns_in c) told) cs rs u w

  -- The commands of a session were answered by these replies, while what the desk knows went from v to w. These hits are told of its patterns, whatever is told of those behind them
  abbrev pub IsRun : List (Option Matches) → List Command → List Reply → Known → Known → Type 0
  IsRun told cs rs v w = (more : List (Option Matches)) → (kept : List Kept) × AreDone (told ++ more) cs rs (record { knows = v; kept = [] }) (record { knows = w; kept = kept })
