-- What the callers of a shared buffer know, and what their calls do to it.
use Rattle.std.specs.Prelude.{◌≡◌, ℕ, ◌<◌, true, false, nat_lt, List, [], ◌∷◌, ◌++◌, length, slice_index_or, filter, Some, None}
use mathlib.Core.List.{IsPrefix}
use Rattle.points.specs.declared.limits.TheConstants.{LAST}
use Rattle.atomic_table.specs.Seated.{TableId}
use Rattle.atomic_table.specs.declared.badge.Badge.{Badge}
use Rattle.machine.specs.declared.command.Command.{Command}
use Rattle.machine.specs.declared.reply.Reply.{Reply}
use Rattle.machine.specs.Plain.{plain_reply}
use Rattle.turn_table.specs.declared.view.Entry as table
use Rattle.turn_table.specs.declared.view.View.{View}
use Rattle.turn_table.specs.Meaning.{Meaning, MayFollow}
use Rattle.turn_table.specs.History.{entry, state_after, IsLegal, AreCalled}
use Rattle.turn_table.specs.Views.{caller, added, Mine}
use Rattle.turn_table.specs.Tokens.{mine, is_own, numbered_calls, StandsForAll, Knows, IsDesk, IsHand}
use Rattle.turn_table.specs.Calls.{Has}
use Rattle.shared_buffer.specs.declared.shared.Hand.{Hand}
use Rattle.shared_buffer.specs.Entries.{Shared, Entry, called, handed, meaning, Meets, free_number}

-- an entry with the desk number that signs it
abbrev pub Line : Type 0
Line = table.Entry Entry

-- what a desk or a hand knows
abbrev pub Known : Type 0
Known = View Entry Shared

-- what contracts see in a shared buffer: its table, the state that it began with, how many desks it has, and the version of a transcript in whose form it replies
pub record Opening : Type 0 where
  pub table : TableId
  pub start : Shared
  pub desks : ℕ
  pub version : ℕ

module _ (o : Opening) where
  abbrev pub rules : Meaning Entry Shared
  rules = meaning o.version

  -- each entry is what the plain machine makes of its call in its turn
  abbrev pub IsHistory : List Line → Type 0
  IsHistory h = IsLegal rules (MayFollow rules Meets) o.start h

  -- the state behind a history
  abbrev pub behind : List Line → Shared
  behind h = state_after rules o.start h

  -- the numbered calls of the desk numbers that a desk stands for, in the order of what it has seen
  abbrev pub own_calls : Known → List Line
  own_calls v = mine rules v

  -- what it has seen is a history, in which its desk numbers have the calls that are its own
  abbrev pub IsInformed : Known → Type 0
  IsInformed v = Knows rules (MayFollow rules Meets) o.start o.desks v

  -- a desk of this buffer
  abbrev pub IsDeskOf : Badge Known → Type 0
  IsDeskOf d = (d.table_id ≡ o.table) × Has IsDesk d.views

  -- a hand of this buffer, with this number
  abbrev pub IsSeatOf : ℕ → Badge Known → Type 0
  IsSeatOf n h = (h.table_id ≡ o.table) × Has (IsHand n) h.views

  -- hands of this buffer, in the order of their numbers from 0 on
  pub record AreHands (hands : List Hand) : Type 0 where
    pub numbers : (k : ℕ) (h : Hand) → k < length hands → (slice_index_or hands k h).number ≡ k
    pub seats : (k : ℕ) (h : Hand) → k < length hands → IsSeatOf k (slice_index_or hands k h).seat

  -- A numbered call was made. What the desk has seen begins with what it had seen and ends with this call, which is one more of its own. The reply is the plain machine's
  -- behind all that came before
  pub record Called (c : Command) (r : Reply) (v w : Known) : Type 0 where
    pub between : List Line
    pub seen : w.seen ≡ (v.seen ++ between) ++ entry (caller v.role) (called c (Some r)) ∷ []
    pub left : nat_lt (behind (v.seen ++ between)).plain.count LAST ≡ true
    pub reply : r ≡ plain_reply o.version (behind (v.seen ++ between)).plain [] [] c
    pub role : w.role ≡ added rules v.role (entry (caller v.role) (called c (Some r)))
    pub mine : own_calls w ≡ own_calls v ++ entry (caller v.role) (called c (Some r)) ∷ []
    pub informed : IsInformed w

  -- the desk has seen no less than before, stands for the same desk numbers, and its own calls are those of before
  pub record Stays (v w : Known) : Type 0 where
    pub seen : IsPrefix v.seen w.seen
    pub role : w.role ≡ v.role
    pub mine : own_calls w ≡ own_calls v
    pub informed : IsInformed w

  -- so, and behind what it has seen no number is left
  pub record IsSpent (v w : Known) : Type 0 where
    pub stays : Stays v w
    pub none : nat_lt (behind w.seen).plain.count LAST ≡ false

  -- so, and behind what it has seen the hand with this number was made, which was the lowest that wasn't out
  pub record IsHanded (n : ℕ) (v w : Known) : Type 0 where
    pub stays : Stays v w
    pub before : List Line
    pub seen : w.seen ≡ before ++ entry (caller v.role) (handed (Some n)) ∷ []
    pub begun : IsPrefix v.seen before
    pub lowest : free_number (behind before) ≡ Some n

  -- so, and behind what it has seen all hands are out
  pub record IsFull (v w : Known) : Type 0 where
    pub stays : Stays v w
    pub full : free_number (behind w.seen) ≡ None

  -- so, and what the desk has seen ends with this entry, which stands behind all that it had seen
  pub record IsEntered (t : Entry) (v w : Known) : Type 0 where
    pub stays : Stays v w
    pub before : List Line
    pub seen : w.seen ≡ before ++ entry (caller v.role) t ∷ []
    pub begun : IsPrefix v.seen before

  -- so, and this text and version are those behind the front: what stands in the history before the snapshot was taken, which begins with all that the desk had seen
  pub record IsTaken (text : List ℕ) (version : ℕ) (v w : Known) : Type 0 where
    pub stays : Stays v w
    pub front : List Line
    pub floor : IsPrefix v.seen front
    pub seen : IsPrefix front w.seen
    pub text_is : text ≡ (behind front).plain.text
    pub version_is : version ≡ (behind front).plain.version

  -- This text and count are those behind a whole history, which begins with what the desk had seen. It has no more calls of the desk than the desk knew of, under
  -- each of its desk numbers; and no numbered call but the desk's, where every desk was ended into this one
  pub record IsFinished (text : List ℕ) (count : ℕ) (v : Known) : Type 0 where
    pub log : List Line
    pub begun : IsPrefix v.seen log
    pub history : IsHistory log
    pub text_is : text ≡ (behind log).plain.text
    pub count_is : count ≡ (behind log).plain.count
    pub own : filter (is_own rules v.role) log ≡ own_calls v
    pub parts : Mine rules log v.role
    pub callers : AreCalled rules o.desks log
    pub whole : StandsForAll rules o.desks v → numbered_calls rules log ≡ own_calls v
