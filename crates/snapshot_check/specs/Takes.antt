-- The takes of a transcript as they stand in its documents, and where those of a version are found.
use Rattle.std.specs.Prelude.{◌≡◌, ℕ, ◌+◌, ◌-◌, ◌<◌, ◌≤◌, List, [], ◌∷◌, ◌++◌, map, take, drop, length, get_or, Option, Some, None}
use Rattle.machine.specs.declared.command.Command.{Command}
use Rattle.machine.specs.declared.reply.Reply.{Reply}
use Rattle.machine.specs.Answers.{Matches}
use Rattle.machine.specs.Lawful.{Taking, numbers, asked_of}

-- a take: its session, counted from 1, its place in it, counted from 0, with the session's commands and replies; how many
-- patterns are read before it, the number of its snapshot, and the version that it shows
pub record Spot : Type 0 where
  pub session : ℕ
  pub place : ℕ
  pub commands : List Command
  pub replies : List Reply
  pub patterns : ℕ
  pub snapshot : ℕ
  pub version : ℕ

-- the session's numbers before it, and those behind it
abbrev pub numbers_before : Spot → List ℕ
numbers_before s = numbers (take s.place s.replies)

abbrev pub numbers_behind : Spot → List ℕ
numbers_behind s = numbers (drop (s.place + 1) s.replies)

-- what it is to be, where these hits are told of the script's patterns
abbrev pub taking_of : List (Option Matches) → Spot → Taking
taking_of told s = record {
  command = s.place + 1;
  version = s.version;
  earlier = numbers_before s;
  later = numbers_behind s;
  asked = asked_of s.snapshot (drop s.patterns told) (drop (s.place + 1) s.commands) (drop (s.place + 1) s.replies);
}

abbrev pub placed : List (Option Matches) → Spot → ℕ × Taking
placed told s = (s.session, taking_of told s)

-- the first of some numbers, if there is one
abbrev pub first_number : List ℕ → Option ℕ
first_number [] = None
first_number (n ∷ ns) = Some n

-- the version that the take at this place shows
abbrev pub version_at : List Spot → ℕ → ℕ
version_at spots i = get_or (map (λ s. s.version) spots) i 0

-- of the first m takes, the last one with the version v stands at place j - 1; where j is 0, none has it
pub record IsLast (spots : List Spot) (v m j : ℕ) : Type 0 where
  pub within : j ≤ m
  pub here : 0 < j → version_at spots (j - 1) ≡ v
  pub none : (i : ℕ) → j ≤ i → i < m → version_at spots i ≡ v → ⊥

-- the first m takes by their versions up to n: for each version its last take, and for each of these takes the one before it
pub record AreLinked (spots : List Spot) (n m : ℕ) (lasts nexts : List ℕ) : Type 0 where
  pub long : length lasts ≡ n + 1
  pub many : length nexts ≡ m
  pub last : (v : ℕ) → v ≤ n → IsLast spots v m (get_or lasts v 0)
  pub next : (i : ℕ) → i < m → version_at spots i ≤ n → IsLast spots (version_at spots i) i (get_or nexts i 0)

-- one take more, with this version: it is the last with it, and the last before is the one before it
pub record IsLinkedOn (lasts nexts : List ℕ) (place v : ℕ) (new_lasts new_nexts : List ℕ) : Type 0 where
  pub long : length new_lasts ≡ length lasts
  pub more : (n : ℕ) × (new_nexts ≡ nexts ++ n ∷ []) × (v < length lasts → n ≡ get_or lasts v 0)
  pub here : v < length lasts → get_or new_lasts v 0 ≡ place + 1
  pub others : (w : ℕ) → (w ≡ v → ⊥) → get_or new_lasts w 0 ≡ get_or lasts w 0
