-- The numbered calls by their numbers, and whether the numbers of a session rise.
use Rattle.std.specs.Prelude.{◌≡◌, ℕ, ◌+◌, ◌<◌, nat_lt, ◌&&◌, List, [], ◌∷◌, length, take, count_by, slice_index_or, Bool, true, is_some, Option, Some, None}
use Rattle.std.specs.List.{slice_get}
use Rattle.machine.specs.declared.command.Script.{Script}
use Rattle.machine.specs.declared.reply.Transcript.{Transcript}
use Rattle.machine.specs.Lawful.{Entry, entries, has_number, numbered}

-- each of the numbers 1 to N stands once
abbrev pub IsOnce : List Entry → Type 0
IsOnce es = (n : ℕ) → n < length es → count_by (has_number (n + 1)) es ≡ 1

-- the entry at this place has the number n
pub record IsAt (es : List Entry) (place n : ℕ) : Type 0 where
  pub entry : Entry
  pub stands : slice_get es place ≡ Some entry
  pub number : entry.at ≡ n

-- what is known of the number n from the first i entries: none of them has it, or this one alone
abbrev pub IsSlot : List Entry → ℕ → ℕ → Option ℕ → Type 0
IsSlot es i n None = count_by (has_number n) (take i es) ≡ 0
IsSlot es i n (Some place) = (place < i) × IsAt es place n × (count_by (has_number n) (take i es) ≡ 1)

-- the slots of the numbers 1 to N after the first i entries
pub record AreSlots (es : List Entry) (i : ℕ) (slots : List (Option ℕ)) : Type 0 where
  pub long : length slots ≡ length es
  pub each : (n : ℕ) → n < length es → IsSlot es i (n + 1) (slice_index_or slots n None)

-- the number has a slot, and it is taken
pub record IsTaken (slots : List (Option ℕ)) (at : ℕ) : Type 0 where
  pub index : ℕ
  pub within : index < length slots
  pub number : at ≡ index + 1
  pub some : is_some (slice_index_or slots index None) ≡ true

-- the slot of the number, if it has one, was free and now holds the place
pub record IsFilled (old : List (Option ℕ)) (at place : ℕ) (new : List (Option ℕ)) : Type 0 where
  pub long : length new ≡ length old
  pub free : (n : ℕ) → n < length old → at ≡ n + 1 → slice_index_or old n None ≡ None
  pub here : (n : ℕ) → n < length old → at ≡ n + 1 → slice_index_or new n None ≡ Some place
  pub others : (n : ℕ) → (at ≡ n + 1 → ⊥) → slice_index_or new n None ≡ slice_index_or old n None

-- a slot is empty
pub record HasGap (slots : List (Option ℕ)) : Type 0 where
  pub index : ℕ
  pub within : index < length slots
  pub none : slice_index_or slots index None ≡ None

-- where each number stands
pub record IsOrder (es : List Entry) (order : List ℕ) : Type 0 where
  pub long : length order ≡ length es
  pub within : (n : ℕ) → n < length es → slice_index_or order n 0 < length es
  pub each : (n : ℕ) → n < length es → slice_get es (slice_index_or order n 0) ≡ numbered es (n + 1)

-- the numbered calls of a transcript, and where each number stands among them
pub record IsFormed (script : Script) (t : Transcript) (es : List Entry) (places : List ℕ) : Type 0 where
  pub calls : es ≡ entries script.sessions t.sessions
  pub order : IsOrder es places

-- the number is above the last one before, if there is one
abbrev pub is_above : ℕ → Option ℕ → Bool
is_above n None = true
is_above n (Some m) = nat_lt m n

-- the numbers rise, and the first of them is above the last one before
abbrev pub rises : Option ℕ → List ℕ → Bool
rises last [] = true
rises last (n ∷ ns) = is_above n last && rises (Some n) ns
