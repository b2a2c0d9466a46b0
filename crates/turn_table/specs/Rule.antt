-- The rule of a table: what its words, its slot and its seats' views are between any two steps.
-- There is one legal history, the log, and one state, now, which is that behind the log. Words 0 and 1 are the lock and the tally.
use Rattle.std.specs.Prelude.{◌≡◌, ℕ, ◌%◌, ◌^◌, ◌≢◌, ◌⊎◌, Bool, true, List, [], ◌∷◌, length, slice_index, Option as Maybe, None, Some}
use mathlib.Core.Option.{Option, none, some}
use mathlib.Core.List.{IsPrefix}
use lib.ListN.{get_elem?}
use Rattle.atomic_table.specs.Table.{State}
use Rattle.turn_table.specs.declared.view.Entry.{Entry}
use Rattle.turn_table.specs.declared.view.View.{View}
use Rattle.turn_table.specs.Meaning.{Meaning}
use Rattle.turn_table.specs.History.{state_after, IsLegal, AreCalled}
use Rattle.turn_table.specs.Views.{view, holding, deals, stands_for, has_hand, Mine, Numbered, Each, OneSeat}

module _ {T S : Type 0} where
  abbrev pub desks_of : View T S → ℕ → Bool
  desks_of v n = stands_for v.role n

  abbrev pub hands_of : View T S → ℕ → Bool
  hands_of v n = has_hand v.role n

  -- the lock is free: the object is at home, and no seat holds anything
  pub record IsFree {O : Type 0} (state : O → S) (now : S) (made : Maybe ℕ) (word : ℕ) (homes : List (Option (Maybe O))) (views : List (View T S)) : Type 0 where
    pub object : O
    pub word_is : word ≡ 0
    pub homes_are : homes ≡ some (Some object) ∷ []
    pub state_is : state object ≡ now
    pub made_is : made ≡ None
    pub nobody : Each (λ (v : View T S). v.holds ≡ None) views

  -- one seat holds it: the object is out, the holder knows its state and has seen the whole history, and no other seat holds anything
  pub record IsHeld {O : Type 0} (log : List (Entry T)) (now : S) (made : Maybe ℕ) (word : ℕ) (homes : List (Option (Maybe O))) (views : List (View T S)) : Type 0 where
    pub holder : ℕ
    pub here : View T S
    pub word_is : word ≡ 1
    pub homes_are : homes ≡ none ∷ []
    pub at : get_elem? views holder ≡ some here
    pub holds : here.holds ≡ holding now made
    pub sees : here.seen ≡ log
    pub others : (j : ℕ) (v : View T S) → j ≢ holder → get_elem? views j ≡ some v → v.holds ≡ None

  abbrev pub Lock : {O : Type 0} → (O → S) → List (Entry T) → S → Maybe ℕ → ℕ → List (Option (Maybe O)) → List (View T S) → Type 0
  Lock state log now made word homes views = IsFree state now made word homes views ⊎ IsHeld log now made word homes views

  module _ (m : Meaning T S) where
    -- one legal history, of which each seat has seen a beginning
    pub record History (Legal : S → T → Type 0) (start : S) (log : List (Entry T)) (now : S) (views : List (View T S)) : Type 0 where
      pub legal : IsLegal m Legal start log
      pub now_is : state_after m start log ≡ now
      pub begun : Each (λ (v : View T S). IsPrefix v.seen log) views
      pub heard : Each (λ (v : View T S). IsPrefix v.heard log) views

    -- the desk numbers: no two seats stand for one; each desk has its calls, and has seen all of them
    pub record Desks (desks : ℕ) (log : List (Entry T)) (views : List (View T S)) : Type 0 where
      pub apart : OneSeat desks_of views
      pub mine : Each (λ (v : View T S). Mine m log v.role) views
      pub seen : Each (λ (v : View T S). Mine m v.seen v.role) views
      pub numbered : Each (λ (v : View T S). Numbered desks v.role) views
      pub called : AreCalled m desks log

    -- the hand numbers: no two seats have one, and each is out, or was made in this hold
    pub record Hands (now : S) (made : Maybe ℕ) (views : List (View T S)) : Type 0 where
      pub apart : OneSeat hands_of views
      pub out : Each (λ (v : View T S). (n : ℕ) → hands_of v n ≡ true → (m.is_out now n ≡ true) ⊎ (made ≡ Some n)) views

    pub record Kept {O : Type 0} (Legal : S → T → Type 0) (state : O → S) (start : S) (desks : ℕ) (s : State (Maybe O) (View T S)) : Type 0 where
      pub log : List (Entry T)
      pub now : S
      pub made : Maybe ℕ
      pub wide : length s.words ≡ 2
      pub tally : slice_index s.words 1 ≡ length log % 2 ^ 64
      pub lock : Lock state log now made (slice_index s.words 0) s.homes s.views
      pub history : History Legal start log now s.views
      pub desk_numbers : Desks desks log s.views
      pub hand_numbers : Hands now made s.views

-- what the first seat knows: nothing is seen, and all numbers are to be given out
abbrev pub first_view : {T S : Type 0} → ℕ → ℕ → View T S
first_view desks hands = view [] (deals 0 desks 0 hands) None
