-- What a desk or a hand carries: the beginning of the history that it has seen, and its own calls in it.
use Rattle.std.specs.Prelude.{◌≡◌, ℕ, ◌<◌, Bool, true, false, ◌&&◌, List, ◌∷◌, filter, Option, None, Some}
use Rattle.turn_table.specs.declared.view.Entry.{Entry}
use Rattle.turn_table.specs.declared.view.Part.{Part}
use Rattle.turn_table.specs.declared.view.Role.{Role}
use Rattle.turn_table.specs.declared.view.View.{View}
use Rattle.turn_table.specs.Meaning.{Meaning}
use Rattle.turn_table.specs.History.{IsLegal, AreCalled}
use Rattle.turn_table.specs.Views.{desk, hand, stands_for, Mine, Numbered}

abbrev pub stands_by : {T : Type 0} → Role T → Option ℕ → Bool
stands_by r None = false
stands_by r (Some n) = stands_for r n

module _ {T S : Type 0} where
  -- the view of a desk, which stands for one desk number or more, and holds nothing
  pub record IsDesk (v : View T S) : Type 0 where
    pub first : Part T
    pub others : List (Part T)
    pub role : v.role ≡ desk (first ∷ others)
    pub rests : v.holds ≡ None

  -- the view of a hand, which isn't spent, and holds nothing
  pub record IsHand (n : ℕ) (v : View T S) : Type 0 where
    pub role : v.role ≡ hand n
    pub rests : v.holds ≡ None

  module _ (m : Meaning T S) where
    -- the call is a numbered one of the role's desk numbers
    abbrev pub is_own : Role T → Entry T → Bool
    is_own r e = m.is_numbered e.told && stands_by r e.by

    -- the numbered calls of the desk numbers that a seat stands for, in the order of what it has seen
    abbrev pub mine : View T S → List (Entry T)
    mine v = filter (is_own v.role) v.seen

    -- all numbered calls of a history
    abbrev pub numbered_calls : List (Entry T) → List (Entry T)
    numbered_calls log = filter (λ e. m.is_numbered e.told) log

    -- the seat stands for every desk number that was given out
    abbrev pub StandsForAll : ℕ → View T S → Type 0
    StandsForAll desks v = (n : ℕ) → n < desks → stands_for v.role n ≡ true

    -- What a seat has seen is a legal history. Each part of a desk has the numbered calls of its number there. A seat that stands for all desk numbers has all numbered calls
    pub record Knows (Legal : S → T → Type 0) (start : S) (desks : ℕ) (v : View T S) : Type 0 where
      pub legal : IsLegal m Legal start v.seen
      pub parts : Mine m v.seen v.role
      pub numbered : Numbered desks v.role
      pub called : AreCalled m desks v.seen
      pub whole : StandsForAll desks v → mine v ≡ numbered_calls v.seen
