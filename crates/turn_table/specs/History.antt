-- Histories: lists of entries, which are legal from an opening state.
use Rattle.std.specs.Prelude.{◌≡◌, ℕ, ◌<◌, Bool, true, ◌&&◌, List, [], ◌∷◌, filter, Option, Some}
use Rattle.turn_table.specs.declared.view.Entry.{Entry}
use Rattle.turn_table.specs.Meaning.{Meaning, names}

abbrev pub entry : {T : Type 0} → Option ℕ → T → Entry T
entry by t = record { by = by; told = t }

module _ {T S : Type 0} (m : Meaning T S) where
  -- the state after all entries
  abbrev pub state_after : S → List (Entry T) → S
  state_after x [] = x
  state_after x (e ∷ es) = state_after (m.after x e.told) es

  -- the call is a numbered one of the desk n
  abbrev pub is_call_of : ℕ → Entry T → Bool
  is_call_of n e = m.is_numbered e.told && names e.by n

  -- the numbered calls of the desk n, in their order
  abbrev pub calls_under : ℕ → List (Entry T) → List (Entry T)
  calls_under n es = filter (is_call_of n) es

  -- the caller of a numbered call is a desk with a number below this one
  abbrev pub IsCalled : ℕ → Entry T → Type 0
  IsCalled desks e = m.is_numbered e.told ≡ true → (n : ℕ) × (e.by ≡ Some n) × (n < desks)

  abbrev pub AreCalled : ℕ → List (Entry T) → Type 0
  AreCalled desks [] = Unit {0}
  AreCalled desks (e ∷ es) = IsCalled desks e × AreCalled desks es

  module _ (Legal : S → T → Type 0) where
    -- each entry may come next at the state before it
    abbrev pub IsLegal : S → List (Entry T) → Type 0
    IsLegal x [] = Unit {0}
    IsLegal x (e ∷ es) = Legal x e.told × IsLegal (m.after x e.told) es
