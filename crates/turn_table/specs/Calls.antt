-- What the calls of a table do to the seat that calls.
use Rattle.std.specs.Prelude.{◌≡◌, ℕ, true, cond, List, [], ◌∷◌, ◌++◌, Option as Maybe, None, Some, IfSome}
use mathlib.Core.List.{IsPrefix}
use Rattle.turn_table.specs.declared.view.Entry.{Entry}
use Rattle.turn_table.specs.declared.view.Role.{Role}
use Rattle.turn_table.specs.declared.view.View.{View}
use Rattle.turn_table.specs.Meaning.{Meaning, lowest, HasRoom}
use Rattle.turn_table.specs.History.{entry, state_after}
use Rattle.turn_table.specs.Views.{view, holding, desk, hand, caller, Mine}
use Rattle.turn_table.specs.Tokens.{mine, Knows}
use Rattle.turn_table.specs.Turns.{new_hand}
use Rattle.turn_table.specs.Steps.{role_after, parts_of}

module _ {V : Type 0} where
  -- a badge's one view, before and after a call
  abbrev pub Turned : (V → V → Type 0) → List V → List V → Type 0
  Turned P old new = (v : V) → old ≡ v ∷ [] → (w : V) × (new ≡ w ∷ []) × P v w

  -- a badge has one view, of which this holds
  abbrev pub Has : (V → Type 0) → List V → Type 0
  Has P views = (v : V) × (views ≡ v ∷ []) × P v

module _ {T S : Type 0} (m : Meaning T S) where
  -- a seat with this role may make the call, whatever its reply: a numbered call is signed, and a hand's number is given back by that hand alone
  pub record MayCall {R : Type 0} (told : R → T) (back : Maybe ℕ) (r : Role T) : Type 0 where
    pub signed : (a : R) → m.is_numbered (told a) ≡ true → (n : ℕ) × (caller r ≡ Some n)
    pub own : (b : ℕ) → back ≡ Some b → r ≡ hand b

  -- the holder g played a call on the object at x, which is at y now, and the call's entry is the last of the history
  pub record Played (Legal : S → T → Type 0) (back : Maybe ℕ) (given : Maybe (View T S)) (t : T) (x : S) (g w : View T S) : Type 0 where
    pub legal : Legal x t
    pub seen : w.seen ≡ g.seen ++ entry (caller g.role) t ∷ []
    pub role : w.role ≡ role_after m back t g.role
    pub hand_is : IfSome given (λ h. (h ≡ new_hand m g) × HasRoom m x)

  module _ (Legal : S → T → Type 0) (start : S) (desks : ℕ) where
    -- the seat g has the lock, and has seen the whole history, which begins with all that the seat had seen as v. The object's state x is that behind it
    pub record Began (x : S) (v g : View T S) : Type 0 where
      pub sees : IsPrefix v.seen g.seen
      pub role : g.role ≡ v.role
      pub holds : g.holds ≡ holding x None
      pub now : state_after m start g.seen ≡ x
      pub knows : Knows m Legal start desks g
      pub was : Mine m v.seen v.role

    -- The seat made one call. The history that it has seen begins with what it had seen, ends with this call, and is legal. A numbered call is one more of its own.
    -- A hand that the reply has got the lowest number that wasn't out, and has seen the history up to the call
    pub record Took (back : Maybe ℕ) (given : Maybe (View T S)) (t : T) (v w : View T S) : Type 0 where
      pub between : List (Entry T)
      pub seen : w.seen ≡ (v.seen ++ between) ++ entry (caller v.role) t ∷ []
      pub legal : Legal (state_after m start (v.seen ++ between)) t
      pub role : w.role ≡ role_after m back t v.role
      pub mine : back ≡ None → mine m w ≡ mine m v ++ cond (m.is_numbered t) (entry (caller v.role) t ∷ []) []
      pub rests : w.holds ≡ None
      pub knows : Knows m Legal start desks w
      pub hand_is : IfSome given (λ h. let x = state_after m start (v.seen ++ between) in (h ≡ view (v.seen ++ between) (hand (lowest m x)) None) × HasRoom m x)

    -- the seat made no call, and may have seen more of the history
    pub record Looked (v w : View T S) : Type 0 where
      pub seen : IsPrefix v.seen w.seen
      pub role : w.role ≡ v.role
      pub mine : mine m w ≡ mine m v
      pub rests : w.holds ≡ None
      pub knows : Knows m Legal start desks w

    -- a desk took in another one: it has seen all that both had, and stands for the desk numbers of both
    pub record Joined (v other w : View T S) : Type 0 where
      pub seen : IsPrefix v.seen w.seen
      pub told : IsPrefix other.seen w.seen
      pub role : w.role ≡ desk (parts_of v.role ++ parts_of other.role)
      pub rests : w.holds ≡ None
      pub knows : Knows m Legal start desks w
