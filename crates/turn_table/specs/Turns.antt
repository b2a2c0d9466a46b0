-- What a call under the lock can do beside its own work: make a hand.
use Rattle.std.specs.Prelude.{◌≡◌, ℕ, ◌&&◌, ◌||◌, not, true, List, Option, None, Some}
use Rattle.atomic_table.specs.Seated.{TableId}
use Rattle.turn_table.specs.declared.view.Holding.{Holding}
use Rattle.turn_table.specs.declared.view.View.{View}
use Rattle.turn_table.specs.Meaning.{Meaning, names, lowest, HasRoom}
use Rattle.turn_table.specs.declared.view.Role.{Role}
use Rattle.turn_table.specs.Views.{view, holding, hand, caller}

-- which table a turn belongs to and which seat plays it, with what that seat has taken out
pub record About (O : Type 0) : Type 0 where
  pub table : TableId
  pub seat : TableId
  pub id : ℕ
  pub carried : List (ℕ × Option O)

-- the seat is one of the table, which has two words and a slot
abbrev pub IsReady : {O : Type 0} → About O → Type 0
IsReady a = (a.seat ≡ a.table) × (a.table.words ≡ 2) × (a.table.slots ≡ 1)

abbrev pub made_in : {S : Type 0} → Option (Holding S) → Option ℕ
made_in None = None
made_in (Some h) = h.made

-- the hand that was made in this hold
abbrev pub made_of : {T S : Type 0} → View T S → Option ℕ
made_of v = made_in v.holds

module _ {T S : Type 0} (m : Meaning T S) where
  abbrev pub made_by : Option (Holding S) → Option (Holding S)
  made_by None = None
  made_by (Some h) = holding h.state (Some (lowest m h.state))

  abbrev pub number_by : Option (Holding S) → ℕ
  number_by None = 0
  number_by (Some h) = lowest m h.state

  -- the holder behind the making of a hand
  abbrev pub maker : View T S → View T S
  maker v = view v.seen v.role (made_by v.holds)

  -- the hand that the holder makes: it has the lowest number that isn't out, and has seen what the holder has
  abbrev pub new_hand : View T S → View T S
  new_hand v = view v.seen (hand (number_by v.holds)) None

  -- the object has no hand of this hold yet, and there is room for one
  abbrev pub MayMake : View T S → Type 0
  MayMake v = (x : S) × (v.holds ≡ holding x None) × HasRoom m x

  -- exactly these hands are out at y: the one that was made, and those that were out at x but the one that was given back
  abbrev pub Outs : S → Option ℕ → Option ℕ → S → Type 0
  Outs x made back y = (n : ℕ) → m.is_out y n ≡ (names made n || (m.is_out x n && not (names back n)))

  -- What a call is to a seat that may make it: a numbered call is signed, and a hand's number is given back by that hand alone. After it exactly these hands are out
  pub record MayDecide (x : S) (made back : Option ℕ) (t : T) (r : Role T) : Type 0 where
    pub signed : m.is_numbered t ≡ true → (n : ℕ) × (caller r ≡ Some n)
    pub own : (b : ℕ) → back ≡ Some b → r ≡ hand b
    pub outs : Outs x made back (m.after x t)

  -- the holder may make the entry
  pub record IsDecidable (Legal : S → T → Type 0) (asked : Option T) (back : Option ℕ) (v : View T S) : Type 0 where
    pub entry : T
    pub state : S
    pub made : Option ℕ
    pub asked_is : asked ≡ Some entry
    pub holds : v.holds ≡ holding state made
    pub legal : Legal state entry
    pub may : MayDecide state made back entry v.role

  -- the holder may put back an object with this state
  pub record MayLetGo (x : S) (v : View T S) : Type 0 where
    pub made : Option ℕ
    pub holds : v.holds ≡ holding x made
    pub out : (n : ℕ) → made ≡ Some n → m.is_out x n ≡ true
