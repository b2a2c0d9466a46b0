-- What seats know, and what a list of views keeps.
use Rattle.std.specs.Prelude.{◌≡◌, ℕ, ◌<◌, ◌≤◌, ◌==◌, Bool, true, false, cond, ◌&&◌, ◌||◌, nat_lt, nat_le, List, [], ◌∷◌, ◌++◌, Option, None, Some}
use mathlib.Core.Option.{some}
use lib.ListN.{get_elem?}
use Rattle.turn_table.specs.declared.view.Entry.{Entry}
use Rattle.turn_table.specs.declared.view.Part.{Part}
use Rattle.turn_table.specs.declared.view.Role.{Role}
use Rattle.turn_table.specs.declared.view.Role.TheVariants.{Desk, Hand, Deals, Nothing}
use Rattle.turn_table.specs.declared.view.Holding.{Holding}
use Rattle.turn_table.specs.declared.view.View.{View}
use Rattle.turn_table.specs.Meaning.{Meaning}
use Rattle.turn_table.specs.History.{calls_under}

module _ {T S : Type 0} where
  abbrev pub view : List (Entry T) → Role T → Option (Holding S) → View T S
  view seen role holds = record { seen = seen; heard = []; role = role; holds = holds }

abbrev pub holding : {S : Type 0} → S → Option ℕ → Option (Holding S)
holding x made = Some record { state = x; made = made }

abbrev pub is_within : ℕ → ℕ → ℕ → Bool
is_within from to n = nat_le from n && nat_lt n to

module _ {T : Type 0} where
  abbrev pub part : ℕ → List (Entry T) → Part T
  part n mine = record { number = n; mine = mine }

  abbrev pub desk : List (Part T) → Role T
  desk ps = Desk record { parts = ps }

  abbrev pub hand : ℕ → Role T
  hand n = Hand record { number = n }

  abbrev pub deals : ℕ → ℕ → ℕ → ℕ → Role T
  deals d ds h hs = Deals record { desk = d; desks = ds; hand = h; hands = hs }

  abbrev pub has_part : List (Part T) → ℕ → Bool
  has_part [] n = false
  has_part (p ∷ ps) n = (p.number == n) || has_part ps n

  -- the desk numbers that a role stands for
  abbrev pub stands_for : Role T → ℕ → Bool
  stands_for (Desk d) n = has_part d.parts n
  stands_for (Hand h) n = false
  stands_for (Deals d) n = is_within d.desk d.desks n
  stands_for Nothing n = false

  -- the hand numbers that a role has
  abbrev pub has_hand : Role T → ℕ → Bool
  has_hand (Desk d) n = false
  has_hand (Hand h) n = h.number == n
  has_hand (Deals d) n = is_within d.hand d.hands n
  has_hand Nothing n = false

  -- the desk number that signs a call
  abbrev pub first_number : List (Part T) → Option ℕ
  first_number [] = None
  first_number (p ∷ ps) = Some p.number

  abbrev pub caller : Role T → Option ℕ
  caller (Desk d) = first_number d.parts
  caller (Hand h) = None
  caller (Deals d) = None
  caller Nothing = None

  -- no two parts have one number
  abbrev pub AreApart : List (Part T) → Type 0
  AreApart [] = Unit {0}
  AreApart (p ∷ ps) = (has_part ps p.number ≡ false) × AreApart ps

  abbrev pub AreBelow : ℕ → List (Part T) → Type 0
  AreBelow n [] = Unit {0}
  AreBelow n (p ∷ ps) = (p.number < n) × AreBelow n ps

  -- one call more under the number that signs
  abbrev pub with_call : List (Part T) → Entry T → List (Part T)
  with_call [] e = []
  with_call (p ∷ ps) e = part p.number (p.mine ++ e ∷ []) ∷ ps

module _ {T S : Type 0} (m : Meaning T S) where
  -- each part has the numbered calls of its number in the history
  abbrev pub AllMine : List (Entry T) → List (Part T) → Type 0
  AllMine log [] = Unit {0}
  AllMine log (p ∷ ps) = (p.mine ≡ calls_under m p.number log) × AllMine log ps

  -- a desk has the numbered calls of its numbers, and under a number that isn't given out there is none
  abbrev pub Mine : List (Entry T) → Role T → Type 0
  Mine log (Desk d) = AllMine log d.parts × AreApart d.parts
  Mine log (Hand h) = Unit {0}
  Mine log (Deals d) = (n : ℕ) → is_within d.desk d.desks n ≡ true → calls_under m n log ≡ []
  Mine log Nothing = Unit {0}

  -- the role behind a call of its seat
  abbrev pub added : Role T → Entry T → Role T
  added (Desk d) e = desk (cond (m.is_numbered e.told) (with_call d.parts e) d.parts)
  added (Hand h) e = Hand h
  added (Deals d) e = Deals d
  added Nothing e = Nothing

-- the desk numbers of a role are below this one
abbrev pub Numbered : {T : Type 0} → ℕ → Role T → Type 0
Numbered n (Desk d) = AreBelow n d.parts
Numbered n (Hand h) = Unit {0}
Numbered n (Deals d) = d.desks ≤ n
Numbered n Nothing = Unit {0}

module _ {V : Type 0} where
  -- it holds of every seat's view
  abbrev pub Each : (V → Type 0) → List V → Type 0
  Each P vs = (i : ℕ) (v : V) → get_elem? vs i ≡ some v → P v

  -- no number stands with two seats
  abbrev pub OneSeat : (V → ℕ → Bool) → List V → Type 0
  OneSeat f vs = (i j n : ℕ) (v w : V) → get_elem? vs i ≡ some v → get_elem? vs j ≡ some w → f v n ≡ true → f w n ≡ true → i ≡ j
