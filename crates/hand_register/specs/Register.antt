-- What the register means: its calls, and what they make of its state.
use Rattle.std.specs.Prelude.{◌≡◌, refl, ℕ, ◌+◌, ◌≤◌, min, Bool, true, false, cond, nat_lt, List, [], ◌∷◌, slice_index_or, slice_set, Option, None, Some, MatchOption, ⊤}
use Rattle.atomic_table.specs.Seated.{TableId}
use Rattle.points.specs.declared.limits.TheConstants.{MAX_HANDS}
use Rattle.turn_table.specs.declared.view.View.{View}
use Rattle.turn_table.specs.Meaning.{Meaning, first_free, HasRoom}
use Rattle.turn_table.specs.Steps.{spent}
use Rattle.turn_table.specs.Turns.{maker, new_hand, made_of, Outs}
use Rattle.hand_register.specs.declared.register.Call.{Call}
use Rattle.hand_register.specs.declared.register.Call.TheVariants.{Add, Guess, Rest, Hand as MakeHand, GiveBack, Refuse}
use Rattle.hand_register.specs.declared.register.Reply.{Reply}
use Rattle.hand_register.specs.declared.register.Reply.TheVariants.{Number, Hand, NoHand, Done}
use Rattle.hand_register.specs.declared.register.Told.{Told}
use Rattle.hand_register.specs.declared.register.Told.TheVariants.{Added, Guessed, Rested, Handed, GivenBack}
use Rattle.hand_register.specs.declared.register.Shown.{Shown}

abbrev pub raised : ℕ → ℕ
raised n = min (n + 1) 18446744073709551615

abbrev pub is_out : Shown → ℕ → Bool
is_out x n = slice_index_or x.out n false

-- the lowest hand number that isn't out, where one isn't
abbrev pub free_of : Shown → ℕ
free_of x = first_free (is_out x) MAX_HANDS 0

abbrev pub free_number : Shown → Option ℕ
free_number x = cond (nat_lt (free_of x) MAX_HANDS) (Some (free_of x)) None

abbrev pub with_out : Shown → ℕ → Bool → Shown
with_out x n b = record { count = x.count; out = slice_set x.out n b }

-- the reply of a guess isn't fixed
abbrev pub next : Shown → Told → Option Told
next x (Added n) = Some (Added (raised x.count))
next x (Guessed n) = None
next x Rested = Some Rested
next x (Handed n) = Some (Handed (free_number x))
next x (GivenBack n) = Some (GivenBack n)

abbrev pub handed : Shown → Option ℕ → Shown
handed x None = x
handed x (Some n) = with_out x n true

abbrev pub after : Shown → Told → Shown
after x (Added n) = record { count = raised x.count; out = x.out }
after x (Guessed n) = x
after x Rested = x
after x (Handed n) = handed x n
after x (GivenBack n) = with_out x n false

abbrev pub is_numbered : Told → Bool
is_numbered (Added n) = true
is_numbered (Guessed n) = false
is_numbered Rested = false
is_numbered (Handed n) = false
is_numbered (GivenBack n) = false

abbrev pub meaning : Meaning Told Shown
meaning = record { next = next; after = after; is_numbered = is_numbered; is_out = is_out }

-- a guess isn't above the register's number
abbrev pub Meets : Shown → Told → Type 0
Meets x (Added n) = ⊤
Meets x (Guessed n) = n ≤ x.count
Meets x Rested = ⊤
Meets x (Handed n) = ⊤
Meets x (GivenBack n) = ⊤

abbrev pub number_in : Reply → ℕ
number_in (Number n) = n
number_in (Hand h k) = 0
number_in NoHand = 0
number_in Done = 0

-- a badge's one view, and a spent one in its place where it has none
abbrev pub one_view : List (View Told Shown) → View Told Shown
one_view [] = spent
one_view (v ∷ []) = v
one_view (v ∷ w ∷ vs) = spent

abbrev pub seat_in : TableId → List (View Told Shown) → Option (TableId × View Told Shown)
seat_in t vs = Some (t, one_view vs)

abbrev pub given : Reply → Option (TableId × View Told Shown)
given (Number n) = None
given (Hand h k) = seat_in h.table_id h.views
given NoHand = None
given Done = None

abbrev pub hand_number : Reply → Option ℕ
hand_number (Number n) = None
hand_number (Hand h k) = Some k
hand_number NoHand = None
hand_number Done = None

abbrev pub told : Call → Reply → Told
told Add r = Added (number_in r)
told Guess r = Guessed (number_in r)
told Rest r = Rested
told MakeHand r = Handed (hand_number r)
told (GiveBack n) r = GivenBack n
told Refuse r = Rested

pub by_call : (x : Shown) (c : Call) (r s : Reply) → next x (told c r) ≡ next x (told c s)
by_call x Add r s = refl
by_call x Guess r s = refl
by_call x Rest r s = refl
by_call x MakeHand r s = refl
by_call x (GiveBack n) r s = refl
by_call x Refuse r s = refl

abbrev pub back : Call → Option ℕ
back Add = None
back Guess = None
back Rest = None
back MakeHand = None
back (GiveBack n) = Some n
back Refuse = None

abbrev pub is_free : Call → Bool
is_free Add = true
is_free Guess = true
is_free Rest = true
is_free MakeHand = false
is_free (GiveBack n) = true
is_free Refuse = false

abbrev pub shown : ℕ → List Bool → Shown
shown count out = record { count = count; out = out }

-- a hand was made, or all are out
pub record Makes (table : TableId) (v w : View Told Shown) (x : Shown) (r : Reply) (y : Shown) : Type 0 where
  pub reply : Handed (hand_number r) ≡ Handed (free_number x)
  pub state : y ≡ handed x (free_number x)
  pub hand : MatchOption (given r) (w ≡ v) (λ h. (h ≡ (table, new_hand meaning v)) × (w ≡ maker meaning v) × HasRoom meaning x)
  pub outs : Outs meaning x (made_of w) None y
