-- What each kind of atomic step does to the view of the seat that steps, and what it tells.
use Rattle.std.specs.Prelude.{◌≡◌, ℕ, ◌+◌, ◌==◌, cond, nat_lt, List, [], ◌∷◌, ◌++◌, length, Option, None, Some, is_some, IfSome, MatchBool}
use mathlib.Core.List.{IsPrefix}
use Rattle.atomic_table.specs.Table.{Me, Step, rest}
use Rattle.turn_table.specs.declared.view.Part.{Part}
use Rattle.turn_table.specs.declared.view.Role.{Role}
use Rattle.turn_table.specs.declared.view.Role.TheVariants.{Desk, Hand, Deals, Nothing}
use Rattle.turn_table.specs.declared.view.Holding.{Holding}
use Rattle.turn_table.specs.declared.view.View.{View}
use Rattle.turn_table.specs.Meaning.{Meaning}
use Rattle.turn_table.specs.History.{entry, state_after}
use Rattle.turn_table.specs.Views.{view, holding, part, desk, hand, deals, caller, added, Mine}
use Rattle.turn_table.specs.Tokens.{Knows}

-- the longer and the shorter of two lists
abbrev pub longer : {A : Type 0} → List A → List A → List A
longer xs ys = cond (nat_lt (length xs) (length ys)) ys xs

abbrev pub shorter : {A : Type 0} → List A → List A → List A
shorter xs ys = cond (nat_lt (length xs) (length ys)) xs ys

module _ {T : Type 0} where
  abbrev pub parts_of : Role T → List (Part T)
  parts_of (Desk d) = d.parts
  parts_of (Hand h) = []
  parts_of (Deals d) = []
  parts_of Nothing = []

  -- the parts of both desks
  abbrev pub both_roles : Role T → Role T → Role T
  both_roles r q = desk (parts_of r ++ parts_of q)

  -- the first desk number that a dealer has, as a desk with no calls, and what is left to the dealer
  abbrev pub dealt_desk : Role T → Role T
  dealt_desk (Desk d) = Nothing
  dealt_desk (Hand h) = Nothing
  dealt_desk (Deals d) = desk (part d.desk [] ∷ [])
  dealt_desk Nothing = Nothing

  abbrev pub less_desk : Role T → Role T
  less_desk (Desk d) = Desk d
  less_desk (Hand h) = Hand h
  less_desk (Deals d) = deals (d.desk + 1) d.desks d.hand d.hands
  less_desk Nothing = Nothing

  -- the same of the first hand number
  abbrev pub dealt_hand : Role T → Role T
  dealt_hand (Desk d) = Nothing
  dealt_hand (Hand h) = Nothing
  dealt_hand (Deals d) = hand d.hand
  dealt_hand Nothing = Nothing

  abbrev pub less_hand : Role T → Role T
  less_hand (Desk d) = Desk d
  less_hand (Hand h) = Hand h
  less_hand (Deals d) = deals d.desk d.desks (d.hand + 1) d.hands
  less_hand Nothing = Nothing

module _ {T S : Type 0} where
  abbrev pub let_go : View T S → View T S
  let_go v = view v.seen v.role None

  -- a seat takes in what another had seen, and its desk numbers
  abbrev pub joined : View T S → View T S → View T S
  joined v w = record { seen = longer v.seen w.seen; heard = shorter v.seen w.seen; role = both_roles v.role w.role; holds = v.holds }

  -- what a seat is left with that was taken in, or dropped when all numbers were given out
  abbrev pub spent : View T S
  spent = view [] Nothing None

  abbrev pub deal_desk : View T S → View T S
  deal_desk v = view v.seen (dealt_desk v.role) None

  abbrev pub after_desk : View T S → View T S
  after_desk v = view v.seen (less_desk v.role) v.holds

  abbrev pub deal_hand : View T S → View T S
  deal_hand v = view v.seen (dealt_hand v.role) None

  abbrev pub after_hand : View T S → View T S
  after_hand v = view v.seen (less_hand v.role) v.holds

  module _ (m : Meaning T S) where
    abbrev pub held_after : T → Option (Holding S) → Option (Holding S)
    held_after t None = None
    held_after t (Some h) = holding (m.after h.state t) h.made

    -- a call that gives a hand's number back leaves the seat spent
    abbrev pub role_after : Option ℕ → T → Role T → Role T
    role_after back t r = cond (is_some back) Nothing (added m r (entry (caller r) t))

    -- the holder behind its call, which is the last entry of the history
    abbrev pub decided : Option ℕ → T → View T S → View T S
    decided back t v = view (v.seen ++ entry (caller v.role) t ∷ []) (role_after back t v.role) (held_after t v.holds)

    module _ (Legal : S → T → Type 0) where
      -- the seat took the object out: it has seen the whole history, and knows the object's state, which is that behind the history
      pub record Grabbed {O : Type 0} (state : O → S) (asked : Option S) (desks : ℕ) (a b : Me (Option O) (View T S)) : Type 0 where
        pub object : O
        pub carries : b.1 ≡ (0, Some object) ∷ a.1
        pub sees : IsPrefix a.0.seen b.0.seen
        pub role : b.0.role ≡ a.0.role
        pub holds : b.0.holds ≡ holding (state object) None
        pub now : IfSome asked (λ start. (state_after m start b.0.seen ≡ state object) × Knows m Legal start desks b.0)
        pub was : Mine m a.0.seen a.0.role

      abbrev pub Grabs : {O : Type 0} → (O → S) → Option S → ℕ → Step (Option O) → Me (Option O) (View T S) → ℕ → Me (Option O) (View T S) → Type 0
      Grabs state asked desks st a n b = MatchBool (n == 0) (Grabbed state asked desks a b) (b ≡ a)

      abbrev pub Decides : {O : Type 0} → Option T → Option ℕ → Step (Option O) → Me (Option O) (View T S) → ℕ → Me (Option O) (View T S) → Type 0
      Decides asked back st a n b = IfSome asked (λ t. b ≡ (decided back t a.0, a.1))

      -- the seat saw the whole history, in which all that it had seen and was told stands
      pub record Saw (asked : Option S) (desks : ℕ) (v w : View T S) : Type 0 where
        pub sees : IsPrefix v.seen w.seen
        pub hears : IsPrefix v.heard w.seen
        pub role : w.role ≡ v.role
        pub holds : w.holds ≡ v.holds
        pub now : IfSome asked (λ start. Knows m Legal start desks w)

      abbrev pub Sees : {O : Type 0} → Option S → ℕ → Step (Option O) → Me (Option O) (View T S) → ℕ → Me (Option O) (View T S) → Type 0
      Sees asked desks st a n b = (b.1 ≡ a.1) × Saw asked desks a.0 b.0

  abbrev pub LetsGo : {O : Type 0} → Step (Option O) → Me (Option O) (View T S) → ℕ → Me (Option O) (View T S) → Type 0
  LetsGo st a n b = b ≡ (let_go a.0, rest a.1)
