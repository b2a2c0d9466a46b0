-- The seats that a table begins with.
use Rattle.std.specs.Prelude.{◌≡◌, ℕ, ◌<◌, nat_lt, List, [], ◌∷◌, length, slice_index_or, None}
use Rattle.atomic_table.specs.Seated.{TableId}
use Rattle.atomic_table.specs.declared.badge.Badge.{Badge}
use Rattle.turn_table.specs.declared.view.View.{View}
use Rattle.turn_table.specs.Meaning.{Meaning}
use Rattle.turn_table.specs.Views.{view, part, desk, hand, deals}

module _ {T S : Type 0} where
  -- the first seat, of whose numbers some are given out
  abbrev pub deals_from : ℕ → ℕ → ℕ → ℕ → View T S
  deals_from d ds h hs = view [] (deals d ds h hs) None

  -- a desk that has made no call
  abbrev pub new_desk : ℕ → View T S
  new_desk n = view [] (desk (part n [] ∷ [])) None

  -- a hand that has seen nothing
  abbrev pub first_hand : ℕ → View T S
  first_hand n = view [] (hand n) None

  -- that many seats of one table, each with the view of its place
  pub record AreDealt (table : TableId) (at : ℕ → View T S) (count : ℕ) (seats : List (Badge (View T S))) : Type 0 where
    pub len : length seats ≡ count
    pub views : (k : ℕ) (d : Badge (View T S)) → k < count → (slice_index_or seats k d).views ≡ at k ∷ []
    pub tables : (k : ℕ) (d : Badge (View T S)) → k < count → (slice_index_or seats k d).table_id ≡ table

-- exactly the hand numbers below this one are out
abbrev pub AreOutBelow : {T S : Type 0} → Meaning T S → ℕ → S → Type 0
AreOutBelow m hands x = (n : ℕ) → m.is_out x n ≡ nat_lt n hands
