-- The seat of a hand that a reply has, as plain data.
use Rattle.std.specs.Prelude.{List, [], ◌∷◌, Option, Some}
use Rattle.atomic_table.specs.Seated.{TableId}
use Rattle.turn_table.specs.declared.view.View.{View}
use Rattle.turn_table.specs.Steps.{spent}

module _ {T S : Type 0} where
  -- a badge's one view, and a spent one in its place where it has none
  abbrev pub one_view : List (View T S) → View T S
  one_view [] = spent
  one_view (v ∷ []) = v
  one_view (v ∷ w ∷ vs) = spent

  abbrev pub seat_in : TableId → List (View T S) → Option (TableId × View T S)
  seat_in t vs = Some (t, one_view vs)
