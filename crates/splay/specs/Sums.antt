-- Sums of two parts of a list and of the item between them, where a part may have no items.
use Rattle.std.specs.Prelude.{ℕ, ◌+◌, Option, Some, None}
use Rattle.splay.specs.declared.store.Tally.{Tally}

module _ {M : Type 0} where
  -- a measure behind what may be a sum
  abbrev pub sum_behind : (M → M → M) → Option M → M → M
  sum_behind add None own = own
  sum_behind add (Some sum) own = add sum own

  -- what may be a tally's sum behind what may be a sum
  abbrev pub all_behind : (M → M → M) → Option M → Option (Tally M) → Option M
  all_behind add sum None = sum
  all_behind add sum (Some t) = Some (sum_behind add sum t.all)

  -- how many items a part has
  abbrev pub count_in : Option (Tally M) → ℕ
  count_in None = 0
  count_in (Some t) = t.count

  -- what a sum weighs, and nothing where there is none
  abbrev pub weight_in : (M → ℕ) → Option M → ℕ
  weight_in weight None = 0
  weight_in weight (Some sum) = weight sum

  -- what a part's sum weighs
  abbrev pub weight_of_part : (M → ℕ) → Option (Tally M) → ℕ
  weight_of_part weight None = 0
  weight_of_part weight (Some t) = weight t.all

  -- the tally of a part and of an item behind it
  abbrev pub tally_behind : (M → M → M) → Option (Tally M) → M → Tally M
  tally_behind add None own = record { count = 1; all = own }
  tally_behind add (Some t) own = record { count = t.count + 1; all = add t.all own }

  -- the tally of two parts and of the item between them
  abbrev pub tally_between : (M → M → M) → Option (Tally M) → M → Option (Tally M) → Tally M
  tally_between add left own None = tally_behind add left own
  tally_between add left own (Some t) =
      let first = tally_behind add left own in record { count = first.count + t.count; all = add first.all t.all }
