-- Desks and hands of one table, as the tests pass them on.
use Rattle.std.specs.Prelude.{◌≡◌, ℕ, ◌<◌, List, length, slice_index_or}
use Rattle.atomic_table.specs.Seated.{TableId}
use Rattle.atomic_table.specs.declared.badge.Badge.{Badge}
use Rattle.hand_register.specs.declared.register.Told.{Told}
use Rattle.hand_register.specs.declared.register.Shown.{Shown}
use Rattle.turn_table.specs.declared.view.View.{View}
use Rattle.turn_table.specs.Calls.{Has}
use Rattle.turn_table.specs.Tokens.{IsDesk, IsHand}

abbrev pub IsAt : TableId → Badge (View Told Shown) → Type 0
IsAt t d = (d.table_id ≡ t) × Has IsDesk d.views

abbrev pub AreAt : TableId → List (Badge (View Told Shown)) → Type 0
AreAt t ds = (k : ℕ) (d : Badge (View Told Shown)) → k < length ds → IsAt t (slice_index_or ds k d)

abbrev pub IsHandAt : TableId → ℕ → Badge (View Told Shown) → Type 0
IsHandAt t n h = (h.table_id ≡ t) × Has (IsHand n) h.views
