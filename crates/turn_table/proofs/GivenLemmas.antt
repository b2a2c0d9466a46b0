-- The hand that a call has just made.
use Rattle.std.proofs.Common.{◌≡◌, ℕ, List, [], ◌∷◌, refl, ap, None}
use Rattle.turn_table.specs.declared.view.Entry.{Entry}
use Rattle.turn_table.specs.declared.view.View.{View}
use Rattle.turn_table.specs.Views.{view, hand}
use Rattle.turn_table.specs.Tokens.{IsHand}
use Rattle.turn_table.specs.Calls.{Has}
use Rattle.turn_table.specs.Given.{one_view}

module _ {T S : Type 0} where
  pub has_hand_in : (vs : List (View T S)) (seen : List (Entry T)) (n : ℕ) → one_view vs ≡ view seen (hand n) None → Has (IsHand n) vs
  has_hand_in [] seen n e = absurd (let r = ap (λ (v : View T S). v.role) e in cc)
  has_hand_in (v ∷ []) seen n e = (v, refl, record { role = ap (λ (z : View T S). z.role) e; rests = ap (λ (z : View T S). z.holds) e })
  has_hand_in (v ∷ w ∷ vs) seen n e = absurd (let r = ap (λ (z : View T S). z.role) e in cc)
