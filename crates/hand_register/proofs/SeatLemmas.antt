-- The seats that the register's replies have, and those of a new table.
use Rattle.std.proofs.Common.{◌≡◌, ℕ, ◌<◌, true, cond, nat_lt, List, [], ◌∷◌, ◌++◌, None, Some, refl, ap, subst, arith, length-append}
use Rattle.std.proofs.Math.ListN.{get_or-append}
use Rattle.std.proofs.lemmas.Bool.Decides.{nat_tests}
use Rattle.atomic_table.specs.Seated.{TableId}
use Rattle.atomic_table.specs.declared.badge.Badge.{Badge}
use Rattle.turn_table.specs.declared.view.Entry.{Entry}
use Rattle.turn_table.specs.declared.view.View.{View}
use Rattle.turn_table.specs.Meaning.{MayFollow, lowest, HasRoom}
use Rattle.turn_table.specs.Views.{view, part, hand}
use Rattle.turn_table.specs.Openings.{AreDealt, new_desk}
use Rattle.turn_table.specs.History.{state_after}
use Rattle.turn_table.specs.Tokens.{IsHand}
use Rattle.turn_table.specs.Calls.{Took}
use Rattle.hand_register.specs.declared.register.Told.{Told}
use Rattle.hand_register.specs.declared.register.Told.TheVariants.{Handed}
use Rattle.hand_register.specs.declared.register.Shown.{Shown}
use Rattle.hand_register.specs.Register.{free_of, free_number, meaning, Meets, one_view}
use Rattle.hand_register.specs.Tests.{IsAt, AreAt, IsHandAt}

-- the desks of a new table
pub are_at : (t : TableId) (n : ℕ) (ds : List (Badge (View Told Shown))) → AreDealt t new_desk n ds → AreAt t ds
are_at t n ds all k d h = let inside : k < n = subst (λ z. k < z) all.len h in (all.tables k d inside, (new_desk k, all.views k d inside, record { first = part k []; others = []; role = refl; rests = refl }))

number_is : (x : Shown) (k : ℕ) → HasRoom meaning x → Handed (Some k) ≡ Handed (free_number x) → lowest meaning x ≡ k
number_is x k room e = let one_free : free_number x ≡ Some (free_of x) = ap (λ b. cond b (Some (free_of x)) None) (below (free_of x) 32 room) in let same : Some k ≡ free_number x = cc in cc (same, one_free) where
  below : (a b : ℕ) → a < b → nat_lt a b ≡ true
  below a b h = grind (arith, nat_tests)

seen_hand : (vs : List (View Told Shown)) (seen : List (Entry Told)) (n : ℕ) → one_view vs ≡ view seen (hand n) None → (v : View Told Shown) × (vs ≡ v ∷ []) × IsHand n v
seen_hand [] seen n e = absurd (let r = ap (λ (v : View Told Shown). v.role) e in cc)
seen_hand (v ∷ []) seen n e = (v, refl, record { role = ap (λ (z : View Told Shown). z.role) e; rests = ap (λ (z : View Told Shown). z.holds) e })
seen_hand (v ∷ w ∷ vs) seen n e = absurd (let r = ap (λ (z : View Told Shown). z.role) e in cc)

-- a hand that was made
pub hand_at : (t : TableId) (h : Badge (View Told Shown)) (k : ℕ) (x : Shown) (seen : List (Entry Told)) → h.table_id ≡ t → (one_view h.views ≡ view seen (hand (lowest meaning x)) None) × HasRoom meaning x → MayFollow meaning Meets x (Handed (Some k)) → IsHandAt t k h
hand_at t h k x seen own is legal = let v = seen_hand h.views seen (lowest meaning x) is.0 in (own, (v.0, v.1, subst (λ z. IsHand z v.0) (number_is x k is.1 legal) v.2))

-- a hand that a call has just made
pub hand_made : (t : TableId) (h : Badge (View Told Shown)) (k : ℕ) (start : Shown) (desks : ℕ) (v w : View Told Shown) → h.table_id ≡ t → Took meaning (MayFollow meaning Meets) start desks None (Some (one_view h.views)) (Handed (Some k)) v w → IsHandAt t k h
hand_made t h k start desks v w own took = hand_at t h k (state_after meaning start (v.seen ++ took.between)) (v.seen ++ took.between) own took.hand_is took.legal

-- the desks before the last ones
pub are_front : (t : TableId) (ds xs ys : List (Badge (View Told Shown))) → ds ≡ xs ++ ys → AreAt t ds → AreAt t xs
are_front t ds xs ys is all k d h = let both : AreAt t (xs ++ ys) = subst (AreAt t) is all in let long = length-append xs ys in subst (IsAt t) (get_or-append xs ys d k h) (both k d (omega arith))
