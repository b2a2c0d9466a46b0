-- Badges: what holds of the one view of each, before and after a call.
use Rattle.std.proofs.Common.{◌≡◌, ℕ, Bool, true, false, cond, List, [], ◌∷◌, ◌++◌, refl, sym, ap, ◌∙◌, subst, None, Some, Ok, Err, IfOk, IfErr, Result}
use Rattle.std.specs.Prelude.{Option as Maybe}
use Rattle.turn_table.specs.declared.view.Entry.{Entry}
use Rattle.turn_table.specs.declared.view.Part.{Part}
use Rattle.turn_table.specs.declared.view.Role.{Role}
use Rattle.turn_table.specs.declared.view.View.{View}
use Rattle.turn_table.specs.Meaning.{Meaning}
use Rattle.turn_table.specs.History.{entry}
use Rattle.turn_table.specs.Views.{desk, hand, caller, added, with_call}
use Rattle.turn_table.specs.Tokens.{IsDesk, IsHand}
use Rattle.turn_table.specs.Steps.{parts_of}
use Rattle.turn_table.specs.Calls.{Has, Turned, MayCall, Took, Looked, Joined}

module _ {V : Type 0} where
  pub one_head : (a b : V) → a ∷ [] ≡ b ∷ [] → a ≡ b
  one_head a b e = ap (head_or a) e where
    head_or : V → List V → V
    head_or d [] = d
    head_or d (x ∷ xs) = x

  pub turned : (P : V → V → Type 0) (old new : List V) (a b : V) → old ≡ a ∷ [] → new ≡ b ∷ [] → P a b → Turned P old new
  turned P old new a b eo en p = λ v e. (b, en, subst (λ (z : V). P z b) (one_head a v (sym eo ∙ e)) p)

  pub had : (P : V → Type 0) (views : List V) (a : V) → views ≡ a ∷ [] → Has P views → P a
  had P views a e h = subst P (one_head h.0 a (sym h.1 ∙ e)) h.2

  pub turned_as : (P Q : V → V → Type 0) (old new : List V) → Turned P old new → ((v w : V) → P v w → Q v w) → Turned Q old new
  turned_as P Q old new t f = λ v e. let r = t v e in (r.0, r.1, f v r.0 r.2)

  pub has_after : (P : V → V → Type 0) (A B : V → Type 0) (old new : List V) → Turned P old new → ((v w : V) → A v → P v w → B w) → Has A old → Has B new
  has_after P A B old new t f h = let r = t h.0 h.1 in (r.0, r.1, f h.0 r.0 h.2 r.2)

module _ {T S : Type 0} (m : Meaning T S) where
  pub desk_may : {R : Type 0} (told : R → T) (back : Maybe ℕ) (v : View T S) → IsDesk v → back ≡ None → MayCall m told back v.role
  desk_may told back v d none = record {
    signed = λ a num. (d.first.number, ap caller d.role);
    own = λ b e. absurd (cc (e, none));
  }

  pub hand_may : {R : Type 0} (told : R → T) (back : Maybe ℕ) (n : ℕ) (v : View T S) → IsHand n v → ((b : ℕ) → back ≡ Some b → b ≡ n) → ((r : R) → m.is_numbered (told r) ≡ false) → MayCall m told back v.role
  hand_may told back n v h own plain = record {
    signed = λ a num. absurd (let p = plain a in cc (p, num));
    own = λ b e. h.role ∙ ap hand (sym (own b e));
  }

  -- a desk stays one behind its call
  desk_behind : (first : Part T) (others : List (Part T)) (e : Entry T) (b : Bool) → (p : Part T) × (ps : List (Part T)) × (desk (cond b (with_call (first ∷ others) e) (first ∷ others)) ≡ desk (p ∷ ps))
  desk_behind first others e true = (record { number = first.number; mine = first.mine ++ e ∷ [] }, others, refl)
  desk_behind first others e false = (first, others, refl)

  module _ (Legal : S → T → Type 0) (start : S) (desks : ℕ) where
    pub desk_took : (given : Maybe (View T S)) (t : T) (v w : View T S) → IsDesk v → Took m Legal start desks None given t v w → IsDesk w
    desk_took given t v w d took = let e : Entry T = entry (caller v.role) t in let r = desk_behind d.first d.others e (m.is_numbered t) in record {
      first = r.0;
      others = r.1;
      role = took.role ∙ (ap (λ (q : Role T). added m q e) d.role ∙ r.2);
      rests = took.rests;
    }

    pub desk_looked : (v w : View T S) → IsDesk v → Looked m Legal start desks v w → IsDesk w
    desk_looked v w d looked = record {
      first = d.first;
      others = d.others;
      role = looked.role ∙ d.role;
      rests = looked.rests;
    }

    pub desk_joined : (v other w : View T S) → IsDesk v → Joined m Legal start desks v other w → IsDesk w
    desk_joined v other w d j = record {
      first = d.first;
      others = d.others ++ parts_of other.role;
      role = j.role ∙ ap (λ (q : Role T). desk (parts_of q ++ parts_of other.role)) d.role;
      rests = j.rests;
    }

    -- a desk stays one, whatever its call answers
    pub still_desk : {A E : Type 0} (told : A → T) (given : A → Maybe (View T S)) (c : E) (r : Result A E) (old new : List (View T S)) → Has IsDesk old
        → IfOk r (λ a. Turned (Took m Legal start desks None (given a) (told a)) old new) → IfErr r (λ e. (e ≡ c) × Turned (Looked m Legal start desks) old new) → Has IsDesk new
    still_desk told given c (Ok a) old new h ok err = has_after (Took m Legal start desks None (given a) (told a)) IsDesk IsDesk old new ok (desk_took (given a) (told a)) h
    still_desk told given c (Err e) old new h ok err = has_after (Looked m Legal start desks) IsDesk IsDesk old new err.1 desk_looked h
