-- What a call that was played on the object leaves to the holder.
use Rattle.std.proofs.Common.{◌≡◌, ℕ, Bool, true, false, not, ◌&&◌, ◌||◌, [], ◌∷◌, ◌++◌, refl, sym, ap, ◌∙◌, subst, None, Some, Ok, Err, IfSome, IfOk, IfErr, option_map, Result}
use Rattle.std.specs.Prelude.{Option as Maybe, MatchOption}
use Rattle.turn_table.specs.declared.view.View.{View}
use Rattle.turn_table.specs.Meaning.{Meaning, names, HasRoom}
use Rattle.turn_table.specs.History.{entry}
use Rattle.turn_table.specs.Views.{holding, caller}
use Rattle.turn_table.specs.Turns.{maker, new_hand, made_by, made_in, made_of, Outs, IsDecidable, MayLetGo}
use Rattle.turn_table.specs.Steps.{decided, held_after, role_after}
use Rattle.turn_table.specs.Calls.{MayCall, Played}
use Rattle.turn_table.proofs.MineLemmas.{itself}

-- what holds of a value that came back, changed for what follows from it
pub if_ok : {A E : Type 0} (P Q : A → Type 0) (r : Result A E) → IfOk r P → ((a : A) → P a → Q a) → IfOk r Q
if_ok P Q (Ok a) h f = f a h
if_ok P Q (Err e) h f = tt

pub if_err : {A E : Type 0} (P Q : E → Type 0) (r : Result A E) → IfErr r P → ((e : E) → P e → Q e) → IfErr r Q
if_err P Q (Ok a) h f = tt
if_err P Q (Err e) h f = f e h

module _ {T S : Type 0} (m : Meaning T S) where
  -- what the reply says of the hand that was made: none, and the view is as it was; or the holder made it
  abbrev pub HandIs : {A : Type 0} → A → S → Maybe (A × View T S) → View T S → View T S → Type 0
  HandIs table x given v h = MatchOption given (h ≡ v) (λ z. (z ≡ (table, new_hand m v)) × (h ≡ maker m v) × HasRoom m x)

  -- the holder as it is when its call was played
  pub record Holds (x : S) (v h : View T S) : Type 0 where
    pub seen : h.seen ≡ v.seen
    pub role : h.role ≡ v.role
    pub holds : h.holds ≡ holding x (made_of h)

  pub holds_of : {A : Type 0} (table : A) (x : S) (given : Maybe (A × View T S)) (v h : View T S) → v.holds ≡ holding x None → HandIs table x given v h → Holds x v h
  holds_of table x None v h is hands = record {
    seen = ap (λ (z : View T S). z.seen) hands;
    role = ap (λ (z : View T S). z.role) hands;
    holds = let e : h.holds ≡ holding x None = ap (λ (z : View T S). z.holds) hands ∙ is in e ∙ ap (holding x) (sym (ap made_in e));
  }
  holds_of table x (Some z) v h is hands = record {
    seen = ap (λ (z : View T S). z.seen) hands.1;
    role = ap (λ (z : View T S). z.role) hands.1;
    holds = let e = ap (λ (z : View T S). z.holds) hands.1 ∙ ap (made_by m) is in e ∙ ap (holding x) (sym (ap made_in e));
  }

  pub hand_of : {A : Type 0} (table : A) (x : S) (given : Maybe (A × View T S)) (v h : View T S) → HandIs table x given v h → IfSome (option_map (λ z. z.1) given) (λ z. (z ≡ new_hand m v) × HasRoom m x)
  hand_of table x None v h hands = tt
  hand_of table x (Some z) v h hands = (ap (λ p. p.1) hands.0, hands.2)

  pub table_of : {A : Type 0} (table : A) (x : S) (given : Maybe (A × View T S)) (v h : View T S) → HandIs table x given v h → IfSome given (λ z. z.0 ≡ table)
  table_of table x None v h hands = tt
  table_of table x (Some z) v h hands = ap (λ p. p.0) hands.0

  module _ (Legal : S → T → Type 0) where
    pub decidable : {R : Type 0} (told : R → T) (r : R) (back : Maybe ℕ) (x y : S) (v h : View T S) → MayCall m told back v.role → Holds x v h → Legal x (told r) → y ≡ m.after x (told r) → Outs m x (made_of h) back y
        → IsDecidable m Legal (Some (told r)) back h
    decidable told r back x y v h may held legal is outs = record {
      entry = told r;
      state = x;
      made = made_of h;
      asked_is = refl;
      holds = held.holds;
      legal = legal;
      may = record {
        signed = λ num. let s = may.signed r num in (s.0, ap caller held.role ∙ s.1);
        own = λ b e. held.role ∙ may.own b e;
        outs = subst (λ (z : S). Outs m x (made_of h) back z) is outs;
      };
    }

    pub played : (back : Maybe ℕ) (hands : Maybe (View T S)) (t : T) (x : S) (v h w : View T S) → Holds x v h → Legal x t → w ≡ decided m back t h → IfSome hands (λ z. (z ≡ new_hand m v) × HasRoom m x) → Played m Legal back hands t x v w
    played back hands t x v h w held legal is hand_is = record {
      legal = legal;
      seen = ap (λ (z : View T S). z.seen) is ∙ (λ i. held.seen i ++ entry (caller (held.role i)) t ∷ []);
      role = ap (λ (z : View T S). z.role) is ∙ ap (role_after m back t) held.role;
      hand_is = hand_is;
    }

  pub lets : (back : Maybe ℕ) (t : T) (x y : S) (v h w : View T S) → Holds x v h → y ≡ m.after x t → Outs m x (made_of h) back y → w ≡ decided m back t h → MayLetGo m y w
  lets back t x y v h w held is outs dec = record {
    made = made_of h;
    holds = ap (λ (z : View T S). z.holds) dec ∙ (ap (held_after m t) held.holds ∙ ap (λ (z : S). holding z (made_of h)) (sym is));
    out = λ n e. outs n ∙ left (names (made_of h) n) (m.is_out x n && not (names back n)) (ap (λ (k : Maybe ℕ). names k n) e ∙ itself n);
  } where
    left : (a b : Bool) → a ≡ true → (a || b) ≡ true
    left true b e = refl
    left false b e = absurd cc

  -- a call that wasn't played leaves the holder
  pub lets_back : (x y : S) (v w : View T S) → v.holds ≡ holding x None → y ≡ x → w ≡ v → MayLetGo m y w
  lets_back x y v w is same e = record {
    made = None;
    holds = ap (λ (z : View T S). z.holds) e ∙ (is ∙ ap (λ (z : S). holding z None) (sym same));
    out = λ n f. absurd cc;
  }
