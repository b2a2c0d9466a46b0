-- What the steps of a call add up to.
use Rattle.std.proofs.Common.{◌≡◌, ℕ, true, false, cond, ◌&&◌, List, [], ◌∷◌, ◌++◌, refl, sym, ap, ◌∙◌, subst, ⊎_elim, None, Some, IfSome}
use Rattle.std.specs.Prelude.{Option as Maybe, filter}
use Rattle.std.proofs.lemmas.List.{append-nil}
use Rattle.std.proofs.lemmas.List.Elements.{filter-append}
use mathlib.Core.List.{IsPrefix}
use Rattle.atomic_table.specs.Table.{Me}
use Rattle.turn_table.specs.declared.view.Entry.{Entry}
use Rattle.turn_table.specs.declared.view.Role.{Role}
use Rattle.turn_table.specs.declared.view.View.{View}
use Rattle.turn_table.specs.Meaning.{Meaning, lowest, HasRoom}
use Rattle.turn_table.specs.History.{entry, state_after, IsLegal, AreCalled}
use Rattle.turn_table.specs.Views.{view, holding, hand, caller, stands_for, added, Mine, Numbered}
use Rattle.turn_table.specs.Tokens.{stands_by, is_own, mine, Knows}
use Rattle.turn_table.specs.Turns.{number_by, new_hand}
use Rattle.turn_table.specs.Steps.{let_go, role_after, joined, Grabbed, Saw}
use Rattle.turn_table.specs.Calls.{MayCall, Began, Played, Took, Looked, Joined}
use Rattle.turn_table.proofs.HistoryLemmas.{legal_push, called_push}
use Rattle.turn_table.proofs.MineLemmas.{caller_stands, stands_added, none_between, either_bool}
use Rattle.turn_table.proofs.LockLemmas.{knows_of}
use Rattle.turn_table.proofs.DecideLemmas.{mine_after, numbered_after, called_entry}
use Rattle.turn_table.proofs.JoinLemmas.{of_both}

module _ {T S : Type 0} (m : Meaning T S) where
  -- two roles that stand for the same numbers have the same calls
  same_own : (r q : Role T) → ((n : ℕ) → stands_for r n ≡ stands_for q n) → (es : List (Entry T)) → filter (is_own {S = S} m r) es ≡ filter (is_own {S = S} m q) es
  same_own r q same es = ap (λ p. filter p es) (λ i e. own e i) where
    by_same : (by : Maybe ℕ) → stands_by r by ≡ stands_by q by
    by_same None = refl
    by_same (Some n) = same n

    own : (e : Entry T) → is_own {S = S} m r e ≡ is_own {S = S} m q e
    own e = ap (λ b. m.is_numbered e.told && b) (by_same e.by)

  -- a call of its own role is one of its calls where it is numbered
  own_call : (r : Role T) (t : T) → (m.is_numbered t ≡ true → (n : ℕ) × (caller r ≡ Some n)) → filter (is_own {S = S} m r) (entry (caller r) t ∷ []) ≡ cond (m.is_numbered t) (entry (caller r) t ∷ []) []
  own_call r t signed = ⊎_elim
      (λ (num : m.is_numbered t ≡ true). let s = signed num in let own : stands_by r (caller r) ≡ true = ap (stands_by r) s.1 ∙ caller_stands r s.0 s.1 in
      ap (λ b. cond (b && stands_by r (caller r)) (entry (caller r) t ∷ []) []) num ∙ (ap (λ b. cond b (entry (caller r) t ∷ []) []) own ∙ ap (λ b. cond b (entry (caller r) t ∷ []) []) (sym num)))
      (λ (num : m.is_numbered t ≡ false). ap (λ b. cond (b && stands_by r (caller r)) (entry (caller r) t ∷ []) []) num ∙ ap (λ b. cond b (entry (caller r) t ∷ []) []) (sym num))
      (either_bool (m.is_numbered t))

  -- what lies between adds none of its own
  pub mine_longer : (v w : View T S) (between : List (Entry T)) → w.seen ≡ v.seen ++ between → w.role ≡ v.role → Mine m v.seen v.role → Mine m w.seen w.role → mine m w ≡ mine m v
  mine_longer v w between seen role f g =
      let g' : Mine m (v.seen ++ between) v.role = subst (Mine m (v.seen ++ between)) role (subst (λ (l : List (Entry T)). Mine m l w.role) seen g) in
      (λ i. filter (is_own {S = S} m (role i)) (seen i))
      ∙ (filter-append (is_own {S = S} m v.role) v.seen between ∙ (ap (λ l. mine m v ++ l) (none_between m v.role v.seen between f g') ∙ append-nil (mine m v)))

  module _ (Legal : S → T → Type 0) (start : S) (desks : ℕ) where
    -- the seat g has the lock, and its call is the last entry: w
    pub took : (back : Maybe ℕ) (given : Maybe (View T S)) (t : T) (x : S) (v g w : View T S) → Began m Legal start desks x v g → Legal x t → (m.is_numbered t ≡ true → (n : ℕ) × (caller v.role ≡ Some n))
        → w.seen ≡ g.seen ++ entry (caller g.role) t ∷ [] → w.role ≡ role_after m back t g.role → w.holds ≡ None
        → IfSome given (λ h. (h ≡ new_hand m g) × HasRoom m x)
        → Took m Legal start desks back given t v w
    took back given t x v g w b legal signed seen role rests hands =
        let between : List (Entry T) = b.sees.0 in
        let e : Entry T = entry (caller v.role) t in
        let same : v.seen ++ between ≡ g.seen = b.sees.1 in
        let signs : caller g.role ≡ caller v.role = ap caller b.role in
        let seen' : w.seen ≡ (v.seen ++ between) ++ e ∷ [] = seen ∙ (λ i. sym same i ++ entry (signs i) t ∷ []) in
        let role' : w.role ≡ role_after m back t v.role = role ∙ ap (role_after m back t) b.role in
        let now : state_after m start (v.seen ++ between) ≡ x = ap (state_after m start) same ∙ b.now in
        let parts : Mine m (v.seen ++ between) v.role = subst (Mine m (v.seen ++ between)) b.role (subst (λ (l : List (Entry T)). Mine m l g.role) (sym same) b.knows.parts) in
        let numbered : Numbered desks v.role = subst (Numbered desks) b.role b.knows.numbered in
        let here : Legal (state_after m start (v.seen ++ between)) t = subst (λ (z : S). Legal z t) (sym now) legal in record {
          between = between;
          seen = seen';
          legal = here;
          role = role';
          mine = λ none. mine_then back none t v w between (seen', role') signed b.was parts;
          rests = rests;
          knows = knows_of m Legal start desks w
              (subst (IsLegal m Legal start) (sym seen') (legal_push m Legal start (v.seen ++ between) e (subst (IsLegal m Legal start) (sym same) b.knows.legal) here))
              (subst (Mine m w.seen) (sym role') (subst (λ (l : List (Entry T)). Mine m l (role_after m back t v.role)) (sym seen') (mine_after m back t (v.seen ++ between) v.role signed parts)))
              (subst (Numbered desks) (sym role') (numbered_after m back t desks v.role numbered))
              (subst (AreCalled m desks) (sym seen') (called_push m desks (v.seen ++ between) e (subst (AreCalled m desks) (sym same) b.knows.called) (called_entry m back t desks v.role signed numbered)));
          hand_is = hand_given given hands (λ i. (sym same i, sym now i)) (ap (number_by m) b.holds);
        } where
          mine_then : (back : Maybe ℕ) → back ≡ None → (t : T) (v w : View T S) (between : List (Entry T)) → (w.seen ≡ (v.seen ++ between) ++ entry (caller v.role) t ∷ []) × (w.role ≡ role_after m back t v.role)
              → (m.is_numbered t ≡ true → (n : ℕ) × (caller v.role ≡ Some n)) → Mine m v.seen v.role → Mine m (v.seen ++ between) v.role
              → mine m w ≡ mine m v ++ cond (m.is_numbered t) (entry (caller v.role) t ∷ []) []
          mine_then back none_back t v w between is signed f g = let e : Entry T = entry (caller v.role) t in
              let added_role : w.role ≡ added m v.role e = is.1 ∙ ap (λ (b : Maybe ℕ). role_after m b t v.role) none_back in
              same_own w.role v.role (λ n. ap (λ r. stands_for r n) added_role ∙ stands_added m v.role e n) w.seen
              ∙ (ap (filter (is_own {S = S} m v.role)) is.0
              ∙ (filter-append (is_own {S = S} m v.role) (v.seen ++ between) (e ∷ [])
              ∙ ((λ i. (filter-append (is_own {S = S} m v.role) v.seen between ∙ (ap (λ l. mine m v ++ l) (none_between m v.role v.seen between f g) ∙ append-nil (mine m v))) i ++ own_call v.role t signed i))))

          hand_given : (given : Maybe (View T S)) → IfSome given (λ h. (h ≡ new_hand m g) × HasRoom m x) → ◌≡◌ {A = List (Entry T) × S} (g.seen, x) (v.seen ++ b.sees.0, state_after m start (v.seen ++ b.sees.0))
              → number_by m g.holds ≡ lowest m x → IfSome given (λ h. let y = state_after m start (v.seen ++ b.sees.0) in (h ≡ view (v.seen ++ b.sees.0) (hand (lowest m y)) None) × HasRoom m y)
          hand_given None h same number = tt
          hand_given (Some z) h same number = (h.0 ∙ (λ i. view g.seen (hand (number i)) None) ∙ (λ i. view (same i).0 (hand (lowest m (same i).1)) None), subst (HasRoom m) (λ i. (same i).1) h.1)

    pub looked : (x : S) (v g w : View T S) → Began m Legal start desks x v g → w.seen ≡ g.seen → w.role ≡ g.role → w.holds ≡ None → Looked m Legal start desks v w
    looked x v g w b seen role rests =
        let seen' : w.seen ≡ v.seen ++ b.sees.0 = seen ∙ sym b.sees.1 in
        let parts : Mine m w.seen w.role = subst (Mine m w.seen) (sym role) (subst (λ (l : List (Entry T)). Mine m l g.role) (sym seen) b.knows.parts) in record {
          seen = (b.sees.0, sym seen');
          role = role ∙ b.role;
          mine = mine_longer v w b.sees.0 seen' (role ∙ b.role) b.was parts;
          rests = rests;
          knows = knows_of m Legal start desks w (subst (IsLegal m Legal start) (sym seen) b.knows.legal) parts (subst (Numbered desks) (sym role) b.knows.numbered) (subst (AreCalled m desks) (sym seen) b.knows.called);
        }

    pub ended : (asked : Maybe S) (v other w : View T S) → asked ≡ Some start → v.holds ≡ None → Saw m Legal asked desks (joined v other) w → Joined m Legal start desks v other w
    ended asked v other w is rests saw = let both = of_both (λ l. IsPrefix l w.seen) v.seen other.seen saw.sees saw.hears in record {
      seen = both.0;
      told = both.1;
      role = saw.role;
      rests = saw.holds ∙ rests;
      knows = subst (λ (z : Maybe S). IfSome z (λ y. Knows m Legal y desks w)) is saw.now;
    }

    -- a seat that took the lock
    pub began : {O : Type 0} (state : O → S) (asked : Maybe S) (a b : Me (Maybe O) (View T S)) (o : O) → asked ≡ Some start → (g : Grabbed m Legal state asked desks a b) → g.object ≡ o → Began m Legal start desks (state o) a.0 b.0
    began {O} state asked a b o is g same =
        let now = subst (λ (z : Maybe S). IfSome z (λ y. (state_after m y b.0.seen ≡ state g.object) × Knows m Legal y desks b.0)) is g.now in record {
          sees = g.sees;
          role = g.role;
          holds = g.holds ∙ ap (λ (z : O). holding (state z) None) same;
          now = now.0 ∙ ap state same;
          knows = now.1;
          was = g.was;
        }

    -- a call that was played, and the lock let go
    pub took_played : {R : Type 0} (told : R → T) (r : R) (back : Maybe ℕ) (given : Maybe (View T S)) (x : S) (v g d w : View T S) → Began m Legal start desks x v g → MayCall m told back v.role → Played m Legal back given (told r) x g d → w ≡ let_go d
        → Took m Legal start desks back given (told r) v w
    took_played told r back given x v g d w b may p is = took back given (told r) x v g w b p.legal (may.signed r) (ap (λ (z : View T S). z.seen) is ∙ p.seen) (ap (λ (z : View T S). z.role) is ∙ p.role) (ap (λ (z : View T S). z.holds) is) p.hand_is
