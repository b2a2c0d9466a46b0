-- The parts of the rule when one seat's view changes: the lock, the history, the desk numbers and the hand numbers.
use Rattle.std.proofs.Common.{◌≡◌, ℕ, ◌≢◌, ◌⊎◌, true, List, [], ◌∷◌, ◌++◌, length, get_or, set, sym, ap, ◌∙◌, subst, inl, inr, ⊎_elim, None, Some}
use Rattle.std.specs.Prelude.{Option as Maybe}
use mathlib.Core.Logic.{dite}
use mathlib.Core.List.{IsPrefix}
use mathlib.Core.Option.{Option, some, none}
use native.Mathlib.Decide.{ℕ_discrete}
use lib.ListN.{get_elem?}
use Rattle.atomic_table.specs.Table.{State}
use Rattle.atomic_table.proofs.Lists.{set_else, at_longer}
use Rattle.turn_table.specs.declared.view.Entry.{Entry}
use Rattle.turn_table.specs.declared.view.Holding.{Holding}
use Rattle.turn_table.specs.declared.view.View.{View}
use Rattle.turn_table.specs.Meaning.{Meaning}
use Rattle.turn_table.specs.Views.{holding, stands_for, has_hand, Mine, Numbered}
use Rattle.turn_table.specs.Rule.{desks_of, hands_of, IsFree, IsHeld, Lock, History, Desks, Hands, Kept}
use Rattle.turn_table.proofs.Seats.{at_push, same_at, here, each_set, each_push, one_set}

-- what a holder knows, taken apart
abbrev pub same_holding : {S : Type 0} → S → S → Maybe ℕ → Maybe ℕ → Type 0
same_holding x y j k = (x ≡ y) × (j ≡ k)

pub same_parts : {S : Type 0} (x y : S) (j k : Maybe ℕ) → holding x j ≡ holding y k → same_holding x y j k
same_parts {S} x y j k e = (ap state_or e, ap made_or e) where
  state_or : Maybe (Holding S) → S
  state_or None = x
  state_or (Some h) = h.state

  made_or : Maybe (Holding S) → Maybe ℕ
  made_or None = None
  made_or (Some h) = h.made

module _ {O T S : Type 0} (state : O → S) (log : List (Entry T)) (now : S) (made : Maybe ℕ) (word : ℕ) (homes : List (Option (Maybe O))) where
  abbrev pub LockOf : List (View T S) → Type 0
  LockOf vs = Lock state log now made word homes vs

  -- a seat that holds nothing isn't the holder
  not_holder : (vs : List (View T S)) (h : IsHeld {O = O} log now made word homes vs) (id : ℕ) (v : View T S) → get_elem? vs id ≡ some v → v.holds ≡ None → h.holder ≢ id
  not_holder vs h id v at rests e =
      let same : h.here ≡ v = same_at vs id h.here v (subst (λ (k : ℕ). get_elem? vs k ≡ some h.here) e h.at) at in
      absurd (cc (h.holds, ap (λ (z : View T S). z.holds) same, rests))

  -- one that holds nothing before and after
  pub lock_set : (vs : List (View T S)) (id : ℕ) (v w : View T S) → get_elem? vs id ≡ some v → v.holds ≡ None → w.holds ≡ None → LockOf vs → LockOf (set vs id w)
  lock_set vs id v w at was is lock = ⊎_elim
      (λ (f : IsFree state now made word homes vs). inl record {
        object = f.object;
        word_is = f.word_is;
        homes_are = f.homes_are;
        state_is = f.state_is;
        made_is = f.made_is;
        nobody = each_set (λ (z : View T S). z.holds ≡ None) vs id w is f.nobody;
      })
      (λ (h : IsHeld {O = O} log now made word homes vs). let ne = not_holder vs h id v at was in inr record {
        holder = h.holder;
        here = h.here;
        word_is = h.word_is;
        homes_are = h.homes_are;
        at = set_else vs id h.holder w ne ∙ h.at;
        holds = h.holds;
        sees = h.sees;
        others = λ j z other e. dite (ℕ_discrete j id)
            (λ (k : j ≡ id). let same : w ≡ z = same_at (set vs id w) id w z (here vs id v w at) (subst (λ (i : ℕ). get_elem? (set vs id w) i ≡ some z) k e) in ap (λ (y : View T S). y.holds) (sym same) ∙ is)
            (λ (k : j ≢ id). h.others j z other (sym (set_else vs id j w k) ∙ e));
      })
      lock

  pub lock_push : (vs : List (View T S)) (w : View T S) → w.holds ≡ None → LockOf vs → LockOf (vs ++ w ∷ [])
  lock_push vs w is lock = ⊎_elim
      (λ (f : IsFree state now made word homes vs). inl record {
        object = f.object;
        word_is = f.word_is;
        homes_are = f.homes_are;
        state_is = f.state_is;
        made_is = f.made_is;
        nobody = each_push (λ (z : View T S). z.holds ≡ None) vs w is f.nobody;
      })
      (λ (h : IsHeld {O = O} log now made word homes vs). inr record {
        holder = h.holder;
        here = h.here;
        word_is = h.word_is;
        homes_are = h.homes_are;
        at = at_longer vs (w ∷ []) h.holder h.here h.at;
        holds = h.holds;
        sees = h.sees;
        others = λ j z other e. ⊎_elim (λ (k : get_elem? vs j ≡ some z). h.others j z other k) (λ (k : (j ≡ length vs) × (w ≡ z)). ap (λ (y : View T S). y.holds) (sym k.1) ∙ is) (at_push vs w z j e);
      })
      lock

module _ {T S : Type 0} (m : Meaning T S) where
  module _ (Legal : S → T → Type 0) (start : S) (log : List (Entry T)) (now : S) where
    pub history_set : (vs : List (View T S)) (id : ℕ) (w : View T S) → IsPrefix w.seen log → IsPrefix w.heard log → History m Legal start log now vs → History m Legal start log now (set vs id w)
    history_set vs id w a b h = record {
      legal = h.legal;
      now_is = h.now_is;
      begun = each_set (λ (z : View T S). IsPrefix z.seen log) vs id w a h.begun;
      heard = each_set (λ (z : View T S). IsPrefix z.heard log) vs id w b h.heard;
    }

    pub history_push : (vs : List (View T S)) (w : View T S) → IsPrefix w.seen log → IsPrefix w.heard log → History m Legal start log now vs → History m Legal start log now (vs ++ w ∷ [])
    history_push vs w a b h = record {
      legal = h.legal;
      now_is = h.now_is;
      begun = each_push (λ (z : View T S). IsPrefix z.seen log) vs w a h.begun;
      heard = each_push (λ (z : View T S). IsPrefix z.heard log) vs w b h.heard;
    }

  module _ (desks : ℕ) (log : List (Entry T)) where
    -- a seat that stands for what it stood for, and may have seen more
    pub desks_set : (vs : List (View T S)) (id : ℕ) (v w : View T S) → get_elem? vs id ≡ some v → w.role ≡ v.role → Mine m w.seen w.role → Desks m desks log vs → Desks m desks log (set vs id w)
    desks_set vs id v w at same mine d = record {
      apart = one_set desks_of vs id v w at (λ n h. subst (λ r. stands_for r n ≡ true) same h) d.apart;
      mine = each_set (λ (z : View T S). Mine m log z.role) vs id w (subst (Mine m log) (sym same) (d.mine id v at)) d.mine;
      seen = each_set (λ (z : View T S). Mine m z.seen z.role) vs id w mine d.seen;
      numbered = each_set (λ (z : View T S). Numbered desks z.role) vs id w (subst (Numbered desks) (sym same) (d.numbered id v at)) d.numbered;
      called = d.called;
    }

  module _ (now : S) (made : Maybe ℕ) where
    pub hands_set : (vs : List (View T S)) (id : ℕ) (v w : View T S) → get_elem? vs id ≡ some v → ((n : ℕ) → has_hand w.role n ≡ true → has_hand v.role n ≡ true) → Hands m now made vs → Hands m now made (set vs id w)
    hands_set vs id v w at less h = record {
      apart = one_set hands_of vs id v w at less h.apart;
      out = each_set (λ (z : View T S). (n : ℕ) → hands_of z n ≡ true → (m.is_out now n ≡ true) ⊎ (made ≡ Some n)) vs id w (λ n k. h.out id v at n (less n k)) h.out;
    }

module _ {O T S : Type 0} (m : Meaning T S) (Legal : S → T → Type 0) (state : O → S) (start : S) (desks : ℕ) where
  abbrev St : Type 0
  St = State (Maybe O) (View T S)

  -- the seat that holds the object is the rule's one holder, and knows the history and the state
  pub record Holder (s : St) (r : Kept m Legal state start desks s) (id : ℕ) (v : View T S) (x : S) (k : Maybe ℕ) : Type 0 where
    pub word_is : get_or s.words 0 0 ≡ 1
    pub homes_are : s.homes ≡ none ∷ []
    pub sees : v.seen ≡ r.log
    pub holds : v.holds ≡ holding r.now r.made
    pub now_is : r.now ≡ x
    pub made_is : r.made ≡ k
    pub others : (j : ℕ) (w : View T S) → j ≢ id → get_elem? s.views j ≡ some w → w.holds ≡ None

  held_at : (s : St) (r : Kept m Legal state start desks s) (id : ℕ) (v : View T S) (x : S) (k : Maybe ℕ) → get_elem? s.views id ≡ some v → v.holds ≡ holding x k
      → (h : IsHeld {O = O} r.log r.now r.made (get_or s.words 0 0) s.homes s.views) → id ≡ h.holder → Holder s r id v x k
  held_at s r id v x k at is h e =
      let same : h.here ≡ v = same_at s.views id h.here v (subst (λ (i : ℕ). get_elem? s.views i ≡ some h.here) (sym e) h.at) at in
      let holds : v.holds ≡ holding r.now r.made = ap (λ (z : View T S). z.holds) (sym same) ∙ h.holds in
      let both : holding r.now r.made ≡ holding x k = sym holds ∙ is in
      let records : same_holding r.now x r.made k = same_parts r.now x r.made k both in record {
        word_is = h.word_is;
        homes_are = h.homes_are;
        sees = ap (λ (z : View T S). z.seen) (sym same) ∙ h.sees;
        holds = holds;
        now_is = records.0;
        made_is = records.1;
        others = λ j w ne at'. h.others j w (λ q. ne (q ∙ sym e)) at';
      }

  pub held_by : (s : St) (r : Kept m Legal state start desks s) (id : ℕ) (v : View T S) (x : S) (k : Maybe ℕ) → get_elem? s.views id ≡ some v → v.holds ≡ holding x k → Holder s r id v x k
  held_by s r id v x k at is = ⊎_elim
      (λ (f : IsFree state r.now r.made (get_or s.words 0 0) s.homes s.views). absurd (let rests = f.nobody id v at in cc))
      (λ (h : IsHeld {O = O} r.log r.now r.made (get_or s.words 0 0) s.homes s.views). dite (ℕ_discrete id h.holder)
      (λ (e : id ≡ h.holder). held_at s r id v x k at is h e)
      (λ (ne : id ≢ h.holder). absurd (let rests = h.others id v ne at in cc)))
      r.lock
