-- The step that makes a call the last entry of the history keeps the rule.
use Rattle.std.proofs.Common.{◌≡◌, ℕ, ◌+◌, ◌%◌, ◌<◌, ◌≢◌, ◌⊎◌, ◌==◌, Bool, true, false, cond, not, ◌&&◌, ◌||◌, List, [], ◌∷◌, ◌++◌, get_or, set, refl, sym, ap, ◌∙◌, subst, inl, inr, ⊎_elim, arith, None, Some, IfSome, is_some, length-set, get_or-set_same, get_or-set_other}
use Rattle.std.specs.Prelude.{Option as Maybe}
use mathlib.Core.List.{IsPrefix}
use mathlib.Core.Option.{some, none}
use lib.ListN.{get_elem?}
use Rattle.atomic_table.specs.Table.{State, Me, step, keeps, Allows}
use Rattle.atomic_table.proofs.Lists.{set_else}
use Rattle.turn_table.specs.declared.view.Entry.{Entry}
use Rattle.turn_table.specs.declared.view.Part.{Part}
use Rattle.turn_table.specs.declared.view.Role.{Role}
use Rattle.turn_table.specs.declared.view.Role.TheVariants.{Desk, Hand, Deals, Nothing}
use Rattle.turn_table.specs.declared.view.View.{View}
use Rattle.turn_table.specs.Meaning.{Meaning, names}
use Rattle.turn_table.specs.History.{entry, is_call_of, IsCalled}
use Rattle.turn_table.specs.Views.{holding, first_number, caller, stands_for, has_hand, AreBelow, Mine, added, Numbered, OneSeat}
use Rattle.turn_table.specs.Rule.{desks_of, hands_of, History, Desks, Hands, Kept}
use Rattle.turn_table.specs.Turns.{MayDecide}
use Rattle.turn_table.specs.Steps.{held_after, role_after, decided, Decides}
use Rattle.turn_table.proofs.Seats.{here, each_set, each_other, one_set}
use Rattle.turn_table.proofs.HistoryLemmas.{prefix_self, prefix_nil, prefix_push, state_after-append, legal_push, called_push, counted}
use Rattle.turn_table.proofs.MineLemmas.{either_bool, caller_stands, stands_added, numbered_added, mine_added, mine_apart, elsewhere}
use Rattle.turn_table.proofs.FrameLemmas.{Holder, held_by}

-- the number that signs is one of the role's
caller_below : {T : Type 0} (k n : ℕ) (r : Role T) → Numbered k r → caller r ≡ Some n → n < k
caller_below {T} k n (Desk d) b e = first d.parts b e where
  first : (ps : List (Part T)) → AreBelow k ps → first_number ps ≡ Some n → n < k
  first [] below f = absurd cc
  first (p ∷ ps) below f = let same : p.number ≡ n = cc in subst (λ z. z < k) same below.0
caller_below k n (Hand h) b e = absurd cc
caller_below k n (Deals d) b e = absurd cc
caller_below k n Nothing b e = absurd cc

module _ {T S : Type 0} (m : Meaning T S) (back : Maybe ℕ) (t : T) where
  -- the role behind the call has no more numbers than before
  stands_after : (r : Role T) (n : ℕ) → stands_for (role_after m back t r) n ≡ true → stands_for r n ≡ true
  stands_after r n h = cases back h where
    cases : (b : Maybe ℕ) → stands_for (cond (is_some b) Nothing (added m r (entry (caller r) t))) n ≡ true → stands_for r n ≡ true
    cases None f = sym (stands_added m r (entry (caller r) t) n) ∙ f
    cases (Some b) f = absurd cc

  hand_added : (r : Role T) (e : Entry T) (n : ℕ) → has_hand (added m r e) n ≡ has_hand r n
  hand_added (Desk d) e n = refl
  hand_added (Hand h) e n = refl
  hand_added (Deals d) e n = refl
  hand_added Nothing e n = refl

  hand_after : (r : Role T) (n : ℕ) → has_hand (role_after m back t r) n ≡ true → (back ≡ None) × (has_hand r n ≡ true)
  hand_after r n h = cases back h where
    cases : (b : Maybe ℕ) → has_hand (cond (is_some b) Nothing (added m r (entry (caller r) t))) n ≡ true → (b ≡ None) × (has_hand r n ≡ true)
    cases None f = (refl, sym (hand_added r (entry (caller r) t) n) ∙ f)
    cases (Some b) f = absurd cc

  pub mine_after : (log : List (Entry T)) (r : Role T) → (m.is_numbered t ≡ true → (n : ℕ) × (caller r ≡ Some n)) → Mine m log r → Mine m (log ++ entry (caller r) t ∷ []) (role_after m back t r)
  mine_after log r signed mine = cases back where
    cases : (b : Maybe ℕ) → Mine m (log ++ entry (caller r) t ∷ []) (cond (is_some b) Nothing (added m r (entry (caller r) t)))
    cases None = mine_added m log t r signed mine
    cases (Some b) = tt

  pub numbered_after : (desks : ℕ) (r : Role T) → Numbered desks r → Numbered desks (role_after m back t r)
  numbered_after desks r h = cases back where
    cases : (b : Maybe ℕ) → Numbered desks (cond (is_some b) Nothing (added m r (entry (caller r) t)))
    cases None = numbered_added m desks r (entry (caller r) t) h
    cases (Some b) = tt

  pub called_entry : (desks : ℕ) (r : Role T) → (m.is_numbered t ≡ true → (n : ℕ) × (caller r ≡ Some n)) → Numbered desks r → IsCalled m desks (entry (caller r) t)
  called_entry desks r signed numbered = λ num. let s = signed num in (s.0, s.1, caller_below desks s.0 r numbered s.1)

  -- a call of one seat is no call of a number of another's
  not_theirs : (vs : List (View T S)) (id j : ℕ) (v w : View T S) → get_elem? vs id ≡ some v → get_elem? vs j ≡ some w → j ≢ id → OneSeat desks_of vs → (n : ℕ) → stands_for w.role n ≡ true → is_call_of m n (entry (caller v.role) t) ≡ false
  not_theirs vs id j v w at there ne one n h = cases (caller v.role) refl where
    and_false : (b : Bool) → (b && false) ≡ false
    and_false true = refl
    and_false false = refl

    cases : (by : Maybe ℕ) → caller v.role ≡ by → is_call_of m n (entry by t) ≡ false
    cases None e = and_false (m.is_numbered t)
    cases (Some k) e = elsewhere m k n t (λ (same : k ≡ n). ne (sym (one id j n v w at there (subst (λ z. stands_for v.role z ≡ true) same (caller_stands v.role k e)) h)))

module _ {O T S : Type 0} (m : Meaning T S) (Legal : S → T → Type 0) (state : O → S) (start : S) (desks : ℕ) where
  abbrev St : Type 0
  St = State (Maybe O) (View T S)

  abbrev M : Type 0
  M = Me (Maybe O) (View T S)

  abbrev Rule : St → Type 0
  Rule = Kept m Legal state start desks

  module _ (s : St) (r : Rule s) (id : ℕ) (v : View T S) (at : get_elem? s.views id ≡ some v) (x : S) (k back : Maybe ℕ) (t : T) (legal : Legal x t) (may : MayDecide m x k back t v.role) (h : Holder m Legal state start desks s r id v x k) where
    abbrev e : Entry T
    e = entry (caller v.role) t

    abbrev w : View T S
    w = decided m back t v

    abbrev log : List (Entry T)
    log = r.log ++ e ∷ []

    history : History m Legal start log (m.after r.now t) (set s.views id w)
    history = record {
      legal = legal_push m Legal start r.log e r.history.legal (subst (λ (z : S). Legal z t) (sym (r.history.now_is ∙ h.now_is)) legal);
      now_is = state_after-append m start r.log (e ∷ []) ∙ ap (λ (z : S). m.after z t) r.history.now_is;
      begun = each_other (λ (z : View T S). IsPrefix z.seen log) s.views id w (subst (λ (l : List (Entry T)). IsPrefix (l ++ e ∷ []) log) (sym h.sees) (prefix_self log))
          (λ j z _ there. prefix_push z.seen r.log (e ∷ []) (r.history.begun j z there));
      heard = each_other (λ (z : View T S). IsPrefix z.heard log) s.views id w (prefix_nil log) (λ j z _ there. prefix_push z.heard r.log (e ∷ []) (r.history.heard j z there));
    }

    desk_numbers : Desks m desks log (set s.views id w)
    desk_numbers = let d = r.desk_numbers in record {
      apart = one_set desks_of s.views id v w at (stands_after m back t v.role) d.apart;
      mine = each_other (λ (z : View T S). Mine m log z.role) s.views id w (mine_after m back t r.log v.role may.signed (d.mine id v at))
          (λ j z ne there. mine_apart m r.log e z.role (not_theirs m back t s.views id j v z at there ne d.apart) (d.mine j z there));
      seen = each_set (λ (z : View T S). Mine m z.seen z.role) s.views id w (mine_after m back t v.seen v.role may.signed (d.seen id v at)) d.seen;
      numbered = each_set (λ (z : View T S). Numbered desks z.role) s.views id w (numbered_after m back t desks v.role (d.numbered id v at)) d.numbered;
      called = called_push m desks r.log e d.called (called_entry m back t desks v.role may.signed (d.numbered id v at));
    }

    -- a hand's number stays out, since no other seat gives it back
    still_out : (n : ℕ) → names back n ≡ false → (m.is_out r.now n ≡ true) ⊎ (r.made ≡ Some n) → (m.is_out (m.after r.now t) n ≡ true) ⊎ (r.made ≡ Some n)
    still_out n no_back = ⊎_elim
        (λ (out : m.is_out r.now n ≡ true). inl (ap (λ (z : S). m.is_out (m.after z t) n) h.now_is ∙ (may.outs n ∙ stays (names k n) (m.is_out x n) (names back n) (ap (λ (z : S). m.is_out z n) (sym h.now_is) ∙ out) no_back)))
        (λ (made : r.made ≡ Some n). inr made) where
          stays : (a b c : Bool) → b ≡ true → c ≡ false → (a || (b && not c)) ≡ true
          stays true b c f g = refl
          stays false b c f g = ap (λ z. z && not c) f ∙ ap not g

    not_back : (j n : ℕ) (z : View T S) → j ≢ id → get_elem? s.views j ≡ some z → has_hand z.role n ≡ true → names back n ≡ false
    not_back j n z ne there has = cases back refl where
      cases : (b : Maybe ℕ) → back ≡ b → names b n ≡ false
      cases None f = refl
      cases (Some b) f = ⊎_elim
          (λ (same : (b == n) ≡ true). absurd (ne (sym (r.hand_numbers.apart id j n v z at there (ap (λ q. has_hand q n) (may.own b f) ∙ same) has))))
          (λ (other : (b == n) ≡ false). other) (either_bool (b == n))

    hand_numbers : Hands m (m.after r.now t) r.made (set s.views id w)
    hand_numbers = record {
      apart = one_set hands_of s.views id v w at (λ n f. let a = hand_after m back t v.role n f in a.1) r.hand_numbers.apart;
      out = each_other (λ (z : View T S). (n : ℕ) → hands_of z n ≡ true → (m.is_out (m.after r.now t) n ≡ true) ⊎ (r.made ≡ Some n)) s.views id w
          (λ n f. let a = hand_after m back t v.role n f in still_out n (ap (λ b. names b n) a.0) (r.hand_numbers.out id v at n a.1))
          (λ j z ne there n has. still_out n (not_back j n z ne there has) (r.hand_numbers.out j z there n has));
    }

  pub decides : (slots id : ℕ) (me : M) (x : S) (k back : Maybe ℕ) (t : T) (asked : Maybe T) → asked ≡ Some t → me.0.holds ≡ holding x k → Legal x t → MayDecide m x k back t me.0.role
      → Allows Rule slots id me 1 (λ n. (n + 1) % 18446744073709551616) (Decides m Legal asked back (step slots 1 1 0 none) me)
  decides slots id me x k back t asked is holds legal may s r _ at _ =
      let h = held_by m Legal state start desks s r id me.0 x k at holds in
      let w : View T S = decided m back t me.0 in
      let e : Entry T = entry (caller me.0.role) t in
      let wide = r.wide in
      let n : ℕ = (get_or s.words 1 0 + 1) % 18446744073709551616 in (
        w,
        keeps,
        tt,
        record {
          log = r.log ++ e ∷ [];
          now = m.after r.now t;
          made = r.made;
          wide = length-set s.words 1 n ∙ r.wide;
          tally = get_or-set_same s.words 1 n 0 (omega arith) ∙ counted (get_or s.words 1 0) r.log e r.tally;
          lock = inr record {
            holder = id;
            here = w;
            word_is = get_or-set_other s.words 1 0 n 0 (λ f. omega arith) ∙ h.word_is;
            homes_are = h.homes_are;
            at = here s.views id me.0 w at;
            holds = ap (held_after m t) h.holds;
            sees = ap (λ l. l ++ e ∷ []) h.sees;
            others = λ j z ne f. h.others j z ne (sym (set_else s.views id j w ne) ∙ f);
          };
          history = history s r id me.0 at x k back t legal may h;
          desk_numbers = desk_numbers s r id me.0 at x k back t legal may h;
          hand_numbers = hand_numbers s r id me.0 at x k back t legal may h;
        },
        subst (λ (z : Maybe T). IfSome z (λ u. ◌≡◌ {A = M} (w, me.1) (decided m back u me.0, me.1))) (sym is) refl,
      )
