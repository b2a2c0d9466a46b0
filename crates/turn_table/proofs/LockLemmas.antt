-- The steps that take the lock, look under it and let it go keep the rule.
use Rattle.std.proofs.Common.{◌≡◌, ℕ, eqb, true, false, List, [], ◌∷◌, get_or, set, refl, sym, ap, ◌∙◌, subst, inl, inr, ⊎_elim, arith, None, Some, IfSome, length-set, get_or-set_same, get_or-set_other, eq-eqb, ne_eqb}
use Rattle.std.specs.Prelude.{Option as Maybe, MatchBool}
use mathlib.Core.Option.{some, none}
use lib.ListN.{get_elem?}
use lib.Seq.{set-get_or}
use prog.Atomic.{either}
use Rattle.atomic_table.specs.Table.{State, Me, step, keeps, takes, gives, put_back, Allows}
use Rattle.atomic_table.proofs.Lists.{set_else, set_again}
use Rattle.turn_table.specs.declared.view.Entry.{Entry}
use Rattle.turn_table.specs.declared.view.View.{View}
use Rattle.turn_table.specs.Meaning.{Meaning}
use Rattle.turn_table.specs.History.{state_after, IsLegal, AreCalled}
use Rattle.turn_table.specs.Views.{view, holding, Mine, Numbered}
use Rattle.turn_table.specs.Rule.{IsFree, IsHeld, Kept}
use Rattle.turn_table.specs.Tokens.{Knows}
use Rattle.turn_table.specs.Steps.{let_go, Grabbed, Grabs, Saw, Sees, LetsGo}
use Rattle.turn_table.proofs.Seats.{here, each_other}
use Rattle.turn_table.proofs.HistoryLemmas.{prefix_self, prefix_nil}
use Rattle.turn_table.proofs.MineLemmas.{all_calls}
use Rattle.turn_table.proofs.FrameLemmas.{lock_set, history_set, desks_set, hands_set, held_by}

module _ {T S : Type 0} (m : Meaning T S) (Legal : S → T → Type 0) (start : S) (desks : ℕ) where
  pub knows_of : (w : View T S) → IsLegal m Legal start w.seen → Mine m w.seen w.role → Numbered desks w.role → AreCalled m desks w.seen → Knows m Legal start desks w
  knows_of w legal parts numbered called = record {
    legal = legal;
    parts = parts;
    numbered = numbered;
    called = called;
    whole = λ all. all_calls m w.role desks w.seen all called;
  }

module _ {O T S : Type 0} (m : Meaning T S) (Legal : S → T → Type 0) (state : O → S) (start : S) (desks : ℕ) where
  abbrev St : Type 0
  St = State (Maybe O) (View T S)

  abbrev M : Type 0
  M = Me (Maybe O) (View T S)

  abbrev Rule : St → Type 0
  Rule = Kept m Legal state start desks

  -- what a seat knows that has seen the whole history
  pub knows_all : (s : St) (r : Rule s) (id : ℕ) (v w : View T S) → get_elem? s.views id ≡ some v → w.seen ≡ r.log → w.role ≡ v.role → Knows m Legal start desks w
  knows_all s r id v w at seen role = knows_of m Legal start desks w
      (subst (IsLegal m Legal start) (sym seen) r.history.legal)
      (subst (λ (z : List (Entry T)). Mine m z w.role) (sym seen) (subst (Mine m r.log) (sym role) (r.desk_numbers.mine id v at)))
      (subst (Numbered desks) (sym role) (r.desk_numbers.numbered id v at))
      (subst (AreCalled m desks) (sym seen) r.desk_numbers.called)

  -- the rule when a seat that holds nothing sees the whole history
  seen_all : (s : St) (r : Rule s) (id : ℕ) (v : View T S) → get_elem? s.views id ≡ some v → v.holds ≡ None → Rule record { words = s.words; homes = s.homes; views = set s.views id (view r.log v.role v.holds) }
  seen_all s r id v at rests = let w : View T S = view r.log v.role v.holds in record {
    log = r.log;
    now = r.now;
    made = r.made;
    wide = r.wide;
    tally = r.tally;
    lock = lock_set state r.log r.now r.made (get_or s.words 0 0) s.homes s.views id v w at rests rests r.lock;
    history = history_set m Legal start r.log r.now s.views id w (prefix_self r.log) (prefix_nil r.log) r.history;
    desk_numbers = desks_set m desks r.log s.views id v w at refl (r.desk_numbers.mine id v at) r.desk_numbers;
    hand_numbers = hands_set m r.now r.made s.views id v w at (λ n h. h) r.hand_numbers;
  }

  saw_all : (s : St) (r : Rule s) (id : ℕ) (v : View T S) (asked : Maybe S) → get_elem? s.views id ≡ some v → asked ≡ Some start → Saw m Legal asked desks v (view r.log v.role v.holds)
  saw_all s r id v asked at is = record {
    sees = r.history.begun id v at;
    hears = r.history.heard id v at;
    role = refl;
    holds = refl;
    now = subst (λ (z : Maybe S). IfSome z (λ x. Knows m Legal x desks (view r.log v.role v.holds))) (sym is) (knows_all s r id v (view r.log v.role v.holds) at refl refl);
  }

  pub sees : (slots id : ℕ) (me : M) (asked : Maybe S) → asked ≡ Some start → me.0.holds ≡ None → Allows Rule slots id me 0 (λ n. n) (Sees m Legal asked desks (step slots 0 0 0 none) me)
  sees slots id me asked is rests s r _ at _ = (
    view r.log me.0.role me.0.holds,
    keeps,
    tt,
    subst (λ (ws : List ℕ). Rule record { words = ws; homes = s.homes; views = set s.views id (view r.log me.0.role me.0.holds) }) (sym (set-get_or s.words 0 0)) (seen_all s r id me.0 at rests),
    (refl, saw_all s r id me.0 asked at is),
  )

  -- the lock was free, and the seat has it now
  taken : (s : St) (r : Rule s) (id : ℕ) (v : View T S) → get_elem? s.views id ≡ some v → (f : IsFree state r.now r.made (get_or s.words 0 0) s.homes s.views)
      → Rule record { words = set s.words 0 1; homes = set s.homes 0 none; views = set s.views id (view r.log v.role (holding (state f.object) None)) }
  taken s r id v at f = let w : View T S = view r.log v.role (holding (state f.object) None) in let wide = r.wide in record {
    log = r.log;
    now = r.now;
    made = r.made;
    wide = length-set s.words 0 1 ∙ r.wide;
    tally = get_or-set_other s.words 0 1 1 0 (λ e. omega arith) ∙ r.tally;
    lock = inr record {
      holder = id;
      here = w;
      word_is = get_or-set_same s.words 0 1 0 (omega arith);
      homes_are = ap (λ hs. set hs 0 none) f.homes_are;
      at = here s.views id v w at;
      holds = λ i. holding (f.state_is i) (sym f.made_is i);
      sees = refl;
      others = λ j z ne e. f.nobody j z (sym (set_else s.views id j w ne) ∙ e);
    };
    history = history_set m Legal start r.log r.now s.views id w (prefix_self r.log) (prefix_nil r.log) r.history;
    desk_numbers = desks_set m desks r.log s.views id v w at refl (r.desk_numbers.mine id v at) r.desk_numbers;
    hand_numbers = hands_set m r.now r.made s.views id v w at (λ n h. h) r.hand_numbers;
  }

  grabbed : (s : St) (r : Rule s) (id : ℕ) (me : M) (asked : Maybe S) → get_elem? s.views id ≡ some me.0 → asked ≡ Some start → (f : IsFree state r.now r.made (get_or s.words 0 0) s.homes s.views)
      → Grabbed m Legal state asked desks me (view r.log me.0.role (holding (state f.object) None), (0, Some f.object) ∷ me.1)
  grabbed s r id me asked at is f = let w : View T S = view r.log me.0.role (holding (state f.object) None) in record {
    object = f.object;
    carries = refl;
    sees = r.history.begun id me.0 at;
    role = refl;
    holds = refl;
    now = subst (λ (z : Maybe S). IfSome z (λ x. (state_after m x r.log ≡ state f.object) × Knows m Legal x desks w)) (sym is) (r.history.now_is ∙ sym f.state_is, knows_all s r id me.0 w at refl refl);
    was = r.desk_numbers.seen id me.0 at;
  }

  pub grabs : (slots id : ℕ) (me : M) (asked : Maybe S) → asked ≡ Some start → Allows Rule slots id me 0 (λ n. either (eqb n 0) 1 n) (Grabs m Legal state asked desks (step slots 0 0 1 none) me)
  grabs slots id me asked is s r _ at _ = ⊎_elim
      (λ (f : IsFree state r.now r.made (get_or s.words 0 0) s.homes s.views). let w : View T S = view r.log me.0.role (holding (state f.object) None) in let hit : eqb (get_or s.words 0 0) 0 ≡ true = eq-eqb (get_or s.words 0 0) 0 f.word_is in (
        w,
        takes 0 (Some f.object),
        ap (λ hs. get_elem? hs 0) f.homes_are,
        subst (λ b. Rule record { words = set s.words 0 (either b 1 (get_or s.words 0 0)); homes = set s.homes 0 none; views = set s.views id w }) (sym hit) (taken s r id me.0 at f),
        subst (λ b. MatchBool b (Grabbed m Legal state asked desks me (w, (0, Some f.object) ∷ me.1)) ((w, (0, Some f.object) ∷ me.1) ≡ me)) (sym hit) (grabbed s r id me asked at is f),
      ))
      (λ (h : IsHeld {O = O} r.log r.now r.made (get_or s.words 0 0) s.homes s.views). let one = h.word_is in let miss : eqb (get_or s.words 0 0) 0 ≡ false = ne_eqb (get_or s.words 0 0) 0 (λ e. omega arith) in (
        me.0,
        keeps,
        tt,
        subst (λ b. Rule record { words = set s.words 0 (either b 1 (get_or s.words 0 0)); homes = s.homes; views = set s.views id me.0 }) (sym miss)
            (subst (λ (z : List ℕ × List (View T S)). Rule record { words = z.0; homes = s.homes; views = z.1 }) (λ i. (sym (set-get_or s.words 0 0) i, sym (set_again s.views id me.0 at) i)) r),
        subst (λ b. MatchBool b (Grabbed m Legal state asked desks me me) (me ≡ me)) (sym miss) refl,
      ))
      r.lock

  -- the object is put back, with the state behind the history
  pub lets_go : (slots id : ℕ) (me : M) (x : S) (k : Maybe ℕ) (o : O) → me.0.holds ≡ holding x k → me.1 ≡ (0, Some o) ∷ [] → state o ≡ x → ((n : ℕ) → k ≡ Some n → m.is_out x n ≡ true)
      → Allows Rule slots id me 0 (λ _. 0) (LetsGo (step slots 0 0 0 none) me)
  lets_go slots id me x k o holds carries is out s r _ at _ = let h = held_by m Legal state start desks s r id me.0 x k at holds in let w : View T S = let_go me.0 in let wide = r.wide in (
    w,
    gives,
    tt,
    record {
      log = r.log;
      now = r.now;
      made = None;
      wide = length-set s.words 0 0 ∙ r.wide;
      tally = get_or-set_other s.words 0 1 0 0 (λ e. omega arith) ∙ r.tally;
      lock = inl record {
        object = o;
        word_is = get_or-set_same s.words 0 0 0 (omega arith);
        homes_are = (λ i. put_back (h.homes_are i) (carries i));
        state_is = is ∙ sym h.now_is;
        made_is = refl;
        nobody = each_other (λ (z : View T S). z.holds ≡ None) s.views id w refl h.others;
      };
      history = history_set m Legal start r.log r.now s.views id w (r.history.begun id me.0 at) (prefix_nil r.log) r.history;
      desk_numbers = desks_set m desks r.log s.views id me.0 w at refl (r.desk_numbers.seen id me.0 at) r.desk_numbers;
      hand_numbers = hands_set m r.now None s.views id me.0 w at (λ n h. h) record {
        apart = r.hand_numbers.apart;
        out = λ j v e n has. inl (⊎_elim (λ (t : m.is_out r.now n ≡ true). t)
            (λ (t : r.made ≡ Some n). subst (λ (z : S). m.is_out z n ≡ true) (sym h.now_is) (out n (sym h.made_is ∙ t)))
            (r.hand_numbers.out j v e n has));
      };
    },
    refl,
  )

  -- the same with the number of desks that the call picks
  pub grabs_as : (slots id : ℕ) (me : M) (asked : Maybe S) (told : ℕ) → asked ≡ Some start → told ≡ desks → Allows Rule slots id me 0 (λ n. either (eqb n 0) 1 n) (Grabs m Legal state asked told (step slots 0 0 1 none) me)
  grabs_as slots id me asked told is same = subst (λ (d : ℕ). Allows Rule slots id me 0 (λ n. either (eqb n 0) 1 n) (Grabs m Legal state asked d (step slots 0 0 1 none) me)) (sym same) (grabs slots id me asked is)

  pub sees_as : (slots id : ℕ) (me : M) (asked : Maybe S) (told : ℕ) → asked ≡ Some start → told ≡ desks → me.0.holds ≡ None → Allows Rule slots id me 0 (λ n. n) (Sees m Legal asked told (step slots 0 0 0 none) me)
  sees_as slots id me asked told is same rests = subst (λ (d : ℕ). Allows Rule slots id me 0 (λ n. n) (Sees m Legal asked d (step slots 0 0 0 none) me)) (sym same) (sees slots id me asked is rests)
