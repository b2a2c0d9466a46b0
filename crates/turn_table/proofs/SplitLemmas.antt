-- The steps that make a seat keep the rule: a hand that is made under the lock, and the desks and hands that a table starts with.
use Rattle.std.proofs.Common.{◌≡◌, ℕ, zero, suc, ◌+◌, ◌<◌, ◌≤◌, ◌⊎◌, ◌==◌, Bool, true, false, cond, ◌||◌, List, [], ◌∷◌, length, get_or, set, refl, sym, ap, ◌∙◌, subst, inl, inr, ⊎_elim, arith, None, Some}
use Rattle.std.specs.Prelude.{Option as Maybe}
use Rattle.std.proofs.lemmas.Bool.Decides.{nat_tests}
use mathlib.Core.List.{IsPrefix}
use mathlib.Core.Option.{some}
use lib.ListN.{get_elem?}
use Rattle.atomic_table.specs.Table.{State, Splits, opening}
use Rattle.atomic_table.proofs.Lists.{set_else, at_longer}
use Rattle.turn_table.specs.declared.view.Entry.{Entry}
use Rattle.turn_table.specs.declared.view.View.{View}
use Rattle.turn_table.specs.Meaning.{Meaning, first_free, lowest, HasRoom}
use Rattle.points.specs.declared.limits.TheConstants.{MAX_HANDS}
use Rattle.turn_table.specs.Views.{view, holding, part, desk, hand, deals, is_within, stands_for, has_hand, Mine, Numbered, OneSeat}
use Rattle.turn_table.specs.Rule.{desks_of, hands_of, Kept, first_view}
use Rattle.turn_table.specs.Turns.{made_by, number_by, maker, new_hand}
use Rattle.turn_table.specs.Steps.{deal_desk, after_desk, deal_hand, after_hand}
use Rattle.turn_table.proofs.Seats.{at_push, here, each_set, each_push, each_one, one_push, one_split}
use Rattle.turn_table.proofs.HistoryLemmas.{prefix_nil}
use Rattle.turn_table.proofs.MineLemmas.{same_number}
use Rattle.turn_table.proofs.FrameLemmas.{lock_set, lock_push, history_set, history_push, desks_set, hands_set, held_by}

-- the first number that isn't taken isn't, where it is one of those that were tried
first_is_free : (taken : ℕ → Bool) (k n : ℕ) → first_free taken k n < n + k → taken (first_free taken k n) ≡ false
unfolding first_free
first_is_free taken zero n below = absurd (omega arith)
first_is_free taken (suc k) n below = cases (taken n) refl (λ (l : first_free taken k (n + 1) < (n + 1) + k). first_is_free taken k (n + 1) l) where
  cases : (b : Bool) → taken n ≡ b → (first_free taken k (n + 1) < (n + 1) + k → taken (first_free taken k (n + 1)) ≡ false) → taken (cond (taken n) (first_free taken k (n + 1)) n) ≡ false
  cases true e rest = let same : cond (taken n) (first_free taken k (n + 1)) n ≡ first_free taken k (n + 1) = ap (λ b. cond b (first_free taken k (n + 1)) n) e in
      ap taken same ∙ rest (let f : first_free taken k (n + 1) < n + suc k = subst (λ z. z < n + suc k) same below in omega arith)
  cases false e rest = ap (λ b. taken (cond b (first_free taken k (n + 1)) n)) e ∙ e

pub lowest_is_free : {T S : Type 0} (m : Meaning T S) (x : S) → HasRoom m x → m.is_out x (lowest m x) ≡ false
lowest_is_free m x room = first_is_free (m.is_out x) MAX_HANDS 0 (bound (lowest m x) MAX_HANDS room) where
  bound : (a b : ℕ) → a < b → a < 0 + b
  bound a b h = omega arith

within_first : (from to : ℕ) → from < to → is_within from to from ≡ true
within_first from to h = grind (arith, nat_tests)

within_more : (from to n : ℕ) → is_within (from + 1) to n ≡ true → is_within from to n ≡ true
within_more from to n h = grind (arith, nat_tests)

within_other : (from to n : ℕ) → is_within (from + 1) to n ≡ true → (from == n) ≡ true → ⊥
within_other from to n h e = grind (arith, nat_tests)

within_none : (n : ℕ) (to : ℕ) → is_within to to n ≡ true → ⊥
within_none n to h = grind (arith, nat_tests)

only : (a b : Bool) → (a || false) ≡ true → a ≡ true
only true b e = refl
only false b e = absurd cc

module _ {O T S : Type 0} (m : Meaning T S) (Legal : S → T → Type 0) (state : O → S) (start : S) (desks : ℕ) where
  abbrev St : Type 0
  St = State (Maybe O) (View T S)

  abbrev Rule : St → Type 0
  Rule = Kept m Legal state start desks

  pub makes : (id : ℕ) (v : View T S) (x : S) → v.holds ≡ holding x None → HasRoom m x → Splits Rule id v (maker m v) (new_hand m v)
  makes id v x holds room s r at =
      let h = held_by m Legal state start desks s r id v x None at holds in
      let left : View T S = maker m v in
      let right : View T S = new_hand m v in
      let number : number_by m v.holds ≡ lowest m x = ap (number_by m) holds in
      let kept : List (View T S) = set s.views id left in record {
        log = r.log;
        now = r.now;
        made = Some (lowest m x);
        wide = r.wide;
        tally = r.tally;
        lock = inr record {
          holder = id;
          here = left;
          word_is = h.word_is;
          homes_are = h.homes_are;
          at = at_longer kept (right ∷ []) id left (here s.views id v left at);
          holds = ap (made_by m) holds ∙ ap (λ (y : S). holding y (Some (lowest m x))) (sym h.now_is);
          sees = h.sees;
          others = λ j z ne e. ⊎_elim (λ (f : get_elem? kept j ≡ some z). h.others j z ne (sym (set_else s.views id j left ne) ∙ f))
              (λ (f : (j ≡ length kept) × (right ≡ z)). ap (λ (y : View T S). y.holds) (sym f.1)) (at_push kept right z j e);
        };
        history = history_push m Legal start r.log r.now kept right (r.history.begun id v at) (prefix_nil r.log)
            (history_set m Legal start r.log r.now s.views id left (r.history.begun id v at) (prefix_nil r.log) r.history);
        desk_numbers = let d = desks_set m desks r.log s.views id v left at refl (r.desk_numbers.seen id v at) r.desk_numbers in record {
          apart = one_push desks_of kept right d.apart (λ j n z f _ _. absurd cc);
          mine = each_push (λ (z : View T S). Mine m r.log z.role) kept right tt d.mine;
          seen = each_push (λ (z : View T S). Mine m z.seen z.role) kept right tt d.seen;
          numbered = each_push (λ (z : View T S). Numbered desks z.role) kept right tt d.numbered;
          called = d.called;
        };
        hand_numbers = let a = hands_set m r.now r.made s.views id v left at (λ n f. f) r.hand_numbers in record {
          apart = one_push hands_of kept right a.apart (λ j n z f there has.
              let same : lowest m x ≡ n = sym number ∙ same_number (number_by m v.holds) n f in
              ⊎_elim (λ (out : m.is_out r.now n ≡ true). let o : m.is_out x (lowest m x) ≡ true = ap (λ (y : S). m.is_out y (lowest m x)) (sym h.now_is) ∙ (ap (m.is_out r.now) same ∙ out) in let free = lowest_is_free m x room in absurd (cc (free, o)))
              (λ (made : r.made ≡ Some n). let none_made = h.made_is in absurd (cc (made, none_made))) (a.out j z there n has));
          out = each_push (λ (z : View T S). (n : ℕ) → hands_of z n ≡ true → (m.is_out r.now n ≡ true) ⊎ (Some (lowest m x) ≡ Some n)) kept right
              (λ n f. inr (ap Some (sym number ∙ same_number (number_by m v.holds) n f)))
              (λ j z there n has. ⊎_elim (λ (out : m.is_out r.now n ≡ true). inl out) (λ (made : r.made ≡ Some n). let none_made = h.made_is in absurd (cc (made, none_made))) (a.out j z there n has));
        };
      }

  -- a seat that holds nothing is cut in two, and the numbers of the right part leave the left one
  splits : (id : ℕ) (v left right : View T S) → v.holds ≡ None → left.holds ≡ None → right.holds ≡ None → left.seen ≡ v.seen → right.seen ≡ v.seen → left.heard ≡ [] → right.heard ≡ []
      → ((n : ℕ) → stands_for left.role n ≡ true → stands_for v.role n ≡ true) → ((n : ℕ) → stands_for right.role n ≡ true → stands_for v.role n ≡ true) → ((n : ℕ) → stands_for left.role n ≡ true → stands_for right.role n ≡ true → ⊥)
      → ((n : ℕ) → has_hand left.role n ≡ true → has_hand v.role n ≡ true) → ((n : ℕ) → has_hand right.role n ≡ true → has_hand v.role n ≡ true) → ((n : ℕ) → has_hand left.role n ≡ true → has_hand right.role n ≡ true → ⊥)
      → ((l : List (Entry T)) → Mine m l v.role → Mine m l left.role × Mine m l right.role) → (Numbered desks v.role → Numbered desks left.role × Numbered desks right.role)
      → Splits Rule id v left right
  splits id v left right rv rl rr sl sr hl hr dl dr da gl gr ga mine numbered s r at =
      let kept : List (View T S) = set s.views id left in
      let begun_left = subst (λ (l : List (Entry T)). IsPrefix l r.log) (sym sl) (r.history.begun id v at) in
      let begun_right = subst (λ (l : List (Entry T)). IsPrefix l r.log) (sym sr) (r.history.begun id v at) in
      let heard_left = subst (λ (l : List (Entry T)). IsPrefix l r.log) (sym hl) (prefix_nil r.log) in
      let heard_right = subst (λ (l : List (Entry T)). IsPrefix l r.log) (sym hr) (prefix_nil r.log) in
      let all = mine r.log (r.desk_numbers.mine id v at) in
      let own = mine v.seen (r.desk_numbers.seen id v at) in
      let below = numbered (r.desk_numbers.numbered id v at) in record {
        log = r.log;
        now = r.now;
        made = r.made;
        wide = r.wide;
        tally = r.tally;
        lock = lock_push state r.log r.now r.made (get_or s.words 0 0) s.homes kept right rr (lock_set state r.log r.now r.made (get_or s.words 0 0) s.homes s.views id v left at rv rl r.lock);
        history = history_push m Legal start r.log r.now kept right begun_right heard_right (history_set m Legal start r.log r.now s.views id left begun_left heard_left r.history);
        desk_numbers = record {
          apart = one_split desks_of s.views id v left right at dl dr da r.desk_numbers.apart;
          mine = each_push (λ (z : View T S). Mine m r.log z.role) kept right all.1 (each_set (λ (z : View T S). Mine m r.log z.role) s.views id left all.0 r.desk_numbers.mine);
          seen = each_push (λ (z : View T S). Mine m z.seen z.role) kept right (subst (λ (l : List (Entry T)). Mine m l right.role) (sym sr) own.1)
              (each_set (λ (z : View T S). Mine m z.seen z.role) s.views id left (subst (λ (l : List (Entry T)). Mine m l left.role) (sym sl) own.0) r.desk_numbers.seen);
          numbered = each_push (λ (z : View T S). Numbered desks z.role) kept right below.1 (each_set (λ (z : View T S). Numbered desks z.role) s.views id left below.0 r.desk_numbers.numbered);
          called = r.desk_numbers.called;
        };
        hand_numbers = record {
          apart = one_split hands_of s.views id v left right at gl gr ga r.hand_numbers.apart;
          out = let before = r.hand_numbers.out id v at in
              each_push (λ (z : View T S). (n : ℕ) → hands_of z n ≡ true → (m.is_out r.now n ≡ true) ⊎ (r.made ≡ Some n)) kept right (λ n f. before n (gr n f))
              (each_set (λ (z : View T S). (n : ℕ) → hands_of z n ≡ true → (m.is_out r.now n ≡ true) ⊎ (r.made ≡ Some n)) s.views id left (λ n f. before n (gl n f)) r.hand_numbers.out);
        };
      }

  -- the first view of a table, of which some numbers are given out
  abbrev pub dealing : List (Entry T) → ℕ → ℕ → ℕ → ℕ → View T S
  dealing seen d ds g gs = view seen (deals d ds g gs) None

  dealt_mine : (d ds g gs : ℕ) → d < ds → (l : List (Entry T)) → Mine m l (deals d ds g gs) → Mine m l (deals (d + 1) ds g gs) × Mine m l (desk (part d [] ∷ []))
  dealt_mine d ds g gs h l f = ((λ n k. f n (within_more d ds n k)), ((sym (f d (within_first d ds h)), tt), (refl, tt)))

  pub deals_desk : (id : ℕ) (d ds g gs : ℕ) → d < ds → ds ≡ desks → Splits Rule id (dealing [] d ds g gs) (after_desk (dealing [] d ds g gs)) (deal_desk (dealing [] d ds g gs))
  deals_desk id d ds g gs h e = splits id (dealing [] d ds g gs) (dealing [] (d + 1) ds g gs) (view [] (desk (part d [] ∷ [])) None) refl refl refl refl refl refl refl
      (λ n k. within_more d ds n k)
      (λ n k. subst (λ z. is_within d ds z ≡ true) (same_number d n (only (d == n) true k)) (within_first d ds h))
      (λ n k l. within_other d ds n k (only (d == n) true l))
      (λ n k. k) (λ n k. absurd cc) (λ n k l. absurd cc)
      (dealt_mine d ds g gs h) (λ f. (f, (omega arith, tt)))

  pub deals_hand : (id : ℕ) (d ds g gs : ℕ) → g < gs → Splits Rule id (dealing [] d ds g gs) (after_hand (dealing [] d ds g gs)) (deal_hand (dealing [] d ds g gs))
  deals_hand id d ds g gs h = splits id (dealing [] d ds g gs) (dealing [] d ds (g + 1) gs) (view [] (hand g) None) refl refl refl refl refl refl refl
      (λ n k. k) (λ n k. absurd cc) (λ n k l. absurd cc)
      (λ n k. within_more g gs n k)
      (λ n k. subst (λ z. is_within g gs z ≡ true) (same_number g n k) (within_first g gs h))
      (λ n k l. within_other g gs n k l)
      (λ l f. (f, tt)) (λ f. (f, tt))

  pub deals_desk_as : (id : ℕ) (v : View T S) (d ds g gs : ℕ) → v ≡ dealing [] d ds g gs → d < ds → ds ≡ desks → Splits Rule id v (after_desk v) (deal_desk v)
  deals_desk_as id v d ds g gs is h e = subst (λ (z : View T S). Splits Rule id z (after_desk z) (deal_desk z)) (sym is) (deals_desk id d ds g gs h e)

  pub deals_hand_as : (id : ℕ) (v : View T S) (d ds g gs : ℕ) → v ≡ dealing [] d ds g gs → g < gs → Splits Rule id v (after_hand v) (deal_hand v)
  deals_hand_as id v d ds g gs is h = subst (λ (z : View T S). Splits Rule id z (after_hand z) (deal_hand z)) (sym is) (deals_hand id d ds g gs h)

  -- a table starts free, with an empty history, and with one seat that has all numbers
  pub opens : (hands : ℕ) (o : O) → state o ≡ start → ((n : ℕ) → n < hands → m.is_out start n ≡ true) → Rule (opening (0 ∷ 0 ∷ []) (Some o ∷ []) (first_view desks hands))
  opens hands o is out = let v : View T S = first_view desks hands in record {
    log = [];
    now = start;
    made = None;
    wide = refl;
    tally = refl;
    lock = inl record {
      object = o;
      word_is = refl;
      homes_are = refl;
      state_is = is;
      made_is = refl;
      nobody = each_one (λ (z : View T S). z.holds ≡ None) v refl;
    };
    history = record {
      legal = tt;
      now_is = refl;
      begun = each_one (λ (z : View T S). IsPrefix z.seen []) v (prefix_nil []);
      heard = each_one (λ (z : View T S). IsPrefix z.heard []) v (prefix_nil []);
    };
    desk_numbers = record {
      apart = alone desks_of v;
      mine = each_one (λ (z : View T S). Mine m [] z.role) v (λ n _. refl);
      seen = each_one (λ (z : View T S). Mine m z.seen z.role) v (λ n _. refl);
      numbered = each_one (λ (z : View T S). Numbered desks z.role) v (le desks);
      called = tt;
    };
    hand_numbers = record {
      apart = alone hands_of v;
      out = each_one (λ (z : View T S). (n : ℕ) → hands_of z n ≡ true → (m.is_out start n ≡ true) ⊎ (None ≡ Some n)) v (λ n h. inl (out n (inside hands n h)));
    };
  } where
    le : (n : ℕ) → n ≤ n
    le n = omega arith

    inside : (to n : ℕ) → is_within 0 to n ≡ true → n < to
    inside to n h = grind (arith, nat_tests)

    one_place : (v w : View T S) (i : ℕ) → get_elem? (v ∷ []) i ≡ some w → i ≡ 0
    one_place v w zero e = refl
    one_place v w (suc i) e = absurd cc

    alone : (f : View T S → ℕ → Bool) (v : View T S) → OneSeat f (v ∷ [])
    alone f v i j n x y ei ej _ _ = one_place v x i ei ∙ sym (one_place v y j ej)
