-- The step by which a desk takes in another keeps the rule.
use Rattle.std.proofs.Common.{◌≡◌, ℕ, ◌≤◌, ◌≢◌, Bool, true, false, cond, nat_lt, List, [], ◌∷◌, ◌++◌, length, get_or, set, refl, sym, ap, ◌∙◌, subst, inl, inr, ⊎_elim, arith, None}
use Rattle.std.specs.Prelude.{Option as Maybe}
use Rattle.std.proofs.lemmas.Bool.Decides.{nat_tests}
use mathlib.Core.List.{IsPrefix}
use mathlib.Core.Option.{some}
use lib.ListN.{get_elem?}
use Rattle.atomic_table.specs.Table.{State, Joins}
use Rattle.atomic_table.proofs.Lists.{set_else}
use Rattle.turn_table.specs.declared.view.Part.{Part}
use Rattle.turn_table.specs.declared.view.View.{View}
use Rattle.turn_table.specs.Meaning.{Meaning}
use Rattle.turn_table.specs.History.{is_call_of}
use Rattle.turn_table.specs.Views.{desk, has_part, stands_for, AreApart, AllMine, Mine, Numbered}
use Rattle.turn_table.specs.Rule.{desks_of, Desks, Kept}
use Rattle.turn_table.specs.Steps.{longer, shorter, both_roles, joined, spent}
use Rattle.turn_table.proofs.Seats.{each_set, one_join}
use Rattle.turn_table.proofs.HistoryLemmas.{prefix_nil, prefix_shorter, squeezed}
use Rattle.turn_table.proofs.MineLemmas.{either_bool, has_part-append, below_append, apart_append}
use Rattle.turn_table.proofs.FrameLemmas.{lock_set, history_set, hands_set}

-- what holds of both lists holds of the longer and of the shorter
pub of_longer : {A : Type 0} (P : List A → Type 0) (xs ys : List A) → P xs → P ys → P (longer xs ys)
of_longer P xs ys a b = cases (nat_lt (length xs) (length ys)) where
  cases : (c : Bool) → P (cond c ys xs)
  cases true = b
  cases false = a

pub of_shorter : {A : Type 0} (P : List A → Type 0) (xs ys : List A) → P xs → P ys → P (shorter xs ys)
of_shorter P xs ys a b = cases (nat_lt (length xs) (length ys)) where
  cases : (c : Bool) → P (cond c xs ys)
  cases true = a
  cases false = b

-- what holds of the longer and of the shorter holds of both
pub of_both : {A : Type 0} (P : List A → Type 0) (xs ys : List A) → P (longer xs ys) → P (shorter xs ys) → P xs × P ys
of_both P xs ys = cases (nat_lt (length xs) (length ys)) where
  cases : (c : Bool) → P (cond c ys xs) → P (cond c xs ys) → P xs × P ys
  cases true a b = (b, a)
  cases false a b = (a, b)

-- of two beginnings of one list each begins the longer
pub begins_longer : {A : Type 0} (xs ys zs : List A) → IsPrefix xs zs → IsPrefix ys zs → IsPrefix xs (longer xs ys) × IsPrefix ys (longer xs ys)
begins_longer xs ys zs p q = ⊎_elim
    (λ (b : nat_lt (length xs) (length ys) ≡ true). let le : length xs ≤ length ys = grind (arith, nat_tests) in
    subst (λ c. IsPrefix xs (cond c ys xs) × IsPrefix ys (cond c ys xs)) (sym b) (prefix_shorter xs ys zs p q le, ([], whole ys)))
    (λ (b : nat_lt (length xs) (length ys) ≡ false). let le : length ys ≤ length xs = grind (arith, nat_tests) in
    subst (λ c. IsPrefix xs (cond c ys xs) × IsPrefix ys (cond c ys xs)) (sym b) (([], whole xs), prefix_shorter ys xs zs q p le))
    (either_bool (nat_lt (length xs) (length ys))) where
      whole : {B : Type 0} (l : List B) → l ++ [] ≡ l
      whole [] = refl
      whole (x ∷ l) = ap (λ r. x ∷ r) (whole l)

module _ {T S : Type 0} (m : Meaning T S) where
  -- a desk that has seen its own calls has them in all between that and the history
  allmine_between : (a b c : List _) (ps : List (Part T)) → IsPrefix a b → IsPrefix b c → AllMine m a ps → AllMine m c ps → AllMine m b ps
  allmine_between a b c [] p q f g = tt
  allmine_between a b c (x ∷ ps) p q f g = (f.0 ∙ squeezed (is_call_of m x.number) a b c p q (sym f.0 ∙ g.0), allmine_between a b c ps p q f.1 g.1)

  allmine_append : (a : List _) (ps qs : List (Part T)) → AllMine m a ps → AllMine m a qs → AllMine m a (ps ++ qs)
  allmine_append a [] qs f g = g
  allmine_append a (p ∷ ps) qs f g = (f.0, allmine_append a ps qs f.1 g)

module _ {O T S : Type 0} (m : Meaning T S) (Legal : S → T → Type 0) (state : O → S) (start : S) (desks : ℕ) where
  abbrev St : Type 0
  St = State (Maybe O) (View T S)

  abbrev Rule : St → Type 0
  Rule = Kept m Legal state start desks

  abbrev two : List (Part T) → List (Part T) → View T S → View T S → View T S
  two ps qs v w = record { seen = longer v.seen w.seen; heard = shorter v.seen w.seen; role = desk (ps ++ qs); holds = None }

  joins_desks : (s : St) (r : Rule s) (id other : ℕ) (v w : View T S) (ps qs : List (Part T)) → get_elem? s.views id ≡ some v → get_elem? s.views other ≡ some w → id ≢ other → v.role ≡ desk ps → w.role ≡ desk qs
      → Desks m desks r.log (set (set s.views id (two ps qs v w)) other spent)
  joins_desks s r id other v w ps qs at there ne vr wr =
      let d = r.desk_numbers in
      let h = r.history in
      let both : View T S = two ps qs v w in
      let mv = subst (Mine m r.log) vr (d.mine id v at) in
      let mw = subst (Mine m r.log) wr (d.mine other w there) in
      let sv = subst (Mine m v.seen) vr (d.seen id v at) in
      let sw = subst (Mine m w.seen) wr (d.seen other w there) in
      let long = begins_longer v.seen w.seen r.log (h.begun id v at) (h.begun other w there) in
      let top : IsPrefix (longer v.seen w.seen) r.log = of_longer (λ l. IsPrefix l r.log) v.seen w.seen (h.begun id v at) (h.begun other w there) in
      let none : (n : ℕ) → has_part ps n ≡ true → has_part qs n ≡ true → ⊥ = λ n f g. ne (d.apart id other n v w at there (subst (λ q. stands_for q n ≡ true) (sym vr) f) (subst (λ q. stands_for q n ≡ true) (sym wr) g)) in
      let apart : AreApart (ps ++ qs) = apart_append ps qs mv.1 mw.1 none in record {
        apart = one_join desks_of s.views id other v w both spent at there
            (λ n f. ⊎_elim (λ (t : has_part ps n ≡ true). inl (subst (λ q. stands_for q n ≡ true) (sym vr) t)) (λ (t : has_part qs n ≡ true). inr (subst (λ q. stands_for q n ≡ true) (sym wr) t)) (has_part-append ps qs n f))
            (λ n f. absurd cc) ne d.apart;
        mine = each_set (λ (z : View T S). Mine m r.log z.role) (set s.views id both) other spent tt
            (each_set (λ (z : View T S). Mine m r.log z.role) s.views id both (allmine_append m r.log ps qs mv.0 mw.0, apart) d.mine);
        seen = each_set (λ (z : View T S). Mine m z.seen z.role) (set s.views id both) other spent tt
            (each_set (λ (z : View T S). Mine m z.seen z.role) s.views id both
            (allmine_append m both.seen ps qs (allmine_between m v.seen both.seen r.log ps long.0 top sv.0 mv.0) (allmine_between m w.seen both.seen r.log qs long.1 top sw.0 mw.0), apart) d.seen);
        numbered = each_set (λ (z : View T S). Numbered desks z.role) (set s.views id both) other spent tt
            (each_set (λ (z : View T S). Numbered desks z.role) s.views id both
            (below_append desks ps qs (subst (Numbered desks) vr (d.numbered id v at)) (subst (Numbered desks) wr (d.numbered other w there))) d.numbered);
        called = d.called;
      }

  joins_two : (id other : ℕ) (v w : View T S) (ps qs : List (Part T)) → v.role ≡ desk ps → w.role ≡ desk qs → v.holds ≡ None → w.holds ≡ None → Joins Rule id v other w (two ps qs v w) spent
  joins_two id other v w ps qs vr wr vh wh s r at apart there' =
      let both : View T S = two ps qs v w in
      let there : get_elem? s.views other ≡ some w = sym (set_else s.views id other both apart) ∙ there' in
      let h = r.history in
      let kept : List (View T S) = set s.views id both in record {
        log = r.log;
        now = r.now;
        made = r.made;
        wide = r.wide;
        tally = r.tally;
        lock = lock_set state r.log r.now r.made (get_or s.words 0 0) s.homes kept other w spent there' wh refl (lock_set state r.log r.now r.made (get_or s.words 0 0) s.homes s.views id v both at vh refl r.lock);
        history = history_set m Legal start r.log r.now kept other spent (prefix_nil r.log) (prefix_nil r.log)
            (history_set m Legal start r.log r.now s.views id both (of_longer (λ l. IsPrefix l r.log) v.seen w.seen (h.begun id v at) (h.begun other w there)) (of_shorter (λ l. IsPrefix l r.log) v.seen w.seen (h.begun id v at) (h.begun other w there)) h);
        desk_numbers = joins_desks s r id other v w ps qs at there (λ e. apart (sym e)) vr wr;
        hand_numbers = hands_set m r.now r.made kept other w spent there' (λ n f. absurd cc) (hands_set m r.now r.made s.views id v both at (λ n f. absurd cc) r.hand_numbers);
      }

  -- a desk takes in another one
  pub joins : (id other : ℕ) (v w : View T S) (ps qs : List (Part T)) → v.role ≡ desk ps → w.role ≡ desk qs → v.holds ≡ None → w.holds ≡ None → Joins Rule id v other w (joined v w) spent
  joins id other v w ps qs vr wr vh wh = subst (λ (z : View T S). Joins Rule id v other w z spent)
      (λ i. record { seen = longer v.seen w.seen; heard = shorter v.seen w.seen; role = both_roles (sym vr i) (sym wr i); holds = sym vh i })
      (joins_two id other v w ps qs vr wr vh wh)
