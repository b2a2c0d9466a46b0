-- The calls of a role's desk numbers, as the history grows.
use Rattle.std.proofs.Common.{◌≡◌, ℕ, ◌<◌, ◌≢◌, ◌⊎◌, ◌==◌, Bool, true, false, cond, ◌&&◌, ◌||◌, List, [], ◌∷◌, ◌++◌, refl, sym, ap, ◌∙◌, subst, inl, inr, ⊎_elim, arith, Option, None, Some, eq-eqb}
use Rattle.std.specs.Prelude.{filter}
use Rattle.std.proofs.lemmas.Bool.Decides.{nat_tests}
use Rattle.turn_table.specs.declared.view.Entry.{Entry}
use Rattle.turn_table.specs.declared.view.Part.{Part}
use Rattle.turn_table.specs.declared.view.Role.{Role}
use Rattle.turn_table.specs.declared.view.Role.TheVariants.{Desk, Hand, Deals, Nothing}
use Rattle.turn_table.specs.Meaning.{Meaning, names}
use Rattle.turn_table.specs.History.{entry, is_call_of, calls_under, AreCalled}
use Rattle.turn_table.specs.Views.{desk, has_part, stands_for, first_number, caller, AreApart, AreBelow, with_call, AllMine, Mine, added, Numbered}
use Rattle.turn_table.specs.Tokens.{stands_by, is_own, numbered_calls}
use Rattle.turn_table.proofs.HistoryLemmas.{calls_other, calls_own, nothing_more}

pub either_bool : (b : Bool) → (b ≡ true) ⊎ (b ≡ false)
either_bool true = inl refl
either_bool false = inr refl

and_left : (a b : Bool) → (a && b) ≡ true → a ≡ true
and_left true b e = refl
and_left false b e = absurd cc

and_right : (a b : Bool) → (a && b) ≡ true → b ≡ true
and_right true b e = e
and_right false b e = absurd cc

or_case : (a b : Bool) → (a || b) ≡ true → (a ≡ true) ⊎ (b ≡ true)
or_case true b e = inl refl
or_case false b e = inr e

or_left : (a b : Bool) → a ≡ true → (a || b) ≡ true
or_left true b e = refl
or_left false b e = absurd cc

or_right : (a b : Bool) → b ≡ true → (a || b) ≡ true
or_right true b e = refl
or_right false b e = e

pub same_number : (k n : ℕ) → (k == n) ≡ true → k ≡ n
same_number k n e = grind (arith, nat_tests)

pub itself : (n : ℕ) → (n == n) ≡ true
itself n = eq-eqb n n refl

module _ {T : Type 0} where
  -- the numbers of two lists of parts
  pub has_part-append : (ps qs : List (Part T)) (n : ℕ) → has_part (ps ++ qs) n ≡ true → (has_part ps n ≡ true) ⊎ (has_part qs n ≡ true)
  has_part-append [] qs n h = inr h
  has_part-append (p ∷ ps) qs n h = ⊎_elim (λ (t : (p.number == n) ≡ true). inl (or_left (p.number == n) (has_part ps n) t))
      (λ (t : has_part (ps ++ qs) n ≡ true). ⊎_elim (λ (s : has_part ps n ≡ true). inl (or_right (p.number == n) (has_part ps n) s)) (λ (s : has_part qs n ≡ true). inr s) (has_part-append ps qs n t))
      (or_case (p.number == n) (has_part (ps ++ qs) n) h)

  pub below_append : (n : ℕ) (ps qs : List (Part T)) → AreBelow n ps → AreBelow n qs → AreBelow n (ps ++ qs)
  below_append n [] qs a b = b
  below_append n (p ∷ ps) qs a b = (a.0, below_append n ps qs a.1 b)

  pub apart_append : (ps qs : List (Part T)) → AreApart ps → AreApart qs → ((n : ℕ) → has_part ps n ≡ true → has_part qs n ≡ true → ⊥) → AreApart (ps ++ qs)
  apart_append [] qs a b none = b
  apart_append (p ∷ ps) qs a b none = (
    ⊎_elim (λ (t : has_part (ps ++ qs) p.number ≡ true). absurd (⊎_elim (λ (s : has_part ps p.number ≡ true). let f = a.0 in absurd cc)
        (λ (s : has_part qs p.number ≡ true). none p.number (or_left (p.number == p.number) (has_part ps p.number) (itself p.number)) s) (has_part-append ps qs p.number t)))
        (λ (t : has_part (ps ++ qs) p.number ≡ false). t) (either_bool (has_part (ps ++ qs) p.number)),
    apart_append ps qs a.1 b (λ n h k. none n (or_right (p.number == n) (has_part ps n) h) k),
  )

  pub caller_stands : (r : Role T) (n : ℕ) → caller r ≡ Some n → stands_for r n ≡ true
  caller_stands (Desk d) n e = first d.parts n e where
    first : (ps : List (Part T)) (k : ℕ) → first_number ps ≡ Some k → has_part ps k ≡ true
    first [] k f = absurd cc
    first (p ∷ ps) k f = let same : p.number ≡ k = cc in or_left (p.number == k) (has_part ps k) (eq-eqb p.number k same)
  caller_stands (Hand h) n e = absurd cc
  caller_stands (Deals d) n e = absurd cc
  caller_stands Nothing n e = absurd cc

  has_part-with_call : (ps : List (Part T)) (e : Entry T) (n : ℕ) → has_part (with_call ps e) n ≡ has_part ps n
  has_part-with_call [] e n = refl
  has_part-with_call (p ∷ ps) e n = refl

  below_with_call : (n : ℕ) (ps : List (Part T)) (e : Entry T) → AreBelow n ps → AreBelow n (with_call ps e)
  below_with_call n [] e b = b
  below_with_call n (p ∷ ps) e b = b

  apart_with_call : (ps : List (Part T)) (e : Entry T) → AreApart ps → AreApart (with_call ps e)
  apart_with_call [] e a = a
  apart_with_call (p ∷ ps) e a = a

module _ {T S : Type 0} (m : Meaning T S) where
  -- a call leaves the numbers of its seat
  pub stands_added : (r : Role T) (e : Entry T) (n : ℕ) → stands_for (added m r e) n ≡ stands_for r n
  stands_added (Desk d) e n = kept (m.is_numbered e.told) where
    kept : (b : Bool) → has_part (cond b (with_call d.parts e) d.parts) n ≡ has_part d.parts n
    kept true = has_part-with_call d.parts e n
    kept false = refl
  stands_added (Hand h) e n = refl
  stands_added (Deals d) e n = refl
  stands_added Nothing e n = refl

  pub numbered_added : (k : ℕ) (r : Role T) (e : Entry T) → Numbered k r → Numbered k (added m r e)
  numbered_added k (Desk d) e h = kept (m.is_numbered e.told) where
    kept : (b : Bool) → AreBelow k (cond b (with_call d.parts e) d.parts)
    kept true = below_with_call k d.parts e h
    kept false = h
  numbered_added k (Hand h) e f = tt
  numbered_added k (Deals d) e f = f
  numbered_added k Nothing e f = tt

  pub allmine_apart : (log : List (Entry T)) (e : Entry T) (ps : List (Part T)) → ((n : ℕ) → has_part ps n ≡ true → is_call_of m n e ≡ false) → AllMine m log ps → AllMine m (log ++ e ∷ []) ps
  allmine_apart log e [] none all = tt
  allmine_apart log e (p ∷ ps) none all = (
    all.0 ∙ sym (calls_other m p.number log e (none p.number (or_left (p.number == p.number) (has_part ps p.number) (itself p.number)))),
    allmine_apart log e ps (λ n h. none n (or_right (p.number == n) (has_part ps n) h)) all.1,
  )

  -- the call is under none of the role's numbers
  pub mine_apart : (log : List (Entry T)) (e : Entry T) (r : Role T) → ((n : ℕ) → stands_for r n ≡ true → is_call_of m n e ≡ false) → Mine m log r → Mine m (log ++ e ∷ []) r
  mine_apart log e (Desk d) none all = (allmine_apart log e d.parts none all.0, all.1)
  mine_apart log e (Hand h) none all = tt
  mine_apart log e (Deals d) none all = λ n h. calls_other m n log e (none n h) ∙ all n h
  mine_apart log e Nothing none all = tt

  -- a call that isn't numbered is none of any number
  pub unnumbered : (e : Entry T) (n : ℕ) → m.is_numbered e.told ≡ false → is_call_of m n e ≡ false
  unnumbered e n h = ap (λ b. b && names e.by n) h

  -- a call under one number is none of another
  pub elsewhere : (k n : ℕ) (t : T) → k ≢ n → is_call_of m n (entry (Some k) t) ≡ false
  elsewhere k n t ne = let other : (k == n) ≡ false = grind (arith, nat_tests) in ap (λ b. m.is_numbered t && b) other ∙ and_false (m.is_numbered t) where
    and_false : (b : Bool) → (b && false) ≡ false
    and_false true = refl
    and_false false = refl

  own_parts : (log : List (Entry T)) (t : T) (ps : List (Part T)) → m.is_numbered t ≡ true → ((n : ℕ) × (first_number ps ≡ Some n)) → AllMine m log ps → AreApart ps
      → AllMine m (log ++ entry (first_number ps) t ∷ []) (with_call ps (entry (first_number ps) t))
  own_parts log t [] num some all apart = tt
  own_parts log t (p ∷ ps) num some all apart = let e : Entry T = entry (Some p.number) t in (
    ap (λ l. l ++ e ∷ []) all.0 ∙ sym (calls_own m p.number log e (ap (λ b. b && (p.number == p.number)) num ∙ itself p.number)),
    allmine_apart log e ps (λ n h. elsewhere p.number n t (λ same. let f : has_part ps n ≡ false = subst (λ k. has_part ps k ≡ false) same apart.0 in absurd cc)) all.1,
  )

  -- a call of its own seat
  pub mine_added : (log : List (Entry T)) (t : T) (r : Role T) → (m.is_numbered t ≡ true → (n : ℕ) × (caller r ≡ Some n)) → Mine m log r → Mine m (log ++ entry (caller r) t ∷ []) (added m r (entry (caller r) t))
  mine_added log t (Desk d) signed all = ⊎_elim
      (λ (num : m.is_numbered t ≡ true). subst (λ b. Mine m (log ++ e ∷ []) (desk (cond b (with_call d.parts e) d.parts))) (sym num)
      (own_parts log t d.parts num (signed num) all.0 all.1, apart_with_call d.parts e all.1))
      (λ (num : m.is_numbered t ≡ false). subst (λ b. Mine m (log ++ e ∷ []) (desk (cond b (with_call d.parts e) d.parts))) (sym num)
      (allmine_apart log e d.parts (λ n _. unnumbered e n num) all.0, all.1))
      (either_bool (m.is_numbered t)) where
        e : Entry T
        e = entry (first_number d.parts) t
  mine_added log t (Hand h) signed all = tt
  mine_added log t (Deals d) signed all = mine_apart log (entry None t) (Deals d) (λ n _. ⊎_elim (λ (num : m.is_numbered t ≡ true). let s = signed num in absurd (cc (s.1))) (λ (num : m.is_numbered t ≡ false). unnumbered (entry None t) n num) (either_bool (m.is_numbered t))) all
  mine_added log t Nothing signed all = tt

  allmine_same : (a b : List (Entry T)) (ps : List (Part T)) (n : ℕ) → AllMine m a ps → AllMine m b ps → has_part ps n ≡ true → calls_under m n a ≡ calls_under m n b
  allmine_same a b [] n f g h = absurd cc
  allmine_same a b (p ∷ ps) n f g h = ⊎_elim
      (λ (t : (p.number == n) ≡ true). subst (λ k. calls_under m k a ≡ calls_under m k b) (same_number p.number n t) (sym f.0 ∙ g.0))
      (λ (t : has_part ps n ≡ true). allmine_same a b ps n f.1 g.1 t) (or_case (p.number == n) (has_part ps n) h)

  -- a role with the calls of two histories: both have the same calls of its numbers
  pub same_calls : (a b : List (Entry T)) (r : Role T) (n : ℕ) → Mine m a r → Mine m b r → stands_for r n ≡ true → calls_under m n a ≡ calls_under m n b
  same_calls a b (Desk d) n f g h = allmine_same a b d.parts n f.0 g.0 h
  same_calls a b (Hand _) n f g h = absurd cc
  same_calls a b (Deals d) n f g h = f n h ∙ sym (g n h)
  same_calls a b Nothing n f g h = absurd cc

  -- the calls of a role are nothing where those of each of its numbers are
  pub own_nothing : (r : Role T) (es : List (Entry T)) → ((n : ℕ) → stands_for r n ≡ true → calls_under m n es ≡ []) → filter (is_own m r) es ≡ []
  own_nothing r [] none = refl
  own_nothing r (e ∷ es) none = ⊎_elim
      (λ (own : is_own m r e ≡ true). absurd (called e.by (and_right (m.is_numbered e.told) (stands_by r e.by) own) (and_left (m.is_numbered e.told) (stands_by r e.by) own) (λ n h. none n h)))
      (λ (other : is_own m r e ≡ false). ap (λ b. cond b (e ∷ filter (is_own m r) es) (filter (is_own m r) es)) other
      ∙ own_nothing r es (λ n h. dropped (is_call_of m n e) (calls_under m n es) (none n h)))
      (either_bool (is_own m r e)) where
        dropped : (b : Bool) (xs : List (Entry T)) → cond b (e ∷ xs) xs ≡ [] → xs ≡ []
        dropped true xs h = absurd cc
        dropped false xs h = h

        called : (by : Option ℕ) → stands_by r by ≡ true → m.is_numbered e.told ≡ true → ((n : ℕ) → stands_for r n ≡ true → cond (m.is_numbered e.told && names by n) (e ∷ calls_under m n es) (calls_under m n es) ≡ []) → ⊥
        called None s num h = absurd cc
        called (Some n) s num h = let yes_it : (m.is_numbered e.told && (n == n)) ≡ true = ap (λ b. b && (n == n)) num ∙ itself n in
            absurd (cc (ap (λ b. cond b (e ∷ calls_under m n es) (calls_under m n es)) yes_it, h n s))

  -- between what a seat has seen and what it sees later there is no call of its own
  pub none_between : (r : Role T) (xs ys : List (Entry T)) → Mine m xs r → Mine m (xs ++ ys) r → filter (is_own m r) ys ≡ []
  none_between r xs ys f g = own_nothing r ys (λ n h. nothing_more (is_call_of m n) xs ys (same_calls xs (xs ++ ys) r n f g h))

  -- a role that stands for every number has all numbered calls
  pub all_calls : (r : Role T) (desks : ℕ) (es : List (Entry T)) → ((n : ℕ) → n < desks → stands_for r n ≡ true) → AreCalled m desks es → filter (is_own m r) es ≡ numbered_calls {S = S} m es
  all_calls r desks [] all called = refl
  all_calls r desks (e ∷ es) all called = ⊎_elim
      (λ (num : m.is_numbered e.told ≡ true). let c = called.0 num in
      let own : is_own m r e ≡ true = ap (λ b. b && stands_by r e.by) num ∙ (ap (stands_by r) c.1 ∙ all c.0 c.2) in
      ap (λ b. cond b (e ∷ filter (is_own m r) es) (filter (is_own m r) es)) own
      ∙ ap (λ l. e ∷ l) (all_calls r desks es all called.1) ∙ ap (λ b. cond b (e ∷ numbered_calls {S = S} m es) (numbered_calls {S = S} m es)) (sym num))
      (λ (num : m.is_numbered e.told ≡ false).
      ap (λ b. cond (b && stands_by r e.by) (e ∷ filter (is_own m r) es) (filter (is_own m r) es)) num
      ∙ all_calls r desks es all called.1 ∙ ap (λ b. cond b (e ∷ numbered_calls {S = S} m es) (numbered_calls {S = S} m es)) (sym num))
      (either_bool (m.is_numbered e.told))
