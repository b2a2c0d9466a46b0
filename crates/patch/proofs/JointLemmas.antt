-- The change that a replacement makes, found in the list: the changes before it are passed over, and one of them may have its start.
use Rattle.std.proofs.Common.{◌≡◌, ℕ, suc, zero, ◌+◌, ◌-◌, ◌<◌, ◌≤◌, List, [], ◌∷◌, ◌++◌, length, take, drop, get_or, map, leb, true, false, Option, Some, Result, Ok, Err, refl, sym, ap, ◌∙◌, arith, length-append}
use Rattle.std.specs.Prelude.{IfOk}
use Rattle.std.proofs.lemmas.List.{get_or_read, drop_all, drop-map, length-map}
use Rattle.std.proofs.lemmas.Bool.{cond-true, cond-false, le-leb, lt-leb}
use Rattle.std.proofs.lemmas.Bool.Decides.{nat_tests}
use Rattle.points.specs.declared.point.Point.{Point}
use Rattle.points.specs.Point.{origin, point_le, point_lt, traverse, traversal}
use Rattle.points.specs.Place.{extent, offset_of}
use Rattle.points.proofs.PointLemmas.{same_coordinates, point_le-false}
use Rattle.points.proofs.OffsetLemmas.{offset_of-at}
use Rattle.points.specs.Distance.{capped}
use Rattle.patch.specs.Hunk.{Hunk, hunk_of, hunks_of}
use Rattle.patch.specs.Spliced.{change_at, moved_hunk, Absorption, absorption_made, absorption_step, absorption, one_change, units_before, spliced_in, spliced_before, spliced_from}
use Rattle.patch.specs.Joints.{last_old_end, last_new_end, Joins}
use Rattle.patch.specs.declared.joint.Joint.{Joint}
use Rattle.patch.specs.declared.change.Change.{Change}
use Rattle.patch.proofs.AbsorbLemmas.{extent_two}
use Rattle.patch.proofs.AbsorbSteps.{slice_rest, hunks_next}

-- changes that end before the place stay
pub spliced_past : (a b start : Point) (deleted inserted : List ℕ) (n : ℕ) (cs : List Change) → n ≤ length cs → ((k : ℕ) (d : Change) → k < n → point_le start (get_or cs k d).new_range.end ≡ false)
    → spliced_from a b start deleted inserted (hunks_of cs)
    ≡ take n (hunks_of cs) ++ spliced_from (last_old_end a (take n (hunks_of cs))) (last_new_end b (take n (hunks_of cs))) start deleted inserted (hunks_of (drop n cs))
spliced_past a b start deleted inserted zero cs within before = refl
spliced_past a b start deleted inserted (suc n) [] within before = absurd (omega arith)
spliced_past a b start deleted inserted (suc n) (c ∷ cs) within before =
    cond-true (point_lt c.new_range.end start) _ _ (point_le-false start c.new_range.end (before 0 c (omega arith)))
    ∙ ap (λ (hs : List Hunk). hunk_of c ∷ hs) (spliced_past c.old_range.end c.new_range.end start deleted inserted n cs (omega arith) (λ k d lt. before (suc k) d (omega arith)))

-- the change at index n is the last of the first n + 1
pub last_old : (a : Point) (n : ℕ) (cs : List Change) (c : Change) → n < length cs → c ≡ get_or cs n c → last_old_end a (take (suc n) (hunks_of cs)) ≡ c.old_range.end
last_old a n [] c within is = absurd (omega arith)
last_old a zero (x ∷ cs) c within is = ap (λ (y : Change). y.old_range.end) (sym is)
last_old a (suc n) (x ∷ cs) c within is = last_old x.old_range.end n cs c (omega arith) is

pub last_new : (b : Point) (n : ℕ) (cs : List Change) (c : Change) → n < length cs → c ≡ get_or cs n c → last_new_end b (take (suc n) (hunks_of cs)) ≡ c.new_range.end
last_new b n [] c within is = absurd (omega arith)
last_new b zero (x ∷ cs) c within is = ap (λ (y : Change). y.new_range.end) (sym is)
last_new b (suc n) (x ∷ cs) c within is = last_new x.new_range.end n cs c (omega arith) is

-- a change that ends at the place or behind it
not_past : (start end : Point) → point_le start end ≡ true → point_lt end start ≡ false
not_past start end le = grind (arith, nat_tests)

pub starts_in : (a b start : Point) (deleted inserted : List ℕ) (cs : List Change) (at : ℕ) (c : Change) → at < length cs → c ≡ get_or cs at c → point_le start c.new_range.end ≡ true → point_le c.new_range.start start ≡ true
    → spliced_from a b start deleted inserted (hunks_of (drop at cs)) ≡ spliced_in start deleted inserted (hunk_of c) (hunks_of (drop (at + 1) cs))
starts_in a b start deleted inserted cs at c within is reaches starts = ap (spliced_from a b start deleted inserted) (hunks_next cs at c within is)
    ∙ (cond-false (point_lt c.new_range.end start) _ _ (not_past start c.new_range.end reaches) ∙ cond-true (point_le c.new_range.start start) _ _ starts)

pub starts_before : (a b start : Point) (deleted inserted : List ℕ) (cs : List Change) (at : ℕ) (c : Change) → at < length cs → c ≡ get_or cs at c → point_le start c.new_range.end ≡ true → point_le c.new_range.start start ≡ false
    → spliced_from a b start deleted inserted (hunks_of (drop at cs)) ≡ spliced_before a b start deleted inserted (hunks_of (drop at cs))
starts_before a b start deleted inserted cs at c within is reaches starts = ap (spliced_from a b start deleted inserted) (hunks_next cs at c within is)
    ∙ (cond-false (point_lt c.new_range.end start) _ _ (not_past start c.new_range.end reaches) ∙ (cond-false (point_le c.new_range.start start) _ _ starts
    ∙ ap (spliced_before a b start deleted inserted) (sym (hunks_next cs at c within is))))

pub starts_last : (a b start : Point) (deleted inserted : List ℕ) (cs : List Change) (at : ℕ) → length cs ≤ at
    → spliced_from a b start deleted inserted (hunks_of (drop at cs)) ≡ spliced_before a b start deleted inserted (hunks_of (drop at cs))
starts_last a b start deleted inserted cs at end = ap (λ (xs : List Change). spliced_from a b start deleted inserted (hunks_of xs)) (drop_all at cs end)
    ∙ ap (λ (xs : List Change). spliced_before a b start deleted inserted (hunks_of xs)) (sym (drop_all at cs end))

-- what is absorbed from a change on, the first units of which are `pre`
no_way : (p : Point) → traversal p p ≡ origin
no_way p = same_coordinates (traversal p p) origin (grind (arith, nat_tests)) (grind (arith, nat_tests))

drop_beyond : {X : Type 0} (xs ys : List X) (n : ℕ) → length xs ≤ n → drop n (xs ++ ys) ≡ drop (n - length xs) ys
drop_beyond [] ys n le = let e : n ≡ n - 0 = omega arith in ap (λ (m : ℕ). drop m ys) e
drop_beyond (x ∷ xs) ys zero le = absurd (omega arith)
drop_beyond (x ∷ xs) ys (suc n) le = drop_beyond xs ys n (omega arith) ∙ (let e : n - length xs ≡ suc n - suc (length xs) = omega arith in ap (λ (m : ℕ). drop m ys) e)

module _ (cs : List Change) (at : ℕ) (c : Change) (within : at < length cs) (is : c ≡ get_or cs at c) (pre deleted : List ℕ) (pre_in : length pre ≤ length c.new_text) where
  first_step : absorption c.new_range.start (pre ++ deleted) (hunks_of (drop at cs)) ≡ absorption_step (Some 0) (pre ++ deleted) (hunk_of c) (hunks_of (drop (at + 1) cs))
      (λ k. absorption c.new_range.end (drop (length c.new_text) (drop k (pre ++ deleted))) (hunks_of (drop (at + 1) cs)))
  first_step = ap (absorption c.new_range.start (pre ++ deleted)) (hunks_next cs at c within is)
      ∙ ap (λ (o : Option ℕ). absorption_step o (pre ++ deleted) (hunk_of c) (hunks_of (drop (at + 1) cs)) (λ k. absorption c.new_range.end (drop (length c.new_text) (drop k (pre ++ deleted))) (hunks_of (drop (at + 1) cs))))
      (ap (offset_of (pre ++ deleted)) (no_way c.new_range.start) ∙ offset_of-at (pre ++ deleted) origin 0 (omega arith) refl)

  pub ends_in_first : length deleted ≤ length c.new_text - length pre
      → absorption c.new_range.start (pre ++ deleted) (hunks_of (drop at cs)) ≡ absorption_made c.old_text (drop (length pre + length deleted) c.new_text) (hunks_of (drop (at + 1) cs))
  ends_in_first le = first_step ∙ (cond-true (leb (length (pre ++ deleted)) (length c.new_text)) _ _ (le-leb (length (pre ++ deleted)) (length c.new_text) (omega (arith, length-append pre deleted)))
      ∙ ap (λ (n : ℕ). absorption_made c.old_text (drop n c.new_text) (hunks_of (drop (at + 1) cs))) (length-append pre deleted))

  pub goes_on : (r : Absorption) → length c.new_text - length pre < length deleted → r ≡ absorption c.new_range.end (drop (length c.new_text - length pre) deleted) (hunks_of (drop (at + 1) cs))
      → absorption c.new_range.start (pre ++ deleted) (hunks_of (drop at cs)) ≡ absorption_made (c.old_text ++ r.mid) r.post r.rest
  goes_on r lt r_is = first_step ∙ (cond-false (leb (length (pre ++ deleted)) (length c.new_text)) _ _ (lt-leb (length (pre ++ deleted)) (length c.new_text) (omega (arith, length-append pre deleted)))
      ∙ ap (λ (x : Absorption). absorption_made (c.old_text ++ x.mid) x.post x.rest) (ap (λ (xs : List ℕ). absorption c.new_range.end xs (hunks_of (drop (at + 1) cs))) (drop_beyond pre deleted (length c.new_text) pre_in) ∙ sym r_is))

-- the answers of the code for it
abbrev pub IsAbsorptionOf : List ℕ → List ℕ → List Hunk → Absorption → Type 0
IsAbsorptionOf mid post rest c = (mid ≡ c.mid) × (post ≡ c.post) × (rest ≡ c.rest)

module _ (cs : List Change) (at : ℕ) (c : Change) (within : at < length cs) (is : c ≡ get_or cs at c) (new_text : List ℕ) (new_is : new_text ≡ c.new_text) (before : ℕ) (deleted : List ℕ) (before_in : before ≤ length new_text)
    (d : Change) (pre : List ℕ) (size : length pre ≡ before) where
  at_change : absorption (get_or cs at d).new_range.start (pre ++ deleted) (hunks_of (drop at cs)) ≡ absorption c.new_range.start (pre ++ deleted) (hunks_of (drop at cs))
  at_change = ap (λ (x : Change). absorption x.new_range.start (pre ++ deleted) (hunks_of (drop at cs))) (sym (get_or_read cs at c within is d))

  pub absorbed_first : length deleted ≤ length new_text - before → (mid : List ℕ) → mid ≡ c.old_text
      → IsAbsorptionOf mid (take (length new_text - (before + length deleted)) (drop (before + length deleted) new_text)) (hunks_of (drop (at + 1) cs)) (absorption (get_or cs at d).new_range.start (pre ++ deleted) (hunks_of (drop at cs)))
  absorbed_first le mid mid_is = let whole = at_change ∙ ends_in_first cs at c within is pre deleted (omega (arith, size, before_in, ap length new_is)) (omega (arith, size, le, ap length new_is)) in
      let n : length pre + length deleted ≡ before + length deleted = omega arith in (
        mid_is ∙ sym (ap (λ (x : Absorption). x.mid) whole),
        slice_rest new_text (before + length deleted) ∙ (ap (drop (before + length deleted)) new_is ∙ (ap (λ (k : ℕ). drop k c.new_text) (sym n) ∙ sym (ap (λ (x : Absorption). x.post) whole))),
        sym (ap (λ (x : Absorption). x.rest) whole),
      )

  pub absorbed_later : length new_text - before < length deleted → (old_text mid post : List ℕ) (rest : List Hunk) → old_text ≡ c.old_text
      → mid ≡ old_text ++ (absorption c.new_range.end (take (length deleted - (length new_text - before)) (drop (length new_text - before) deleted)) (hunks_of (drop (at + 1) cs))).mid
      → post ≡ (absorption c.new_range.end (take (length deleted - (length new_text - before)) (drop (length new_text - before) deleted)) (hunks_of (drop (at + 1) cs))).post
      → rest ≡ (absorption c.new_range.end (take (length deleted - (length new_text - before)) (drop (length new_text - before) deleted)) (hunks_of (drop (at + 1) cs))).rest
      → IsAbsorptionOf mid post rest (absorption (get_or cs at d).new_range.start (pre ++ deleted) (hunks_of (drop at cs)))
  absorbed_later lt old_text mid post rest old_is mid_is post_is rest_is = let n : length new_text - before ≡ length c.new_text - length pre = omega (arith, ap length new_is) in
      let r : Absorption = absorption c.new_range.end (take (length deleted - (length new_text - before)) (drop (length new_text - before) deleted)) (hunks_of (drop (at + 1) cs)) in
      let whole = at_change ∙ goes_on cs at c within is pre deleted (omega (arith, size, before_in, ap length new_is)) r (omega (arith, size, lt, ap length new_is))
      (ap (λ (xs : List ℕ). absorption c.new_range.end xs (hunks_of (drop (at + 1) cs))) (slice_rest deleted (length new_text - before) ∙ ap (λ (k : ℕ). drop k deleted) n)) in (
        mid_is ∙ (ap (λ (xs : List ℕ). xs ++ r.mid) old_is ∙ sym (ap (λ (x : Absorption). x.mid) whole)),
        post_is ∙ sym (ap (λ (x : Absorption). x.post) whole),
        rest_is ∙ sym (ap (λ (x : Absorption). x.rest) whole),
      )

-- a point led on over three texts
pub led_three : (start e1 e2 e3 : Point) (x y z : List ℕ) → e1 ≡ capped (traverse start (extent x)) → ((p : Point) → e1 ≡ capped p → e2 ≡ capped (traverse p (extent y))) → ((p : Point) → e2 ≡ capped p → e3 ≡ capped (traverse p (extent z)))
    → e3 ≡ capped (traverse start (extent (x ++ y ++ z)))
led_three start e1 e2 e3 x y z first second third = third (traverse (traverse start (extent x)) (extent y)) (second (traverse start (extent x)) first)
    ∙ ap capped (ap (λ (p : Point). traverse p (extent z)) (sym (extent_two start x y)) ∙ sym (extent_two start (x ++ y) z))

-- what the code has found, as the change and those behind it
pub joins_of : (cs : List Change) (first stop : ℕ) (a b old_start : Point) (pre deleted inserted mid post : List ℕ) (c : Absorption) (j : Joint) → IsAbsorptionOf mid post (hunks_of (drop stop cs)) c → first ≤ stop → stop ≤ length cs
    → (j.first ≡ first) × (j.stop ≡ stop) → (j.old_text ≡ mid) × (j.new_text ≡ pre ++ inserted ++ post) → (j.old_start ≡ old_start) × (j.new_start ≡ b) → capped b ≡ b → old_start ≡ capped a
    → ((p : Point) → old_start ≡ capped p → j.old_end ≡ capped (traverse p (extent mid))) → j.new_end ≡ capped (traverse b (extent (pre ++ inserted ++ post))) → j.from ≡ capped (traverse b (extent (pre ++ deleted ++ post)))
    → Joins (hunks_of cs) (one_change a b pre deleted inserted c) j
joins_of cs first stop a b old_start pre deleted inserted mid post c j is_absorption low high list texts starts b_within old_start_is old_end new_end from = record {
  start = a;
  from = traverse b (extent (pre ++ deleted ++ c.post));
  low = omega (arith, list, low);
  high = omega (arith, list, high, length-map cs hunk_of);
  is = ap (λ (hs : List Hunk). change_at a b c.mid (pre ++ inserted ++ c.post) ++ map (moved_hunk (traverse b (extent (pre ++ deleted ++ c.post))) (traverse b (extent (pre ++ inserted ++ c.post)))) hs) rest_is
      ∙ (ap (λ (xs : List ℕ). change_at a b xs (pre ++ inserted ++ c.post) ++ map (moved_hunk F (traverse b (extent (pre ++ inserted ++ c.post)))) (drop j.stop (hunks_of cs))) (sym is_absorption.0 ∙ sym texts.0)
      ∙ (ap (λ (xs : List ℕ). change_at a b j.old_text xs ++ map (moved_hunk F (traverse b (extent xs))) (drop j.stop (hunks_of cs))) (ap (λ (xs : List ℕ). pre ++ inserted ++ xs) (sym is_absorption.1) ∙ sym texts.1)
      ∙ ap (λ (x : Point). change_at a x j.old_text j.new_text ++ map (moved_hunk F (traverse x (extent j.new_text))) (drop j.stop (hunks_of cs))) (sym starts.1)));
  within = ap capped starts.1 ∙ (b_within ∙ sym starts.1);
  old_start = starts.0 ∙ old_start_is;
  old_end = old_end a old_start_is ∙ ap (λ (xs : List ℕ). capped (traverse a (extent xs))) (sym texts.0);
  new_end = new_end ∙ (ap (λ (xs : List ℕ). capped (traverse b (extent xs))) (sym texts.1) ∙ ap (λ (x : Point). capped (traverse x (extent j.new_text))) (sym starts.1));
  from_is = from ∙ ap (λ (xs : List ℕ). capped (traverse b (extent (pre ++ deleted ++ xs)))) is_absorption.1;
}
  where
    F : Point
    F = traverse b (extent (pre ++ deleted ++ c.post))

    rest_is : c.rest ≡ drop j.stop (hunks_of cs)
    rest_is = sym is_absorption.2 ∙ (sym (drop-map hunk_of stop cs) ∙ ap (λ (n : ℕ). drop n (hunks_of cs)) (sym list.1))

pub one_change_in : (cs : List Change) (at : ℕ) (c : Change) → at < length cs → c ≡ get_or cs at c → (start : Point) (deleted inserted pre : List ℕ) → pre ≡ units_before start (hunk_of c)
    → one_change c.old_range.start c.new_range.start pre deleted inserted (absorption (get_or cs at c).new_range.start (pre ++ deleted) (hunks_of (drop at cs))) ≡ spliced_in start deleted inserted (hunk_of c) (hunks_of (drop (at + 1) cs))
one_change_in cs at c within is start deleted inserted pre pre_is =
    ap (λ (y : Change). one_change c.old_range.start c.new_range.start pre deleted inserted (absorption y.new_range.start (pre ++ deleted) (hunks_of (drop at cs)))) (sym is)
    ∙ (ap (λ (hs : List Hunk). one_change c.old_range.start c.new_range.start pre deleted inserted (absorption c.new_range.start (pre ++ deleted) hs)) (hunks_next cs at c within is)
    ∙ ap (λ (xs : List ℕ). one_change c.old_range.start c.new_range.start xs deleted inserted (absorption c.new_range.start (xs ++ deleted) (hunk_of c ∷ hunks_of (drop (at + 1) cs)))) pre_is)

-- facts on an answer, taken together
pub if_ok : {X E : Type 0} (r : Result X E) (P Q : X → Type 0) → ((x : X) → P x → Q x) → IfOk r P → IfOk r Q
if_ok (Ok x) P Q both p = both x p
if_ok (Err e) P Q both p = tt

pub if_ok_both : {X E : Type 0} (r : Result X E) (P Q : X → Type 0) → IfOk r P → IfOk r Q → IfOk r (λ x. P x × Q x)
if_ok_both (Ok x) P Q p q = (p, q)
if_ok_both (Err e) P Q p q = tt
