-- Each step keeps the balance.
use Rattle.std.proofs.Common.{◌≡◌, ℕ, zero, suc, ◌+◌, ◌-◌, ◌<◌, ◌≤◌, List, [], ◌∷◌, ◌++◌, set, sym, refl, ap, ◌∙◌, ⊎_elim, append_assoc, append-nil, arith}
use Rattle.std.specs.List.{flat_map}
use Rattle.std.specs.List.Sorted.{IsPermutation}
use Rattle.std.proofs.lemmas.List.Sorted.{IsPermutation-refl, IsPermutation-sym, IsPermutation-trans, IsPermutation-append_left, IsPermutation-append_right, IsPermutation-append_comm}
use mathlib.Core.Option.{some, some-injective, some-ne-none}
use lib.ListN.{get_elem?}
use Rattle.crossbeam_queue.specs.Fifo.{Pushes, Pops, Forks, Merges, Learns}
use Rattle.crossbeam_queue.proofs.Lists.{at_set}
use Rattle.handover.specs.declared.rule.Share.{Share}
use Rattle.handover.specs.Accounts.{ALL_PARTS, share, with_put, with_taken, all_parts, all_put, all_taken, AreIdle, Balanced, Learned}
use Rattle.handover.proofs.Heaps.{equal, grown, kept, merged, joined}

module _ {T : Type 0} where
  abbrev Idle : Share T → Type 0
  Idle v = v.parts ≡ 0 → (v.put ≡ []) × (v.taken ≡ [])

  parts_set : (views : List (Share T)) (p : ℕ) (v w : Share T) → get_elem? views p ≡ some v → all_parts (set views p w) + v.parts ≡ all_parts views + w.parts
  parts_set [] p v w at = absurd (some-ne-none v (sym at))
  parts_set (u ∷ us) zero v w at = let e : u.parts ≡ v.parts = ap (λ (z : Share T). z.parts) (some-injective u v at) in omega (arith, e)
  parts_set (u ∷ us) (suc p) v w at = let h = parts_set us p v w at in omega (arith, h)

  parts_snoc : (views : List (Share T)) (w : Share T) → all_parts (views ++ w ∷ []) ≡ all_parts views + w.parts
  parts_snoc [] w = omega arith
  parts_snoc (u ∷ us) w = let h = parts_snoc us w in omega (arith, h)

  parts_le : (views : List (Share T)) (p : ℕ) (v : Share T) → get_elem? views p ≡ some v → v.parts ≤ all_parts views
  parts_le [] p v at = absurd (some-ne-none v (sym at))
  parts_le (u ∷ us) zero v at = let e : u.parts ≡ v.parts = ap (λ (z : Share T). z.parts) (some-injective u v at) in omega (arith, e)
  parts_le (u ∷ us) (suc p) v at = let h = parts_le us p v at in omega (arith, h)

  idle_set : (views : List (Share T)) (p : ℕ) (w : Share T) → AreIdle views → Idle w → AreIdle (set views p w)
  idle_set [] p w all one = tt
  idle_set (u ∷ us) zero w all one = (one, all.1)
  idle_set (u ∷ us) (suc p) w all one = (all.0, idle_set us p w all.1 one)

  idle_snoc : (views : List (Share T)) (w : Share T) → AreIdle views → Idle w → AreIdle (views ++ w ∷ [])
  idle_snoc [] w all one = (one, tt)
  idle_snoc (u ∷ us) w all one = (all.0, idle_snoc us w all.1 one)

  -- what an account with no part shows is nothing, by f
  abbrev Shows : (Share T → List T) → Type 0
  Shows f = (u : Share T) → (u.put ≡ []) × (u.taken ≡ []) → f u ≡ []

  none_left : (f : Share T → List T) → Shows f → (views : List (Share T)) → AreIdle views → all_parts views ≡ 0 → flat_map f views ≡ []
  none_left f empty [] all e = refl
  none_left f empty (u ∷ us) all e =
      let now : f u ≡ [] = empty u (all.0 (omega (arith, e))) in
      ap (λ (l : List T). l ++ flat_map f us) now ∙ none_left f empty us all.1 (omega (arith, e))

  -- where one account has every part, no other shows anything
  alone : (f : Share T → List T) → Shows f → (views : List (Share T)) (p : ℕ) (v : Share T) → AreIdle views → get_elem? views p ≡ some v → all_parts views ≡ v.parts → flat_map f views ≡ f v
  alone f empty [] p v all at e = absurd (some-ne-none v (sym at))
  alone f empty (u ∷ us) zero v all at e =
      let same : u ≡ v = some-injective u v at in
      let parts : u.parts ≡ v.parts = ap (λ (z : Share T). z.parts) same in
      ap (λ (l : List T). f u ++ l) (none_left f empty us all.1 (omega (arith, e, parts))) ∙ (append-nil (f u) ∙ ap f same)
  alone f empty (u ∷ us) (suc p) v all at e =
      let most = parts_le us p v at in
      let now : f u ≡ [] = empty u (all.0 (omega (arith, e, most))) in
      ap (λ (l : List T). l ++ flat_map f us) now ∙ alone f empty us p v all.1 at (omega (arith, e, most))

  pub begins : Balanced {T = T} [] (share ALL_PARTS [] [] ∷ [])
  begins = record { whole = omega arith; kept = IsPermutation-refl []; idle = ((λ _. (refl, refl)), tt) }

  pub puts : (n port : ℕ) (v : Share T) (x : T) → 0 < v.parts → Pushes Balanced n port v x (λ w. w ≡ with_put v x)
  puts n port v x some_part items views room h at =
      let w : Share T = with_put v x in
      let s = parts_set views port v w at in
      let more : IsPermutation (all_put (set views port w)) (x ∷ all_put views) = grown (λ (u : Share T). u.put) views port v w (x ∷ []) at refl in
      let same : all_taken (set views port w) ≡ all_taken views = kept (λ (u : Share T). u.taken) views port v w at refl in
      let one : IsPermutation (x ∷ all_put views) (x ∷ (all_taken views ++ items)) = IsPermutation-append_right (x ∷ []) _ _ h.kept in
      let last : IsPermutation (x ∷ (all_taken views ++ items)) ((all_taken views ++ items) ++ x ∷ []) = IsPermutation-append_comm (x ∷ []) (all_taken views ++ items) in
      let is : (all_taken views ++ items) ++ x ∷ [] ≡ all_taken (set views port w) ++ (items ++ x ∷ []) =
      append_assoc (all_taken views) items (x ∷ []) ∙ ap (λ (l : List T). l ++ (items ++ x ∷ [])) (sym same) in (
        w,
        record {
          whole = omega (arith, s, h.whole);
          kept = IsPermutation-trans _ _ _ more (IsPermutation-trans _ _ _ one (IsPermutation-trans _ _ _ last (equal _ _ is)));
          idle = idle_set views port w h.idle (λ none. absurd (omega (arith, none, some_part)));
        },
        refl,
      )

  pub takes : (port : ℕ) (v : Share T) → 0 < v.parts → Pops Balanced port v (λ x w. w ≡ with_taken v x)
  takes port v some_part x items views h at =
      let w : Share T = with_taken v x in
      let s = parts_set views port v w at in
      let same : all_put (set views port w) ≡ all_put views = kept (λ (u : Share T). u.put) views port v w at refl in
      let more : IsPermutation (all_taken (set views port w)) (x ∷ all_taken views) = grown (λ (u : Share T). u.taken) views port v w (x ∷ []) at refl in
      let front : IsPermutation (all_taken views ++ x ∷ items) ((x ∷ all_taken views) ++ items) =
      IsPermutation-trans _ _ _ (equal _ _ (sym (append_assoc (all_taken views) (x ∷ []) items)))
      (IsPermutation-append_left items _ _ (IsPermutation-append_comm (all_taken views) (x ∷ []))) in
      let back : IsPermutation ((x ∷ all_taken views) ++ items) (all_taken (set views port w) ++ items) = IsPermutation-append_left items _ _ (IsPermutation-sym _ _ more) in (
        w,
        record {
          whole = omega (arith, s, h.whole);
          kept = IsPermutation-trans _ _ _ (equal _ _ same) (IsPermutation-trans _ _ _ h.kept (IsPermutation-trans _ _ _ front back));
          idle = idle_set views port w h.idle (λ none. absurd (omega (arith, none, some_part)));
        },
        refl,
      )

  pub forks : (port : ℕ) (v : Share T) → 1 < v.parts → Forks Balanced port v (share (v.parts - 1) v.put v.taken) (share 1 [] [])
  forks port v enough items views h at =
      let w : Share T = share (v.parts - 1) v.put v.taken in
      let one : Share T = share 1 [] [] in
      let vs : List (Share T) = set views port w in
      let s = parts_set views port v w at in
      let t = parts_snoc vs one in
      let put : all_put (vs ++ one ∷ []) ≡ all_put views = joined (λ (u : Share T). u.put) vs one refl ∙ kept (λ (u : Share T). u.put) views port v w at refl in
      let taken : all_taken (vs ++ one ∷ []) ≡ all_taken views = joined (λ (u : Share T). u.taken) vs one refl ∙ kept (λ (u : Share T). u.taken) views port v w at refl in
      record {
        whole = omega (arith, s, t, h.whole, enough);
        kept = IsPermutation-trans _ _ _ (equal _ _ put) (IsPermutation-trans _ _ _ h.kept (equal _ _ (ap (λ (l : List T). l ++ items) (sym taken))));
        idle = idle_snoc vs one (idle_set views port w h.idle (λ none. absurd (omega (arith, none, enough)))) (λ none. (refl, refl));
      }

  pub merges : (port : ℕ) (v : Share T) (other : ℕ) (u : Share T) → 0 < v.parts → Merges Balanced port v other u (share (v.parts + u.parts) (v.put ++ u.put) (v.taken ++ u.taken)) (share 0 [] [])
  merges port v other u some_part items views h at two at' =
      let both : Share T = share (v.parts + u.parts) (v.put ++ u.put) (v.taken ++ u.taken) in
      let spent : Share T = share 0 [] [] in
      let vs : List (Share T) = set views port both in
      let was : get_elem? views other ≡ some u = ⊎_elim (λ x. absurd (two x.0)) (λ x. x.1) (at_set views port other both u at') in
      let s = parts_set views port v both at in
      let t = parts_set vs other u spent at' in
      let put : IsPermutation (all_put (set vs other spent)) (all_put views) = merged (λ (z : Share T). z.put) views port other v u both spent at two was refl refl in
      let taken : IsPermutation (all_taken (set vs other spent)) (all_taken views) = merged (λ (z : Share T). z.taken) views port other v u both spent at two was refl refl in
      record {
        whole = omega (arith, s, t, h.whole);
        kept = IsPermutation-trans _ _ _ put (IsPermutation-trans _ _ _ h.kept (IsPermutation-append_left items _ _ (IsPermutation-sym _ _ taken)));
        idle = idle_set vs other spent (idle_set views port both h.idle (λ none. absurd (omega (arith, none, some_part)))) (λ none. (refl, refl));
      }

  pub learns : (port : ℕ) (v : Share T) → Learns Balanced port v (Learned v)
  learns port v items views h at every =
      let whole : all_parts views ≡ v.parts = h.whole ∙ sym every in
      let put : all_put views ≡ v.put = alone (λ (z : Share T). z.put) (λ z e. e.0) views port v h.idle at whole in
      let taken : all_taken views ≡ v.taken = alone (λ (z : Share T). z.taken) (λ z e. e.1) views port v h.idle at whole in
      IsPermutation-trans _ _ _ (equal _ _ (sym put)) (IsPermutation-trans _ _ _ h.kept (equal _ _ (ap (λ (l : List T). l ++ items) taken)))
