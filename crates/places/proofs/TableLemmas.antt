-- A table stays one.
use Rattle.std.proofs.Common.{◌≡◌, ◌≢◌, ℕ, zero, suc, ◌+◌, ◌-◌, ◌^◌, ◌<◌, ◌≤◌, Bool, true, false, cond, List, [], ◌∷◌, ◌++◌, map, length, length-append, get_or, Option, Some, None, refl, sym, ap, subst, ◌∙◌, arith, All, Contains}
use Rattle.std.specs.Prelude.{filter, option_map, is_some, ◌==◌, MatchOption, IfSome, IsTrue}
use Rattle.std.proofs.lemmas.Bool.Decides.{nat_tests}
use Rattle.std.proofs.Math.ListN.{get_or-map}
use Rattle.std.proofs.lemmas.List.{length-map}
use Rattle.std.proofs.lemmas.List.Kept.{AllPairs-filter}
use Rattle.std.proofs.lemmas.List.Quantifiers.{all_pairs_push}
use Rattle.std.proofs.lemmas.List.Elements.{All-cons, All-push, All-weaker, All-filter, All-contains, All-contains_itself, filter_passes}
use Rattle.std.proofs.lemmas.Option.{slice_get-get_or}
use Rattle.places.specs.declared.placed.Placed.{Placed}
use Rattle.places.specs.Placed.{placed_at, is_live, depth_on, top_id, keeps, is_kept, with_top}
use Rattle.places.specs.Table.{IsPlaced, IsOver, StandsIn, IsTable, IsLowestFree}
use Rattle.places.proofs.FindLemmas.{found_push, found_filter, found_map, found_in, none_found}
use Rattle.places.proofs.StandLemmas.{place_is, top_there}
use Rattle.places.proofs.MarkLemmas.{keeps_parent, keeps_top}

module _ {X : Type 0} where
  -- one thing alone
  pub alone : (e : Placed X) → IsPlaced e → e.parent ≡ None → e.depth ≡ 1 → IsTable (e ∷ [])
  alone e h up d = record {
    some = omega arith;
    numbers = All-cons IsPlaced e [] h (λ k x within. absurd (omega arith));
    apart = λ i j x less within. absurd (omega arith);
    rising = λ i j x less within. absurd (omega arith);
    over = All-cons (StandsIn (e ∷ [])) e [] (rw up d) (λ k x within. absurd (omega arith));
  }

  -- ---- more on top
  over_push : (t zs : List (Placed X)) (e : Placed X) (o : Option (Placed X)) (p : ℕ) → placed_at t p ≡ o → MatchOption o ⊥ (λ f. IsOver e f) → MatchOption (placed_at (t ++ zs) p) ⊥ (λ f. IsOver e f)
  over_push t zs e None p s h = absurd h
  over_push t zs e (Some f) p s h = rw (found_push (λ e. e.place == p) t zs f s) h

  stands_push_at : (t zs : List (Placed X)) (e : Placed X) (o : Option ℕ) → MatchOption o (e.depth ≡ 1) (λ p. MatchOption (placed_at t p) ⊥ (λ f. IsOver e f)) → MatchOption o (e.depth ≡ 1) (λ p. MatchOption (placed_at (t ++ zs) p) ⊥ (λ f. IsOver e f))
  stands_push_at t zs e None h = h
  stands_push_at t zs e (Some p) h = over_push t zs e (placed_at t p) p refl h

  stands_push : (t zs : List (Placed X)) (e : Placed X) → StandsIn t e → StandsIn (t ++ zs) e
  stands_push t zs e h = stands_push_at t zs e e.parent h

  top_age : (t : List (Placed X)) (d : Placed X) → 0 < length t → (top_id t).age ≡ (get_or t (length t - 1) d).age
  top_age t d h = let at = slice_get-get_or t (length t - 1) d (omega arith) in rw at refl

  ages_at : (t : List (Placed X)) → IsTable t → (k : ℕ) (d : Placed X) (b : Bool) → (k == (length t - 1)) ≡ b → k < length t → (get_or t k d).age ≤ (top_id t).age
  ages_at t is k d true s h = let same : k ≡ length t - 1 = grind (arith, nat_tests) in let top = top_age t d is.some in let e : (get_or t k d).age ≡ (get_or t (length t - 1) d).age = ap (λ i. (get_or t i d).age) same in omega (arith, top, e)
  ages_at t is k d false s h = let other : k ≢ length t - 1 = grind (arith, nat_tests) in let some = is.some in let less : k < length t - 1 = omega arith in let rise = is.rising k (length t - 1) d less (omega arith) in omega (arith, top_age t d is.some, rise)

  -- the top is the newest
  pub ages : (t : List (Placed X)) → IsTable t → All (λ e. e.age ≤ (top_id t).age) t
  ages t is = λ k d h. ages_at t is k d (k == (length t - 1)) refl h

  live_found : (o : Option (Placed X)) → is_some o ≡ true → (f : Placed X) × (o ≡ Some f)
  live_found None h = cc
  live_found (Some f) h = (f, refl)

  abbrev added : List (Placed X) → ℕ → Option ℕ → X → Placed X
  added t p parent x = record { place = p; age = (top_id t).age + 1; parent = parent; depth = depth_on t parent; mask = 0; held = x }

  depth_found : (t : List (Placed X)) (q : ℕ) (f : Placed X) → placed_at t q ≡ Some f → depth_on t (Some q) ≡ f.depth + 1
  depth_found t q f e = rw e (omega arith)

  stands_new_at : (t zs : List (Placed X)) → IsTable t → (p q : ℕ) (x : X) (f : Placed X) → placed_at t q ≡ Some f → MatchOption (placed_at (t ++ zs) q) ⊥ (λ g. IsOver (added t p (Some q) x) g)
  stands_new_at t zs is p q x f at =
      let age = All-contains (λ e. e.age ≤ (top_id t).age) t f (ages t is) (found_in (λ e. e.place == q) t f at) in
      let over : IsOver (added t p (Some q) x) f = record { older = omega (arith, age); deeper = depth_found t q f at } in
      let P : Option (Placed X) → Type 0 = λ o. MatchOption o ⊥ (λ g. IsOver (added t p (Some q) x) g) in
      subst P (sym (found_push (λ e. e.place == q) t zs f at)) over

  stands_new : (t zs : List (Placed X)) → IsTable t → (p : ℕ) (parent : Option ℕ) (x : X) → IfSome parent (λ q. IsTrue (is_live t q)) → StandsIn (t ++ zs) (added t p parent x)
  stands_new t zs is p None x h = refl
  stands_new t zs is p (Some q) x h = let got = live_found (placed_at t q) h in stands_new_at t zs is p q x got.0 got.1

  some_deep : (t : List (Placed X)) (parent : Option ℕ) → 1 ≤ depth_on t parent
  some_deep t None = omega arith
  some_deep t (Some q) = omega arith

  pub topped : (t : List (Placed X)) → IsTable t → (p : ℕ) (parent : Option ℕ) (x : X) → IsLowestFree t p → IfSome parent (λ q. IsTrue (is_live t q)) → depth_on t parent ≤ 8 → IsTable (with_top t p parent x)
  topped t is p parent x free live shallow =
      let none = none_found (λ e. e.place == p) t free.free in
      record {
        some = omega (arith, length-append t (added t p parent x ∷ []));
        numbers = All-push IsPlaced t (added t p parent x) is.numbers (record { place = free.within; shallow = shallow; some = some_deep t parent; hands = omega arith });
        apart = all_pairs_push (λ a b. a.place ≢ b.place) t (added t p parent x) is.apart (λ k d h same. let no = none k d h in let yes : ((get_or t k d).place == p) ≡ true = grind (arith, nat_tests) in cc);
        rising = all_pairs_push (λ a b. a.age < b.age) t (added t p parent x) is.rising (λ k d h. let age = ages t is k d h in omega (arith, age));
        over = All-push (StandsIn (with_top t p parent x)) t (added t p parent x) (All-weaker (StandsIn t) (StandsIn (with_top t p parent x)) (stands_push t (added t p parent x ∷ [])) t is.over) (stands_new t (added t p parent x ∷ []) is p parent x live);
      }

  -- ---- fewer
  filter_more_at : (k : Placed X → Bool) (x : Placed X) (xs : List (Placed X)) (b : Bool) → 0 < length (filter k xs) → 0 < length (cond b (x ∷ filter k xs) (filter k xs))
  filter_more_at k x xs true h = omega arith
  filter_more_at k x xs false h = h

  filter_some : (k : Placed X → Bool) (t : List (Placed X)) (e : Placed X) → Contains t e → k e ≡ true → 0 < length (filter k t)
  filter_some k [] e h s = absurd (omega (arith, h.1))
  filter_some k (x ∷ xs) e (zero, within, at) s = let here : k x ≡ true = rw at s in rw here (omega arith)
  filter_some k (x ∷ xs) e (suc i, within, at) s = filter_more_at k x xs (k x) (filter_some k xs e (i, (omega arith), at) s)

  kept_up_at : (t : List (Placed X)) (is : IsTable t) (e : Placed X) → Contains t e → keeps t e.place ≡ true → (p : ℕ) (o : Option (Placed X)) → e.parent ≡ Some p → placed_at t p ≡ o → MatchOption o ⊥ (λ f. IsOver e f) → MatchOption (placed_at (filter (is_kept t) t) p) ⊥ (λ f. IsOver e f)
  kept_up_at t is e there k p None up s h = absurd h
  kept_up_at t is e there k p (Some f) up s h =
      let at = place_is t p f s in
      let parent = keeps_parent t is e there p k up in
      let P : ℕ → Type 0 = λ n. keeps t n ≡ true in
      let kept : keeps t f.place ≡ true = subst P (sym at) parent in
      rw (found_filter (λ e. e.place == p) (is_kept t) t f s kept) h

  kept_up : (t : List (Placed X)) (is : IsTable t) (e : Placed X) → Contains t e → keeps t e.place ≡ true → (o : Option ℕ) → e.parent ≡ o → MatchOption o (e.depth ≡ 1) (λ p. MatchOption (placed_at t p) ⊥ (λ f. IsOver e f)) → MatchOption o (e.depth ≡ 1) (λ p. MatchOption (placed_at (filter (is_kept t) t) p) ⊥ (λ f. IsOver e f))
  kept_up t is e there k None up h = h
  kept_up t is e there k (Some p) up h = kept_up_at t is e there k p (placed_at t p) up refl h

  pub collected : (t : List (Placed X)) → IsTable t → IsTable (filter (is_kept t) t)
  collected t is =
      let top = top_there t is.some in
      record {
        some = filter_some (is_kept t) t top.0 top.1 (keeps_top t is top.0 top.1 top.2);
        numbers = All-filter (is_kept t) IsPlaced t is.numbers;
        apart = AllPairs-filter (λ a b. a.place ≢ b.place) (is_kept t) t is.apart;
        rising = AllPairs-filter (λ a b. a.age < b.age) (is_kept t) t is.rising;
        over = λ k d h.
            let e = get_or (filter (is_kept t) t) k d in
            kept_up t is e (All-filter (is_kept t) (Contains t) t (All-contains_itself t) k d h) (filter_passes (is_kept t) t k d h) e.parent refl (All-filter (is_kept t) (StandsIn t) t is.over k d h);
      }

  -- ---- other hands
  abbrev pub unmasked : Placed X → Placed X
  unmasked e = record e { mask = 0 }

  same_at : (t u : List (Placed X)) → map unmasked u ≡ map unmasked t → (k : ℕ) (d : Placed X) → unmasked (get_or u k d) ≡ unmasked (get_or t k d)
  same_at t u e k d = sym (get_or-map unmasked u k d) ∙ (ap (λ l. get_or l k (unmasked d)) e ∙ get_or-map unmasked t k d)

  same_long : (t u : List (Placed X)) → map unmasked u ≡ map unmasked t → length u ≡ length t
  same_long t u e = sym (length-map u unmasked) ∙ (ap length e ∙ length-map t unmasked)

  same_found : (t u : List (Placed X)) → map unmasked u ≡ map unmasked t → (p : ℕ) → option_map unmasked (placed_at u p) ≡ option_map unmasked (placed_at t p)
  same_found t u e p = sym (found_map (λ e. e.place == p) unmasked (λ x. refl) u) ∙ (ap (λ l. placed_at l p) e ∙ found_map (λ e. e.place == p) unmasked (λ x. refl) t)

  over_same : (e f : Placed X) (a b : Option (Placed X)) → e.age ≡ f.age → e.depth ≡ f.depth → option_map unmasked a ≡ option_map unmasked b → MatchOption b ⊥ (λ g. IsOver f g) → MatchOption a ⊥ (λ g. IsOver e g)
  over_same e f a None age deep s h = absurd h
  over_same e f None (Some g) age deep s h = cc
  over_same e f (Some g') (Some g) age deep s h =
      let same : unmasked g' ≡ unmasked g = cc in
      let ages : g'.age ≡ g.age = ap (λ x. x.age) same in
      let depths : g'.depth ≡ g.depth = ap (λ x. x.depth) same in
      record { older = omega (arith, h.older); deeper = omega (arith, h.deeper) }

  stands_same : (t u : List (Placed X)) → map unmasked u ≡ map unmasked t → (e f : Placed X) (o : Option ℕ) → e.age ≡ f.age → e.depth ≡ f.depth → MatchOption o (f.depth ≡ 1) (λ p. MatchOption (placed_at t p) ⊥ (λ g. IsOver f g)) → MatchOption o (e.depth ≡ 1) (λ p. MatchOption (placed_at u p) ⊥ (λ g. IsOver e g))
  stands_same t u s e f None age deep h = omega (arith, h)
  stands_same t u s e f (Some p) age deep h = over_same e f (placed_at u p) (placed_at t p) age deep (same_found t u s p) h

  stands_masked : (t u : List (Placed X)) → map unmasked u ≡ map unmasked t → (e f : Placed X) → unmasked e ≡ unmasked f → StandsIn t f → StandsIn u e
  stands_masked t u s e f same h =
      let up : e.parent ≡ f.parent = ap (λ x. x.parent) same in
      let P : Option ℕ → Type 0 = λ o. MatchOption o (e.depth ≡ 1) (λ p. MatchOption (placed_at u p) ⊥ (λ g. IsOver e g)) in
      subst P (sym up) (stands_same t u s e f f.parent (ap (λ x. x.age) same) (ap (λ x. x.depth) same) h)

  pub remasked : (t u : List (Placed X)) → map unmasked u ≡ map unmasked t → All (λ e. e.mask < 2 ^ 32) u → IsTable t → IsTable u
  remasked t u s few is =
      let long = same_long t u s in
      record {
        some = omega (arith, long, is.some);
        numbers = λ k d h.
            let e = same_at t u s k d in
            let at = is.numbers k d (omega (arith, long)) in
            let place : (get_or u k d).place ≡ (get_or t k d).place = ap (λ x. x.place) e in
            let depth : (get_or u k d).depth ≡ (get_or t k d).depth = ap (λ x. x.depth) e in
            record { place = omega (arith, at.place); shallow = omega (arith, at.shallow); some = omega (arith, at.some); hands = few k d h };
        apart = λ i j d less h same.
            let a : (get_or u i d).place ≡ (get_or t i d).place = ap (λ x. x.place) (same_at t u s i d) in
            let b : (get_or u j d).place ≡ (get_or t j d).place = ap (λ x. x.place) (same_at t u s j d) in
            is.apart i j d less (omega (arith, long)) (omega arith);
        rising = λ i j d less h.
            let a : (get_or u i d).age ≡ (get_or t i d).age = ap (λ x. x.age) (same_at t u s i d) in
            let b : (get_or u j d).age ≡ (get_or t j d).age = ap (λ x. x.age) (same_at t u s j d) in
            let old = is.rising i j d less (omega (arith, long)) in
            omega (arith, a, b, old);
        over = λ k d h. stands_masked t u s (get_or u k d) (get_or t k d) (same_at t u s k d) (is.over k d (omega (arith, long)));
      }
