-- What is marked is what is kept.
use Rattle.std.proofs.Common.{◌≡◌, ◌≢◌, ℕ, zero, suc, ◌≤◌, Bool, true, false, List, [], ◌∷◌, get_or, Option, Some, None, refl, sym, ap, subst, ◌∙◌, arith, All, AllPairs, Contains}
use Rattle.std.specs.Prelude.{option_and_then, not, ◌==◌, ◌||◌, ◌&&◌}
use Rattle.std.proofs.lemmas.List.Elements.{All-cons, All-head, All-tail, All-contains, All-contains_itself}
use Rattle.places.specs.declared.placed.Placed.{Placed}
use Rattle.places.specs.Placed.{placed_at, parent_of, top_id, top_of, is_among, chain_of, is_wanted, keeps}
use Rattle.places.specs.Table.{IsPlaced, IsTable}
use Rattle.places.specs.Marking.{is_parent, marked}
use Rattle.places.proofs.FindLemmas.{pairs_head, pairs_tail, found_all}
use Rattle.places.proofs.StandLemmas.{same_number, number_is, number_not, any_found, any_true, here_is, place_is, below, top_there, not_below}

or_left : (a b : Bool) → a ≡ true → a || b ≡ true
or_left a b e = rw e refl

or_right : (a b : Bool) → b ≡ true → a || b ≡ true
or_right true b e = refl
or_right false b e = e

-- a marked entry is one that marks its parent
marks_on : (m n s r : Bool) → m || ((n || m) && (s || r)) ≡ true → n || m ≡ true
marks_on true true s r e = refl
marks_on true false s r e = refl
marks_on false true s r e = refl
marks_on false false s r e = e

marks_parent : (k a s r : Bool) → a ≡ true → r ≡ true → k || (a && (s || r)) ≡ true
marks_parent true a s r e h = refl
marks_parent false a true r e h = rw e refl
marks_parent false a false r e h = rw (e, h) refl

marked_before : (m a s r : Bool) → s ≡ false → r ≡ false → m || (a && (s || r)) ≡ true → m ≡ true
marked_before true a s r e h k = refl
marked_before false true s r e h k = rw (e, h) at k
marked_before false false s r e h k = k

same_bool : (a b : Bool) → (a ≡ true → b ≡ true) → (b ≡ true → a ≡ true) → a ≡ b
same_bool true b f h = sym (f refl)
same_bool false true f h = h refl
same_bool false false f h = refl

parent_is : (o : Option ℕ) (q : ℕ) → is_parent o q ≡ true → o ≡ Some q
parent_is None q e = cc
parent_is (Some p) q e = ap (λ n. Some n) (number_is p q e)

module _ {X : Type 0} (top : ℕ) where
  -- where an entry is marked, so is its parent
  abbrev Closes : List (Placed X) → Placed X → Type 0
  Closes es f = (q : ℕ) → marked top es f.place ≡ true → is_parent f.parent q ≡ true → marked top es q ≡ true

  closes_head : (e : Placed X) (es : List (Placed X)) → Closes (e ∷ es) e
  closes_head e es q m h =
      marks_parent (marked top es q) (not (e.mask == 0) || marked top es e.place) (e.place == q) (is_parent e.parent q)
      (marks_on (marked top es e.place) (not (e.mask == 0)) (e.place == e.place) (is_parent e.parent e.place) m) h

  closes_tail : (e f : Placed X) (es : List (Placed X)) → e.place ≢ f.place → is_parent e.parent f.place ≡ false → Closes es f → Closes (e ∷ es) f
  closes_tail e f es ne np ih q m h =
      or_left (marked top es q) _ (ih q (marked_before (marked top es f.place) (not (e.mask == 0) || marked top es e.place) (e.place == f.place) (is_parent e.parent f.place) (number_not e.place f.place ne) np m) h)

  closes : (es : List (Placed X)) → AllPairs (λ a b. a.place ≢ b.place) es → AllPairs (λ a b. is_parent a.parent b.place ≡ false) es → All (Closes es) es
  closes [] h k = λ i d within. absurd (omega arith)
  closes (e ∷ es) h k =
      All-cons (Closes (e ∷ es)) e es (closes_head e es)
      (λ i d within. closes_tail e (get_or es i d) es (pairs_head (λ a b. a.place ≢ b.place) e es h i d within) (pairs_head (λ a b. is_parent a.parent b.place ≡ false) e es k i d within) (closes es (pairs_tail (λ a b. a.place ≢ b.place) e es h) (pairs_tail (λ a b. is_parent a.parent b.place ≡ false) e es k) i d within))

  top_marked : (es : List (Placed X)) → marked top es top ≡ true
  top_marked [] = same_number top
  top_marked (e ∷ es) = or_left (marked top es top) _ (top_marked es)

  hand_marked : (es : List (Placed X)) → All (λ w. not (w.mask == 0) ≡ true → marked top es w.place ≡ true) es
  hand_marked [] = λ i d within. absurd (omega arith)
  hand_marked (e ∷ es) =
      All-cons (λ w. not (w.mask == 0) ≡ true → marked top (e ∷ es) w.place ≡ true) e es
      (λ some. or_right (marked top es e.place) _ (rw (some, same_number e.place) refl))
      (λ i d within some. or_left (marked top es (get_or es i d).place) _ (hand_marked es i d within some))

module _ {X : Type 0} (t : List (Placed X)) (is : IsTable t) where
  place_of : ℕ
  place_of = (top_id t).place

  abbrev M : ℕ → Bool
  M p = marked (top_id t).place t p

  up : (p q : ℕ) (o : Option (Placed X)) → placed_at t p ≡ o → M p ≡ true → option_and_then (λ (e : Placed X). e.parent) o ≡ Some q → M q ≡ true
  up p q None e m h = cc
  up p q (Some f) e m h =
      let at = place_is t p f e in
      let all = closes (top_id t).place t is.apart (not_below t is) in
      found_all (Closes (top_id t).place t) (λ e. e.place == p) t f e all q (rw at m) (rw h (same_number q))

  none_among : (x n : ℕ) → is_among x (chain_of t n None) ≡ true → ⊥
  none_among x zero e = cc
  none_among x (suc n) e = cc

  mutual_step : (x n p : ℕ) (o : Option ℕ) → parent_of t p ≡ o → M p ≡ true → is_among x (chain_of t n o) ≡ true → ((q : ℕ) → M q ≡ true → is_among x (chain_of t n (Some q)) ≡ true → M x ≡ true) → M x ≡ true
  mutual_step x n p None e m h ih = absurd (none_among x n h)
  mutual_step x n p (Some q) e m h ih = ih q (up p q (placed_at t p) refl m e) h

  chain_step : (x n p : ℕ) (b : Bool) → (p == x) ≡ b → M p ≡ true → b || is_among x (chain_of t n (parent_of t p)) ≡ true → ((q : ℕ) → M q ≡ true → is_among x (chain_of t n (Some q)) ≡ true → M x ≡ true) → M x ≡ true
  chain_step x n p true s m h ih = let same = number_is p x s in rw same at m
  chain_step x n p false s m h ih = mutual_step x n p (parent_of t p) refl m h ih

  -- what stands below a marked place is marked
  chain_marked : (x n p : ℕ) → M p ≡ true → is_among x (chain_of t n (Some p)) ≡ true → M x ≡ true
  chain_marked x zero p m h = cc
  chain_marked x (suc n) p m h = chain_step x n p (p == x) refl m h (λ q. chain_marked x n q)

  wanted_at : (w : Placed X) → Contains t w → (b : Bool) → (w.place == (top_id t).place) ≡ b → b || not (w.mask == 0) ≡ true → M w.place ≡ true
  wanted_at w h true s e = rw (number_is w.place (top_id t).place s) (top_marked (top_id t).place t)
  wanted_at w h false s e = All-contains (λ w. not (w.mask == 0) ≡ true → M w.place ≡ true) t w (hand_marked (top_id t).place t) h e

  both_left : (a b : Bool) → a && b ≡ true → a ≡ true
  both_left true b e = refl
  both_left false b e = e

  both_right : (a b : Bool) → a && b ≡ true → b ≡ true
  both_right true b e = e
  both_right false b e = cc

  kept_marked : (p : ℕ) → keeps t p ≡ true → M p ≡ true
  kept_marked p e =
      let got = any_found (λ w. is_wanted t w && is_among p (chain_of t 8 (Some w.place))) t e in
      let w = got.0 in
      chain_marked p 8 w.place (wanted_at w got.1 (w.place == (top_id t).place) refl (both_left (is_wanted t w) _ got.2)) (both_right (is_wanted t w) _ got.2)

  -- the other way: what is marked is below what is wanted
  deep_here : (n q : ℕ) (g : Placed X) → placed_at t q ≡ Some g → g.depth ≤ n → is_among q (chain_of t n (Some q)) ≡ true
  deep_here zero q g e h = let some : 1 ≤ g.depth = (found_all IsPlaced (λ e. e.place == q) t g e is.numbers).some in absurd (omega arith)
  deep_here (suc n) q g e h = rw (same_number q) refl

  parent_found : (p : ℕ) (f : Placed X) (q : ℕ) → placed_at t p ≡ Some f → parent_of t p ≡ Some q → f.parent ≡ Some q
  parent_found p f q e h = rw e at h

  deep_rest : (n x q p r : ℕ) (f : Placed X) (o : Option ℕ) → parent_of t p ≡ o → placed_at t p ≡ Some f → f.depth ≤ suc n → is_among x (chain_of t n o) ≡ true → ((r : ℕ) (g : Placed X) → placed_at t r ≡ Some g → g.depth ≤ n → is_among x (chain_of t n (Some r)) ≡ true → is_among q (chain_of t n (Some r)) ≡ true) → is_among q (chain_of t n o) ≡ true
  deep_rest n x q p r f None s e d h ih = absurd (none_among x n h)
  deep_rest n x q p r f (Some r') s e d h ih =
      let under = below t is p f r' e (parent_found p f r' e s) in
      let deeper = under.2.deeper in
      ih r' under.0 under.1 (omega (arith, deeper)) h

  deep_first : (n x q p : ℕ) (f : Placed X) → x ≡ p → parent_of t x ≡ Some q → placed_at t p ≡ Some f → f.depth ≤ suc n → is_among q (chain_of t n (parent_of t p)) ≡ true
  deep_first n x q p f same up e d =
      let at : parent_of t p ≡ Some q = rw same at up in
      let under = below t is p f q e (parent_found p f q e at) in
      let deeper = under.2.deeper in
      rw at (deep_here n q under.0 under.1 (omega (arith, deeper)))

  deep_step : (n x q p : ℕ) (f : Placed X) (b : Bool) → (p == x) ≡ b → placed_at t p ≡ Some f → f.depth ≤ suc n → parent_of t x ≡ Some q → b || is_among x (chain_of t n (parent_of t p)) ≡ true → ((r : ℕ) (g : Placed X) → placed_at t r ≡ Some g → g.depth ≤ n → is_among x (chain_of t n (Some r)) ≡ true → is_among q (chain_of t n (Some r)) ≡ true) → is_among q (chain_of t n (parent_of t p)) ≡ true
  deep_step n x q p f true s e d up h ih = deep_first n x q p f (sym (number_is p x s)) up e d
  deep_step n x q p f false s e d up h ih = deep_rest n x q p p f (parent_of t p) refl e d h ih

  -- a chain that holds a place holds its parent
  deep : (n x q p : ℕ) (f : Placed X) → placed_at t p ≡ Some f → f.depth ≤ n → parent_of t x ≡ Some q → is_among x (chain_of t n (Some p)) ≡ true → is_among q (chain_of t n (Some p)) ≡ true
  deep zero x q p f e d up h = cc
  deep (suc n) x q p f e d up h = or_right (p == q) _ (deep_step n x q p f (p == x) refl e d up h (λ r g e' d' h'. deep n x q r g e' d' up h'))

  keeps_wanted : (w : Placed X) → Contains t w → (p : ℕ) → is_wanted t w ≡ true → is_among p (chain_of t 8 (Some w.place)) ≡ true → keeps t p ≡ true
  keeps_wanted w h p e among = any_true (λ w. is_wanted t w && is_among p (chain_of t 8 (Some w.place))) t w h (rw (e, among) refl)

  chain_itself : (w : Placed X) → Contains t w → is_among w.place (chain_of t 8 (Some w.place)) ≡ true
  chain_itself w h = deep_here 8 w.place w (here_is t is w h) (All-contains IsPlaced t w is.numbers h).shallow

  -- what is kept keeps its parent
  pub keeps_parent : (e : Placed X) → Contains t e → (q : ℕ) → keeps t e.place ≡ true → e.parent ≡ Some q → keeps t q ≡ true
  keeps_parent e h q k up =
      let got = any_found (λ w. is_wanted t w && is_among e.place (chain_of t 8 (Some w.place))) t k in
      let w = got.0 in
      let wanted = both_left (is_wanted t w) _ got.2 in
      let among = both_right (is_wanted t w) _ got.2 in
      let at = here_is t is e h in
      let parent : parent_of t e.place ≡ Some q = rw at up in
      keeps_wanted w got.1 q wanted (deep 8 e.place q w.place w (here_is t is w got.1) (All-contains IsPlaced t w is.numbers got.1).shallow parent among)

  top_is : (e : Placed X) → top_of t ≡ Some e → (top_id t).place ≡ e.place
  top_is e h = rw h refl

  -- the top is kept
  pub keeps_top : (e : Placed X) → Contains t e → top_of t ≡ Some e → keeps t e.place ≡ true
  keeps_top e h top =
      let wanted : is_wanted t e ≡ true = rw (top_is e top, same_number e.place) refl in
      keeps_wanted e h e.place wanted (chain_itself e h)

  here_or_up : (e : Placed X) → Contains t e → (p : ℕ) (s : Bool) → (e.place == p) ≡ s → s || is_parent e.parent p ≡ true → keeps t e.place ≡ true → keeps t p ≡ true
  here_or_up e h p true s r k = let P : ℕ → Type 0 = λ n. keeps t n ≡ true in subst P (number_is e.place p s) k
  here_or_up e h p false s r k = keeps_parent e h p k (parent_is e.parent p r)

  hand_or_mark : (e : Placed X) → Contains t e → (n m : Bool) → not (e.mask == 0) ≡ n → n || m ≡ true → (m ≡ true → keeps t e.place ≡ true) → keeps t e.place ≡ true
  hand_or_mark e h true m s r ih =
      let wanted : is_wanted t e ≡ true = or_right (e.place == (top_id t).place) _ s in
      keeps_wanted e h e.place wanted (chain_itself e h)
  hand_or_mark e h false m s r ih = ih r

  marked_step : (e : Placed X) → Contains t e → (p : ℕ) (m n k : Bool) → not (e.mask == 0) ≡ n → m || ((n || k) && ((e.place == p) || is_parent e.parent p)) ≡ true → (m ≡ true → keeps t p ≡ true) → (k ≡ true → keeps t e.place ≡ true) → keeps t p ≡ true
  marked_step e h p true n k s r before here = before refl
  marked_step e h p false n k s r before here =
      here_or_up e h p (e.place == p) refl (both_right (n || k) _ r) (hand_or_mark e h n k s (both_left (n || k) _ r) here)

  marked_none : (p : ℕ) → ((top_id t).place == p) ≡ true → keeps t p ≡ true
  marked_none p e =
      let there = top_there t is.some in
      let k = keeps_top there.0 there.1 there.2 in
      let same : there.0.place ≡ p = sym (top_is there.0 there.2) ∙ number_is (top_id t).place p e in
      let P : ℕ → Type 0 = λ n. keeps t n ≡ true in subst P same k

  marked_kept : (es : List (Placed X)) → All (Contains t) es → (p : ℕ) → marked (top_id t).place es p ≡ true → keeps t p ≡ true
  marked_kept [] h p m = marked_none p m
  marked_kept (e ∷ es) h p m =
      marked_step e (All-head (Contains t) e es h) p (marked (top_id t).place es p) (not (e.mask == 0)) (marked (top_id t).place es e.place) refl m
      (marked_kept es (All-tail (Contains t) e es h) p) (marked_kept es (All-tail (Contains t) e es h) e.place)

  -- the pass marks what is kept, and nothing else
  pub marked_is : (p : ℕ) → marked (top_id t).place t p ≡ keeps t p
  marked_is p = same_bool (M p) (keeps t p) (marked_kept t (All-contains_itself t) p) (kept_marked p)
