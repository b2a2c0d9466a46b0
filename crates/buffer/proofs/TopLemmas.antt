-- The top of a shelf stays while hands and places are let go.
use Rattle.std.proofs.Common.{◌≡◌, ℕ, ◌+◌, ◌-◌, ◌<◌, Bool, true, false, cond, List, [], ◌∷◌, ◌++◌, length, length-append, drop, Option, Some, None, refl, sym, subst, ap, ◌∙◌, arith, Contains}
use Rattle.std.specs.Prelude.{filter, slice_get}
use Rattle.places.specs.declared.placed.Placed.{Placed}
use Rattle.places.specs.Placed.{placed_at, top_of, top_id, top_alone, others_of, newest_alone, narrowed, is_kept}
use Rattle.places.specs.Table.{IsTable}
use Rattle.places.proofs.StandLemmas.{here_is, top_there}
use Rattle.places.proofs.MarkLemmas.{keeps_top}
use Rattle.places.proofs.MaskLemmas.{narrowed_is}
use Rattle.places.proofs.TableLemmas.{collected}
use Rattle.layers.specs.declared.versioned.Versioned.{Versioned}
use Rattle.layers.specs.Shelf.{Shelved, held_at, top_held}

module _ {X : Type 0} where
  last_got : (xs : List X) (x : X) → slice_get (xs ++ x ∷ []) (length (xs ++ x ∷ []) - 1) ≡ Some x
  last_got xs x = let long : length (xs ++ x ∷ []) - 1 ≡ length xs = omega (arith, length-append xs (x ∷ [])) in rw long (got_last xs x)
    where
      got_last : (xs : List X) (x : X) → slice_get (xs ++ x ∷ []) (length xs) ≡ Some x
      got_last [] x = refl
      got_last (y ∷ ys) x = got_last ys x

  rest_dropped : (xs zs : List X) → drop (length xs) (xs ++ zs) ≡ zs
  rest_dropped [] zs = refl
  rest_dropped (x ∷ xs) zs = rest_dropped xs zs

  -- a list that has something ends with it
  ends : (t : List X) → 0 < length t → (xs : List X) × (x : X) × (t ≡ xs ++ x ∷ [])
  ends [] h = absurd (omega arith)
  ends (x ∷ []) h = ([], x, refl)
  ends (x ∷ y ∷ ys) h = let r = ends (y ∷ ys) (omega arith) in (x ∷ r.0, r.1, ap (λ l. x ∷ l) r.2)

  filter_more : (k : X → Bool) (x : X) (xs : List X) (e : X) (b : Bool) → (ys : List X) × (filter k (xs ++ e ∷ []) ≡ ys ++ e ∷ [])
      → (ys : List X) × (cond b (x ∷ filter k (xs ++ e ∷ [])) (filter k (xs ++ e ∷ [])) ≡ ys ++ e ∷ [])
  filter_more k x xs e true r = (x ∷ r.0, ap (λ l. x ∷ l) r.1)
  filter_more k x xs e false r = r

  filter_last : (k : X → Bool) (xs : List X) (e : X) → k e ≡ true → (ys : List X) × (filter k (xs ++ e ∷ []) ≡ ys ++ e ∷ [])
  filter_last k [] e h = ([], rw h refl)
  filter_last k (x ∷ xs) e h = filter_more k x xs e (k x) (filter_last k xs e h)

-- ---- the last of a table
narrow_last : (t : Shelved) (xs : Shelved) (e : Placed Versioned) → t ≡ xs ++ e ∷ [] → top_of (narrowed t) ≡ Some e
narrow_last t xs e is =
    let long : length t - 1 ≡ length xs = omega (arith, ap length is, length-append xs (e ∷ [])) in
    let alone : top_alone t ≡ e ∷ [] = ap (λ n. drop n t) long ∙ (ap (drop (length xs)) is ∙ rest_dropped xs (e ∷ [])) in
    ap (λ l. top_of (newest_alone (others_of t) ++ l)) alone ∙ last_got (newest_alone (others_of t)) e

top_there_is : (t : Shelved) (is : IsTable t) (xs : Shelved) (e : Placed Versioned) → t ≡ xs ++ e ∷ [] → Contains t e × (top_of t ≡ Some e)
top_there_is t is xs e ends =
    let top : top_of t ≡ Some e = ap top_of ends ∙ last_got xs e in
    let got = top_there t is.some in
    let same : got.0 ≡ e = cc in
    (subst (Contains t) same got.1, top)

narrow_top : (t : Shelved) → IsTable t → top_of (narrowed t) ≡ top_of t
narrow_top t is = let r = ends t is.some in narrow_last t r.0 r.1 r.2 ∙ sym (top_there_is t is r.0 r.1 r.2).1

collect_top : (t : Shelved) → IsTable t → top_of (filter (is_kept t) t) ≡ top_of t
collect_top t is =
    let r = ends t is.some in
    let top = top_there_is t is r.0 r.1 r.2 in
    let last = filter_last (is_kept t) r.0 r.1 (keeps_top t is r.1 top.0 top.1) in
    ap top_of (ap (filter (is_kept t)) r.2 ∙ last.1) ∙ (last_got last.0 r.1 ∙ sym top.1)

-- ---- what stands there
held_there : (s : Shelved) (p : ℕ) (e : Placed Versioned) → placed_at s p ≡ Some e → held_at s p ≡ e.held
held_there s p e at = rw (at, held_at) refl

place_there : (s : Shelved) (e : Placed Versioned) → top_of s ≡ Some e → (top_id s).place ≡ e.place
place_there s e at = rw (at, top_id) refl

top_holds : (s : Shelved) → IsTable s → (e : Placed Versioned) → top_of s ≡ Some e → top_held s ≡ e.held
top_holds s is e at =
    let got = top_there s is.some in
    let same : got.0 ≡ e = cc in
    let here : placed_at s e.place ≡ Some e = here_is s is e (subst (Contains s) same got.1) in
    ap (held_at s) (place_there s e at) ∙ held_there s e.place e here

same_held : (s t : Shelved) → IsTable s → IsTable t → top_of t ≡ top_of s → top_held t ≡ top_held s
same_held s t is it same = let got = top_there s is.some in top_holds t it got.0 (same ∙ got.2) ∙ sym (top_holds s is got.0 got.2)

-- narrow and collect keep what the top holds
pub narrow_holds : (s : Shelved) → IsTable s → top_held (narrowed s) ≡ top_held s
narrow_holds s is = same_held s (narrowed s) is (narrowed_is s is) (narrow_top s is)

pub collect_holds : (s : Shelved) → IsTable s → top_held (filter (is_kept s) s) ≡ top_held s
collect_holds s is = same_held s (filter (is_kept s) s) is (collected s is) (collect_top s is)

pub let_go_holds : (s : Shelved) → IsTable s → top_held (filter (is_kept (narrowed s)) (narrowed s)) ≡ top_held s
let_go_holds s is = collect_holds (narrowed s) (narrowed_is s is) ∙ narrow_holds s is
