-- Histories that grow, their beginnings, and the calls of one desk number in them.
use Rattle.std.proofs.Common.{◌≡◌, ℕ, ◌+◌, ◌%◌, ◌≤◌, Bool, true, false, cond, List, [], ◌∷◌, ◌++◌, length, refl, sym, ap, ◌∙◌, arith, append_assoc, length-append}
use Rattle.std.specs.Prelude.{filter}
use Rattle.std.proofs.lemmas.List.{append-nil}
use Rattle.std.proofs.lemmas.List.Elements.{filter-append}
use mathlib.Core.List.{IsPrefix}
use Rattle.turn_table.specs.declared.view.Entry.{Entry}
use Rattle.turn_table.specs.Meaning.{Meaning}
use Rattle.turn_table.specs.History.{state_after, is_call_of, calls_under, IsCalled, AreCalled, IsLegal}

pub prefix_self : {A : Type 0} (xs : List A) → IsPrefix xs xs
prefix_self xs = ([], append-nil xs)

pub prefix_nil : {A : Type 0} (xs : List A) → IsPrefix [] xs
prefix_nil xs = (xs, refl)

pub prefix_trans : {A : Type 0} (xs ys zs : List A) → IsPrefix xs ys → IsPrefix ys zs → IsPrefix xs zs
prefix_trans xs ys zs p q = (p.0 ++ q.0, sym (append_assoc xs p.0 q.0) ∙ (ap (λ w. w ++ q.0) p.1 ∙ q.1))

pub prefix_push : {A : Type 0} (xs ys zs : List A) → IsPrefix xs ys → IsPrefix xs (ys ++ zs)
prefix_push xs ys zs p = prefix_trans xs ys (ys ++ zs) p (zs, refl)

-- of two beginnings of one list the shorter begins the longer
pub prefix_shorter : {A : Type 0} (xs ys zs : List A) → IsPrefix xs zs → IsPrefix ys zs → length xs ≤ length ys → IsPrefix xs ys
prefix_shorter [] ys zs p q le = (ys, refl)
prefix_shorter (x ∷ xs) [] zs p q le = absurd (omega arith)
prefix_shorter (x ∷ xs) (y ∷ ys) [] p q le = absurd (cc (p.1))
prefix_shorter (x ∷ xs) (y ∷ ys) (z ∷ zs) p q le =
    let heads : x ≡ y = cc (p.1, q.1) in
    let rest = prefix_shorter xs ys zs (p.0, cc (p.1)) (q.0, cc (q.1)) (omega arith) in
    (rest.0, cc (heads, rest.1))

nothing_left : {A : Type 0} (xs ys : List A) → xs ++ ys ≡ xs → ys ≡ []
nothing_left [] ys e = e
nothing_left (x ∷ xs) ys e = nothing_left xs ys (cc)

left_nothing : {A : Type 0} (xs ys : List A) → xs ++ ys ≡ [] → xs ≡ []
left_nothing [] ys e = refl
left_nothing (x ∷ xs) ys e = absurd cc

-- what a test picks of a list, it picks of all between a beginning and that list, where it picks no more of the list than of the beginning
pub squeezed : {A : Type 0} (p : A → Bool) (xs ys zs : List A) → IsPrefix xs ys → IsPrefix ys zs → filter p xs ≡ filter p zs → filter p xs ≡ filter p ys
squeezed p xs ys zs a b same =
    let front : filter p ys ≡ filter p xs ++ filter p a.0 = ap (filter p) (sym a.1) ∙ filter-append p xs a.0 in
    let whole : filter p zs ≡ filter p ys ++ filter p b.0 = ap (filter p) (sym b.1) ∙ filter-append p ys b.0 in
    let all : filter p xs ++ (filter p a.0 ++ filter p b.0) ≡ filter p xs = sym (append_assoc (filter p xs) (filter p a.0) (filter p b.0)) ∙ ap (λ l. l ++ filter p b.0) (sym front) ∙ sym whole ∙ sym same in
    let none : filter p a.0 ≡ [] = left_nothing (filter p a.0) (filter p b.0) (nothing_left (filter p xs) (filter p a.0 ++ filter p b.0) all) in
    sym (front ∙ ap (λ l. filter p xs ++ l) none ∙ append-nil (filter p xs))

-- and it picks nothing of what lies between
pub nothing_more : {A : Type 0} (p : A → Bool) (xs ys : List A) → filter p xs ≡ filter p (xs ++ ys) → filter p ys ≡ []
nothing_more p xs ys same = nothing_left (filter p xs) (filter p ys) (sym (filter-append p xs ys) ∙ sym same)

module _ {T S : Type 0} (m : Meaning T S) where
  pub state_after-append : (x : S) (es fs : List (Entry T)) → state_after m x (es ++ fs) ≡ state_after m (state_after m x es) fs
  state_after-append x [] fs = refl
  state_after-append x (e ∷ es) fs = state_after-append (m.after x e.told) es fs

  pub called_push : (desks : ℕ) (es : List (Entry T)) (e : Entry T) → AreCalled m desks es → IsCalled m desks e → AreCalled m desks (es ++ e ∷ [])
  called_push desks [] e all one = (one, tt)
  called_push desks (f ∷ es) e all one = (all.0, called_push desks es e all.1 one)

  module _ (Legal : S → T → Type 0) where
    pub legal_push : (x : S) (es : List (Entry T)) (e : Entry T) → IsLegal m Legal x es → Legal (state_after m x es) e.told → IsLegal m Legal x (es ++ e ∷ [])
    legal_push x [] e all one = (one, tt)
    legal_push x (f ∷ es) e all one = (all.0, legal_push (m.after x f.told) es e all.1 one)

    pub legal_last : (x : S) (es : List (Entry T)) (e : Entry T) → IsLegal m Legal x (es ++ e ∷ []) → Legal (state_after m x es) e.told
    legal_last x [] e all = all.0
    legal_last x (f ∷ es) e all = legal_last (m.after x f.told) es e all.1

  -- a call of another number, or one that isn't numbered
  pub calls_other : (n : ℕ) (es : List (Entry T)) (e : Entry T) → is_call_of m n e ≡ false → calls_under m n (es ++ e ∷ []) ≡ calls_under m n es
  calls_other n es e no_call = filter-append (is_call_of m n) es (e ∷ []) ∙ ap (λ b. calls_under m n es ++ cond b (e ∷ []) []) no_call ∙ append-nil (calls_under m n es)

  pub calls_own : (n : ℕ) (es : List (Entry T)) (e : Entry T) → is_call_of m n e ≡ true → calls_under m n (es ++ e ∷ []) ≡ calls_under m n es ++ e ∷ []
  calls_own n es e call = filter-append (is_call_of m n) es (e ∷ []) ∙ ap (λ b. calls_under m n es ++ cond b (e ∷ []) []) call

-- the tally counts the entries, modulo the word
pub counted : {A : Type 0} (n : ℕ) (es : List A) (e : A) → n ≡ length es % 18446744073709551616 → (n + 1) % 18446744073709551616 ≡ length (es ++ e ∷ []) % 18446744073709551616
counted n es e is = let l = length-append es (e ∷ []) in omega arith
