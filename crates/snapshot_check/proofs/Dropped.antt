-- What is left of a list behind some of its elements.
use Rattle.std.proofs.Common.{◌≡◌, ℕ, suc, ◌+◌, ◌<◌, List, ◌∷◌, length, drop, get_or, min, sym, ◌∙◌, ap, arith, inl, inr, add-one, drop-cons}
use Rattle.std.proofs.lemmas.Bool.{cases_lt}
use Rattle.std.proofs.lemmas.List.{drop_all, length-drop, get_or_default, drop-drop}

-- it begins with the element that is read there
pub dropped : {X : Type 0} (xs : List X) (i : ℕ) (x : X) → i < length xs → x ≡ get_or xs i x → drop i xs ≡ x ∷ drop (i + 1) xs
dropped xs i x within is =
    let cut : drop i xs ≡ get_or xs i x ∷ drop (suc i) xs = drop-cons xs i x within in
    cut ∙ ap (λ y. y ∷ drop (suc i) xs) (sym is) ∙ ap (λ n. x ∷ drop n xs) (sym (add-one i))

-- behind n more, at most all of them
pub drop_behind : {X : Type 0} (p n m : ℕ) (xs : List X) → m ≡ min (p + n) (length xs) → drop m xs ≡ drop n (drop p xs)
drop_behind p n m xs is = elim (cases_lt (p + n) (length xs)) [
  | inl under ↦ let e : m ≡ p + n = omega (arith, is, under) in ap (λ k. drop k xs) e ∙ sym (drop-drop n p xs)
  | inr over ↦ drop_all m xs (omega (arith, is, over)) ∙ sym (drop_all n (drop p xs) (omega (arith, over, length-drop p xs)))
]

-- the element at a place is one
pub same_item : {X : Type 0} (xs : List X) (i : ℕ) (x y : X) → i < length xs → x ≡ get_or xs i x → y ≡ get_or xs i y → x ≡ y
same_item xs i x y h left right = left ∙ (get_or_default xs i x y h ∙ sym right)
