-- The slots of the numbers 1 to N, as a loop fills them.
use Rattle.std.proofs.Common.{◌≡◌, ℕ, zero, suc, ◌+◌, ◌<◌, List, [], ◌∷◌, length, take, drop, get_or, map, replicate, Bool, true, false, cond, Option, Some, None, refl, sym, ◌∙◌, ap, subst, arith, inl, inr, eq-eqb}
use Rattle.std.specs.Prelude.{count_by, find, is_some, slice_get}
use Rattle.std.proofs.lemmas.Bool.{cases_eq, ne_eqb, false≢true}
use Rattle.std.proofs.lemmas.List.{take_all, get_or-replicate, length-replicate, get_or-map}
use Rattle.std.proofs.lemmas.List.Sums.{count_by_more_yes, count_by_more_no, sum_by-cons}
use Rattle.std.proofs.lemmas.Option.{slice_get-get_or}
use Rattle.machine.specs.Lawful.{Entry, has_number}
use Rattle.transcript_check.specs.Order.{IsOnce, IsSlot, AreSlots, IsTaken, IsFilled, HasGap, IsOrder}

none_of : (n : ℕ) (slots : List (Option ℕ)) → get_or slots n None ≡ None → is_some (get_or slots n None) ≡ true → ⊥
none_of n slots none some = false≢true (ap is_some (sym none) ∙ some)

-- at the start
pub no_slots : (es : List Entry) (slots : List (Option ℕ)) → slots ≡ replicate (length es) None → AreSlots es 0 slots
no_slots es slots is = record {
  long = ap length is ∙ length-replicate (length es) None;
  each = λ n h. subst (IsSlot es 0 (n + 1)) (sym (ap (λ l. get_or l n None) is ∙ get_or-replicate (length es) n None None h)) refl;
}

entry_at : (es : List Entry) (i : ℕ) (e : Entry) → i < length es → e ≡ get_or es i e → slice_get es i ≡ Some e
entry_at es i e within is = slice_get-get_or es i e within ∙ ap (λ x. Some x) (sym is)

-- a slot after one entry more
same_slot : (es : List Entry) (i n : ℕ) (slot : Option ℕ) (e : Entry) → i < length es → e ≡ get_or es i e → (e.at ≡ n → ⊥) → IsSlot es i n slot → IsSlot es (i + 1) n slot
same_slot es i n None e within is apart slot = count_by_more_no (has_number n) es i e within (ap (has_number n) (sym is) ∙ ne_eqb e.at n apart) ∙ slot
same_slot es i n (Some place) e within is apart slot = (omega (arith, slot.0), slot.1, count_by_more_no (has_number n) es i e within (ap (has_number n) (sym is) ∙ ne_eqb e.at n apart) ∙ slot.2)

new_slot : (es : List Entry) (i n : ℕ) (e : Entry) → i < length es → e ≡ get_or es i e → e.at ≡ n → IsSlot es i n None → IsSlot es (i + 1) n (Some i)
new_slot es i n e within is at slot = (
  omega arith,
  record { entry = e; stands = entry_at es i e within is; number = at },
  count_by_more_yes (has_number n) es i e within (ap (has_number n) (sym is) ∙ eq-eqb e.at n at) ∙ ap (λ k. k + 1) slot,
)

pub next_slots : (es : List Entry) (i : ℕ) (e : Entry) (old new : List (Option ℕ)) → i < length es → e ≡ get_or es i e → IsFilled old e.at i new → AreSlots es i old → AreSlots es (i + 1) new
next_slots es i e old new within is filled slots = record {
  long = filled.long ∙ slots.long;
  each = λ n h. elim (cases_eq e.at (n + 1)) [
    | inl at ↦ let inside : n < length old = omega (arith, h, slots.long) in
        subst (IsSlot es (i + 1) (n + 1)) (sym (filled.here n inside at)) (new_slot es i (n + 1) e within is at (subst (IsSlot es i (n + 1)) (filled.free n inside at) (slots.each n h)))
    | inr apart ↦ subst (IsSlot es (i + 1) (n + 1)) (sym (filled.others n apart)) (same_slot es i (n + 1) (get_or old n None) e within is apart (slots.each n h))
  ];
}

-- a number that stands twice
some_counts : (es : List Entry) (i n : ℕ) (slot : Option ℕ) → is_some slot ≡ true → IsSlot es i n slot → count_by (has_number n) (take i es) ≡ 1
some_counts es i n None some slot = absurd (false≢true some)
some_counts es i n (Some place) some slot = slot.2

count_cut : (p : Entry → Bool) (es : List Entry) (i : ℕ) → count_by p es ≡ count_by p (take i es) + count_by p (drop i es)
count_cut p es zero = omega arith
count_cut p [] (suc i) = refl
count_cut p (e ∷ es) (suc i) =
    let rest : count_by p es ≡ count_by p (take i es) + count_by p (drop i es) = count_cut p es i in
    let whole : count_by p (e ∷ es) ≡ cond (p e) 1 0 + count_by p es = sum_by-cons (λ x. cond (p x) 1 0) e es in
    let front : count_by p (e ∷ take i es) ≡ cond (p e) 1 0 + count_by p (take i es) = sum_by-cons (λ x. cond (p x) 1 0) e (take i es) in
    omega (arith, rest, whole, front)

pub twice : (es : List Entry) (i : ℕ) (e : Entry) (slots : List (Option ℕ)) → i < length es → e ≡ get_or es i e → IsTaken slots e.at → AreSlots es i slots → IsOnce es → ⊥
twice es i e slots within is taken are once =
    let n : ℕ = taken.index in
    let inside : n < length es = omega (arith, taken.within, are.long) in
    let before : count_by (has_number (n + 1)) (take i es) ≡ 1 = some_counts es i (n + 1) (get_or slots n None) taken.some (are.each n inside) in
    let after : count_by (has_number (n + 1)) (take (i + 1) es) ≡ count_by (has_number (n + 1)) (take i es) + 1 = count_by_more_yes (has_number (n + 1)) es i e within (ap (has_number (n + 1)) (sym is) ∙ eq-eqb e.at (n + 1) taken.number) in
    omega (arith, before, after, once n inside, count_cut (has_number (n + 1)) es (i + 1))

-- at the end
counted_all : (es : List Entry) (n : ℕ) (slot : Option ℕ) → IsSlot es (length es) n slot → count_by (has_number n) es ≡ cond (is_some slot) 1 0
counted_all es n None slot = ap (count_by (has_number n)) (sym (take_all (length es) es (omega arith))) ∙ slot
counted_all es n (Some place) slot = ap (count_by (has_number n)) (sym (take_all (length es) es (omega arith))) ∙ slot.2

pub gap : (es : List Entry) (slots : List (Option ℕ)) (n : ℕ) → n < length slots → get_or slots n None ≡ None → AreSlots es (length es) slots → IsOnce es → ⊥
gap es slots n within none are once =
    let inside : n < length es = omega (arith, within, are.long) in
    let counted : count_by (has_number (n + 1)) es ≡ 0 = counted_all es (n + 1) (get_or slots n None) (are.each n inside) ∙ ap (λ (o : Option ℕ). cond (is_some o) 1 0) none in
    omega (arith, counted, once n inside)

no_other : (n : ℕ) (es : List Entry) (place : ℕ) (e : Entry) → slice_get es place ≡ Some e → e.at ≡ n → count_by (has_number n) es ≡ 0 → ⊥
no_other n [] place e stands at none = let no = stands in cc
no_other n (x ∷ es) zero e stands at none =
    let same : x ≡ e = cc in
    let here : has_number n x ≡ true = eq-eqb x.at n (ap (λ (y : Entry). y.at) same ∙ at) in
    let whole : count_by (has_number n) (x ∷ es) ≡ cond (has_number n x) 1 0 + count_by (has_number n) es = sum_by-cons (λ y. cond (has_number n y) 1 0) x es in
    omega (arith, whole, ap {B = ℕ} (λ b. cond b 1 0) here, none)
no_other n (x ∷ es) (suc place) e stands at none =
    let whole : count_by (has_number n) (x ∷ es) ≡ cond (has_number n x) 1 0 + count_by (has_number n) es = sum_by-cons (λ y. cond (has_number n y) 1 0) x es in
    no_other n es place e stands at (omega (arith, whole, none))

-- the one entry with a number is found
found_by : (n : ℕ) (x : Entry) (es : List Entry) (place : ℕ) (e : Entry) (b : Bool) → has_number n x ≡ b → slice_get (x ∷ es) place ≡ Some e → e.at ≡ n → count_by (has_number n) (x ∷ es) ≡ 1
    → ((p : ℕ) → slice_get es p ≡ Some e → count_by (has_number n) es ≡ 1 → find (has_number n) es ≡ Some e) → cond b (Some x) (find (has_number n) es) ≡ Some e
found_by n x es zero e true is stands at one rest = stands
found_by n x es (suc place) e true is stands at one rest =
    let whole : count_by (has_number n) (x ∷ es) ≡ cond (has_number n x) 1 0 + count_by (has_number n) es = sum_by-cons (λ y. cond (has_number n y) 1 0) x es in
    absurd (no_other n es place e stands at (omega (arith, whole, ap {B = ℕ} (λ b. cond b 1 0) is, one)))
found_by n x es zero e false is stands at one rest = let same : x ≡ e = cc in absurd (false≢true (sym is ∙ eq-eqb x.at n (ap (λ (y : Entry). y.at) same ∙ at)))
found_by n x es (suc place) e false is stands at one rest =
    let whole : count_by (has_number n) (x ∷ es) ≡ cond (has_number n x) 1 0 + count_by (has_number n) es = sum_by-cons (λ y. cond (has_number n y) 1 0) x es in
    rest place stands (omega (arith, whole, ap {B = ℕ} (λ b. cond b 1 0) is, one))

found_once : (n : ℕ) (es : List Entry) (place : ℕ) (e : Entry) → slice_get es place ≡ Some e → e.at ≡ n → count_by (has_number n) es ≡ 1 → find (has_number n) es ≡ Some e
found_once n [] place e stands at one = let no = stands in cc
found_once n (x ∷ es) place e stands at one = found_by n x es place e (has_number n x) refl stands at one (λ p s c. found_once n es p e s at c)

length-mapped : (ns : List ℕ) → length (map (λ j. Some j) ns) ≡ length ns
length-mapped [] = refl
length-mapped (n ∷ ns) = ap suc (length-mapped ns)

slot_there : (es : List Entry) (slots : List (Option ℕ)) (order : List ℕ) (n : ℕ) → n < length es → slots ≡ map (λ j. Some j) order → AreSlots es (length es) slots → IsSlot es (length es) (n + 1) (Some (get_or order n 0))
slot_there es slots order n within is are =
    let long : length order ≡ length es = sym (length-mapped order) ∙ ap length (sym is) ∙ are.long in
    subst (IsSlot es (length es) (n + 1)) (ap (λ l. get_or l n None) is ∙ get_or-map (λ j. Some j) order n 0 None (omega (arith, within, long))) (are.each n within)

pub order_once : (es : List Entry) (slots : List (Option ℕ)) (order : List ℕ) → slots ≡ map (λ j. Some j) order → AreSlots es (length es) slots → IsOnce es
order_once es slots order is are n within = counted_all es (n + 1) (Some (get_or order n 0)) (slot_there es slots order n within is are)

pub order_is : (es : List Entry) (slots : List (Option ℕ)) (order : List ℕ) → slots ≡ map (λ j. Some j) order → AreSlots es (length es) slots → IsOrder es order
order_is es slots order is are = record {
  long = sym (length-mapped order) ∙ ap length (sym is) ∙ are.long;
  within = λ n h. (slot_there es slots order n h is are).0;
  each = λ n h. let s = slot_there es slots order n h is are in
      s.1.stands ∙ sym (found_once (n + 1) es (get_or order n 0) s.1.entry s.1.stands s.1.number (order_once es slots order is are n h));
}

pub gap_of : (es : List Entry) (slots : List (Option ℕ)) → HasGap slots → AreSlots es (length es) slots → IsOnce es → ⊥
gap_of es slots hole are = gap es slots hole.index hole.within hole.none are
