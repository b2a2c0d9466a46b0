-- Texts that come in parts: the fronts of well-formed texts, and what waits at their ends.
use Rattle.std.proofs.Common.{◌≡◌, ◌⊎◌, ℕ, zero, suc, ◌+◌, ◌-◌, ◌%◌, ◌<◌, List, [], ◌∷◌, ◌++◌, length, take, drop, get_or, Option, Some, None, is_some, cond, Bool, true, false, not, ◌&&◌, ◌||◌, refl, sym, ap, ◌∙◌, subst, inl, inr, arith, length-append, append_assoc, append-nil, take_all}
use Rattle.std.proofs.Math.Seq.{get_or-append_seam, take-append_seam, drop-append_seam}
use Rattle.std.proofs.lemmas.List.{append_cancel_right, get_or_past}
use Rattle.std.specs.Option.{option_to_list}
use Rattle.std.specs.Char.Utf16.{is_high_surrogate, is_low_surrogate}
use Rattle.std.specs.Str.{all_scalars}
use Rattle.std.proofs.lemmas.Bool.{cases_Bool, cases_lt}
use Rattle.std.proofs.lemmas.Bool.Decides.{nat_tests}
use Rattle.points.specs.Text.{utf16, IsWellFormed, is_unpaired}
use Rattle.points.proofs.WellFormedLemmas.{encode_one, encode_two, scalar_fits, scalar_parts, well_formed_cut, well_formed-nil, IsCut}
use Rattle.points.proofs.MendingLemmas.{mended-well_formed, mended_units}
use Rattle.codecs.specs.Partway.{waiting, completed, IsFront, unit_waits}

-- the units of a well-formed text are units
small_front : (u : ℕ) (us : List ℕ) → u < 65536 → ((k : ℕ) → get_or us k 0 < 65536) → (k : ℕ) → get_or (u ∷ us) k 0 < 65536
small_front u us small rest zero = small
small_front u us small rest (suc k) = rest k

small_units : (cs : List ℕ) → all_scalars cs ≡ true → (k : ℕ) → get_or (utf16 cs) k 0 < 65536
small_units [] scalars k = omega arith
small_units (c ∷ cs) scalars k = let parts = scalar_parts c cs scalars in elim (cases_lt c 0x1_0000) [
  | inl small ↦ subst (λ (xs : List ℕ). get_or (xs ++ utf16 cs) k 0 < 65536) (sym (encode_one c small)) (small_front c (utf16 cs) small (small_units cs parts.1) k)
  | inr big ↦ let fits = scalar_fits c parts.0 in subst (λ (xs : List ℕ). get_or (xs ++ utf16 cs) k 0 < 65536) (sym (encode_two c big))
      (small_front _ ((0xDC00 + (c - 0x1_0000) % 0x400) ∷ utf16 cs) (omega arith) (small_front _ (utf16 cs) (omega arith) (small_units cs parts.1)) k)
]

pub units_are_small : (t : List ℕ) → IsWellFormed t → (k : ℕ) → get_or t k 0 < 65536
units_are_small t h k = subst (λ (xs : List ℕ). get_or xs k 0 < 65536) h.2 (small_units h.0 h.1 k)

-- no surrogate of a well-formed text lacks its partner
replaced_unit : (b : Bool) (u before after : ℕ) → b ≡ ((is_high_surrogate u && not (is_low_surrogate after)) || (is_low_surrogate u && not (is_high_surrogate before))) → u ≡ cond b 0xFFFD u → b ≡ false
replaced_unit true u before after b_is kept = absurd (grind (arith, nat_tests))
replaced_unit false u before after b_is kept = refl

pub none_unpaired : (t : List ℕ) (i : ℕ) → IsWellFormed t → i < length t → is_unpaired t i ≡ false
none_unpaired t i h within = replaced_unit (is_unpaired t i) (get_or t i 0) (get_or t (i - 1) 0) (get_or t (i + 1) 0) refl
    (ap (λ (xs : List ℕ). get_or xs i 0) (sym (mended-well_formed t h)) ∙ mended_units t (units_are_small t h) i within)

-- what stands at the end of a text, and what waits there

last_is : (t : List ℕ) (u : ℕ) → get_or (t ++ u ∷ []) (length (t ++ u ∷ []) - 1) 0 ≡ u
last_is t u = let e : length (t ++ u ∷ []) - 1 ≡ length t = omega (arith, length-append t (u ∷ [])) in
    ap (λ (k : ℕ). get_or (t ++ u ∷ []) k 0) e ∙ get_or-append_seam t u [] 0

-- one more unit waits where it is a high surrogate
pub waiting-snoc : (t : List ℕ) (u : ℕ) → waiting (t ++ u ∷ []) ≡ unit_waits u
waiting-snoc t u = ap (λ (x : ℕ). cond (is_high_surrogate x) (Some x) None) (last_is t u)

completed-with : (t : List ℕ) (o : Option ℕ) → waiting t ≡ o → completed t ≡ take (length t - length (option_to_list o)) t
completed-with t o e = ap (λ (x : Option ℕ). take (length t - length (option_to_list x)) t) e

-- where nothing waits the whole text is complete
pub completed-all : (t : List ℕ) → waiting t ≡ None → completed t ≡ t
completed-all t e = completed-with t None e ∙ take_all (length t - 0) t (omega arith)

pub completed-but : (t : List ℕ) (u : ℕ) → waiting (t ++ u ∷ []) ≡ Some u → completed (t ++ u ∷ []) ≡ t
completed-but t u e = let k : length (t ++ u ∷ []) - 1 ≡ length t = omega (arith, length-append t (u ∷ [])) in
    completed-with (t ++ u ∷ []) (Some u) e ∙ (ap (λ (n : ℕ). take n (t ++ u ∷ [])) k ∙ take-append_seam t (u ∷ []))

waits_by : (b : Bool) (u : ℕ) → is_high_surrogate u ≡ b → unit_waits u ≡ cond b (Some u) None
waits_by b u e = ap (λ (x : Bool). cond x (Some u) None) e

-- a text whose end is split off
data Ended (t : List ℕ) : Type 0 where
  nothing : t ≡ [] → Ended t
  ends : (front : List ℕ) (u : ℕ) → t ≡ front ++ u ∷ [] → Ended t

ended-cons : (u : ℕ) (us : List ℕ) → Ended us → Ended (u ∷ us)
ended-cons u us (nothing e) = ends [] u (ap (λ (xs : List ℕ). u ∷ xs) e)
ended-cons u us (ends front v e) = ends (u ∷ front) v (ap (λ (xs : List ℕ). u ∷ xs) e)

ended : (t : List ℕ) → Ended t
ended [] = nothing refl
ended (u ∷ us) = ended-cons u us (ended us)

-- a high surrogate stands before a unit of a well-formed text exactly where that is a low one
paired_by : (a b : Bool) (x y : Bool) → ((a && not b) || x) ≡ false → (y || (b && not a)) ≡ false → a ≡ b
paired_by true true x y e f = refl
paired_by true false x y e f = absurd (grind (arith, nat_tests, e))
paired_by false false x y e f = refl
paired_by false true true y e f = absurd (grind (arith, nat_tests, e))
paired_by false true false true e f = absurd (grind (arith, nat_tests, f))
paired_by false true false false e f = absurd (grind (arith, nat_tests, f))

first_not_low : (u next : ℕ) → ((is_high_surrogate u && not (is_low_surrogate next)) || (is_low_surrogate u && not (is_high_surrogate u))) ≡ false → false ≡ is_low_surrogate u
first_not_low u next e = grind (arith, nat_tests)

some_by : (b : Bool) (u : ℕ) → is_some {T = ℕ} (cond b (Some u) None) ≡ b
some_by true u = refl
some_by false u = refl

seam_unit : (front : List ℕ) (v u : ℕ) (x : List ℕ) → get_or ((front ++ v ∷ []) ++ u ∷ x) (length front + 1) 0 ≡ u
seam_unit front v u x = let e : length front + 1 ≡ length (front ++ v ∷ []) = omega (arith, length-append front (v ∷ [])) in
    ap (λ (k : ℕ). get_or ((front ++ v ∷ []) ++ u ∷ x) k 0) e ∙ get_or-append_seam (front ++ v ∷ []) u x 0

seam_last : (front : List ℕ) (v u : ℕ) (x : List ℕ) → get_or ((front ++ v ∷ []) ++ u ∷ x) (length front) 0 ≡ v
seam_last front v u x = ap (λ (xs : List ℕ). get_or xs (length front) 0) (append_assoc front (v ∷ []) (u ∷ x)) ∙ get_or-append_seam front v (u ∷ x) 0

fits_ended : (t : List ℕ) (u : ℕ) (x : List ℕ) → IsWellFormed (t ++ u ∷ x) → Ended t → is_some (waiting t) ≡ is_low_surrogate u
fits_ended t u x h (nothing e) =
    let whole : IsWellFormed (u ∷ x) = subst (λ (xs : List ℕ). IsWellFormed (xs ++ u ∷ x)) e h in
    ap (λ (xs : List ℕ). is_some (waiting xs)) e ∙ first_not_low u (get_or x 0 0) (none_unpaired (u ∷ x) 0 whole (omega arith))
fits_ended t u x h (ends front v e) =
    let w = (front ++ v ∷ []) ++ u ∷ x in
    let whole : IsWellFormed w = subst (λ (xs : List ℕ). IsWellFormed (xs ++ u ∷ x)) e h in
    let n : length w ≡ length front + 1 + 1 + length x = omega (arith, length-append (front ++ v ∷ []) (u ∷ x), length-append front (v ∷ [])) in
    let at_v = none_unpaired w (length front) whole (omega (arith, n)) in
    let at_u = none_unpaired w (length front + 1) whole (omega (arith, n)) in
    let back : length front + 1 - 1 ≡ length front = omega arith in
    let first : ((is_high_surrogate v && not (is_low_surrogate u)) || (is_low_surrogate v && not (is_high_surrogate (get_or w (length front - 1) 0)))) ≡ false =
    subst (λ (k : ℕ). ((is_high_surrogate k && not (is_low_surrogate u)) || (is_low_surrogate k && not (is_high_surrogate (get_or w (length front - 1) 0)))) ≡ false) (seam_last front v u x)
    (subst (λ (k : ℕ). ((is_high_surrogate (get_or w (length front) 0) && not (is_low_surrogate k)) || (is_low_surrogate (get_or w (length front) 0) && not (is_high_surrogate (get_or w (length front - 1) 0)))) ≡ false) (seam_unit front v u x) at_v) in
    let next = get_or w (length front + 1 + 1) 0 in
    let second : ((is_high_surrogate u && not (is_low_surrogate next)) || (is_low_surrogate u && not (is_high_surrogate v))) ≡ false =
    subst (λ (k : ℕ). ((is_high_surrogate k && not (is_low_surrogate next)) || (is_low_surrogate k && not (is_high_surrogate v))) ≡ false) (seam_unit front v u x)
    (subst (λ (k : ℕ). ((is_high_surrogate (get_or w (length front + 1) 0) && not (is_low_surrogate next)) || (is_low_surrogate (get_or w (length front + 1) 0) && not (is_high_surrogate k))) ≡ false) (ap (λ (k : ℕ). get_or w k 0) back ∙ seam_last front v u x) at_u) in
    ap (λ (xs : List ℕ). is_some (waiting xs)) e ∙ (ap is_some (waiting-snoc front v) ∙ (some_by (is_high_surrogate v) v ∙ paired_by (is_high_surrogate v) (is_low_surrogate u) _ _ first second))

-- the next unit fits
pub fits_next : (t : List ℕ) (u : ℕ) (us : List ℕ) → IsFront (t ++ u ∷ us) → is_some (waiting t) ≡ is_low_surrogate u
fits_next t u us h = fits_ended t u (us ++ h.0) (subst IsWellFormed (append_assoc t (u ∷ us) h.0) h.1) (ended t)

-- a front of a front
pub front-append : (a b : List ℕ) → IsFront (a ++ b) → IsFront a
front-append a b h = (b ++ h.0, subst IsWellFormed (append_assoc a b h.0) h.1)

-- where nothing waits a front is well-formed, and a well-formed text is a front at whose end nothing waits
high_not_low : (u : ℕ) → is_high_surrogate u ≡ true → is_low_surrogate u ≡ false
high_not_low u h = grind (arith, nat_tests)

not_split : (a b : Bool) → ((a ≡ false) ⊎ (b ≡ false)) → (a && b) ≡ false
not_split true b (inl e) = absurd (grind (arith, e))
not_split true b (inr e) = e
not_split false b e = refl

-- a text is cut behind what is complete
cut_at : (t rest : List ℕ) (v : ℕ) (front : List ℕ) → (b : Bool) → is_high_surrogate v ≡ b → t ≡ front ++ v ∷ [] → IsWellFormed (t ++ rest) → IsCut (t ++ rest) (length (completed t))
cut_at t rest v front true high e h =
    let is : completed t ≡ front = ap completed e ∙ completed-but front v (waiting-snoc front v ∙ waits_by true v high) in
    let w : t ++ rest ≡ front ++ v ∷ rest = ap (λ (xs : List ℕ). xs ++ rest) e ∙ append_assoc front (v ∷ []) rest in
    let n : length (front ++ v ∷ rest) ≡ length front + 1 + length rest = omega (arith, length-append front (v ∷ rest)) in
    subst (λ (k : ℕ). IsCut (t ++ rest) k) (sym (ap length is)) (subst (λ (xs : List ℕ). IsCut xs (length front)) (sym w)
    (well_formed_cut (front ++ v ∷ rest) (length front) (subst IsWellFormed w h) (omega (arith, n))
    (not_split _ _ (inr (ap is_low_surrogate (get_or-append_seam front v rest 0) ∙ high_not_low v high)))))
cut_at t rest v front false low e h =
    let is : completed t ≡ front ++ v ∷ [] = ap completed e ∙ completed-all (front ++ v ∷ []) (waiting-snoc front v ∙ waits_by false v low) in
    let at : length (completed t) ≡ length front + 1 = ap length is ∙ (length-append front (v ∷ []) ∙ refl) in
    let w : t ++ rest ≡ front ++ v ∷ rest = ap (λ (xs : List ℕ). xs ++ rest) e ∙ append_assoc front (v ∷ []) rest in
    let n : length (front ++ v ∷ rest) ≡ length front + 1 + length rest = omega (arith, length-append front (v ∷ rest)) in
    let back : length front + 1 - 1 ≡ length front = omega arith in
    subst (λ (k : ℕ). IsCut (t ++ rest) k) (sym at) (subst (λ (xs : List ℕ). IsCut xs (length front + 1)) (sym w)
    (well_formed_cut (front ++ v ∷ rest) (length front + 1) (subst IsWellFormed w h) (omega (arith, n))
    (not_split _ _ (inl (ap (λ (k : ℕ). is_high_surrogate (get_or (front ++ v ∷ rest) k 0)) back ∙ (ap is_high_surrogate (get_or-append_seam front v rest 0) ∙ low))))))

cut_ended : (t rest : List ℕ) → IsWellFormed (t ++ rest) → Ended t → IsCut (t ++ rest) (length (completed t))
cut_ended t rest h (nothing e) =
    let w : t ++ rest ≡ rest = ap (λ (xs : List ℕ). xs ++ rest) e in
    subst (λ (k : ℕ). IsCut (t ++ rest) k) (sym (ap (λ (xs : List ℕ). length (completed xs)) e)) (record { front = well_formed-nil; back = h })
cut_ended t rest h (ends front v e) = cut_at t rest v front (is_high_surrogate v) refl e h

-- what is complete of a text, and what waits
data Waiting (t : List ℕ) : Type 0 where
  none : waiting t ≡ None → completed t ≡ t → Waiting t
  one : (u : ℕ) → waiting t ≡ Some u → t ≡ completed t ++ u ∷ [] → Waiting t

waiting_by : (t front : List ℕ) (v : ℕ) (b : Bool) → is_high_surrogate v ≡ b → t ≡ front ++ v ∷ [] → Waiting t
waiting_by t front v true high e =
    let w : waiting (front ++ v ∷ []) ≡ Some v = waiting-snoc front v ∙ waits_by true v high in
    one v (ap waiting e ∙ w) (e ∙ ap (λ (xs : List ℕ). xs ++ v ∷ []) (sym (ap completed e ∙ completed-but front v w)))
waiting_by t front v false low e =
    let w : waiting (front ++ v ∷ []) ≡ None = waiting-snoc front v ∙ waits_by false v low in
    none (ap waiting e ∙ w) (completed-all t (ap waiting e ∙ w))

waiting_ended : (t : List ℕ) → Ended t → Waiting t
waiting_ended t (nothing e) = let w : waiting t ≡ None = ap waiting e in none w (completed-all t w)
waiting_ended t (ends front v e) = waiting_by t front v (is_high_surrogate v) refl e

parts_by : (t : List ℕ) → Waiting t → completed t ++ option_to_list (waiting t) ≡ t
parts_by t (none w c) = ap (λ (o : Option ℕ). completed t ++ option_to_list o) w ∙ (append-nil (completed t) ∙ c)
parts_by t (one u w c) = ap (λ (o : Option ℕ). completed t ++ option_to_list o) w ∙ sym c

-- a text is what is complete of it, and what waits
pub parts_of : (t : List ℕ) → completed t ++ option_to_list (waiting t) ≡ t
parts_of t = parts_by t (waiting_ended t (ended t))

-- what is complete of a front is well-formed, and so is what comes behind it
pub record Split (t rest : List ℕ) : Type 0 where
  pub front : IsWellFormed (completed t)
  pub back : IsWellFormed (option_to_list (waiting t) ++ rest)

pub split_of : (t rest : List ℕ) → IsWellFormed (t ++ rest) → Split t rest
split_of t rest h =
    let cut = cut_ended t rest h (ended t) in
    let w : t ++ rest ≡ completed t ++ (option_to_list (waiting t) ++ rest) = ap (λ (xs : List ℕ). xs ++ rest) (sym (parts_of t)) ∙ append_assoc (completed t) (option_to_list (waiting t)) rest in
    record {
      front = subst IsWellFormed (ap (λ (xs : List ℕ). take (length (completed t)) xs) w ∙ take-append_seam (completed t) (option_to_list (waiting t) ++ rest)) cut.front;
      back = subst IsWellFormed (ap (λ (xs : List ℕ). drop (length (completed t)) xs) w ∙ drop-append_seam (completed t) (option_to_list (waiting t) ++ rest)) cut.back;
    }

pub completed_good : (t : List ℕ) → IsFront t → IsWellFormed (completed t)
completed_good t h = (split_of t h.0 h.1).front

-- nothing waits at the end of a well-formed text
last_high : (front : List ℕ) (v : ℕ) → IsWellFormed (front ++ v ∷ []) → is_high_surrogate v ≡ true → ⊥
last_high front v h high =
    let w = front ++ v ∷ [] in
    let n : length w ≡ length front + 1 = omega (arith, length-append front (v ∷ [])) in
    let at = none_unpaired w (length front) h (omega (arith, n)) in
    let past : get_or w (length front + 1) 0 ≡ 0 = get_or_past w (length front + 1) 0 (omega (arith, n)) in
    let lone : ((is_high_surrogate v && not (is_low_surrogate 0)) || (is_low_surrogate v && not (is_high_surrogate (get_or w (length front - 1) 0)))) ≡ false =
    subst (λ (k : ℕ). ((is_high_surrogate k && not (is_low_surrogate 0)) || (is_low_surrogate k && not (is_high_surrogate (get_or w (length front - 1) 0)))) ≡ false) (get_or-append_seam front v [] 0)
    (subst (λ (k : ℕ). ((is_high_surrogate (get_or w (length front) 0) && not (is_low_surrogate k)) || (is_low_surrogate (get_or w (length front) 0) && not (is_high_surrogate (get_or w (length front - 1) 0)))) ≡ false) past at) in
    grind (arith, nat_tests)

ended_whole : (t : List ℕ) → IsWellFormed t → Ended t → waiting t ≡ None
ended_whole t h (nothing e) = ap waiting e
ended_whole t h (ends front v e) = elim (cases_Bool (is_high_surrogate v)) [
  | inl high ↦ absurd (last_high front v (subst IsWellFormed e h) high)
  | inr low ↦ ap waiting e ∙ (waiting-snoc front v ∙ waits_by false v low)
]

pub waits_none : (t : List ℕ) → IsWellFormed t → waiting t ≡ None
waits_none t h = ended_whole t h (ended t)

-- what waits behind a well-formed text, and what is complete of both
behind_ended : (c x : List ℕ) → IsWellFormed c → Ended x → waiting (c ++ x) ≡ waiting x
behind_ended c x h (nothing e) = ap (λ (xs : List ℕ). waiting (c ++ xs)) e ∙ (ap waiting (append-nil c) ∙ (waits_none c h ∙ sym (ap waiting e)))
behind_ended c x h (ends front v e) = ap (λ (xs : List ℕ). waiting (c ++ xs)) e ∙ (ap waiting (sym (append_assoc c front (v ∷ []))) ∙ (waiting-snoc (c ++ front) v ∙ sym (ap waiting e ∙ waiting-snoc front v)))

pub waiting-append : (c x : List ℕ) → IsWellFormed c → waiting (c ++ x) ≡ waiting x
waiting-append c x h = behind_ended c x h (ended x)

pub completed-append : (c x : List ℕ) → IsWellFormed c → completed (c ++ x) ≡ c ++ completed x
completed-append c x h = append_cancel_right (completed (c ++ x)) (c ++ completed x) (option_to_list (waiting x))
    (ap (λ (o : Option ℕ). completed (c ++ x) ++ option_to_list o) (sym (waiting-append c x h)) ∙ (parts_of (c ++ x)
    ∙ (ap (λ (xs : List ℕ). c ++ xs) (sym (parts_of x)) ∙ sym (append_assoc c (completed x) (option_to_list (waiting x))))))
