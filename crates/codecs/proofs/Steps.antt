-- One unit more: what it completes, and what then waits.
use Rattle.std.proofs.Common.{◌≡◌, ℕ, suc, ◌+◌, ◌<◌, ◌≤◌, List, [], ◌∷◌, ◌++◌, length, take, drop, get_or, Option, Some, None, is_some, cond, Bool, true, false, true≢false, refl, sym, ap, ◌∙◌, subst, inl, inr, arith, append_assoc, append-nil, IfSome, IsTrue}
use Rattle.std.proofs.Math.Seq.{take-suc, drop-cons}
use Rattle.std.proofs.lemmas.List.{take-append-drop}
use Rattle.std.specs.Option.{option_to_list}
use Rattle.std.specs.Char.Utf16.{is_high_surrogate, is_low_surrogate}
use Rattle.std.proofs.lemmas.Bool.{cases_lt}
use Rattle.std.proofs.lemmas.Bool.Decides.{nat_tests}
use Rattle.machine.specs.declared.reads.Encoding.{Encoding}
use Rattle.machine.specs.Encodings.{encode}
use Rattle.codecs.specs.Partway.{Partway, waiting, completed, behind, IsFront, unit_bytes, unit_waits}
use Rattle.codecs.proofs.Fronts.{waiting-snoc, completed-all, completed-but, completed_good, parts_of, fits_next, front-append}
use Rattle.codecs.proofs.Spelled.{encode-append}

-- what a unit completes, by whether it is a high surrogate
high_alone : (t : List ℕ) (u : ℕ) → is_some (waiting t) ≡ is_low_surrogate u → is_high_surrogate u ≡ true → waiting t ≡ None
high_alone t u fits high = none_by (waiting t) (fits ∙ no_low u high)
  where
    no_low : (u : ℕ) → is_high_surrogate u ≡ true → is_low_surrogate u ≡ false
    no_low u high = grind (arith, nat_tests)

    none_by : (o : Option ℕ) → is_some o ≡ false → o ≡ None
    none_by None e = refl
    none_by (Some x) e = absurd (true≢false e)

bytes_by : (e : Encoding) (t : List ℕ) (u : ℕ) (us : List ℕ) (b : Bool) → IsFront (t ++ u ∷ us) → is_high_surrogate u ≡ b
    → encode e (completed (t ++ u ∷ [])) ≡ encode e (completed t) ++ cond b [] (encode e (behind (waiting t) (u ∷ [])))
bytes_by e t u us true h high =
    let alone = high_alone t u (fits_next t u us h) high in
    let one : waiting (t ++ u ∷ []) ≡ Some u = waiting-snoc t u ∙ ap (λ (b : Bool). cond b (Some u) None) high in
    ap (encode e) (completed-but t u one ∙ sym (completed-all t alone)) ∙ sym (append-nil (encode e (completed t)))
bytes_by e t u us false h low =
    let none : waiting (t ++ u ∷ []) ≡ None = waiting-snoc t u ∙ ap (λ (b : Bool). cond b (Some u) None) low in
    let parts : t ++ u ∷ [] ≡ completed t ++ (option_to_list (waiting t) ++ u ∷ []) = ap (λ (xs : List ℕ). xs ++ u ∷ []) (sym (parts_of t)) ∙ append_assoc (completed t) (option_to_list (waiting t)) (u ∷ []) in
    ap (encode e) (completed-all (t ++ u ∷ []) none ∙ parts) ∙ encode-append e (completed t) (behind (waiting t) (u ∷ [])) (completed_good t (front-append t (u ∷ us) h))

-- the bytes of a text with one unit more
pub bytes_next : (p : Partway) (t : List ℕ) (u : ℕ) (us : List ℕ) → IsFront (t ++ u ∷ us) → p.waits ≡ waiting t
    → encode p.encoding (completed (t ++ u ∷ [])) ≡ encode p.encoding (completed t) ++ unit_bytes p u
bytes_next p t u us h e = bytes_by p.encoding t u us (is_high_surrogate u) h refl
    ∙ ap (λ (o : Option ℕ). encode p.encoding (completed t) ++ cond (is_high_surrogate u) [] (encode p.encoding (behind o (u ∷ [])))) (sym e)

-- what waits, with no unit behind it
pub behind_nothing : (o : Option ℕ) → IfSome o (λ u. IsTrue (is_high_surrogate u)) → (waiting (behind o []) ≡ o) × (completed (behind o []) ≡ [])
behind_nothing None h = (refl, completed-all [] refl)
behind_nothing (Some u) h = let w : waiting (u ∷ []) ≡ Some u = waiting-snoc [] u ∙ ap (λ (b : Bool). cond b (Some u) None) h in (w, completed-but [] u w)

-- a text up to its i-th unit, with that unit, and with all units behind it
pub with_next : (o : Option ℕ) (units : List ℕ) (i : ℕ) → i < length units → behind o (take (i + 1) units) ≡ behind o (take i units) ++ get_or units i 0 ∷ []
with_next o units i within = ap (λ (xs : List ℕ). option_to_list o ++ xs) (ap (λ (k : ℕ). take k units) {x = i + 1} {y = suc i} (omega arith) ∙ take-suc units i 0 within)
    ∙ sym (append_assoc (option_to_list o) (take i units) (get_or units i 0 ∷ []))

pub with_rest : (o : Option ℕ) (units : List ℕ) (i : ℕ) → i < length units → behind o units ≡ behind o (take i units) ++ get_or units i 0 ∷ drop (suc i) units
with_rest o units i within = ap (λ (xs : List ℕ). option_to_list o ++ xs) (sym (take-append-drop i units) ∙ ap (λ (xs : List ℕ). take i units ++ xs) (drop-cons units i 0 within))
    ∙ sym (append_assoc (option_to_list o) (take i units) (get_or units i 0 ∷ drop (suc i) units))

-- the facts of a step that took i units, for one unit more
pub record Next (e : Encoding) (o : Option ℕ) (units : List ℕ) (i : ℕ) : Type 0 where
  pub fits : is_some (waiting (behind o (take i units))) ≡ is_low_surrogate (get_or units i 0)
  pub waits : waiting (behind o (take (i + 1) units)) ≡ unit_waits (get_or units i 0)
  pub bytes : encode e (completed (behind o (take (i + 1) units))) ≡ encode e (completed (behind o (take i units))) ++ unit_bytes (record { encoding = e; waits = waiting (behind o (take i units)) }) (get_or units i 0)

pub next_of : (e : Encoding) (o : Option ℕ) (units : List ℕ) (i : ℕ) → i < length units → IsFront (behind o units) → Next e o units i
next_of e o units i within front =
    let t = behind o (take i units) in
    let u = get_or units i 0 in
    let h : IsFront (t ++ u ∷ drop (suc i) units) = subst IsFront (with_rest o units i within) front in
    record {
      fits = fits_next t u (drop (suc i) units) h;
      waits = ap waiting (with_next o units i within) ∙ waiting-snoc t u;
      bytes = ap (λ (xs : List ℕ). encode e (completed xs)) (with_next o units i within) ∙ bytes_next (record { encoding = e; waits = waiting t }) t u (drop (suc i) units) h refl;
    }

-- each unit before left four bytes of room, and so does this one
pub room_next : (P : ℕ → ℕ) (n room : ℕ) → ((k : ℕ) → k < n → P k ≤ room) → P n ≤ room → (k : ℕ) → k < n + 1 → P k ≤ room
room_next P n room before here k lt = elim (cases_lt k n) [ inl less ↦ before k less | inr same ↦ let e : k ≡ n = omega arith in subst (λ (j : ℕ). P j ≤ room) (sym e) here ]
