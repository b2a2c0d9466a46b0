-- The first hands of a buffer, made one by one from their seats.
use Rattle.std.proofs.Common.{◌≡◌, ℕ, zero, suc, ◌+◌, ◌<◌, List, [], ◌∷◌, ◌++◌, length, refl, sym, subst, arith, length-append}
use Rattle.std.specs.Prelude.{slice_index_or}
use Rattle.atomic_table.specs.declared.badge.Badge.{Badge}
use Rattle.turn_table.specs.Openings.{AreDealt, first_hand}
use Rattle.shared_buffer.specs.declared.shared.Hand.{Hand}
use Rattle.shared_buffer.specs.Tokens.{Opening, Known, IsSeatOf, AreHands}

-- it holds of each member at its place, and of one more
each_more : {X : Type 0} (P : ℕ → X → Type 0) (xs : List X) (x : X) → ((k : ℕ) (d : X) → k < length xs → P k (slice_index_or xs k d)) → P (length xs) x
    → (k : ℕ) (d : X) → k < length (xs ++ x ∷ []) → P k (slice_index_or (xs ++ x ∷ []) k d)
each_more P [] x all one zero d h = one
each_more P [] x all one (suc k) d h = absurd (omega arith)
each_more P (y ∷ xs) x all one zero d h = all 0 d (omega arith)
each_more P (y ∷ xs) x all one (suc k) d h = each_more (λ i. P (suc i)) xs x (λ i e low. all (suc i) e (omega arith)) one k d (omega arith)

module _ (o : Opening) where
  -- a hand of this buffer with this number
  abbrev pub IsNumbered : ℕ → Hand → Type 0
  IsNumbered k h = (h.number ≡ k) × IsSeatOf o k h.seat

  -- some seats are hands now, and these are left
  pub record Numbering (hands : List Hand) (left : List (Badge Known)) : Type 0 where
    pub made : (k : ℕ) (h : Hand) → k < length hands → IsNumbered k (slice_index_or hands k h)
    pub rest : (k : ℕ) (d : Badge Known) → k < length left → IsSeatOf o (length hands + k) (slice_index_or left k d)

  dealt_seat : (n : ℕ) (seats : List (Badge Known)) (k : ℕ) (d : Badge Known) → AreDealt o.table first_hand n seats → k < length seats → IsSeatOf o (0 + k) (slice_index_or seats k d)
  dealt_seat n seats k d dealt below =
      let low : k < n = subst (λ m. k < m) dealt.len below in
      let e : k ≡ 0 + k = omega arith in
      subst (λ i. IsSeatOf o i (slice_index_or seats k d)) e (dealt.tables k d low, (first_hand k, dealt.views k d low, record { role = refl; rests = refl }))

  pub begun : (n : ℕ) (hands : List Hand) (seats left : List (Badge Known)) → hands ≡ [] → left ≡ seats → AreDealt o.table first_hand n seats → Numbering hands left
  begun n hands seats left none same dealt = subst (λ hs. Numbering hs left) (sym none) (subst (Numbering []) (sym same) (record { made = λ k h low. absurd (omega arith); rest = λ k d low. dealt_seat n seats k d dealt low }))

  pub one_more : (hands new : List Hand) (left rest : List (Badge Known)) (seat : Badge Known) (number : ℕ) → Numbering hands left → left ≡ seat ∷ rest → number ≡ length hands
      → new ≡ hands ++ record { seat = seat; number = number } ∷ [] → Numbering new rest
  one_more hands new left rest seat number so_far is number_is new_is =
      let here : (k : ℕ) (d : Badge Known) → k < length (seat ∷ rest) → IsSeatOf o (length hands + k) (slice_index_or (seat ∷ rest) k d) = subst (λ l. (k : ℕ) (d : Badge Known) → k < length l → IsSeatOf o (length hands + k) (slice_index_or l k d)) is so_far.rest in
      let long = length-append hands (record { seat = seat; number = number } ∷ []) in
      let at : length hands + 0 ≡ length hands = omega arith in
      subst (λ hs. Numbering hs rest) (sym new_is) (record {
        made = each_more IsNumbered hands (record { seat = seat; number = number }) so_far.made (number_is, subst (λ i. IsSeatOf o i seat) at (here 0 seat (omega arith)));
        rest = λ k d low. let next : length hands + suc k ≡ length (hands ++ record { seat = seat; number = number } ∷ []) + k = omega (arith, long) in subst (λ i. IsSeatOf o i (slice_index_or rest k d)) next (here (suc k) d (omega arith));
      })

  pub all_made : (hands : List Hand) (left : List (Badge Known)) → Numbering hands left → AreHands o hands
  all_made hands left all = record { numbers = λ k h low. let m = all.made k h low in m.0; seats = λ k h low. let m = all.made k h low in m.1 }
