-- Where units of the text that a layer gives stand: in what it put in, or in the text below.
use Rattle.std.proofs.Common.{◌≡◌, ℕ, zero, suc, ◌+◌, ◌-◌, ◌≤◌, List, [], ◌∷◌, ◌++◌, length, take, drop, slice_range, Some, None, refl, sym, ap, ◌∙◌, arith, append_assoc, length-append}
use Rattle.std.proofs.Math.Seq.{drop-append-add}
use Rattle.std.proofs.lemmas.List.{append-nil, take-append-drop, drop-append-le, take-append-le, length-drop}
use Rattle.patch.specs.Tagged.{Tagged, tagged_from, untagged}
use Rattle.patch.proofs.Pieces.{Piece, old_of, new_of, tag_of}
use Rattle.patch.proofs.PatchPieces.{take-tagged, drop-tagged}
use Rattle.patch.proofs.SplicePieces.{old-append, tag-append, length-tag, length-tagged, length-untagged}
use Rattle.chains.specs.declared.overlay.Overlay.{Overlay}
use Rattle.chains.specs.Overlay.{IsLaid, puts_of, tags_of, first_kept, first_new}
use Rattle.chains.proofs.LaidLemmas.{tags_of_laid}
use Rattle.chains.proofs.CutLemmas.{puts-append}

-- a range within the middle one of three lists
pub slice_inside : {X : Type 0} (a b c : List X) (d n : ℕ) → d + n ≤ length b → slice_range (a ++ (b ++ c)) (length a + d) (length a + d + n) ≡ slice_range b d (d + n)
slice_inside {X} a b c d n within = let e1 : length a + d + n - (length a + d) ≡ n = omega arith in let e2 : n ≡ d + n - d = omega arith in
    ap (λ (m : ℕ). take m (drop (length a + d) (a ++ (b ++ c)))) e1
    ∙ (ap (take n) (drop-append-add a (b ++ c) d ∙ drop-append-le d b c (omega arith))
    ∙ (take-append-le n (drop d b) c (omega (arith, length-drop d b)) ∙ ap (λ (m : ℕ). take m (drop d b)) e2))

pub slice-tagged : (i : ℕ) (us : List ℕ) (d e : ℕ) → slice_range (tagged_from i us) d e ≡ tagged_from (i + d) (slice_range us d e)
slice-tagged i us d e = ap (take (e - d)) (drop-tagged d i us) ∙ take-tagged (e - d) (i + d) (drop d us)

drop-untagged : (n : ℕ) (us : List ℕ) → drop n (untagged us) ≡ untagged (drop n us)
drop-untagged zero us = refl
drop-untagged (suc n) [] = refl
drop-untagged (suc n) (u ∷ us) = drop-untagged n us

take-untagged : (n : ℕ) (us : List ℕ) → take n (untagged us) ≡ untagged (take n us)
take-untagged zero us = refl
take-untagged (suc n) [] = refl
take-untagged (suc n) (u ∷ us) = ap (λ (g : Tagged). (u, None) ∷ g) (take-untagged n us)

pub slice-untagged : (us : List ℕ) (d e : ℕ) → slice_range (untagged us) d e ≡ untagged (slice_range us d e)
slice-untagged us d e = ap (take (e - d)) (drop-untagged d us) ∙ take-untagged (e - d) (drop d us)

-- pieces begin with what is kept before the first
pub tag_first : (i : ℕ) (q : List Piece) (tail : List ℕ) → (more : Tagged) × (tag_of i q tail ≡ tagged_from i (first_kept q tail) ++ (untagged (first_new q) ++ more))
tag_first i [] tail = ([], sym (append-nil (tagged_from i tail)))
tag_first i (p ∷ ps) tail = (tag_of (i + length p.kept + length p.old) ps tail, refl)

pub old_first : (q : List Piece) (tail : List ℕ) → (more : List ℕ) × (old_of q tail ≡ first_kept q tail ++ more)
old_first [] tail = ([], sym (append-nil tail))
old_first (p ∷ ps) tail = (p.old ++ old_of ps tail, refl)

puts_first : (q : List Piece) → (more : List ℕ) × (puts_of q ≡ first_new q ++ more)
puts_first [] = ([], refl)
puts_first (p ∷ ps) = (puts_of ps, refl)

module _ (s : List ℕ) (o : Overlay) (h : IsLaid s o) (k : ℕ) where
  -- the old units and the new ones behind the first k pieces
  pub olds : List ℕ
  olds = old_of (take k h.pieces) []

  pub news : List ℕ
  news = new_of (take k h.pieces) []

  front : Tagged
  front = tag_of 0 (take k h.pieces) []

  tags_split : tags_of s o ≡ tag_of 0 (take k h.pieces) [] ++ (tagged_from (length (old_of (take k h.pieces) [])) (first_kept (drop k h.pieces) h.tail)
      ++ (untagged (first_new (drop k h.pieces)) ++ (tag_first (length (old_of (take k h.pieces) [])) (drop k h.pieces) h.tail).0))
  tags_split = let zero_less : 0 + length (old_of (take k h.pieces) []) ≡ length (old_of (take k h.pieces) []) = omega arith in
      tags_of_laid s o h ∙ (ap (λ (q : List Piece). tag_of 0 q h.tail) (sym (take-append-drop k h.pieces))
      ∙ (tag-append 0 (take k h.pieces) (drop k h.pieces) h.tail
      ∙ ap (λ (g : Tagged). tag_of 0 (take k h.pieces) [] ++ g) (ap (λ (n : ℕ). tag_of n (drop k h.pieces) h.tail) zero_less ∙ (tag_first (length (old_of (take k h.pieces) [])) (drop k h.pieces) h.tail).1)))

  text_split : s ≡ old_of (take k h.pieces) [] ++ (first_kept (drop k h.pieces) h.tail ++ (old_first (drop k h.pieces) h.tail).0)
  text_split = h.text_is ∙ (ap (λ (q : List Piece). old_of q h.tail) (sym (take-append-drop k h.pieces))
      ∙ (old-append (take k h.pieces) (drop k h.pieces) h.tail ∙ ap (λ (xs : List ℕ). old_of (take k h.pieces) [] ++ xs) (old_first (drop k h.pieces) h.tail).1))

  puts_split : o.text ≡ puts_of (take k h.pieces) ++ (first_new (drop k h.pieces) ++ (puts_first (drop k h.pieces)).0)
  puts_split = h.puts_are ∙ (ap puts_of (sym (take-append-drop k h.pieces)) ∙ (puts-append (take k h.pieces) (drop k h.pieces)
      ∙ ap (λ (xs : List ℕ). puts_of (take k h.pieces) ++ xs) (puts_first (drop k h.pieces)).1))

  -- units between what the first k pieces put in and what the next one does stand in the text below
  pub kept_stands : (at n from : ℕ) → length (new_of (take k h.pieces) []) ≤ at → at + n ≤ length (new_of (take k h.pieces) []) + length (first_kept (drop k h.pieces) h.tail)
      → from + length (new_of (take k h.pieces) []) ≡ at + length (old_of (take k h.pieces) [])
      → (from + n ≤ length s) × (slice_range (tags_of s o) at (at + n) ≡ tagged_from from (slice_range s from (from + n)))
  kept_stands at n from behind within from_is = (
    omega (arith, ap length text_split, length-append O (K ++ M), length-append K M, from_at, fits),
    ap (λ (m : ℕ). slice_range (tags_of s o) m (m + n)) at_is ∙ (ap (λ (g : Tagged). slice_range g (length T + d) (length T + d + n)) tags_split
        ∙ (slice_inside T (tagged_from i K) U d n (omega (arith, length-tagged i K, fits))
        ∙ (slice-tagged i K d (d + n)
        ∙ (ap (tagged_from (i + d)) (sym (slice_inside O K M d n fits) ∙ ap (λ (xs : List ℕ). slice_range xs (i + d) (i + d + n)) (sym text_split))
        ∙ ap (λ (m : ℕ). tagged_from m (slice_range s m (m + n))) (sym from_at))))),
  )
    where
      O : List ℕ
      O = old_of (take k h.pieces) []

      K : List ℕ
      K = first_kept (drop k h.pieces) h.tail

      M : List ℕ
      M = (old_first (drop k h.pieces) h.tail).0

      T : Tagged
      T = tag_of 0 (take k h.pieces) []

      i : ℕ
      i = length (old_of (take k h.pieces) [])

      U : Tagged
      U = untagged (first_new (drop k h.pieces)) ++ (tag_first (length (old_of (take k h.pieces) [])) (drop k h.pieces) h.tail).0

      d : ℕ
      d = at - length (new_of (take k h.pieces) [])

      at_is : at ≡ length (tag_of 0 (take k h.pieces) []) + (at - length (new_of (take k h.pieces) []))
      at_is = omega (arith, length-tag 0 (take k h.pieces) [], behind)

      fits : (at - length (new_of (take k h.pieces) [])) + n ≤ length (first_kept (drop k h.pieces) h.tail)
      fits = omega (arith, behind, within)

      from_at : from ≡ length (old_of (take k h.pieces) []) + (at - length (new_of (take k h.pieces) []))
      from_at = omega (arith, behind, from_is)

  -- units that piece k puts in stand in the overlay's text
  pub put_stands : (at n from : ℕ) → length (new_of (take k h.pieces) []) + length (first_kept (drop k h.pieces) h.tail) ≤ at
      → at + n ≤ length (new_of (take k h.pieces) []) + length (first_kept (drop k h.pieces) h.tail) + length (first_new (drop k h.pieces))
      → from + (length (new_of (take k h.pieces) []) + length (first_kept (drop k h.pieces) h.tail)) ≡ at + length (puts_of (take k h.pieces))
      → (from + n ≤ length o.text) × (slice_range (tags_of s o) at (at + n) ≡ untagged (slice_range o.text from (from + n)))
  put_stands at n from behind within from_is = (
    omega (arith, ap length puts_split, length-append P (N ++ M), length-append N M, from_at, fits),
    ap (λ (m : ℕ). slice_range (tags_of s o) m (m + n)) at_is ∙ (ap (λ (g : Tagged). slice_range g (length (T ++ L) + d) (length (T ++ L) + d + n)) (tags_split ∙ sym (append_assoc T L (untagged N ++ U)))
        ∙ (slice_inside (T ++ L) (untagged N) U d n (omega (arith, length-untagged N, fits))
        ∙ (slice-untagged N d (d + n)
        ∙ (ap untagged (sym (slice_inside P N M d n fits) ∙ ap (λ (xs : List ℕ). slice_range xs (length P + d) (length P + d + n)) (sym puts_split))
        ∙ ap (λ (m : ℕ). untagged (slice_range o.text m (m + n))) (sym from_at))))),
  )
    where
      P : List ℕ
      P = puts_of (take k h.pieces)

      N : List ℕ
      N = first_new (drop k h.pieces)

      M : List ℕ
      M = (puts_first (drop k h.pieces)).0

      T : Tagged
      T = tag_of 0 (take k h.pieces) []

      L : Tagged
      L = tagged_from (length (old_of (take k h.pieces) [])) (first_kept (drop k h.pieces) h.tail)

      U : Tagged
      U = (tag_first (length (old_of (take k h.pieces) [])) (drop k h.pieces) h.tail).0

      d : ℕ
      d = at - (length (new_of (take k h.pieces) []) + length (first_kept (drop k h.pieces) h.tail))

      at_is : at ≡ length (tag_of 0 (take k h.pieces) [] ++ tagged_from (length (old_of (take k h.pieces) [])) (first_kept (drop k h.pieces) h.tail)) + (at - (length (new_of (take k h.pieces) []) + length (first_kept (drop k h.pieces) h.tail)))
      at_is = omega (
        arith,
        length-append (tag_of 0 (take k h.pieces) []) (tagged_from (length (old_of (take k h.pieces) [])) (first_kept (drop k h.pieces) h.tail)),
        length-tagged (length (old_of (take k h.pieces) [])) (first_kept (drop k h.pieces) h.tail),
        length-tag 0 (take k h.pieces) [],
        behind,
      )

      fits : (at - (length (new_of (take k h.pieces) []) + length (first_kept (drop k h.pieces) h.tail))) + n ≤ length (first_new (drop k h.pieces))
      fits = omega (arith, behind, within)

      from_at : from ≡ length (puts_of (take k h.pieces)) + (at - (length (new_of (take k h.pieces) []) + length (first_kept (drop k h.pieces) h.tail)))
      from_at = omega (arith, behind, from_is)
