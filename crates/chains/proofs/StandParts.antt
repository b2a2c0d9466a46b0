-- The answers of where units stand, from the cut before them and the end of what is kept behind it.
use Rattle.std.proofs.Common.{◌≡◌, ℕ, zero, suc, min, ◌+◌, ◌-◌, ◌<◌, ◌≤◌, List, [], ◌∷◌, ◌++◌, length, take, drop, slice_get, slice_index_or, Option, Some, None, refl, sym, ap, ◌∙◌, subst, arith, append_assoc, length-append}
use Rattle.std.proofs.Math.Nat.{min-le_left, min-le_right, le-min}
use Rattle.std.proofs.lemmas.Option.{slice_get-get_or}
use Rattle.std.proofs.lemmas.List.{take-append-drop}
use Rattle.points.specs.declared.limits.TheConstants.{MAX_UNITS}
use Rattle.patch.proofs.Pieces.{Piece, old_of, new_of}
use Rattle.chains.specs.declared.spot.Spot.{Spot}
use Rattle.chains.specs.declared.overlay.Cut.{Cut}
use Rattle.chains.specs.declared.overlay.Overlay.{Overlay}
use Rattle.chains.specs.declared.stand.Stand.TheVariants.{Put, Kept}
use Rattle.chains.specs.Overlay.{IsLaid, end_of, cuts_of, puts_of, first_kept, first_new}
use Rattle.chains.specs.Stand.{StandsIn}
use Rattle.chains.proofs.CutLemmas.{EndsBehind, StartsBehind, cut_ends, cut_starts, no_more}
use Rattle.chains.proofs.StandLemmas.{kept_stands, put_stands}

-- what stands where no cut is
abbrev pub blank_spot : Spot
blank_spot = record { offset = 0; point = record { row = 0; column = 0 } }

abbrev pub blank : Cut
blank = record { old = blank_spot; old_end = blank_spot; new = blank_spot; new_end = blank_spot; text = 0 }

-- the cut at a place
pub got_at : (xs items : List Cut) (i : ℕ) → xs ≡ items → i < length xs → slice_get items i ≡ Some (slice_index_or xs i blank)
got_at xs items i same within = ap (λ (ys : List Cut). slice_get ys i) (sym same) ∙ slice_get-get_or xs i blank within

-- the lesser of two ends behind a place
pub lesser_end : (at a b m : ℕ) → m ≡ min a b → at < a → at < b → (at < m) × (m ≤ a) × (m ≤ b)
lesser_end at a b m m_is first second = let past : at + 1 ≤ min a b = le-min (omega (arith, first)) (omega (arith, second)) in
    (omega (arith, m_is, past), omega (arith, m_is, min-le_left a b), omega (arith, m_is, min-le_right a b))

pub new-append : (f : List Piece) (q : List Piece) (tail : List ℕ) → new_of (f ++ q) tail ≡ new_of f [] ++ new_of q tail
new-append [] q tail = refl
new-append (p ∷ f) q tail = ap (λ (xs : List ℕ). p.kept ++ (p.new ++ xs)) (new-append f q tail)
    ∙ sym (append_assoc p.kept (p.new ++ new_of f []) (new_of q tail) ∙ ap (λ (xs : List ℕ). p.kept ++ xs) (append_assoc p.new (new_of f []) (new_of q tail)))

-- what is put in is part of the new text
pub puts_short : (ps : List Piece) (tail : List ℕ) → length (puts_of ps) ≤ length (new_of ps tail)
puts_short [] tail = omega arith
puts_short (p ∷ ps) tail = omega (
  arith,
  puts_short ps tail,
  length-append p.new (puts_of ps),
  length-append p.kept (p.new ++ new_of ps tail),
  length-append p.new (new_of ps tail),
)

module _ (s : List ℕ) (o : Overlay) (h : IsLaid s o) where
  pub ends_at : (n : ℕ) (c : Cut) → 0 < n → slice_get o.cuts.items (n - 1) ≡ Some c → EndsBehind [] [] h.pieces (n - 1) c × (suc (n - 1) ≡ n)
  ends_at n c some e = (cut_ends [] [] [] h.pieces (n - 1) c (ap (λ (cs : List Cut). slice_get cs (n - 1)) (sym h.cuts_are) ∙ e), omega (arith, some))

  pub starts_at : (j : ℕ) (c : Cut) → slice_get o.cuts.items j ≡ Some c → StartsBehind [] [] [] h.pieces h.tail j c
  starts_at j c e = cut_starts [] [] [] h.pieces h.tail j c (ap (λ (cs : List Cut). slice_get cs j) (sym h.cuts_are) ∙ e)

  -- the numbers of the cut before place n
  pub old_before : (n : ℕ) (c : Cut) → 0 < n → slice_get o.cuts.items (n - 1) ≡ Some c → c.old_end ≡ end_of (old_of (take n h.pieces) [])
  old_before n c some e = let at = ends_at n c some e in at.0.old ∙ ap (λ (m : ℕ). end_of (old_of (take m h.pieces) [])) at.1

  pub new_before : (n : ℕ) (c : Cut) → 0 < n → slice_get o.cuts.items (n - 1) ≡ Some c → c.new_end ≡ end_of (new_of (take n h.pieces) [])
  new_before n c some e = let at = ends_at n c some e in at.0.new ∙ ap (λ (m : ℕ). end_of (new_of (take m h.pieces) [])) at.1

  -- what is kept before the cut at place n ends where it starts; what is kept behind the last ends with the text
  pub kept_to_cut : (n : ℕ) (c : Cut) → slice_get o.cuts.items n ≡ Some c → c.new.offset ≡ length (new_of (take n h.pieces) []) + length (first_kept (drop n h.pieces) h.tail)
  kept_to_cut n c e = ap (λ (x : Spot). x.offset) (starts_at n c e).new ∙ length-append (new_of (take n h.pieces) []) (first_kept (drop n h.pieces) h.tail)

  pub kept_to_end : (n : ℕ) → slice_get o.cuts.items n ≡ None → o.end.offset ≡ length (new_of (take n h.pieces) []) + length (first_kept (drop n h.pieces) h.tail)
  kept_to_end n e = ap (λ (x : Spot). x.offset) h.end_is ∙ (ap (λ (ps : List Piece). length (new_of ps h.tail)) (sym (take-append-drop n h.pieces))
      ∙ (ap length (new-append (take n h.pieces) (drop n h.pieces) h.tail) ∙ (length-append (new_of (take n h.pieces) []) (new_of (drop n h.pieces) h.tail)
      ∙ (ap (λ (ps : List Piece). length (new_of (take n h.pieces) []) + length (new_of ps h.tail)) none ∙ ap (λ (ps : List Piece). length (new_of (take n h.pieces) []) + length (first_kept ps h.tail)) (sym none)))))
    where
      none : drop n h.pieces ≡ []
      none = no_more [] [] [] h.pieces n (ap (λ (cs : List Cut). slice_get cs n) (sym h.cuts_are) ∙ e)

  pub stand_put : (n : ℕ) (c : Cut) (at to len : ℕ) → 0 < n → slice_get o.cuts.items (n - 1) ≡ Some c → c.new.offset ≤ at → at + len ≤ c.new_end.offset → at + len ≤ to → 0 < len
      → StandsIn s o at to (Put (c.text + (at - c.new.offset)) len) × (c.text + (at - c.new.offset) ≤ MAX_UNITS)
  stand_put n c at to len some e behind within fits more =
      let here = starts_at (n - 1) c e in
      let starts : c.new.offset ≡ length (new_of (take (n - 1) h.pieces) []) + length (first_kept (drop (n - 1) h.pieces) h.tail) = kept_to_cut (n - 1) c e in
      let ends : c.new_end.offset ≡ length (new_of (take (n - 1) h.pieces) []) + length (first_kept (drop (n - 1) h.pieces) h.tail) + length (first_new (drop (n - 1) h.pieces)) =
      ap (λ (x : Spot). x.offset) here.new_end ∙ omega (arith, length-append (new_of (take (n - 1) h.pieces) []) (first_kept (drop (n - 1) h.pieces) h.tail ++ first_new (drop (n - 1) h.pieces)), length-append (first_kept (drop (n - 1) h.pieces) h.tail) (first_new (drop (n - 1) h.pieces))) in
      let text : c.text ≡ length (puts_of (take (n - 1) h.pieces)) = here.text in
      let stands = put_stands s o h (n - 1) at len (c.text + (at - c.new.offset)) (omega (arith, starts, behind)) (omega (arith, ends, within)) (omega (arith, starts, text, behind)) in
      ((more, fits, stands.0, stands.1), omega (arith, stands.0, ap length h.puts_are, puts_short h.pieces h.tail, h.new_short))

  pub stand_kept : (n : ℕ) (c : Cut) (at to len limit : ℕ) → 0 < n → slice_get o.cuts.items (n - 1) ≡ Some c → c.new_end.offset ≤ at → limit ≡ length (new_of (take n h.pieces) []) + length (first_kept (drop n h.pieces) h.tail) → at + len ≤ limit → at + len ≤ to → 0 < len
      → StandsIn s o at to (Kept (at - c.new_end.offset + c.old_end.offset) len) × (at - c.new_end.offset + c.old_end.offset ≤ MAX_UNITS)
  stand_kept n c at to len limit some e behind limit_is within fits more =
      let old : c.old_end.offset ≡ length (old_of (take n h.pieces) []) = ap (λ (x : Spot). x.offset) (old_before n c some e) in
      let new : c.new_end.offset ≡ length (new_of (take n h.pieces) []) = ap (λ (x : Spot). x.offset) (new_before n c some e) in
      let stands = kept_stands s o h n at len (at - c.new_end.offset + c.old_end.offset) (omega (arith, new, behind)) (omega (arith, limit_is, within)) (omega (arith, old, new, behind)) in
      ((more, fits, stands.0, stands.1), omega (arith, stands.0, h.old_short))

  pub stand_first : (at to len limit : ℕ) → limit ≡ length (new_of (take 0 h.pieces) []) + length (first_kept (drop 0 h.pieces) h.tail) → at + len ≤ limit → at + len ≤ to → 0 < len
      → StandsIn s o at to (Kept at len)
  stand_first at to len limit limit_is within fits more =
      let stands = kept_stands s o h 0 at len at (omega arith) (omega (arith, limit_is, within)) (omega arith) in (more, fits, stands.0, stands.1)
