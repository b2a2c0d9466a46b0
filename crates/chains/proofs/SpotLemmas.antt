-- Places of a layer's text, and the places in the text below or in the layer's own text that they are reached from.
use Rattle.std.proofs.Common.{◌≡◌, ℕ, zero, suc, ◌+◌, ◌-◌, ◌<◌, ◌≤◌, List, [], ◌∷◌, ◌++◌, length, take, drop, slice_get, Option, Some, None, refl, sym, ap, ◌∙◌, subst, arith, append_assoc, length-append}
use Rattle.std.proofs.Math.Seq.{take-append-add}
use Rattle.std.proofs.lemmas.List.{append-nil, take_at, take-append-drop, take-append-le, length-take}
use Rattle.points.specs.declared.point.Point.{Point}
use Rattle.points.specs.declared.limits.TheConstants.{MAX_UNITS, MAX_COORD}
use Rattle.points.specs.Point.{IsWithin, traverse, traversal}
use Rattle.points.specs.Place.{extent, point_at}
use Rattle.points.proofs.PointLemmas.{traversal-traverse}
use Rattle.points.proofs.ExtentLemmas.{extent-append}
use Rattle.points.proofs.ExtentParts.{extent_within}
use Rattle.patch.specs.Tagged.{units_of}
use Rattle.patch.proofs.Pieces.{Piece, old_of, new_of}
use Rattle.patch.proofs.SplicePieces.{old-append}
use Rattle.chains.specs.declared.spot.Spot.{Spot}
use Rattle.chains.specs.declared.overlay.Cut.{Cut}
use Rattle.chains.specs.declared.overlay.Overlay.{Overlay}
use Rattle.chains.specs.declared.lookup.WayDown.TheVariants.{Put, Below}
use Rattle.chains.specs.Overlay.{IsLaid, AreLaid, end_of, puts_of, first_kept, first_new, tags_of, text_of_all}
use Rattle.chains.specs.Spots.{ahead, spot_in}
use Rattle.chains.specs.LeadsDown.{LeadsDown}
use Rattle.chains.proofs.LaidLemmas.{text_of_laid, end_of_newest}
use Rattle.chains.proofs.CutLemmas.{puts-append}
use Rattle.chains.proofs.StandParts.{blank_spot, new-append, starts_at, old_before, new_before, kept_to_cut, kept_to_end}
use Rattle.chains.proofs.StretchLemmas.{laid_newest}

abbrev pub spot_with : ℕ → Point → Spot
spot_with n p = record { offset = n; point = p }

same_spot : (a b : ℕ) (p q : Point) → a ≡ b → p ≡ q → spot_with a p ≡ spot_with b q
same_spot a b p q e f = ap (λ (n : ℕ). spot_with n p) e ∙ ap (spot_with b) f

-- the end of what stands before an offset is the place there
pub spot_taken : (t : List ℕ) (i : ℕ) → i ≤ length t → spot_in t i ≡ end_of (take i t)
spot_taken t i within = let e : i ≡ length (take i t) = omega (arith, length-take i t, within) in ap (λ (n : ℕ). spot_with n (point_at t i)) e

-- the end of a text's beginning is a place of it
pub prefix_spot : (t x y : List ℕ) (a : Spot) → t ≡ x ++ y → a ≡ end_of x → (a.offset ≤ length t) × (a ≡ spot_in t a.offset)
prefix_spot t x y a t_is a_is =
    let at : a.offset ≡ length x = ap (λ (b : Spot). b.offset) a_is in
    (omega (arith, at, ap length t_is, length-append x y), a_is ∙ (ap (spot_with (length x)) (ap extent (sym (ap (take (length x)) t_is ∙ take_at x y (length x) refl))) ∙ ap (spot_in t) (sym at)))

-- the same units behind two texts
pub ahead_is : (x y m : List ℕ) → ahead (end_of x) (end_of y) (end_of (y ++ m)) ≡ end_of (x ++ m)
ahead_is x y m = same_spot (length x + (length (y ++ m) - length y)) (length (x ++ m)) (traverse (extent x) (traversal (extent (y ++ m)) (extent y))) (extent (x ++ m))
    (omega (arith, length-append x m, length-append y m))
    (ap (λ (p : Point). traverse (extent x) (traversal p (extent y))) (extent-append y m) ∙ (ap (traverse (extent x)) (traversal-traverse (extent y) (extent m)) ∙ sym (extent-append x m)))

take_inside : (a b c : List ℕ) (n : ℕ) → n ≤ length b → take (length a + n) (a ++ (b ++ c)) ≡ a ++ take n b
take_inside a b c n within = take-append-add a (b ++ c) n ∙ ap (λ (xs : List ℕ). a ++ xs) (take-append-le n b c within)

-- places in the same units of two texts
same_units : (t s x y m z w : List ℕ) (at from n : ℕ) → t ≡ x ++ (m ++ z) → s ≡ y ++ (m ++ w) → n ≤ length m → at ≡ length x + n → from ≡ length y + n
    → (from ≤ length s) × (spot_in t at ≡ ahead (end_of x) (end_of y) (spot_in s from))
same_units t s x y m z w at from n t_is s_is within at_is from_is =
    let from_fits : from ≤ length s = omega (arith, from_is, within, ap length s_is, length-append y (m ++ w), length-append m w) in
    let at_fits : at ≤ length t = omega (arith, at_is, within, ap length t_is, length-append x (m ++ z), length-append m z) in
    let above : take at t ≡ x ++ take n m = ap (take at) t_is ∙ (ap (λ (k : ℕ). take k (x ++ (m ++ z))) at_is ∙ take_inside x m z n within) in
    let below : take from s ≡ y ++ take n m = ap (take from) s_is ∙ (ap (λ (k : ℕ). take k (y ++ (m ++ w))) from_is ∙ take_inside y m w n within) in
    (from_fits, spot_taken t at at_fits ∙ (ap end_of above ∙ (sym (ahead_is x y (take n m)) ∙ ap (ahead (end_of x) (end_of y)) (sym (spot_taken s from from_fits ∙ ap end_of below)))))

pub new_first : (q : List Piece) (tail : List ℕ) → (more : List ℕ) × (new_of q tail ≡ first_kept q tail ++ (first_new q ++ more))
new_first [] tail = ([], sym (append-nil tail))
new_first (p ∷ ps) tail = (new_of ps tail, refl)

old_first : (q : List Piece) (tail : List ℕ) → (more : List ℕ) × (old_of q tail ≡ first_kept q tail ++ more)
old_first [] tail = ([], sym (append-nil tail))
old_first (p ∷ ps) tail = (p.old ++ old_of ps tail, refl)

puts_first : (q : List Piece) → (more : List ℕ) × (puts_of q ≡ first_new q ++ more)
puts_first [] = ([], refl)
puts_first (p ∷ ps) = (puts_of ps, refl)

module _ (s : List ℕ) (o : Overlay) (h : IsLaid s o) where
  pub new_split : (k : ℕ) → units_of (tags_of s o) ≡ new_of (take k h.pieces) [] ++ (first_kept (drop k h.pieces) h.tail ++ (first_new (drop k h.pieces) ++ (new_first (drop k h.pieces) h.tail).0))
  new_split k = text_of_laid s o h ∙ (ap (λ (q : List Piece). new_of q h.tail) (sym (take-append-drop k h.pieces))
      ∙ (new-append (take k h.pieces) (drop k h.pieces) h.tail ∙ ap (λ (xs : List ℕ). new_of (take k h.pieces) [] ++ xs) (new_first (drop k h.pieces) h.tail).1))

  old_split : (k : ℕ) → s ≡ old_of (take k h.pieces) [] ++ (first_kept (drop k h.pieces) h.tail ++ (old_first (drop k h.pieces) h.tail).0)
  old_split k = h.text_is ∙ (ap (λ (q : List Piece). old_of q h.tail) (sym (take-append-drop k h.pieces))
      ∙ (old-append (take k h.pieces) (drop k h.pieces) h.tail ∙ ap (λ (xs : List ℕ). old_of (take k h.pieces) [] ++ xs) (old_first (drop k h.pieces) h.tail).1))

  put_split : (k : ℕ) → o.text ≡ puts_of (take k h.pieces) ++ (first_new (drop k h.pieces) ++ (puts_first (drop k h.pieces)).0)
  put_split k = h.puts_are ∙ (ap puts_of (sym (take-append-drop k h.pieces)) ∙ (puts-append (take k h.pieces) (drop k h.pieces)
      ∙ ap (λ (xs : List ℕ). puts_of (take k h.pieces) ++ xs) (puts_first (drop k h.pieces)).1))

  -- where what is kept before place n ends: at the cut there, or at the end of the text
  pub kept_until : (n at : ℕ) → ((c : Cut) → slice_get o.cuts.items n ≡ Some c → at < c.new.offset) → at ≤ o.end.offset
      → at ≤ length (new_of (take n h.pieces) []) + length (first_kept (drop n h.pieces) h.tail)
  kept_until n at behind within = by_cut (slice_get o.cuts.items n) refl
    where
      by_cut : (x : Option Cut) → slice_get o.cuts.items n ≡ x → at ≤ length (new_of (take n h.pieces) []) + length (first_kept (drop n h.pieces) h.tail)
      by_cut None e = omega (arith, kept_to_end s o h n e, within)
      by_cut (Some c) e = omega (arith, kept_to_cut s o h n c e, behind c e)

  pub way_put : (n : ℕ) (c : Cut) (at : ℕ) → 0 < n → slice_get o.cuts.items (n - 1) ≡ Some c → c.new.offset ≤ at → at ≤ c.new_end.offset → LeadsDown s o at (Put c.new c.text)
  way_put n c at some e behind within =
      let k : ℕ = n - 1 in
      let here = starts_at s o h (n - 1) c e in
      let N : List ℕ = new_of (take (n - 1) h.pieces) [] in
      let K : List ℕ = first_kept (drop (n - 1) h.pieces) h.tail in
      let P : List ℕ = puts_of (take (n - 1) h.pieces) in
      let F : List ℕ = first_new (drop (n - 1) h.pieces) in
      let start : c.new.offset ≡ length (N ++ K) = ap (λ (x : Spot). x.offset) here.new in
      let stop : c.new_end.offset ≡ length (N ++ K) + length F = ap (λ (x : Spot). x.offset) here.new_end ∙ omega (arith, length-append N (K ++ F), length-append K F, length-append N K) in
      let text : c.text ≡ length P = here.text in
      let put_first : o.text ≡ P ++ (F ++ (puts_first (drop (n - 1) h.pieces)).0) = put_split (n - 1) in
      let fits : c.text ≤ length o.text = omega (arith, text, ap length put_first, length-append P (F ++ (puts_first (drop (n - 1) h.pieces)).0)) in
      let taken : take c.text o.text ≡ P = ap (take c.text) put_first ∙ (ap (λ (m : ℕ). take m (P ++ (F ++ (puts_first (drop (n - 1) h.pieces)).0))) (text ∙ omega arith) ∙ (take_inside P F (puts_first (drop (n - 1) h.pieces)).0 0 (omega arith) ∙ append-nil P)) in
      let units = same_units (units_of (tags_of s o)) o.text (N ++ K) P F (new_first (drop (n - 1) h.pieces) h.tail).0 (puts_first (drop (n - 1) h.pieces)).0 at (c.text + (at - c.new.offset)) (at - c.new.offset)
      (new_split (n - 1) ∙ sym (append_assoc N K (F ++ (new_first (drop (n - 1) h.pieces) h.tail).0))) put_first (omega (arith, start, stop, within, behind)) (omega (arith, start, behind)) (omega (arith, text)) in
      (behind, units.0, units.1 ∙ (ap (λ (x : Spot). ahead x (end_of P) (spot_in o.text (c.text + (at - c.new.offset)))) (sym here.new) ∙ ap (λ (x : Spot). ahead c.new x (spot_in o.text (c.text + (at - c.new.offset)))) (sym (spot_taken o.text c.text fits ∙ ap end_of taken))))

  way_below_at : (n : ℕ) (new old : Spot) (at : ℕ) → new ≡ end_of (new_of (take n h.pieces) []) → old ≡ end_of (old_of (take n h.pieces) []) → new.offset ≤ at
      → at ≤ length (new_of (take n h.pieces) []) + length (first_kept (drop n h.pieces) h.tail) → LeadsDown s o at (Below new old)
  way_below_at n new old at new_is old_is behind within =
      let N : List ℕ = new_of (take n h.pieces) [] in
      let O : List ℕ = old_of (take n h.pieces) [] in
      let K : List ℕ = first_kept (drop n h.pieces) h.tail in
      let start : new.offset ≡ length N = ap (λ (x : Spot). x.offset) new_is in
      let low : old.offset ≡ length O = ap (λ (x : Spot). x.offset) old_is in
      let units = same_units (units_of (tags_of s o)) s N O K (first_new (drop n h.pieces) ++ (new_first (drop n h.pieces) h.tail).0) (old_first (drop n h.pieces) h.tail).0 at (old.offset + (at - new.offset)) (at - new.offset)
      (new_split n) (old_split n) (omega (arith, start, within, behind)) (omega (arith, start, behind)) (omega (arith, low)) in (
        behind,
        units.0,
        units.1 ∙ (ap (λ (x : Spot). ahead x (end_of O) (spot_in s (old.offset + (at - new.offset)))) (sym new_is) ∙ ap (λ (x : Spot). ahead new x (spot_in s (old.offset + (at - new.offset)))) (sym old_is)),
        (prefix_spot s O (K ++ (old_first (drop n h.pieces) h.tail).0) old (old_split n) old_is).1,
      )

  pub way_below : (n : ℕ) (c : Cut) (at : ℕ) → 0 < n → slice_get o.cuts.items (n - 1) ≡ Some c → c.new_end.offset ≤ at → ((d : Cut) → slice_get o.cuts.items n ≡ Some d → at < d.new.offset) → at ≤ o.end.offset
      → LeadsDown s o at (Below c.new_end c.old_end)
  way_below n c at some e behind next within = way_below_at n c.new_end c.old_end at (new_before s o h n c some e) (old_before s o h n c some e) behind (kept_until n at next within)

  pub way_first : (n at : ℕ) → n ≡ 0 → ((d : Cut) → slice_get o.cuts.items n ≡ Some d → at < d.new.offset) → at ≤ o.end.offset → LeadsDown s o at (Below blank_spot blank_spot)
  way_first n at none next within = way_below_at n blank_spot blank_spot at
      (ap (λ (k : ℕ). end_of (new_of (take k h.pieces) [])) (sym none)) (ap (λ (k : ℕ). end_of (old_of (take k h.pieces) [])) (sym none)) (omega arith) (kept_until n at next within)

-- a place of a short text has room
pub room_at : (t : List ℕ) (at : ℕ) (a : Spot) → spot_in t at ≡ a → at ≤ MAX_UNITS → length t ≤ MAX_UNITS → (a.offset ≤ MAX_UNITS) × IsWithin MAX_COORD a.point
room_at t at a is fits short = let P : Spot → Type 0 = λ x. (x.offset ≤ MAX_UNITS) × IsWithin MAX_COORD x.point in
    subst P is (fits, extent_within (take at t) MAX_COORD (omega (arith, length-take at t, short)))

module _ (base : List ℕ) (os : List Overlay) (o : Overlay) (below : List Overlay) (os_is : os ≡ o ∷ below) (laid : AreLaid base os) where
  -- the text of the newest layer is that of all, and short
  pub newest_text : text_of_all base os ≡ units_of (tags_of (text_of_all base below) o)
  newest_text = ap (text_of_all base) os_is

  pub newest_short : length (text_of_all base os) ≤ MAX_UNITS
  newest_short = let end = end_of_newest base os o below os_is laid in omega (arith, ap (λ (x : Spot). x.offset) end.0, end.1)

  -- the place that is reached from the one above has room
  pub room_put : (at : ℕ) (new : Spot) (text : ℕ) (start place : Spot) → LeadsDown (text_of_all base below) o at (Put new text) → start ≡ spot_in o.text text → place ≡ spot_in o.text (text + (at - new.offset)) → at ≤ length (text_of_all base os)
      → ((ahead new start place).offset ≤ MAX_UNITS) × IsWithin MAX_COORD (ahead new start place).point
  room_put at new text start place leads start_is place_is within = room_at (units_of (tags_of (text_of_all base below) o)) at (ahead new start place)
      (leads.2 ∙ (ap (λ (x : Spot). ahead new x (spot_in o.text (text + (at - new.offset)))) (sym start_is) ∙ ap (ahead new start) (sym place_is)))
      (omega (arith, within, newest_short)) (omega (arith, newest_short, ap length newest_text))

  pub room_below : (at : ℕ) (new old place : Spot) → LeadsDown (text_of_all base below) o at (Below new old) → place ≡ spot_in (text_of_all base below) (old.offset + (at - new.offset)) → at ≤ length (text_of_all base os)
      → ((ahead new old place).offset ≤ MAX_UNITS) × IsWithin MAX_COORD (ahead new old place).point
  room_below at new old place leads place_is within = room_at (units_of (tags_of (text_of_all base below) o)) at (ahead new old place)
      (leads.2 ∙ ap (ahead new old) (sym place_is)) (omega (arith, within, newest_short)) (omega (arith, newest_short, ap length newest_text))

pub no_layer : (base : List ℕ) (os : List Overlay) (at : ℕ) → os ≡ [] → spot_in base at ≡ spot_in (text_of_all base os) at
no_layer base os at none = ap (λ (xs : List Overlay). spot_in (text_of_all base xs) at) (sym none)
