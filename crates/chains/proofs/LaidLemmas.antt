-- Overlays that lie on a text: the text that they give, and their numbers.
use Rattle.std.proofs.Common.{◌≡◌, ℕ, suc, ◌+◌, ◌-◌, List, [], ◌∷◌, ◌++◌, length, take, drop, slice_range, refl, sym, ap, ◌∙◌, arith, append_assoc, length-append, Option, Some, None, subst, ◌≤◌}
use Rattle.std.specs.Arc.{arc_value}
use Rattle.std.proofs.lemmas.List.{drop_at, take_at}
use Rattle.points.specs.declared.limits.TheConstants.{MAX_UNITS}
use Rattle.patch.specs.Tagged.{Tagged, tagged_from, untagged, units_of}
use Rattle.patch.proofs.Pieces.{Piece, old_of, new_of, tag_of}
use Rattle.patch.proofs.ShownPieces.{units_of_pieces}
use Rattle.chains.specs.declared.overlay.Overlay.{Overlay}
use Rattle.chains.specs.declared.held.Held.{Held}
use Rattle.chains.specs.declared.spot.Spot.{Spot}
use Rattle.chains.specs.Overlay.{IsLaid, AreLaid, tags_above, cuts_of, puts_of, tags_from, tags_of, text_of_all, overlays_of, end_of}

pub slice_is : (s front mid rest : List ℕ) (i j : ℕ) → s ≡ front ++ (mid ++ rest) → i ≡ length front → j ≡ i + length mid → slice_range s i j ≡ mid
slice_is s front mid rest i j s_is i_is j_is = let n : j - i ≡ length mid = omega arith in
    ap (λ (m : ℕ). take m (drop i s)) n ∙ (ap (λ (xs : List ℕ). take (length mid) (drop i xs)) s_is
    ∙ (ap (take (length mid)) (drop_at front (mid ++ rest) i (sym i_is)) ∙ take_at mid rest (length mid) refl))

-- the cuts of pieces, behind the units `a` of the text, make the tagged text of the pieces
cuts_tags : (s all a b put : List ℕ) (ps : List Piece) (tail : List ℕ) → s ≡ a ++ old_of ps tail → all ≡ put ++ puts_of ps
    → tags_from s all (length a) (cuts_of a b put ps) ≡ tag_of (length a) ps tail
cuts_tags s all a b put [] tail s_is all_is = ap (tagged_from (length a)) (ap (drop (length a)) s_is ∙ drop_at a tail (length a) refl)
cuts_tags s all a b put (p ∷ ps) tail s_is all_is =
    ap (λ (xs : List ℕ). tagged_from (length a) xs ++ (untagged (slice_range all (length put) (length put + (length (b ++ p.kept ++ p.new) - length (b ++ p.kept)))) ++ rest)) kept_is
    ∙ (ap (λ (xs : List ℕ). tagged_from (length a) p.kept ++ (untagged xs ++ rest)) new_is
    ∙ ap (λ (g : Tagged). tagged_from (length a) p.kept ++ (untagged p.new ++ g)) (cuts_tags s all (a ++ p.kept ++ p.old) (b ++ p.kept ++ p.new) (put ++ p.new) ps tail rest_is puts_is
    ∙ ap (λ (n : ℕ). tag_of n ps tail) rest_at))
  where
    rest : Tagged
    rest = tags_from s all (length (a ++ p.kept ++ p.old)) (cuts_of (a ++ p.kept ++ p.old) (b ++ p.kept ++ p.new) (put ++ p.new) ps)

    kept_is : slice_range s (length a) (length (a ++ p.kept)) ≡ p.kept
    kept_is = slice_is s a p.kept (p.old ++ old_of ps tail) (length a) (length (a ++ p.kept)) s_is refl (length-append a p.kept)

    new_is : slice_range all (length put) (length put + (length (b ++ p.kept ++ p.new) - length (b ++ p.kept))) ≡ p.new
    new_is = slice_is all put p.new (puts_of ps) (length put) (length put + (length (b ++ p.kept ++ p.new) - length (b ++ p.kept))) all_is refl (omega (arith, length-append (b ++ p.kept) p.new))

    rest_is : s ≡ a ++ p.kept ++ p.old ++ old_of ps tail
    rest_is = s_is ∙ (sym (append_assoc a p.kept (p.old ++ old_of ps tail)) ∙ sym (append_assoc (a ++ p.kept) p.old (old_of ps tail)))

    puts_is : all ≡ put ++ p.new ++ puts_of ps
    puts_is = all_is ∙ sym (append_assoc put p.new (puts_of ps))

    rest_at : length (a ++ p.kept ++ p.old) ≡ length a + length p.kept + length p.old
    rest_at = length-append (a ++ p.kept) p.old ∙ omega (arith, length-append a p.kept)

-- what an overlay makes of the text that it lies on is the tagged text of its pieces
pub tags_of_laid : (s : List ℕ) (o : Overlay) → (h : IsLaid s o) → tags_of s o ≡ tag_of 0 h.pieces h.tail
tags_of_laid s o h = ap (tags_from s o.text 0) h.cuts_are ∙ cuts_tags s o.text [] [] [] h.pieces h.tail h.text_is h.puts_are

pub text_of_laid : (s : List ℕ) (o : Overlay) → (h : IsLaid s o) → units_of (tags_of s o) ≡ new_of h.pieces h.tail
text_of_laid s o h = ap units_of (tags_of_laid s o h) ∙ units_of_pieces 0 h.pieces h.tail

-- layers in a row
pub overlays-append : (xs ys : List (Option Held)) → overlays_of (xs ++ ys) ≡ overlays_of xs ++ overlays_of ys
overlays-append [] ys = refl
overlays-append (None ∷ xs) ys = overlays-append xs ys
overlays-append (Some h ∷ xs) ys = ap (λ (os : List Overlay). arc_value h.overlay ∷ os) (overlays-append xs ys)

-- one more slot is shared
pub share_step : (old shared all : List (Option Held)) (slot : Option Held) (rest : List (Option Held)) → overlays_of shared ≡ overlays_of old ++ overlays_of (slot ∷ []) → overlays_of all ≡ overlays_of shared ++ overlays_of rest
    → overlays_of all ≡ overlays_of old ++ overlays_of (slot ∷ rest)
share_step old shared all slot rest one more = more ∙ (ap (λ (os : List Overlay). os ++ overlays_of rest) one
    ∙ (append_assoc (overlays_of old) (overlays_of (slot ∷ [])) (overlays_of rest) ∙ ap (λ (os : List Overlay). overlays_of old ++ os) (sym (overlays-append (slot ∷ []) rest))))

-- how many layers there are in slots
pub few_overlays : (hs : List (Option Held)) → length (overlays_of hs) ≤ length hs
few_overlays [] = omega arith
few_overlays (None ∷ hs) = omega (arith, few_overlays hs)
few_overlays (Some h ∷ hs) = omega (arith, few_overlays hs)

pub slots_split : (slot : Option Held) (rest : List (Option Held)) → length (overlays_of (slot ∷ rest)) ≡ length (overlays_of (slot ∷ [])) + length (overlays_of rest)
slots_split slot rest = ap length (overlays-append (slot ∷ []) rest) ∙ length-append (overlays_of (slot ∷ [])) (overlays_of rest)

-- the newest layer knows the end of the text
pub end_of_newest : (base : List ℕ) (os : List Overlay) (o : Overlay) (below : List Overlay) → os ≡ o ∷ below → AreLaid base os → (o.end ≡ end_of (text_of_all base os)) × (o.end.offset ≤ MAX_UNITS)
end_of_newest base os o below os_is laid =
    let here : AreLaid base (o ∷ below) = subst (AreLaid base) os_is laid in
    let h : IsLaid (text_of_all base below) o = here.0 in
    let is : o.end ≡ end_of (text_of_all base os) = h.end_is ∙ (ap end_of (sym (text_of_laid (text_of_all base below) o h)) ∙ ap (λ (xs : List Overlay). end_of (text_of_all base xs)) (sym os_is)) in
    (is, omega (arith, ap (λ (x : Spot). x.offset) h.end_is, h.new_short))

pub end_of_base : (base : List ℕ) (os : List Overlay) → os ≡ [] → end_of base ≡ end_of (text_of_all base os)
end_of_base base os none = ap (λ (xs : List Overlay). end_of (text_of_all base xs)) (sym none)

pub length_above : (base : List ℕ) (os : List Overlay) → length (tags_above base os) ≡ length os
length_above base [] = refl
length_above base (o ∷ os) = ap suc (length_above base os)
