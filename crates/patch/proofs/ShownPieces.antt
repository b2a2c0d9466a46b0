-- The changes of pieces fit the pieces' old text and make their new text of it, and back.
use Rattle.std.proofs.Common.{◌≡◌, ℕ, ◌+◌, List, [], ◌∷◌, ◌++◌, length, take, drop, map, slice_range, unwrap_or, Option, refl, sym, ap, ◌∙◌, subst, arith, append_assoc, length-append}
use Rattle.std.proofs.lemmas.List.{drop_at, take_at, map-append}
use Rattle.std.proofs.lemmas.List.Elements.{All-nil, All-cons}
use Rattle.points.specs.declared.point.Point.{Point}
use Rattle.points.specs.Point.{origin, traverse}
use Rattle.points.specs.Place.{extent}
use Rattle.points.proofs.PointLemmas.{traverse_assoc}
use Rattle.points.proofs.ExtentLemmas.{extent-append}
use Rattle.points.proofs.OffsetLemmas.{offset_of-at}
use Rattle.patch.specs.Hunk.{Hunk, inverted}
use Rattle.patch.specs.ChangeList.{IsPatch}
use Rattle.patch.specs.Tagged.{Tagged, tagged_from, tagged, untagged, units_of}
use Rattle.patch.specs.Fit.{StandsAt, HunkFits, Fits, offset_in, tag_from, applied}
use Rattle.patch.proofs.Pieces.{Piece, old_of, new_of, tag_of}
use Rattle.patch.proofs.PatchPieces.{shown, hunk_between, tagged_range, taken, drop-tagged, cut_of}

-- the old text of the first piece stands where its change says
first_stands : (s front kept old after : List ℕ) → s ≡ front ++ (kept ++ (old ++ after)) → StandsAt s (length front + length kept) (traverse (extent front) (extent kept)) (traverse (traverse (extent front) (extent kept)) (extent old)) old
first_stands s front kept old after s_is = record {
  within = omega (arith, ap length s_is, length-append front (kept ++ (old ++ after)), length-append kept (old ++ after), length-append old after);
  start_is = ap extent (taken s front kept (old ++ after) (length front + length kept) s_is refl) ∙ extent-append front kept;
  end_is = ap extent (taken s front (kept ++ old) after (length front + length kept + length old) (s_is ∙ ap (λ (xs : List ℕ). front ++ xs) (sym (append_assoc kept old after))) (omega (arith, length-append kept old)))
      ∙ (extent-append front (kept ++ old) ∙ (ap (traverse (extent front)) (extent-append kept old) ∙ sym (traverse_assoc (extent front) (extent kept) (extent old))));
  units_are = ap (λ (xs : List ℕ). take (length old) (drop (length front + length kept) xs)) (s_is ∙ sym (append_assoc front kept (old ++ after)))
      ∙ (ap (take (length old)) (drop_at (front ++ kept) (old ++ after) (length front + length kept) (length-append front kept)) ∙ take_at old after (length old) refl);
}

behind_first : (s front kept old after : List ℕ) → s ≡ front ++ (kept ++ (old ++ after)) → s ≡ front ++ kept ++ old ++ after
behind_first s front kept old after s_is = s_is ∙ (sym (append_assoc front kept (old ++ after)) ∙ sym (append_assoc (front ++ kept) old after))

extent_three : (a b c : List ℕ) → extent (a ++ b ++ c) ≡ traverse (traverse (extent a) (extent b)) (extent c)
extent_three a b c = extent-append (a ++ b) c ∙ ap (λ (x : Point). traverse x (extent c)) (extent-append a b)

-- the changes of pieces fit the pieces' old text
pub shown_fit : (s front : List ℕ) (b : Point) (ps : List Piece) (tail : List ℕ) → s ≡ front ++ old_of ps tail → Fits (shown (extent front) b ps) s
shown_fit s front b [] tail s_is = All-nil (HunkFits s)
shown_fit s front b (p ∷ ps) tail s_is = All-cons (HunkFits s) (hunk_between (traverse (extent front) (extent p.kept)) (traverse b (extent p.kept)) p.old p.new) (shown (traverse (traverse (extent front) (extent p.kept)) (extent p.old)) (traverse (traverse b (extent p.kept)) (extent p.new)) ps)
    (length front + length p.kept, first_stands s front p.kept p.old (old_of ps tail) s_is)
    (subst (λ (x : Point). Fits (shown x (traverse (traverse b (extent p.kept)) (extent p.new)) ps) s) (extent_three front p.kept p.old)
    (shown_fit s (front ++ p.kept ++ p.old) (traverse (traverse b (extent p.kept)) (extent p.new)) ps tail (behind_first s front p.kept p.old (old_of ps tail) s_is)))

-- and make the pieces' tagged text of it
pub shown_tag : (s front : List ℕ) (b : Point) (ps : List Piece) (tail : List ℕ) → s ≡ front ++ old_of ps tail → tag_from s (length front) (shown (extent front) b ps) ≡ tag_of (length front) ps tail
shown_tag s front b [] tail s_is = drop-tagged (length front) 0 s ∙ (ap (λ (xs : List ℕ). tagged_from (0 + length front) (drop (length front) xs)) s_is ∙ (ap (tagged_from (0 + length front)) (drop_at front tail (length front) refl) ∙ ap (λ (n : ℕ). tagged_from n tail) (omega arith)))
shown_tag s front b (p ∷ ps) tail s_is =
    let h : Hunk = hunk_between (traverse (extent front) (extent p.kept)) (traverse b (extent p.kept)) p.old p.new in
    let b2 : Point = traverse (traverse b (extent p.kept)) (extent p.new) in
    let hs : List Hunk = shown (traverse (traverse (extent front) (extent p.kept)) (extent p.old)) b2 ps in
    let stands = first_stands s front p.kept p.old (old_of ps tail) s_is in
    let i : ℕ = length front + length p.kept in
    let start_offset : offset_in s h.old_start ≡ i = ap (λ (o : Option ℕ). unwrap_or o 0) (offset_of-at s h.old_start i (omega (arith, stands.within)) stands.start_is) in
    let end_offset : offset_in s h.old_end ≡ i + length p.old = ap (λ (o : Option ℕ). unwrap_or o 0) (offset_of-at s h.old_end (i + length p.old) stands.within stands.end_is) in
    let front_length : length (front ++ p.kept ++ p.old) ≡ i + length p.old = length-append (front ++ p.kept) p.old ∙ omega (arith, length-append front p.kept) in
    ap (λ (n : ℕ). slice_range (tagged s) (length front) n ++ untagged p.new ++ tag_from s (offset_in s h.old_end) hs) start_offset
    ∙ (ap (λ (n : ℕ). slice_range (tagged s) (length front) i ++ untagged p.new ++ tag_from s n hs) end_offset
    ∙ (ap (λ (g : Tagged). g ++ untagged p.new ++ tag_from s (i + length p.old) hs) (tagged_range s front p.kept (p.old ++ old_of ps tail) (length front) i s_is refl refl)
    ∙ (append_assoc (tagged_from (length front) p.kept) (untagged p.new) (tag_from s (i + length p.old) hs)
    ∙ ap (λ (g : Tagged). tagged_from (length front) p.kept ++ (untagged p.new ++ g)) (ap (λ (n : ℕ). tag_from s n hs) (sym front_length)
    ∙ (ap (λ (x : Point). tag_from s (length (front ++ p.kept ++ p.old)) (shown x b2 ps)) (sym (extent_three front p.kept p.old))
    ∙ (shown_tag s (front ++ p.kept ++ p.old) b2 ps tail (behind_first s front p.kept p.old (old_of ps tail) s_is) ∙ ap (λ (n : ℕ). tag_of n ps tail) front_length))))))

-- the units of tagged texts
units_tagged : (i : ℕ) (us : List ℕ) → units_of (tagged_from i us) ≡ us
units_tagged i [] = refl
units_tagged i (u ∷ us) = ap (λ (xs : List ℕ). u ∷ xs) (units_tagged (i + 1) us)

units_untagged : (us : List ℕ) → units_of (untagged us) ≡ us
units_untagged [] = refl
units_untagged (u ∷ us) = ap (λ (xs : List ℕ). u ∷ xs) (units_untagged us)

pub units_of_pieces : (i : ℕ) (ps : List Piece) (tail : List ℕ) → units_of (tag_of i ps tail) ≡ new_of ps tail
units_of_pieces i [] tail = units_tagged i tail
units_of_pieces i (p ∷ ps) tail = let k : ℕ = i + length p.kept + length p.old in
    map-append (λ (x : ℕ × Option ℕ). x.0) (tagged_from i p.kept) (untagged p.new ++ tag_of k ps tail) ∙ (ap (λ (xs : List ℕ). xs ++ units_of (untagged p.new ++ tag_of k ps tail)) (units_tagged i p.kept)
    ∙ ap (λ (xs : List ℕ). p.kept ++ xs) (map-append (λ (x : ℕ × Option ℕ). x.0) (untagged p.new) (tag_of k ps tail) ∙ (ap (λ (xs : List ℕ). xs ++ units_of (tag_of k ps tail)) (units_untagged p.new) ∙ ap (λ (xs : List ℕ). p.new ++ xs) (units_of_pieces k ps tail))))

pub shown_applied : (s : List ℕ) (ps : List Piece) (tail : List ℕ) → s ≡ old_of ps tail → applied (shown origin origin ps) s ≡ new_of ps tail
shown_applied s ps tail s_is = ap units_of (shown_tag s [] origin ps tail s_is) ∙ units_of_pieces 0 ps tail

-- pieces back
abbrev pub turned_piece : Piece → Piece
turned_piece p = record { kept = p.kept; old = p.new; new = p.old }

pub old_of_turned : (ps : List Piece) (tail : List ℕ) → old_of (map turned_piece ps) tail ≡ new_of ps tail
old_of_turned [] tail = refl
old_of_turned (p ∷ ps) tail = ap (λ (xs : List ℕ). p.kept ++ (p.new ++ xs)) (old_of_turned ps tail)

pub new_of_turned : (ps : List Piece) (tail : List ℕ) → new_of (map turned_piece ps) tail ≡ old_of ps tail
new_of_turned [] tail = refl
new_of_turned (p ∷ ps) tail = ap (λ (xs : List ℕ). p.kept ++ (p.old ++ xs)) (new_of_turned ps tail)

pub shown_turned : (a b : Point) (ps : List Piece) → map inverted (shown a b ps) ≡ shown b a (map turned_piece ps)
shown_turned a b [] = refl
shown_turned a b (p ∷ ps) = ap (λ (hs : List Hunk). hunk_between (traverse b (extent p.kept)) (traverse a (extent p.kept)) p.new p.old ∷ hs)
    (shown_turned (traverse (traverse a (extent p.kept)) (extent p.old)) (traverse (traverse b (extent p.kept)) (extent p.new)) ps)

-- what a patch makes of a text fits the inverse, which gives the text back
pub inverse_back : (p : List Hunk) (s : List ℕ) → IsPatch p → Fits p s → Fits (map inverted p) (applied p s) × (applied (map inverted p) (applied p s) ≡ s)
inverse_back p s is_patch fits = let cut = cut_of s p is_patch fits in
    let made : applied p s ≡ old_of (map turned_piece cut.pieces) cut.tail = ap (λ (hs : List Hunk). applied hs s) cut.is ∙ (shown_applied s cut.pieces cut.tail cut.text ∙ sym (old_of_turned cut.pieces cut.tail)) in
    let back : map inverted p ≡ shown origin origin (map turned_piece cut.pieces) = ap (map inverted) cut.is ∙ shown_turned origin origin cut.pieces in (
      subst (λ (hs : List Hunk). Fits hs (applied p s)) (sym back) (shown_fit (applied p s) [] origin (map turned_piece cut.pieces) cut.tail made),
      ap (λ (hs : List Hunk). applied hs (applied p s)) back ∙ (shown_applied (applied p s) (map turned_piece cut.pieces) cut.tail made ∙ (new_of_turned cut.pieces cut.tail ∙ sym cut.text)),
    )

pub inverse_of : (p q : List Hunk) → q ≡ map inverted p → IsPatch p → (s : List ℕ) → Fits p s → Fits q (applied p s) × (applied q (applied p s) ≡ s)
inverse_of p q q_is is_patch s fits = subst (λ (hs : List Hunk). Fits hs (applied p s) × (applied hs (applied p s) ≡ s)) (sym q_is) (inverse_back p s is_patch fits)
