-- How large an overlay is: one change for each of its pieces.
use Rattle.std.proofs.Common.{◌≡◌, ℕ, suc, ◌+◌, ◌≤◌, ◌==◌, ◌&&◌, false, List, [], ◌∷◌, ◌++◌, length, refl, sym, ap, ◌∙◌, arith, length-append}
use Rattle.std.specs.List.{sum_by}
use Rattle.std.proofs.lemmas.List.Sums.{sum_by-cons}
use Rattle.std.proofs.lemmas.Bool.Decides.{nat_tests}
use Rattle.points.specs.declared.point.Point.{Point}
use Rattle.points.specs.declared.limits.TheConstants.{MAX_UNITS}
use Rattle.points.specs.Point.{origin, traverse}
use Rattle.points.specs.Place.{extent}
use Rattle.patch.specs.Hunk.{Hunk, hunk_size}
use Rattle.patch.specs.Tagged.{Tagged, gaps}
use Rattle.patch.proofs.Pieces.{Piece, AllApartBehind, AllSome, old_of, new_of, tag_of, changes_of, gaps_of_pieces}
use Rattle.patch.proofs.PatchPieces.{hunk_between, shown}
use Rattle.patch.proofs.SplicePieces.{spread_whole}
use Rattle.patch.proofs.SpliceLemmas.{spread_some}
use Rattle.chains.specs.declared.overlay.Cut.{Cut}
use Rattle.chains.specs.declared.overlay.Overlay.{Overlay}
use Rattle.chains.specs.declared.size.LayerSize.{LayerSize}
use Rattle.chains.specs.Overlay.{IsLaid, cuts_of, tags_of}
use Rattle.chains.specs.Layered.{size_of}
use Rattle.chains.specs.Weaving.{piece_size}
use Rattle.chains.proofs.LaidLemmas.{tags_of_laid}

shown_length : (a b : Point) (ps : List Piece) → length (shown a b ps) ≡ length ps
shown_length a b [] = refl
shown_length a b (p ∷ ps) = ap suc (shown_length (traverse (traverse a (extent p.kept)) (extent p.old)) (traverse (traverse b (extent p.kept)) (extent p.new)) ps)

shown_units : (a b : Point) (ps : List Piece) → sum_by hunk_size (shown a b ps) ≡ sum_by piece_size ps
shown_units a b [] = refl
shown_units a b (p ∷ ps) = let a2 : Point = traverse (traverse a (extent p.kept)) (extent p.old) in let b2 : Point = traverse (traverse b (extent p.kept)) (extent p.new) in
    sum_by-cons hunk_size (hunk_between (traverse a (extent p.kept)) (traverse b (extent p.kept)) p.old p.new) (shown a2 b2 ps)
    ∙ (ap (λ (n : ℕ). length p.old + length p.new + n) (shown_units a2 b2 ps) ∙ sym (sum_by-cons piece_size p ps))

whole_changes : (ps : List Piece) → AllSome ps → AllApartBehind ps → changes_of origin origin [] [] ps ≡ shown origin origin ps
whole_changes [] some behind = refl
whole_changes (p ∷ ps) some behind = spread_whole p ps behind ∙ spread_some origin origin (p ∷ ps) some

pub gaps_laid : (s : List ℕ) (o : Overlay) → (h : IsLaid s o) → gaps s (tags_of s o) ≡ shown origin origin h.pieces
gaps_laid s o h = ap (gaps s) (tags_of_laid s o h) ∙ (gaps_of_pieces s h.pieces h.tail h.text_is ∙ whole_changes h.pieces h.some h.behind)

cuts_length : (a b put : List ℕ) (ps : List Piece) → length (cuts_of a b put ps) ≡ length ps
cuts_length a b put [] = refl
cuts_length a b put (p ∷ ps) = ap suc (cuts_length (a ++ p.kept ++ p.old) (b ++ p.kept ++ p.new) (put ++ p.new) ps)

-- the size of a layer is what its overlay counts
pub changes_laid : (s : List ℕ) (o : Overlay) → IsLaid s o → length (gaps s (tags_of s o)) ≡ length o.cuts.items
changes_laid s o h = ap length (gaps_laid s o h) ∙ (shown_length origin origin h.pieces ∙ sym (ap length h.cuts_are ∙ cuts_length [] [] [] h.pieces))

pub units_laid : (s : List ℕ) (o : Overlay) → IsLaid s o → sum_by hunk_size (gaps s (tags_of s o)) ≡ o.units
units_laid s o h = ap (sum_by hunk_size) (gaps_laid s o h) ∙ (shown_units origin origin h.pieces ∙ sym h.units_are)

some_one : (a b : ℕ) → ((a == 0) && (b == 0)) ≡ false → 1 ≤ a + b
some_one a b e = grind (arith, nat_tests)

few_pieces : (ps : List Piece) (tail : List ℕ) → AllSome ps → length ps ≤ length (old_of ps tail) + length (new_of ps tail)
few_pieces [] tail some = omega arith
few_pieces (p ∷ ps) tail some = omega (arith, some_one (length p.old) (length p.new) some.0, few_pieces ps tail some.1, length-append p.kept (p.old ++ old_of ps tail), length-append p.old (old_of ps tail), length-append p.kept (p.new ++ new_of ps tail), length-append p.new (new_of ps tail))

pub few_cuts : (s : List ℕ) (o : Overlay) → IsLaid s o → length o.cuts.items ≤ MAX_UNITS + MAX_UNITS
few_cuts s o h = omega (arith, ap length h.cuts_are, cuts_length [] [] [] h.pieces, few_pieces h.pieces h.tail h.some, ap length h.text_is, h.old_short, h.new_short)

abbrev pub record_of : ℕ → ℕ → LayerSize
record_of n u = record { changes = n; units = u }

pub size_laid : (s : List ℕ) (o : Overlay) (n : ℕ) → IsLaid s o → n ≡ length o.cuts.items → record_of n o.units ≡ size_of s (tags_of s o)
size_laid s o n h n_is = ap (λ (k : ℕ). record_of k o.units) (n_is ∙ sym (changes_laid s o h)) ∙ ap (record_of (length (gaps s (tags_of s o)))) (sym (units_laid s o h))
