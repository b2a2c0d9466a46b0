-- A text that fits a patch: the stretches between its changes filled with line feeds and one letter.
use Rattle.std.proofs.Common.{◌≡◌, ℕ, suc, zero, ◌+◌, List, [], ◌∷◌, ◌++◌, replicate, true, None, refl, sym, ap, ◌∙◌, subst, arith}
use Rattle.std.specs.List.{All}
use Rattle.std.proofs.lemmas.List.{length-replicate}
use Rattle.std.proofs.lemmas.List.Elements.{All-head, All-tail}
use Rattle.std.proofs.lemmas.Bool.{and_parts}
use Rattle.std.proofs.lemmas.Bool.Decides.{nat_tests}
use Rattle.points.specs.declared.point.Point.{Point}
use Rattle.points.specs.Point.{origin, point_le, traverse, traversal}
use Rattle.points.specs.Place.{extent}
use Rattle.points.proofs.PointLemmas.{same_coordinates, same_point-true, traverse-traversal}
use Rattle.points.proofs.ExtentLemmas.{feeds, behind, feeds-cons, behind-append, behind_whole, extent-append}
use Rattle.patch.specs.Hunk.{Hunk}
use Rattle.patch.specs.ChangeList.{fault_at, fault_from, IsOrdered, IsPatch}
use Rattle.patch.specs.Fit.{Fits}
use Rattle.patch.proofs.ListLemmas.{IsSound, sound_from, both_none, stretch_of}
use Rattle.patch.proofs.Pieces.{Piece, old_of}
use Rattle.patch.proofs.PatchPieces.{shown, same_hunk, hunk_between, new_text_of, old_text_of}
use Rattle.patch.proofs.ShownPieces.{shown_fit}

-- units that reach over an extent
abbrev pub filler : Point → List ℕ
filler reach = replicate reach.row 10 ++ replicate reach.column 97

feeds_lfs : (n : ℕ) → (feeds (replicate n 10) ≡ n) × (behind (replicate n 10) ≡ 0)
feeds_lfs zero = (refl, refl)
feeds_lfs (suc n) = let rest = feeds_lfs n in (feeds-cons 10 (replicate n 10) ∙ omega (arith, rest), behind_lf n rest)
  where
    behind_lf : (n : ℕ) → (feeds (replicate n 10) ≡ n) × (behind (replicate n 10) ≡ 0) → behind (10 ∷ replicate n 10) ≡ 0
    behind_lf n rest = grind (arith, nat_tests, behind-append (10 ∷ []) (replicate n 10), rest, length-replicate {A = ℕ} n 10)

feeds_letters : (n : ℕ) → feeds (replicate n 97) ≡ 0
feeds_letters zero = refl
feeds_letters (suc n) = feeds-cons 97 (replicate n 97) ∙ omega (arith, feeds_letters n)

pub extent-filler : (reach : Point) → extent (filler reach) ≡ reach
extent-filler reach = let lfs = feeds_lfs reach.row in let none = feeds_letters reach.column in
    extent-append (replicate reach.row 10) (replicate reach.column 97) ∙ same_coordinates (traverse (extent (replicate reach.row 10)) (extent (replicate reach.column 97))) reach
    (grind (arith, nat_tests, lfs, none)) (grind (arith, nat_tests, lfs, none, behind_whole (replicate reach.column 97) none, length-replicate {A = ℕ} reach.column 97))

-- the pieces of a patch on such a text
abbrev pub filled : Point → List Hunk → List Piece
filled a [] = []
filled a (h ∷ hs) = record { kept = filler (traversal h.old_start a); old = h.old_text; new = h.new_text } ∷ filled h.old_end hs

filled_hunk : (at : ℕ) (a b : Point) (h : Hunk) → IsSound at a b h → IsOrdered h
    → h ≡ hunk_between (traverse a (extent (filler (traversal h.old_start a)))) (traverse b (extent (filler (traversal h.old_start a)))) h.old_text h.new_text
filled_hunk at a b h sound ordered = same_hunk h (traverse a (extent (filler (traversal h.old_start a)))) (traverse b (extent (filler (traversal h.old_start a)))) start_is end_is new_start_is new_end_is
  where
    reach : extent (filler (traversal h.old_start a)) ≡ traversal h.old_start a
    reach = extent-filler (traversal h.old_start a)

    behind_both : (point_le a h.old_start ≡ true) × (point_le b h.new_start ≡ true)
    behind_both = and_parts (point_le a h.old_start) (point_le b h.new_start) sound.behind

    start_is : h.old_start ≡ traverse a (extent (filler (traversal h.old_start a)))
    start_is = sym (ap (traverse a) reach ∙ traverse-traversal h.old_start a behind_both.0)

    end_is : h.old_end ≡ traverse (traverse a (extent (filler (traversal h.old_start a)))) (extent h.old_text)
    end_is = sym (traverse-traversal h.old_end h.old_start ordered.0) ∙ (ap (traverse h.old_start) (sym (same_point-true (extent h.old_text) (traversal h.old_end h.old_start) (old_text_of at a b h sound))) ∙ ap (λ (x : Point). traverse x (extent h.old_text)) start_is)

    new_start_is : h.new_start ≡ traverse b (extent (filler (traversal h.old_start a)))
    new_start_is = sym (ap (traverse b) (reach ∙ same_point-true (traversal h.old_start a) (traversal h.new_start b) (stretch_of at a b h sound)) ∙ traverse-traversal h.new_start b behind_both.1)

    new_end_is : h.new_end ≡ traverse (traverse b (extent (filler (traversal h.old_start a)))) (extent h.new_text)
    new_end_is = sym (traverse-traversal h.new_end h.new_start ordered.1) ∙ (ap (traverse h.new_start) (sym (same_point-true (extent h.new_text) (traversal h.new_end h.new_start) (new_text_of at a b h sound))) ∙ ap (λ (x : Point). traverse x (extent h.new_text)) new_start_is)

shown_filled : (at : ℕ) (a b : Point) (p : List Hunk) → fault_from at a b p ≡ None → All IsOrdered p → p ≡ shown a b (filled a p)
shown_filled at a b [] none ordered = refl
shown_filled at a b (h ∷ hs) none ordered =
    let parts = both_none (fault_at at a b h) (fault_from (at + 1) h.old_end h.new_end hs) none in
    let is = filled_hunk at a b h (sound_from at a b h parts.0) (All-head IsOrdered h hs ordered) in
    let kept : List ℕ = filler (traversal h.old_start a) in
    let rest = shown_filled (at + 1) h.old_end h.new_end hs parts.1 (All-tail IsOrdered h hs ordered) in
    ap (λ (x : Hunk). x ∷ hs) is ∙ ap (λ (xs : List Hunk). hunk_between (traverse a (extent kept)) (traverse b (extent kept)) h.old_text h.new_text ∷ xs)
    (rest ∙ (ap (λ (x : Point). shown x h.new_end (filled h.old_end hs)) (ap (λ (x : Hunk). x.old_end) is) ∙ ap (λ (x : Point). shown (traverse (traverse a (extent kept)) (extent h.old_text)) x (filled h.old_end hs)) (ap (λ (x : Hunk). x.new_end) is)))

-- some text fits every patch
pub some_fits : (p : List Hunk) → IsPatch p → (s : List ℕ) × Fits p s
some_fits p is_patch = let s : List ℕ = old_of (filled origin p) [] in
    (s, subst (λ (hs : List Hunk). Fits hs s) (sym (shown_filled 0 origin origin p is_patch.0 is_patch.1)) (shown_fit s [] origin (filled origin p) [] refl))
