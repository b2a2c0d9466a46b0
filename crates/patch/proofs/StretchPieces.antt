-- Stretches of an old text whose units are known: what is laid out from them is the gaps.
use Rattle.std.proofs.Common.{◌≡◌, ◌+◌, ◌<◌, ℕ, List, [], ◌∷◌, ◌++◌, length, map, Bool, false, cond, refl, sym, ap, ◌∙◌, arith}
use Rattle.std.proofs.lemmas.Bool.Decides.{nat_tests}
use Rattle.points.specs.declared.point.Point.{Point}
use Rattle.points.specs.Point.{origin, traverse}
use Rattle.points.specs.Place.{extent, same_point}
use Rattle.points.proofs.ExtentLemmas.{behind_whole}
use Rattle.patch.specs.Hunk.{Hunk}
use Rattle.patch.specs.Tagged.{Tagged, tagged_from, untagged, gaps}
use Rattle.patch.specs.Stretches.{Part, change_by, laid_by, laid, AreStretches}
use Rattle.patch.proofs.Pieces.{Piece, old_of, tag_of, changes_of, gaps_of_pieces}
use Rattle.patch.proofs.SplicePieces.{piece}

-- the stretch of a piece
abbrev pub part_of : Piece → Part
part_of p = record { kept = extent p.kept; old_text = p.old; new_text = p.new }

pub no_extent : (u : ℕ) (us : List ℕ) → same_point (extent (u ∷ us)) origin ≡ false
no_extent u us = some_extent (extent (u ∷ us)) (grind (arith, behind_whole (u ∷ us)))
  where
    some_extent : (p : Point) → 0 < p.row + p.column → same_point p origin ≡ false
    some_extent p some = grind (arith, nat_tests)

-- stretches of pieces are laid out as the changes of the pieces
pub pieces_laid : (a b : Point) (old new : List ℕ) (ps : List Piece) → laid_by traverse a b old new (map part_of ps) ≡ changes_of a b old new ps
pieces_laid a b old new [] = refl
pieces_laid a b old new (p ∷ ps) = at_kept p.kept (pieces_laid a b (old ++ p.old) (new ++ p.new) ps) (λ kept. pieces_laid (traverse (traverse a (extent old)) (extent kept)) (traverse (traverse b (extent new)) (extent kept)) p.old p.new ps)
  where
    at_kept : (kept : List ℕ) → laid_by traverse a b (old ++ p.old) (new ++ p.new) (map part_of ps) ≡ changes_of a b (old ++ p.old) (new ++ p.new) ps
        → ((xs : List ℕ) → laid_by traverse (traverse (traverse a (extent old)) (extent xs)) (traverse (traverse b (extent new)) (extent xs)) p.old p.new (map part_of ps) ≡ changes_of (traverse (traverse a (extent old)) (extent xs)) (traverse (traverse b (extent new)) (extent xs)) p.old p.new ps)
        → laid_by traverse a b old new (record { kept = extent kept; old_text = p.old; new_text = p.new } ∷ map part_of ps) ≡ changes_of a b old new (piece kept p.old p.new ∷ ps)
    at_kept [] joins apart = joins
    at_kept (u ∷ us) joins apart = ap (λ (none : Bool). cond none (laid_by traverse a b (old ++ p.old) (new ++ p.new) (map part_of ps))
        (change_by traverse a b old new ++ laid_by traverse (traverse (traverse a (extent old)) (extent (u ∷ us))) (traverse (traverse b (extent new)) (extent (u ∷ us))) p.old p.new (map part_of ps))) (no_extent u us)
        ∙ ap (λ (hs : List Hunk). change_by traverse a b old new ++ hs) (apart (u ∷ us))

-- the pieces of a text that is made of stretches
record HasPieces (i : ℕ) (parts : List Part) (s : List ℕ) (g : Tagged) : Type 0 where
  pieces : List Piece
  end : List ℕ
  parts_are : parts ≡ map part_of pieces
  text_is : s ≡ old_of pieces end
  tags_are : g ≡ tag_of i pieces end

has_pieces : (i : ℕ) (parts : List Part) (s : List ℕ) (g : Tagged) → AreStretches i parts s g → HasPieces i parts s g
has_pieces i [] s g is = record { pieces = []; end = s; parts_are = refl; text_is = refl; tags_are = is }
has_pieces i (p ∷ ps) s g (kept, rest, more, reach, text, tags, behind) =
    let later : HasPieces (i + length kept + length p.old_text) ps rest more = has_pieces (i + length kept + length p.old_text) ps rest more behind in
    record {
      pieces = piece kept p.old_text p.new_text ∷ later.pieces;
      end = later.end;
      parts_are = ap (λ (x : Point). record { kept = x; old_text = p.old_text; new_text = p.new_text } ∷ ps) (sym reach) ∙ ap (λ (qs : List Part). record { kept = extent kept; old_text = p.old_text; new_text = p.new_text } ∷ qs) later.parts_are;
      text_is = text ∙ ap (λ (xs : List ℕ). kept ++ (p.old_text ++ xs)) later.text_is;
      tags_are = tags ∙ ap (λ (x : Tagged). tagged_from i kept ++ (untagged p.new_text ++ x)) later.tags_are;
    }

-- what stretches are laid out as is the gaps of every text that is made of them
pub laid_are_gaps : (parts : List Part) (s : List ℕ) (g : Tagged) → AreStretches 0 parts s g → laid parts ≡ gaps s g
laid_are_gaps parts s g are =
    let has : HasPieces 0 parts s g = has_pieces 0 parts s g are in
    ap laid has.parts_are ∙ (pieces_laid origin origin [] [] has.pieces ∙ (sym (gaps_of_pieces s has.pieces has.end has.text_is) ∙ ap (gaps s) (sym has.tags_are)))
