-- The gaps of a tagged text that is made of pieces: they keep the rules of a patch but for its limits, fit the text, and make the tagged text of it.
use Rattle.std.proofs.Common.{◌≡◌, ℕ, ◌+◌, ◌<◌, ◌≤◌, ◌^◌, ◌==◌, List, [], ◌∷◌, ◌++◌, length, ltb, Bool, true, false, ◌&&◌, ◌||◌, None, refl, sym, ap, ◌∙◌, subst, arith, append_assoc, length-append}
use Rattle.std.specs.List.{All}
use Rattle.std.proofs.lemmas.List.Elements.{All-nil, All-cons}
use Rattle.std.proofs.lemmas.Bool.{and_from, cond-false, ne_eqb}
use Rattle.std.proofs.lemmas.Bool.Decides.{nat_tests}
use Rattle.points.specs.declared.point.Point.{Point}
use Rattle.points.specs.Point.{origin, point_le, traverse, traversal}
use Rattle.points.specs.Place.{extent, same_point}
use Rattle.points.proofs.PointLemmas.{traverse_origin, traversal-traverse, point_le-traverse, same_point-refl}
use Rattle.points.proofs.ExtentLemmas.{behind_whole}
use Rattle.patch.specs.Hunk.{Hunk}
use Rattle.patch.specs.ChangeList.{reaches_far, fault_from, IsOrdered, IsPatch}
use Rattle.patch.specs.Tagged.{Tagged, tagged_from, untagged, gaps}
use Rattle.patch.specs.Fit.{Fits, tag}
use Rattle.patch.specs.Stretches.{any_far}
use Rattle.patch.specs.Splicing.{KeepsLimits}
use Rattle.patch.proofs.ListLemmas.{fault_none}
use Rattle.patch.proofs.GapLists.{IsGap, AreGaps, IsGapList}
use Rattle.patch.proofs.Pieces.{Piece, old_of, tag_of, changes_of, is_none, AllApart, AllApartBehind, AllSome, gaps_of_pieces}
use Rattle.patch.proofs.PatchPieces.{hunk_between, shown}
use Rattle.patch.proofs.ShownPieces.{shown_fit, shown_tag}
use Rattle.patch.proofs.SplicePieces.{piece, tagged-append, untagged-append}
use Rattle.patch.proofs.AbsorbLemmas.{extent_two}

-- a unit in either text is enough
some_old : (u : ℕ) (us new : List ℕ) → ((length (u ∷ us) == 0) && (length new == 0)) ≡ false
some_old u us new = grind (arith, nat_tests)

some_new : (u : ℕ) (us old : List ℕ) → ((length old == 0) && (length (u ∷ us) == 0)) ≡ false
some_new u us old = grind (arith, nat_tests)

-- what is kept, the texts of the open change and the pieces behind it, as pieces that lie apart and are never empty
record AreNormal (a b : Point) (kept old new : List ℕ) (ps : List Piece) (tail : List ℕ) : Type 0 where
  pieces : List Piece
  end : List ℕ
  old_is : kept ++ (old ++ old_of ps tail) ≡ old_of pieces end
  tag_is : (i : ℕ) → tagged_from i kept ++ (untagged new ++ tag_of (i + length kept + length old) ps tail) ≡ tag_of i pieces end
  is : changes_of (traverse a (extent kept)) (traverse b (extent kept)) old new ps ≡ shown a b pieces
  behind : AllApartBehind pieces
  apart : is_none kept ≡ false → AllApart pieces
  some : AllSome pieces

-- nothing is open
closed_tail : (a b : Point) (kept tail : List ℕ) → AreNormal a b kept [] [] [] tail
closed_tail a b kept tail = record {
  pieces = [];
  end = kept ++ tail;
  old_is = refl;
  tag_is = λ i. ap (λ (n : ℕ). tagged_from i kept ++ tagged_from n tail) (omega arith) ∙ sym (tagged-append i kept tail);
  is = refl;
  behind = tt;
  apart = λ _. tt;
  some = tt;
}

-- the open change is the last
open_tail : (a b : Point) (kept old new tail : List ℕ) → ((length old == 0) && (length new == 0)) ≡ false → AreNormal a b kept old new [] tail
open_tail a b kept old new tail some_units = record {
  pieces = piece kept old new ∷ [];
  end = tail;
  old_is = refl;
  tag_is = λ i. refl;
  is = cond-false ((length old == 0) && (length new == 0)) [] _ some_units;
  behind = tt;
  apart = λ some_kept. (some_kept, tt);
  some = (some_units, tt);
}

normal_tail : (a b : Point) (kept old new tail : List ℕ) → AreNormal a b kept old new [] tail
normal_tail a b kept [] [] tail = closed_tail a b kept tail
normal_tail a b kept [] (u ∷ us) tail = open_tail a b kept [] (u ∷ us) tail (some_new u us [])
normal_tail a b kept (u ∷ us) new tail = open_tail a b kept (u ∷ us) new tail (some_old u us new)

module _ (p_old p_new : List ℕ) (ps : List Piece) (tail : List ℕ) (rest : (a b : Point) (kept old new : List ℕ) → AreNormal a b kept old new ps tail) (a b : Point) (kept : List ℕ) where
  -- the next piece joins the open change
  normal_joins : (old new : List ℕ) → AreNormal a b kept old new (piece [] p_old p_new ∷ ps) tail
  normal_joins old new = let r = rest a b kept (old ++ p_old) (new ++ p_new) in record {
    pieces = r.pieces;
    end = r.end;
    old_is = ap (λ (xs : List ℕ). kept ++ xs) (sym (append_assoc old p_old (old_of ps tail))) ∙ r.old_is;
    tag_is = λ i. ap (λ (g : Tagged). tagged_from i kept ++ g) (sym (append_assoc (untagged new) (untagged p_new) (tag_of (i + length kept + length old + 0 + length p_old) ps tail))
        ∙ (ap (λ (g : Tagged). g ++ tag_of (i + length kept + length old + 0 + length p_old) ps tail) (sym (untagged-append new p_new))
        ∙ ap (λ (n : ℕ). untagged (new ++ p_new) ++ tag_of n ps tail) (omega (arith, length-append old p_old)))) ∙ r.tag_is i;
    is = r.is;
    behind = r.behind;
    apart = r.apart;
    some = r.some;
  }

  module _ (u : ℕ) (us : List ℕ) where
    -- nothing was open
    normal_closed : AreNormal a b kept [] [] (piece (u ∷ us) p_old p_new ∷ ps) tail
    normal_closed = let r = rest a b (kept ++ u ∷ us) p_old p_new in record {
      pieces = r.pieces;
      end = r.end;
      old_is = sym (append_assoc kept (u ∷ us) (p_old ++ old_of ps tail)) ∙ r.old_is;
      tag_is = λ i. sym (append_assoc (tagged_from i kept) (tagged_from (i + length kept + 0) (u ∷ us)) (untagged p_new ++ tag_of (i + length kept + 0 + length (u ∷ us) + length p_old) ps tail))
          ∙ (ap (λ (n : ℕ). (tagged_from i kept ++ tagged_from n (u ∷ us)) ++ (untagged p_new ++ tag_of (n + length (u ∷ us) + length p_old) ps tail)) (omega arith)
          ∙ (ap (λ (g : Tagged). g ++ (untagged p_new ++ tag_of (i + length kept + length (u ∷ us) + length p_old) ps tail)) (sym (tagged-append i kept (u ∷ us)))
          ∙ (ap (λ (n : ℕ). tagged_from i (kept ++ u ∷ us) ++ (untagged p_new ++ tag_of (n + length p_old) ps tail)) (omega (arith, length-append kept (u ∷ us)))
          ∙ r.tag_is i)));
      is = ap (λ (x : Point). changes_of x (traverse (traverse (traverse b (extent kept)) (extent [])) (extent (u ∷ us))) p_old p_new ps) (way a)
          ∙ (ap (λ (x : Point). changes_of (traverse a (extent (kept ++ u ∷ us))) x p_old p_new ps) (way b) ∙ r.is);
      behind = r.behind;
      apart = λ some_kept. r.apart (still_kept kept some_kept);
      some = r.some;
    }
      where
        way : (x : Point) → traverse (traverse (traverse x (extent kept)) (extent [])) (extent (u ∷ us)) ≡ traverse x (extent (kept ++ u ∷ us))
        way x = ap (λ (y : Point). traverse y (extent (u ∷ us))) (traverse_origin (traverse x (extent kept))) ∙ sym (extent_two x kept (u ∷ us))

        still_kept : (xs : List ℕ) → is_none xs ≡ false → is_none (xs ++ u ∷ us) ≡ false
        still_kept [] e = refl
        still_kept (y ∷ ys) e = refl

    -- the open change ends
    normal_ends : (old new : List ℕ) → ((length old == 0) && (length new == 0)) ≡ false → AreNormal a b kept old new (piece (u ∷ us) p_old p_new ∷ ps) tail
    normal_ends old new some_units =
        let r = rest (traverse (traverse a (extent kept)) (extent old)) (traverse (traverse b (extent kept)) (extent new)) (u ∷ us) p_old p_new in record {
          pieces = piece kept old new ∷ r.pieces;
          end = r.end;
          old_is = ap (λ (xs : List ℕ). kept ++ (old ++ xs)) r.old_is;
          tag_is = λ i. ap (λ (g : Tagged). tagged_from i kept ++ (untagged new ++ g)) (r.tag_is (i + length kept + length old));
          is = ap (λ (hs : List Hunk). hs ++ changes_of (traverse (traverse (traverse a (extent kept)) (extent old)) (extent (u ∷ us))) (traverse (traverse (traverse b (extent kept)) (extent new)) (extent (u ∷ us))) p_old p_new ps)
              (cond-false ((length old == 0) && (length new == 0)) [] (hunk_between (traverse a (extent kept)) (traverse b (extent kept)) old new ∷ []) some_units)
              ∙ ap (λ (hs : List Hunk). hunk_between (traverse a (extent kept)) (traverse b (extent kept)) old new ∷ hs) r.is;
          behind = r.apart refl;
          apart = λ some_kept. (some_kept, r.apart refl);
          some = (some_units, r.some);
        }

    normal_kept : (old new : List ℕ) → AreNormal a b kept old new (piece (u ∷ us) p_old p_new ∷ ps) tail
    normal_kept [] [] = normal_closed
    normal_kept [] (v ∷ vs) = normal_ends [] (v ∷ vs) (some_new v vs [])
    normal_kept (v ∷ vs) new = normal_ends (v ∷ vs) new (some_old v vs new)

  normal_next : (p_kept old new : List ℕ) → AreNormal a b kept old new (piece p_kept p_old p_new ∷ ps) tail
  normal_next [] old new = normal_joins old new
  normal_next (u ∷ us) old new = normal_kept u us old new

normal : (ps : List Piece) (tail : List ℕ) (a b : Point) (kept old new : List ℕ) → AreNormal a b kept old new ps tail
normal [] tail a b kept old new = normal_tail a b kept old new tail
normal (p ∷ ps) tail a b kept old new = normal_next p.old p.new ps tail (normal ps tail) a b kept p.kept old new

-- the changes of such pieces keep the rules
moved_on : (a : Point) (kept : List ℕ) → is_none kept ≡ false → same_point (traverse a (extent kept)) a ≡ false
moved_on a [] e = cc
moved_on a (u ∷ us) e = not_same a (extent (u ∷ us)) (grind (arith, behind_whole (u ∷ us)))
  where
    not_same : (p q : Point) → 0 < q.row + q.column → same_point (traverse p q) p ≡ false
    not_same p q some_reach = grind (arith, nat_tests)

gap_between : (later : Bool) (a b : Point) (kept old new : List ℕ) → ((length old == 0) && (length new == 0)) ≡ false → (later ≡ true → is_none kept ≡ false)
    → IsGap later a b (hunk_between (traverse a (extent kept)) (traverse b (extent kept)) old new)
gap_between later a b kept old new some_units some_kept = record {
  behind = and_from (point_le a A) (point_le b B) (point_le-traverse a (extent kept)) (point_le-traverse b (extent kept));
  apart = not_touching later some_kept;
  extents = and_from (same_point (traversal A a) (traversal B b) && same_point (extent old) (traversal (traverse A (extent old)) A)) (same_point (extent new) (traversal (traverse B (extent new)) B))
      (and_from (same_point (traversal A a) (traversal B b)) (same_point (extent old) (traversal (traverse A (extent old)) A))
      (ap (λ (x : Point). same_point x (traversal B b)) (traversal-traverse a (extent kept)) ∙ (ap (same_point (extent kept)) (traversal-traverse b (extent kept)) ∙ same_point-refl (extent kept)))
      (reach A old)) (reach B new);
  some_units = some_units;
  ordered = (point_le-traverse A (extent old), point_le-traverse B (extent new));
}
  where
    A : Point
    A = traverse a (extent kept)

    B : Point
    B = traverse b (extent kept)

    reach : (x : Point) (t : List ℕ) → same_point (extent t) (traversal (traverse x (extent t)) x) ≡ true
    reach x t = ap (same_point (extent t)) (traversal-traverse x (extent t)) ∙ same_point-refl (extent t)

    not_touching : (later : Bool) → (later ≡ true → is_none kept ≡ false) → (later && same_point (traverse a (extent kept)) a) ≡ false
    not_touching false h = refl
    not_touching true h = moved_on a kept (h refl)

pub shown_gaps : (later : Bool) (a b : Point) (ps : List Piece) → AllSome ps → AllApartBehind ps → (later ≡ true → AllApart ps) → AreGaps later a b (shown a b ps)
shown_gaps later a b [] some_units behind apart = tt
shown_gaps later a b (p ∷ ps) some_units behind apart = (
  gap_between later a b p.kept p.old p.new some_units.0 (λ is_later. (apart is_later).0),
  shown_gaps true (traverse (traverse a (extent p.kept)) (extent p.old)) (traverse (traverse b (extent p.kept)) (extent p.new)) ps some_units.1 (all_behind ps behind) (λ _. behind),
)
  where
    all_behind : (ps : List Piece) → AllApart ps → AllApartBehind ps
    all_behind [] all = tt
    all_behind (p ∷ ps) all = all.1

-- changes between s and the tagged text g
pub record AreGapsOf (s : List ℕ) (g : Tagged) (q : List Hunk) : Type 0 where
  pub keep : IsGapList q
  pub fit : Fits q s
  pub tag_is : tag q s ≡ g

pub gaps_made : (s : List ℕ) (g : Tagged) (ps : List Piece) (tail : List ℕ) → s ≡ old_of ps tail → g ≡ tag_of 0 ps tail → AreGapsOf s g (gaps s g)
gaps_made s g ps tail s_is g_is = subst (AreGapsOf s g) (sym all_is) record {
  keep = shown_gaps false origin origin n.pieces n.some n.behind (λ e. absurd (never e));
  fit = shown_fit s [] origin n.pieces n.end text;
  tag_is = shown_tag s [] origin n.pieces n.end text ∙ sym (g_is ∙ (ap (λ (k : ℕ). tag_of k ps tail) (omega arith) ∙ n.tag_is 0));
}
  where
    n : AreNormal origin origin [] [] [] ps tail
    n = normal ps tail origin origin [] [] []

    never : false ≡ true → ⊥
    never e = cc

    text : s ≡ old_of n.pieces n.end
    text = s_is ∙ n.old_is

    all_is : gaps s g ≡ shown origin origin n.pieces
    all_is = ap (gaps s) g_is ∙ (gaps_of_pieces s ps tail s_is ∙ n.is)

-- where they don't pass the limits, they are a patch
near_parts : (h : Hunk) (hs : List Hunk) → any_far (h ∷ hs) ≡ false → (reaches_far h ≡ false) × (any_far hs ≡ false)
near_parts h hs e = both (reaches_far h) (any_far hs) e
  where
    both : (x y : Bool) → (x || y) ≡ false → (x ≡ false) × (y ≡ false)
    both true y e = cc
    both false y e = (refl, e)

no_fault : (at : ℕ) (later : Bool) (a b : Point) (p : List Hunk) → later ≡ ltb 0 at → AreGaps later a b p → any_far p ≡ false → at + length p ≤ 2 ^ 24 → fault_from at a b p ≡ None
no_fault at later a b [] later_is keep near few = refl
no_fault at later a b (h ∷ hs) later_is keep near few = let parts = near_parts h hs near in
    rw (fault_none at a b h record {
      behind = keep.0.behind;
      apart = ap (λ (x : Bool). x && same_point h.old_start a) (sym later_is) ∙ keep.0.apart;
      extents = keep.0.extents;
      some_units = keep.0.some_units;
      near = parts.0;
      few = ne_eqb at (2 ^ 24) (λ e. absurd (too_many e));
    }) (no_fault (at + 1) true h.old_end h.new_end hs (grind (arith, nat_tests)) keep.1 parts.1 (omega (arith, few)))
  where
    too_many : at ≡ 2 ^ 24 → ⊥
    too_many e = omega (arith, few)

pub all_ordered : (later : Bool) (a b : Point) (p : List Hunk) → AreGaps later a b p → All IsOrdered p
all_ordered later a b [] keep = All-nil IsOrdered
all_ordered later a b (h ∷ hs) keep = All-cons IsOrdered h hs keep.0.ordered (all_ordered true h.old_end h.new_end hs keep.1)

pub patch_within : (p : List Hunk) → IsGapList p → KeepsLimits p → IsPatch p
patch_within p keep within = (no_fault 0 false origin origin p refl keep within.0 (omega (arith, within.1)), all_ordered false origin origin p keep)
