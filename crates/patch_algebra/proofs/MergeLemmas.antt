-- The merge of two patches on a text that they fit in turn: its stretches make the gaps of both.
use Rattle.std.proofs.Common.{◌≡◌, ℕ, suc, zero, ◌+◌, ◌-◌, ◌<◌, ◌≤◌, List, [], ◌∷◌, ◌++◌, length, take, drop, map, cond, slice_range, unwrap_or, Bool, true, false, Option, Some, None, Result, Ok, Err, refl, sym, ap, ◌∙◌, subst, inl, inr, arith, append_assoc, length-append, length-drop}
use Rattle.std.specs.Prelude.{IfOk, IfErr}
use Rattle.std.proofs.lemmas.List.{append-nil, append_cancel_left, drop_at, take_at, drop-drop, map-append}
use Rattle.std.proofs.lemmas.Bool.{cases_lt}
use Rattle.std.proofs.lemmas.Bool.Decides.{nat_tests}
use Rattle.points.specs.declared.point.Point.{Point}
use Rattle.points.specs.Point.{origin, point_le, traverse, traversal}
use Rattle.points.specs.Place.{extent, offset_of, same_point}
use Rattle.points.proofs.PointLemmas.{traverse_origin, traversal-traverse, point_le-traverse}
use Rattle.points.proofs.ExtentLemmas.{extent-append, behind_whole}
use Rattle.points.proofs.OffsetLemmas.{offset_of-at}
use Rattle.patch.specs.Hunk.{Hunk, PatchView}
use Rattle.patch.specs.ChangeList.{IsPatch}
use Rattle.patch.proofs.MovedLemmas.{keeps_limits}
use Rattle.patch.specs.Tagged.{Tagged, tagged_from, tagged, untagged, units_of, gaps}
use Rattle.patch.specs.Fit.{Fits, offset_in, tag_from, tag, applied}
use Rattle.patch.specs.Stretches.{Part, change_by, laid_by, laid, Refuses}
use Rattle.patch.specs.Splicing.{KeepsLimits}
use Rattle.patch.specs.declared.refusal.PatchRefusal.{PatchRefusal}
use Rattle.patch.proofs.StretchPieces.{part_of, pieces_laid}
use Rattle.patch.proofs.Pieces.{Piece, old_of, new_of, tag_of, gaps_of_pieces}
use Rattle.patch.proofs.PatchPieces.{shown, taken, IsCut, cut_of}
use Rattle.patch.proofs.ShownPieces.{units_of_pieces}
use Rattle.patch.proofs.GapPieces.{AreGapsOf, gaps_made}
use Rattle.patch.proofs.SplicePieces.{piece, old-append, tag-append, tagged-append, length-tagged, length-tag, untagged-append, IsAbsorbed, absorbed_tail, absorbed_kept, absorbed_new, absorbed_more}
use Rattle.patch.proofs.AbsorbLemmas.{shorter, behind_it, extent_two, not_reached, reached}
use Rattle.patch_algebra.specs.Composing.{replaced_from, composed, FitsBoth, IsComposed, DoesBoth}
use Rattle.patch_algebra.specs.Merging.{Between, between, part_to, part_between, parts_between, Opening, opened, cut_offset, left_of, opening, Removal, removal_made, taken_out, left_behind, removal, merged}
use Rattle.patch_algebra.proofs.MergeSteps.{opening_stops, opening_passes, opening_cuts, removal_none, removal_ends, removal_more, left_none, left_some}

-- stretches that are laid out alike behind any open change
abbrev pub Alike : List Part → List Part → Type 0
Alike ps qs = (a b : Point) (old new : List ℕ) → laid_by traverse a b old new ps ≡ laid_by traverse a b old new qs

-- one stretch more before such
alike_behind : (p : Part) (ps qs : List Part) → Alike ps qs → Alike (p ∷ ps) (p ∷ qs)
alike_behind p ps qs h a b old new = at_kept (same_point p.kept origin)
    (h a b (old ++ p.old_text) (new ++ p.new_text)) (h (traverse (traverse a (extent old)) p.kept) (traverse (traverse b (extent new)) p.kept) p.old_text p.new_text)
  where
    at_kept : (none : Bool) → laid_by traverse a b (old ++ p.old_text) (new ++ p.new_text) ps ≡ laid_by traverse a b (old ++ p.old_text) (new ++ p.new_text) qs
        → laid_by traverse (traverse (traverse a (extent old)) p.kept) (traverse (traverse b (extent new)) p.kept) p.old_text p.new_text ps ≡ laid_by traverse (traverse (traverse a (extent old)) p.kept) (traverse (traverse b (extent new)) p.kept) p.old_text p.new_text qs
        → cond none (laid_by traverse a b (old ++ p.old_text) (new ++ p.new_text) ps) (change_by traverse a b old new ++ laid_by traverse (traverse (traverse a (extent old)) p.kept) (traverse (traverse b (extent new)) p.kept) p.old_text p.new_text ps)
        ≡ cond none (laid_by traverse a b (old ++ p.old_text) (new ++ p.new_text) qs) (change_by traverse a b old new ++ laid_by traverse (traverse (traverse a (extent old)) p.kept) (traverse (traverse b (extent new)) p.kept) p.old_text p.new_text qs)
    at_kept true joins apart = joins
    at_kept false joins apart = ap (λ (hs : List Hunk). change_by traverse a b old new ++ hs) apart

alike_all : (fs ps qs : List Part) → Alike ps qs → Alike (fs ++ ps) (fs ++ qs)
alike_all [] ps qs h = h
alike_all (f ∷ fs) ps qs h = alike_behind f (fs ++ ps) (fs ++ qs) (alike_all fs ps qs h)

-- stretches that take out these units, with nothing kept between
abbrev pub TakesOut : List Part → List ℕ → Type 0
TakesOut ps mid = (a b : Point) (old new : List ℕ) (rest : List Part) → laid_by traverse a b old new (ps ++ rest) ≡ laid_by traverse a b (old ++ mid) new rest

takes_one : (units : List ℕ) → TakesOut (taken_out units ∷ []) units
takes_one units a b old new rest = ap (λ (xs : List ℕ). laid_by traverse a b (old ++ units) xs rest) (append-nil new)

takes_more : (units mid : List ℕ) (ps : List Part) → TakesOut ps mid → TakesOut (taken_out units ∷ ps) (units ++ mid)
takes_more units mid ps h a b old new rest = ap (λ (xs : List ℕ). laid_by traverse a b (old ++ units) xs (ps ++ rest)) (append-nil new)
    ∙ (h a b (old ++ units) new rest ∙ ap (λ (xs : List ℕ). laid_by traverse a b xs new rest) (append_assoc old units mid))

-- the changes of pieces, as they stand in the new text behind the point b
abbrev pub seen : Point → List Piece → List Between
seen b [] = []
seen b (p ∷ ps) = record { start = traverse b (extent p.kept); end = traverse (traverse b (extent p.kept)) (extent p.new); old_text = p.old; new_text = p.new } ∷ seen (traverse (traverse b (extent p.kept)) (extent p.new)) ps

pub seen_shown : (a b : Point) (ps : List Piece) → map between (shown a b ps) ≡ seen b ps
seen_shown a b [] = refl
seen_shown a b (p ∷ ps) = ap (λ (ms : List Between). record { start = traverse b (extent p.kept); end = traverse (traverse b (extent p.kept)) (extent p.new); old_text = p.old; new_text = p.new } ∷ ms)
    (seen_shown (traverse (traverse a (extent p.kept)) (extent p.old)) (traverse (traverse b (extent p.kept)) (extent p.new)) ps)

abbrev one_seen : Point → Point → List ℕ → List ℕ → Between
one_seen start end old new = record { start = start; end = end; old_text = old; new_text = new }

-- a place behind a point, by some units
past : (a : Point) (xs : List ℕ) → 0 < length xs → point_le (traverse a (extent xs)) a ≡ false
past a [] some = absurd (omega arith)
past a (u ∷ us) some = not_back a (extent (u ∷ us)) (grind (arith, behind_whole (u ∷ us)))
  where
    not_back : (p e : Point) → 0 < e.row + e.column → point_le (traverse p e) p ≡ false
    not_back p e some_extent = grind (arith, nat_tests)

-- pieces up to a place: those before it, the last of which may be cut there, what stays behind them, and those from the place on
record IsOpening (b to : Point) (ps : List Piece) (tail k z : List ℕ) (o : Opening) : Type 0 where
  front : List Piece
  kept : List ℕ
  rest : List Piece
  rest_tail : List ℕ
  old_is : old_of ps tail ≡ old_of front [] ++ (kept ++ old_of rest rest_tail)
  new_is : k ≡ new_of front [] ++ kept
  rest_new : new_of rest rest_tail ≡ z
  tag_is : (i : ℕ) → tag_of i ps tail ≡ tag_of i front [] ++ (tagged_from (i + length (old_of front [])) kept ++ tag_of (i + length (old_of front []) + length kept) rest rest_tail)
  parts_is : o.parts ≡ map part_of front
  way_is : traversal to o.place ≡ extent kept
  rest_is : o.rest ≡ seen to rest

opening_tail : (b to : Point) (tail k z : List ℕ) → to ≡ traverse b (extent k) → tail ≡ k ++ z → IsOpening b to [] tail k z (opened [] b [])
opening_tail b to tail k z to_is text_is = record {
  front = [];
  kept = k;
  rest = [];
  rest_tail = z;
  old_is = text_is;
  new_is = refl;
  rest_new = refl;
  tag_is = λ i. ap (tagged_from i) text_is ∙ (tagged-append i k z ∙ ap (λ (n : ℕ). tagged_from n k ++ tagged_from (n + length k) z) (omega arith));
  parts_is = refl;
  way_is = ap (λ (x : Point). traversal x b) to_is ∙ traversal-traverse b (extent k);
  rest_is = refl;
}

module _ (b to : Point) (p : Piece) (ps : List Piece) (tail k z : List ℕ) (to_is : to ≡ traverse b (extent k)) (text_is : p.kept ++ (p.new ++ new_of ps tail) ≡ k ++ z) where
  abbrev new_end : Point
  new_end = traverse (traverse b (extent p.kept)) (extent p.new)

  abbrev m : Between
  m = one_seen (traverse b (extent p.kept)) (traverse (traverse b (extent p.kept)) (extent p.new)) p.old p.new

  -- the place isn't behind the change's start
  opening_kept : length k ≤ length p.kept → IsOpening b to (p ∷ ps) tail k z (opening b to (m ∷ seen new_end ps))
  opening_kept le = subst (IsOpening b to (p ∷ ps) tail k z) (sym (opening_stops b to m (seen new_end ps) behind)) record {
    front = [];
    kept = k;
    rest = piece w p.old p.new ∷ ps;
    rest_tail = tail;
    old_is = ap (λ (xs : List ℕ). xs ++ (p.old ++ old_of ps tail)) kept_is ∙ append_assoc k w (p.old ++ old_of ps tail);
    new_is = refl;
    rest_new = append_cancel_left k (w ++ (p.new ++ new_of ps tail)) z (sym (append_assoc k w (p.new ++ new_of ps tail)) ∙ (ap (λ (xs : List ℕ). xs ++ (p.new ++ new_of ps tail)) (sym kept_is) ∙ text_is));
    tag_is = λ i. ap (λ (xs : List ℕ). tagged_from i xs ++ (untagged p.new ++ tag_of (i + length xs + length p.old) ps tail)) kept_is
        ∙ (ap (λ (g : Tagged). g ++ (untagged p.new ++ tag_of (i + length (k ++ w) + length p.old) ps tail)) (tagged-append i k w)
        ∙ (append_assoc (tagged_from i k) (tagged_from (i + length k) w) (untagged p.new ++ tag_of (i + length (k ++ w) + length p.old) ps tail)
        ∙ (ap (λ (n : ℕ). tagged_from i k ++ (tagged_from (i + length k) w ++ (untagged p.new ++ tag_of (n + length p.old) ps tail))) (omega (arith, length-append k w))
        ∙ ap (λ (n : ℕ). tagged_from n k ++ (tagged_from (n + length k) w ++ (untagged p.new ++ tag_of (n + length k + length w + length p.old) ps tail))) (omega arith))));
    parts_is = refl;
    way_is = ap (λ (x : Point). traversal x b) to_is ∙ traversal-traverse b (extent k);
    rest_is = ap (λ (x : Point). one_seen x (traverse x (extent p.new)) p.old p.new ∷ seen (traverse x (extent p.new)) ps) start_is;
  }
    where
      w : List ℕ
      w = drop (length k) p.kept

      kept_is : p.kept ≡ k ++ drop (length k) p.kept
      kept_is = shorter p.kept (p.new ++ new_of ps tail) k z text_is le

      start_is : traverse b (extent p.kept) ≡ traverse to (extent (drop (length k) p.kept))
      start_is = ap (λ (xs : List ℕ). traverse b (extent xs)) kept_is ∙ (extent_two b k (drop (length k) p.kept) ∙ ap (λ (x : Point). traverse x (extent (drop (length k) p.kept))) (sym to_is))

      behind : point_le to (traverse b (extent p.kept)) ≡ true
      behind = subst (λ (x : Point). point_le to x ≡ true) (sym start_is) (point_le-traverse to (extent (drop (length k) p.kept)))

  module _ (lt : length p.kept < length k) where
    k_is : k ≡ p.kept ++ drop (length p.kept) k
    k_is = shorter k z p.kept (p.new ++ new_of ps tail) (sym text_is) (omega arith)

    text_behind : p.new ++ new_of ps tail ≡ drop (length p.kept) k ++ z
    text_behind = behind_it p.kept (p.new ++ new_of ps tail) k z text_is k_is

    to_behind : to ≡ traverse (traverse b (extent p.kept)) (extent (drop (length p.kept) k))
    to_behind = to_is ∙ (ap (λ (xs : List ℕ). traverse b (extent xs)) k_is ∙ extent_two b p.kept (drop (length p.kept) k))

    starts : point_le to (traverse b (extent p.kept)) ≡ false
    starts = subst (λ (x : Point). point_le x (traverse b (extent p.kept)) ≡ false) (sym to_behind) (past (traverse b (extent p.kept)) (drop (length p.kept) k) (omega (arith, length-drop (length p.kept) k)))

    -- it stands in the change's new text
    opening_cut : length (drop (length p.kept) k) < length p.new → IsOpening b to (p ∷ ps) tail k z (opening b to (m ∷ seen new_end ps))
    opening_cut in_new = subst (IsOpening b to (p ∷ ps) tail k z) (sym (opening_cuts b to m (seen new_end ps) starts ends ∙ computed)) record {
      front = piece p.kept p.old k1 ∷ [];
      kept = [];
      rest = piece [] [] w ∷ ps;
      rest_tail = tail;
      old_is = sym (append_assoc p.kept (p.old ++ []) (old_of ps tail) ∙ ap (λ (xs : List ℕ). p.kept ++ xs) (append_assoc p.old [] (old_of ps tail)));
      new_is = k_is ∙ sym (append-nil (p.kept ++ (k1 ++ [])) ∙ ap (λ (xs : List ℕ). p.kept ++ xs) (append-nil k1));
      rest_new = append_cancel_left k1 (w ++ new_of ps tail) z (sym (append_assoc k1 w (new_of ps tail)) ∙ (ap (λ (xs : List ℕ). xs ++ new_of ps tail) (sym new_is) ∙ text_behind));
      tag_is = λ i. ap (λ (xs : List ℕ). tagged_from i p.kept ++ (untagged xs ++ tag_of (i + length p.kept + length p.old) ps tail)) new_is
          ∙ (ap (λ (g : Tagged). tagged_from i p.kept ++ (g ++ tag_of (i + length p.kept + length p.old) ps tail)) (untagged-append k1 w)
          ∙ (ap (λ (g : Tagged). tagged_from i p.kept ++ g) (append_assoc (untagged k1) (untagged w) (tag_of (i + length p.kept + length p.old) ps tail))
          ∙ (ap (λ (n : ℕ). tagged_from i p.kept ++ (untagged k1 ++ (untagged w ++ tag_of n ps tail))) (index i)
          ∙ sym (append_assoc (tagged_from i p.kept) (untagged k1 ++ []) (untagged w ++ tag_of (i + length (p.kept ++ (p.old ++ [])) + 0 + 0 + 0) ps tail)
          ∙ ap (λ (g : Tagged). tagged_from i p.kept ++ g) (append_assoc (untagged k1) [] (untagged w ++ tag_of (i + length (p.kept ++ (p.old ++ [])) + 0 + 0 + 0) ps tail))))));
      parts_is = ap (λ (x : Point). record { kept = x; old_text = p.old; new_text = k1 } ∷ []) (traversal-traverse b (extent p.kept));
      way_is = ap (λ (x : Point). traversal x to) (sym (traverse_origin to)) ∙ traversal-traverse to origin;
      rest_is = ap (λ (x : Point). one_seen x new_end [] w ∷ seen new_end ps) (sym (traverse_origin to))
          ∙ ap (λ (x : Point). one_seen (traverse to origin) x [] w ∷ seen x ps) (end_is ∙ ap (λ (x : Point). traverse x (extent w)) (sym (traverse_origin to)));
    }
      where
        k1 : List ℕ
        k1 = drop (length p.kept) k

        w : List ℕ
        w = drop (length (drop (length p.kept) k)) p.new

        new_is : p.new ≡ drop (length p.kept) k ++ drop (length (drop (length p.kept) k)) p.new
        new_is = shorter p.new (new_of ps tail) (drop (length p.kept) k) z text_behind (omega arith)

        end_is : traverse (traverse b (extent p.kept)) (extent p.new) ≡ traverse to (extent (drop (length (drop (length p.kept) k)) p.new))
        end_is = ap (λ (xs : List ℕ). traverse (traverse b (extent p.kept)) (extent xs)) new_is ∙ (extent_two (traverse b (extent p.kept)) (drop (length p.kept) k) (drop (length (drop (length p.kept) k)) p.new)
            ∙ ap (λ (x : Point). traverse x (extent (drop (length (drop (length p.kept) k)) p.new))) (sym to_behind))

        ends : point_le (traverse (traverse b (extent p.kept)) (extent p.new)) to ≡ false
        ends = subst (λ (x : Point). point_le x to ≡ false) (sym end_is) (past to (drop (length (drop (length p.kept) k)) p.new) (omega (arith, length-drop (length (drop (length p.kept) k)) p.new)))

        units : cut_offset to (one_seen (traverse b (extent p.kept)) (traverse (traverse b (extent p.kept)) (extent p.new)) p.old p.new) ≡ length (drop (length p.kept) k)
        units = ap (λ (x : Point). unwrap_or (offset_of p.new x) 0) (ap (λ (x : Point). traversal x (traverse b (extent p.kept))) to_behind ∙ traversal-traverse (traverse b (extent p.kept)) (extent (drop (length p.kept) k)))
            ∙ ap (λ (o : Option ℕ). unwrap_or o 0) (reached (drop (length p.kept) k) p.new new_is (omega arith))

        taken : take (length (drop (length p.kept) k)) p.new ≡ drop (length p.kept) k
        taken = ap (take (length (drop (length p.kept) k))) new_is ∙ take_at (drop (length p.kept) k) (drop (length (drop (length p.kept) k)) p.new) (length (drop (length p.kept) k)) refl

        computed : opened (part_to b (traverse b (extent p.kept)) p.old (take (cut_offset to m) p.new) ∷ []) to (left_of to m (drop (cut_offset to m) p.new) ∷ seen (traverse (traverse b (extent p.kept)) (extent p.new)) ps)
            ≡ opened (part_to b (traverse b (extent p.kept)) p.old (drop (length p.kept) k) ∷ []) to (left_of to m (drop (length (drop (length p.kept) k)) p.new) ∷ seen (traverse (traverse b (extent p.kept)) (extent p.new)) ps)
        computed = ap (λ (n : ℕ). opened (part_to b (traverse b (extent p.kept)) p.old (take n p.new) ∷ []) to (left_of to m (drop n p.new) ∷ seen (traverse (traverse b (extent p.kept)) (extent p.new)) ps)) units
            ∙ ap (λ (xs : List ℕ). opened (part_to b (traverse b (extent p.kept)) p.old xs ∷ []) to (left_of to m (drop (length (drop (length p.kept) k)) p.new) ∷ seen (traverse (traverse b (extent p.kept)) (extent p.new)) ps)) taken

        index : (i : ℕ) → i + length p.kept + length p.old ≡ i + length (p.kept ++ (p.old ++ [])) + 0 + 0 + 0
        index i = omega (arith, ap length (append-nil p.old), length-append p.kept (p.old ++ []))

    module _ (le : length p.new ≤ length (drop (length p.kept) k)) where
      k1_is : drop (length p.kept) k ≡ p.new ++ drop (length p.new) (drop (length p.kept) k)
      k1_is = shorter (drop (length p.kept) k) z p.new (new_of ps tail) (sym text_behind) le

      text_further : new_of ps tail ≡ drop (length p.new) (drop (length p.kept) k) ++ z
      text_further = behind_it p.new (new_of ps tail) (drop (length p.kept) k) z text_behind k1_is

      to_further : to ≡ traverse (traverse (traverse b (extent p.kept)) (extent p.new)) (extent (drop (length p.new) (drop (length p.kept) k)))
      to_further = to_behind ∙ (ap (λ (xs : List ℕ). traverse (traverse b (extent p.kept)) (extent xs)) k1_is ∙ extent_two (traverse b (extent p.kept)) p.new (drop (length p.new) (drop (length p.kept) k)))

      -- the change stands before it
      opening_passed : (r : Opening) → IsOpening (traverse (traverse b (extent p.kept)) (extent p.new)) to ps tail (drop (length p.new) (drop (length p.kept) k)) z r → r ≡ opening (traverse (traverse b (extent p.kept)) (extent p.new)) to (seen new_end ps)
          → IsOpening b to (p ∷ ps) tail k z (opening b to (m ∷ seen new_end ps))
      opening_passed r h r_is = subst (IsOpening b to (p ∷ ps) tail k z) (sym (opening_passes b to m (seen new_end ps) starts ends ∙ ap (λ (o : Opening). opened (part_between b m ∷ o.parts) o.place o.rest) (sym r_is))) record {
        front = p ∷ h.front;
        kept = h.kept;
        rest = h.rest;
        rest_tail = h.rest_tail;
        old_is = ap (λ (xs : List ℕ). p.kept ++ (p.old ++ xs)) h.old_is ∙ sym (append_assoc p.kept (p.old ++ old_of h.front []) (h.kept ++ old_of h.rest h.rest_tail) ∙ ap (λ (xs : List ℕ). p.kept ++ xs) (append_assoc p.old (old_of h.front []) (h.kept ++ old_of h.rest h.rest_tail)));
        new_is = k_is ∙ (ap (λ (xs : List ℕ). p.kept ++ xs) (k1_is ∙ ap (λ (xs : List ℕ). p.new ++ xs) h.new_is) ∙ sym (append_assoc p.kept (p.new ++ new_of h.front []) h.kept ∙ ap (λ (xs : List ℕ). p.kept ++ xs) (append_assoc p.new (new_of h.front []) h.kept)));
        rest_new = h.rest_new;
        tag_is = λ i. ap (λ (g : Tagged). tagged_from i p.kept ++ (untagged p.new ++ g)) (h.tag_is (i + length p.kept + length p.old))
            ∙ (ap (λ (n : ℕ). tagged_from i p.kept ++ (untagged p.new ++ (tag_of (i + length p.kept + length p.old) h.front [] ++ (tagged_from n h.kept ++ tag_of (n + length h.kept) h.rest h.rest_tail)))) (index i)
            ∙ sym (append_assoc (tagged_from i p.kept) (untagged p.new ++ tag_of (i + length p.kept + length p.old) h.front []) (behind_front i)
            ∙ ap (λ (g : Tagged). tagged_from i p.kept ++ g) (append_assoc (untagged p.new) (tag_of (i + length p.kept + length p.old) h.front []) (behind_front i))));
        parts_is = ap (λ (x : Point). record { kept = x; old_text = p.old; new_text = p.new } ∷ r.parts) (traversal-traverse b (extent p.kept)) ∙ ap (λ (qs : List Part). part_of p ∷ qs) h.parts_is;
        way_is = h.way_is;
        rest_is = h.rest_is;
      }
        where
          ends : point_le (traverse (traverse b (extent p.kept)) (extent p.new)) to ≡ true
          ends = subst (λ (x : Point). point_le (traverse (traverse b (extent p.kept)) (extent p.new)) x ≡ true) (sym to_further) (point_le-traverse (traverse (traverse b (extent p.kept)) (extent p.new)) (extent (drop (length p.new) (drop (length p.kept) k))))

          index : (i : ℕ) → i + length p.kept + length p.old + length (old_of h.front []) ≡ i + length (p.kept ++ (p.old ++ old_of h.front []))
          index i = omega (arith, length-append p.kept (p.old ++ old_of h.front []), length-append p.old (old_of h.front []))

          behind_front : ℕ → Tagged
          behind_front i = tagged_from (i + length (p.kept ++ (p.old ++ old_of h.front []))) h.kept ++ tag_of (i + length (p.kept ++ (p.old ++ old_of h.front [])) + length h.kept) h.rest h.rest_tail

opening_is : (b to : Point) (ps : List Piece) (tail k z : List ℕ) → to ≡ traverse b (extent k) → new_of ps tail ≡ k ++ z → IsOpening b to ps tail k z (opening b to (seen b ps))
opening_is b to [] tail k z to_is text_is = opening_tail b to tail k z to_is text_is
opening_is b to (p ∷ ps) tail k z to_is text_is = elim (cases_lt (length p.kept) (length k)) [
  | inr le ↦ opening_kept b to p ps tail k z to_is text_is le
  | inl lt ↦ elim (cases_lt (length (drop (length p.kept) k)) (length p.new)) [
    | inl in_new ↦ opening_cut b to p ps tail k z to_is text_is lt in_new
    | inr le ↦ opening_passed b to p ps tail k z to_is text_is lt le (opening (traverse (traverse b (extent p.kept)) (extent p.new)) to (seen (traverse (traverse b (extent p.kept)) (extent p.new)) ps))
        (opening_is (traverse (traverse b (extent p.kept)) (extent p.new)) to ps tail (drop (length p.new) (drop (length p.kept) k)) z (to_further b to p ps tail k z to_is text_is lt le) (text_further b to p ps tail k z to_is text_is lt le)) refl
  ]
]

-- new units before these pieces, as a piece where there are any
abbrev pub with_left : List ℕ → List Piece → List Piece
with_left [] ps = ps
with_left (u ∷ us) ps = piece [] [] (u ∷ us) ∷ ps

old_left : (units : List ℕ) (ps : List Piece) (tail : List ℕ) → old_of (with_left units ps) tail ≡ old_of ps tail
old_left [] ps tail = refl
old_left (u ∷ us) ps tail = refl

new_left : (units : List ℕ) (ps : List Piece) (tail : List ℕ) → new_of (with_left units ps) tail ≡ units ++ new_of ps tail
new_left [] ps tail = refl
new_left (u ∷ us) ps tail = refl

tag_left : (i : ℕ) (units : List ℕ) (ps : List Piece) (tail : List ℕ) → tag_of i (with_left units ps) tail ≡ untagged units ++ tag_of i ps tail
tag_left i [] ps tail = refl
tag_left i (u ∷ us) ps tail = let same : i + 0 + 0 ≡ i = omega arith in ap (λ (n : ℕ). untagged (u ∷ us) ++ tag_of n ps tail) same

-- what is left of a change that is taken out in part, as it stands behind the units taken out
seen_left : (end : Point) (m : Between) (units : List ℕ) (ps : List Piece) → m.end ≡ traverse end (extent units) → left_behind end m units (seen m.end ps) ≡ seen end (with_left units ps)
seen_left end m [] ps end_is = left_none end m [] (seen m.end ps) refl ∙ ap (λ (x : Point). seen x ps) (end_is ∙ traverse_origin end)
seen_left end m (u ∷ us) ps end_is = left_some end m (u ∷ us) (seen m.end ps) (λ e. absurd (not_empty e))
    ∙ (ap (λ (x : Point). one_seen end x [] (u ∷ us) ∷ seen x ps) end_is
    ∙ ap (λ (x : Point). one_seen x (traverse x (extent (u ∷ us))) [] (u ∷ us) ∷ seen (traverse x (extent (u ∷ us))) ps) (sym (traverse_origin end)))
  where
    not_empty : suc (length us) ≡ 0 → ⊥
    not_empty e = omega arith

-- the removal of the units d of pieces, the first behind the point b: they end at the point `end`
record IsRemoval (b end : Point) (ps : List Piece) (tail d z : List ℕ) (v : Removal) : Type 0 where
  mid : List ℕ
  post : List ℕ
  rest : List Piece
  rest_tail : List ℕ
  pieces : IsAbsorbed ps tail (length d) mid post rest rest_tail
  new_is : post ++ new_of rest rest_tail ≡ z
  parts_is : TakesOut v.parts mid
  rest_is : v.rest ≡ seen end (with_left post rest)

removal_tail : (b end : Point) (tail d z : List ℕ) → tail ≡ d ++ z → IsRemoval b end [] tail d z (removal_made (taken_out d ∷ []) [])
removal_tail b end tail d z text_is = record { mid = d; post = []; rest = []; rest_tail = z; pieces = absorbed_tail tail d z text_is; new_is = refl; parts_is = takes_one d; rest_is = refl }

module _ (b end : Point) (p : Piece) (ps : List Piece) (tail d z : List ℕ) (end_is : end ≡ traverse b (extent d)) (text_is : p.kept ++ (p.new ++ new_of ps tail) ≡ d ++ z) where
  abbrev c : Between
  c = one_seen (traverse b (extent p.kept)) (traverse (traverse b (extent p.kept)) (extent p.new)) p.old p.new

  -- the units end before the change
  removal_kept : length d < length p.kept → IsRemoval b end (p ∷ ps) tail d z (removal end b d (c ∷ seen (traverse (traverse b (extent p.kept)) (extent p.new)) ps))
  removal_kept lt = subst (IsRemoval b end (p ∷ ps) tail d z) (sym (removal_none end b d c (seen (traverse (traverse b (extent p.kept)) (extent p.new)) ps) none)) record {
    mid = d;
    post = [];
    rest = piece w p.old p.new ∷ ps;
    rest_tail = tail;
    pieces = absorbed_kept p ps tail d w kept_is;
    new_is = append_cancel_left d (w ++ (p.new ++ new_of ps tail)) z (sym (append_assoc d w (p.new ++ new_of ps tail)) ∙ (ap (λ (xs : List ℕ). xs ++ (p.new ++ new_of ps tail)) (sym kept_is) ∙ text_is));
    parts_is = takes_one d;
    rest_is = ap (λ (x : Point). one_seen x (traverse x (extent p.new)) p.old p.new ∷ seen (traverse x (extent p.new)) ps) start_is;
  }
    where
      w : List ℕ
      w = drop (length d) p.kept

      kept_is : p.kept ≡ d ++ drop (length d) p.kept
      kept_is = shorter p.kept (p.new ++ new_of ps tail) d z text_is (omega arith)

      none : offset_of d (traversal (traverse b (extent p.kept)) b) ≡ None
      none = ap (offset_of d) (traversal-traverse b (extent p.kept)) ∙ not_reached p.kept d kept_is lt

      start_is : traverse b (extent p.kept) ≡ traverse end (extent (drop (length d) p.kept))
      start_is = ap (λ (xs : List ℕ). traverse b (extent xs)) kept_is ∙ (extent_two b d (drop (length d) p.kept) ∙ ap (λ (x : Point). traverse x (extent (drop (length d) p.kept))) (sym end_is))

  module _ (le : length p.kept ≤ length d) where
    d_is : d ≡ p.kept ++ drop (length p.kept) d
    d_is = shorter d z p.kept (p.new ++ new_of ps tail) (sym text_is) le

    behind_kept : p.new ++ new_of ps tail ≡ drop (length p.kept) d ++ z
    behind_kept = behind_it p.kept (p.new ++ new_of ps tail) d z text_is d_is

    reach : offset_of d (traversal (traverse b (extent p.kept)) b) ≡ Some (length p.kept)
    reach = ap (offset_of d) (traversal-traverse b (extent p.kept)) ∙ reached p.kept d d_is le

    begins : take (length p.kept) d ≡ p.kept
    begins = ap (take (length p.kept)) d_is ∙ take_at p.kept (drop (length p.kept) d) (length p.kept) refl

    end_behind : end ≡ traverse (traverse b (extent p.kept)) (extent (drop (length p.kept) d))
    end_behind = end_is ∙ (ap (λ (xs : List ℕ). traverse b (extent xs)) d_is ∙ extent_two b p.kept (drop (length p.kept) d))

    sizes : length d ≡ length p.kept + length (drop (length p.kept) d)
    sizes = ap length d_is ∙ length-append p.kept (drop (length p.kept) d)

    takes : TakesOut (taken_out (take (length p.kept) d) ∷ taken_out p.old ∷ []) (p.kept ++ p.old)
    takes = subst (λ (xs : List ℕ). TakesOut (taken_out xs ∷ taken_out p.old ∷ []) (p.kept ++ p.old)) (sym begins) (takes_more p.kept p.old (taken_out p.old ∷ []) (takes_one p.old))

    -- they end in the change's new text, or at its end
    removal_new : length (drop (length p.kept) d) ≤ length p.new → IsRemoval b end (p ∷ ps) tail d z (removal end b d (c ∷ seen (traverse (traverse b (extent p.kept)) (extent p.new)) ps))
    removal_new within = subst (IsRemoval b end (p ∷ ps) tail d z) (sym (removal_ends end b d (length p.kept) c (seen (traverse (traverse b (extent p.kept)) (extent p.new)) ps) reach within)) record {
      mid = p.kept ++ p.old;
      post = post;
      rest = ps;
      rest_tail = tail;
      pieces = subst (λ (n : ℕ). IsAbsorbed (p ∷ ps) tail n (p.kept ++ p.old) post ps tail) (sym sizes) (absorbed_new p ps tail (drop (length p.kept) d) post new_is);
      new_is = append_cancel_left (drop (length p.kept) d) (post ++ new_of ps tail) z (sym (append_assoc (drop (length p.kept) d) post (new_of ps tail)) ∙ (ap (λ (xs : List ℕ). xs ++ new_of ps tail) (sym new_is) ∙ behind_kept));
      parts_is = takes;
      rest_is = seen_left end c post ps (ap (λ (xs : List ℕ). traverse (traverse b (extent p.kept)) (extent xs)) new_is ∙ (extent_two (traverse b (extent p.kept)) (drop (length p.kept) d) post ∙ ap (λ (x : Point). traverse x (extent post)) (sym end_behind)));
    }
      where
        post : List ℕ
        post = drop (length (drop (length p.kept) d)) p.new

        new_is : p.new ≡ drop (length p.kept) d ++ drop (length (drop (length p.kept) d)) p.new
        new_is = shorter p.new (new_of ps tail) (drop (length p.kept) d) z behind_kept within

    module _ (longer : length p.new < length (drop (length p.kept) d)) where
      d1_is : drop (length p.kept) d ≡ p.new ++ drop (length p.new) (drop (length p.kept) d)
      d1_is = shorter (drop (length p.kept) d) z p.new (new_of ps tail) (sym behind_kept) (omega arith)

      text_left : new_of ps tail ≡ drop (length p.new) (drop (length p.kept) d) ++ z
      text_left = behind_it p.new (new_of ps tail) (drop (length p.kept) d) z behind_kept d1_is

      end_left : end ≡ traverse (traverse (traverse b (extent p.kept)) (extent p.new)) (extent (drop (length p.new) (drop (length p.kept) d)))
      end_left = end_behind ∙ (ap (λ (xs : List ℕ). traverse (traverse b (extent p.kept)) (extent xs)) d1_is ∙ extent_two (traverse b (extent p.kept)) p.new (drop (length p.new) (drop (length p.kept) d)))

      -- they reach over the whole change, and more
      removal_whole : (r : Removal) → IsRemoval (traverse (traverse b (extent p.kept)) (extent p.new)) end ps tail (drop (length p.new) (drop (length p.kept) d)) z r
          → r ≡ removal end (traverse (traverse b (extent p.kept)) (extent p.new)) (drop (length p.new) (drop (length p.kept) d)) (seen (traverse (traverse b (extent p.kept)) (extent p.new)) ps)
          → IsRemoval b end (p ∷ ps) tail d z (removal end b d (c ∷ seen (traverse (traverse b (extent p.kept)) (extent p.new)) ps))
      removal_whole r h r_is = subst (IsRemoval b end (p ∷ ps) tail d z) (sym (removal_more end b d (length p.kept) c (seen (traverse (traverse b (extent p.kept)) (extent p.new)) ps) reach longer
          ∙ (ap (λ (v : Removal). removal_made (taken_out (take (length p.kept) d) ∷ taken_out p.old ∷ v.parts) v.rest) (sym r_is) ∙ ap (λ (xs : List ℕ). removal_made (taken_out xs ∷ taken_out p.old ∷ r.parts) r.rest) begins))) record {
            mid = p.kept ++ (p.old ++ h.mid);
            post = h.post;
            rest = h.rest;
            rest_tail = h.rest_tail;
            pieces = subst (λ (n : ℕ). IsAbsorbed (p ∷ ps) tail n (p.kept ++ (p.old ++ h.mid)) h.post h.rest h.rest_tail) (sym all_sizes) (absorbed_more p ps tail (length (drop (length p.new) (drop (length p.kept) d))) h.mid h.post h.rest h.rest_tail h.pieces);
            new_is = h.new_is;
            parts_is = takes_more p.kept (p.old ++ h.mid) (taken_out p.old ∷ r.parts) (takes_more p.old h.mid r.parts h.parts_is);
            rest_is = h.rest_is;
          }
        where
          all_sizes : length d ≡ length p.kept + length p.new + length (drop (length p.new) (drop (length p.kept) d))
          all_sizes = omega (arith, sizes, ap length d1_is, length-append p.new (drop (length p.new) (drop (length p.kept) d)))

removal_is : (b end : Point) (ps : List Piece) (tail d z : List ℕ) → end ≡ traverse b (extent d) → new_of ps tail ≡ d ++ z → IsRemoval b end ps tail d z (removal end b d (seen b ps))
removal_is b end [] tail d z end_is text_is = removal_tail b end tail d z text_is
removal_is b end (p ∷ ps) tail d z end_is text_is = elim (cases_lt (length d) (length p.kept)) [
  | inl lt ↦ removal_kept b end p ps tail d z end_is text_is lt
  | inr le ↦ elim (cases_lt (length p.new) (length (drop (length p.kept) d))) [
    | inr within ↦ removal_new b end p ps tail d z end_is text_is le within
    | inl longer ↦ removal_whole b end p ps tail d z end_is text_is le longer (removal end (traverse (traverse b (extent p.kept)) (extent p.new)) (drop (length p.new) (drop (length p.kept) d)) (seen (traverse (traverse b (extent p.kept)) (extent p.new)) ps))
        (removal_is (traverse (traverse b (extent p.kept)) (extent p.new)) end ps tail (drop (length p.new) (drop (length p.kept) d)) z (end_left b end p ps tail d z end_is text_is le longer) (text_left b end p ps tail d z end_is text_is le longer)) refl
  ]
]

-- what a tagged text is with the old texts of these pieces replaced by their new ones
abbrev pub retagged : Tagged → List Piece → Tagged
retagged g [] = g
retagged g (q ∷ qs) = take (length q.kept) g ++ untagged q.new ++ retagged (drop (length q.kept + length q.old) g) qs

-- pieces on which others were made: the pieces of both
pub record IsMerged (b : Point) (ps : List Piece) (tail : List ℕ) (qs : List Piece) (parts : List Part) : Type 0 where
  pub pieces : List Piece
  pub end : List ℕ
  pub old_is : old_of ps tail ≡ old_of pieces end
  pub tag_is : (i : ℕ) → retagged (tag_of i ps tail) qs ≡ tag_of i pieces end
  pub alike : Alike parts (map part_of pieces)

-- nothing is left of the second patch
parts_seen_of : (b : Point) (ps : List Piece) → parts_between b (seen b ps) ≡ map part_of ps
parts_seen_of b [] = refl
parts_seen_of b (p ∷ ps) = ap (λ (x : Point). record { kept = x; old_text = p.old; new_text = p.new } ∷ parts_between (traverse (traverse b (extent p.kept)) (extent p.new)) (seen (traverse (traverse b (extent p.kept)) (extent p.new)) ps)) (traversal-traverse b (extent p.kept))
    ∙ ap (λ (qs : List Part). part_of p ∷ qs) (parts_seen_of (traverse (traverse b (extent p.kept)) (extent p.new)) ps)

merged_none : (b : Point) (ps : List Piece) (tail : List ℕ) → IsMerged b ps tail [] (merged b (seen b ps) [])
merged_none b ps tail = record { pieces = ps; end = tail; old_is = refl; tag_is = λ i. refl; alike = λ x y old new. ap (laid_by traverse x y old new) (parts_seen_of b ps) }

-- units taken out behind an open stretch
takes_behind : (k : Point) (mid new : List ℕ) (vs parts qs : List Part) → TakesOut vs mid → Alike parts qs → Alike (record { kept = k; old_text = []; new_text = new } ∷ (vs ++ parts)) (record { kept = k; old_text = mid; new_text = new } ∷ qs)
takes_behind k mid new vs parts qs takes alike a b old n = at_kept (same_point k origin)
    (ap (λ (xs : List ℕ). laid_by traverse a b xs (n ++ new) (vs ++ parts)) (append-nil old) ∙ (takes a b old (n ++ new) parts ∙ alike a b (old ++ mid) (n ++ new)))
    (takes (traverse (traverse a (extent old)) k) (traverse (traverse b (extent n)) k) [] new parts ∙ alike (traverse (traverse a (extent old)) k) (traverse (traverse b (extent n)) k) mid new)
  where
    at_kept : (none : Bool) → laid_by traverse a b (old ++ []) (n ++ new) (vs ++ parts) ≡ laid_by traverse a b (old ++ mid) (n ++ new) qs
        → laid_by traverse (traverse (traverse a (extent old)) k) (traverse (traverse b (extent n)) k) [] new (vs ++ parts) ≡ laid_by traverse (traverse (traverse a (extent old)) k) (traverse (traverse b (extent n)) k) mid new qs
        → cond none (laid_by traverse a b (old ++ []) (n ++ new) (vs ++ parts)) (change_by traverse a b old n ++ laid_by traverse (traverse (traverse a (extent old)) k) (traverse (traverse b (extent n)) k) [] new (vs ++ parts))
        ≡ cond none (laid_by traverse a b (old ++ mid) (n ++ new) qs) (change_by traverse a b old n ++ laid_by traverse (traverse (traverse a (extent old)) k) (traverse (traverse b (extent n)) k) mid new qs)
    at_kept true joins apart = joins
    at_kept false joins apart = ap (λ (hs : List Hunk). change_by traverse a b old n ++ hs) apart

module _ (b : Point) (ps : List Piece) (tail : List ℕ) (q : Piece) (qs : List Piece) (z : List ℕ) (to end : Point) (o : Opening) (v : Removal) (parts : List Part)
    (h : IsOpening b to ps tail q.kept (q.old ++ z) o) (w : IsRemoval to end h.rest h.rest_tail q.old z v) (later : IsMerged end (with_left w.post w.rest) w.rest_tail qs parts) where
  -- the pieces of both, with the next change of the second patch
  abbrev both : List Piece
  both = h.front ++ piece h.kept w.mid q.new ∷ later.pieces

  merged_old : old_of ps tail ≡ old_of (h.front ++ piece h.kept w.mid q.new ∷ later.pieces) later.end
  merged_old = h.old_is ∙ (ap (λ (xs : List ℕ). old_of h.front [] ++ (h.kept ++ xs)) (w.pieces.old_is ∙ ap (λ (xs : List ℕ). w.mid ++ xs) (sym (old_left w.post w.rest w.rest_tail) ∙ later.old_is))
      ∙ sym (old-append h.front (piece h.kept w.mid q.new ∷ later.pieces) later.end))

  merged_alike : Alike (o.parts ++ part_to o.place to [] q.new ∷ (v.parts ++ parts)) (map part_of (h.front ++ piece h.kept w.mid q.new ∷ later.pieces))
  merged_alike x y old new = ap (λ (fs : List Part). laid_by traverse x y old new (fs ++ part_to o.place to [] q.new ∷ (v.parts ++ parts))) h.parts_is
      ∙ (ap (λ (k : Point). laid_by traverse x y old new (map part_of h.front ++ record { kept = k; old_text = []; new_text = q.new } ∷ (v.parts ++ parts))) h.way_is
      ∙ (alike_all (map part_of h.front) (record { kept = extent h.kept; old_text = []; new_text = q.new } ∷ (v.parts ++ parts)) (part_of (piece h.kept w.mid q.new) ∷ map part_of later.pieces)
      (takes_behind (extent h.kept) w.mid q.new v.parts parts (map part_of later.pieces) w.parts_is later.alike) x y old new
      ∙ ap (laid_by traverse x y old new) (sym (map-append part_of h.front (piece h.kept w.mid q.new ∷ later.pieces)))))

  module _ (i : ℕ) where
    abbrev A : Tagged
    A = tag_of i h.front []

    abbrev j : ℕ
    j = i + length (old_of h.front []) + length h.kept

    abbrev K : Tagged
    K = tagged_from (i + length (old_of h.front [])) h.kept

    abbrev R : Tagged
    R = untagged w.post ++ tag_of (i + length (old_of h.front []) + length h.kept + length w.mid) w.rest w.rest_tail

    whole : tag_of i ps tail ≡ A ++ (K ++ (w.pieces.over j ++ R))
    whole = h.tag_is i ∙ ap (λ (g : Tagged). tag_of i h.front [] ++ (tagged_from (i + length (old_of h.front [])) h.kept ++ g)) (w.pieces.tag_is (i + length (old_of h.front []) + length h.kept))

    front_size : length (A ++ K) ≡ length q.kept
    front_size = length-append (tag_of i h.front []) (tagged_from (i + length (old_of h.front [])) h.kept) ∙ omega (arith, length-tag i h.front [], length-tagged (i + length (old_of h.front [])) h.kept, ap length h.new_is, length-append (new_of h.front []) h.kept)

    taken_front : take (length q.kept) (A ++ (K ++ (w.pieces.over j ++ R))) ≡ A ++ K
    taken_front = ap (take (length q.kept)) (sym (append_assoc A K (w.pieces.over j ++ R))) ∙ take_at (A ++ K) (w.pieces.over j ++ R) (length q.kept) front_size

    left_behind_it : drop (length q.kept + length q.old) (A ++ (K ++ (w.pieces.over j ++ R))) ≡ R
    left_behind_it = ap (drop (length q.kept + length q.old)) (sym (append_assoc A K (w.pieces.over j ++ R)) ∙ sym (append_assoc (A ++ K) (w.pieces.over j) R))
        ∙ drop_at (A ++ K ++ w.pieces.over j) R (length q.kept + length q.old) (length-append (A ++ K) (w.pieces.over j) ∙ omega (arith, front_size, w.pieces.over_size j))

    retagged_left : retagged R qs ≡ tag_of (i + length (old_of h.front []) + length h.kept + length w.mid) later.pieces later.end
    retagged_left = ap (λ (g : Tagged). retagged g qs) (sym (tag_left (i + length (old_of h.front []) + length h.kept + length w.mid) w.post w.rest w.rest_tail)) ∙ later.tag_is (i + length (old_of h.front []) + length h.kept + length w.mid)

    merged_tag : retagged (tag_of i ps tail) (q ∷ qs) ≡ tag_of i (h.front ++ piece h.kept w.mid q.new ∷ later.pieces) later.end
    merged_tag = ap (λ (g : Tagged). take (length q.kept) g ++ untagged q.new ++ retagged (drop (length q.kept + length q.old) g) qs) whole
        ∙ (ap (λ (g : Tagged). g ++ untagged q.new ++ retagged (drop (length q.kept + length q.old) (A ++ (K ++ (w.pieces.over j ++ R)))) qs) taken_front
        ∙ (ap (λ (g : Tagged). A ++ K ++ untagged q.new ++ retagged g qs) left_behind_it
        ∙ (ap (λ (g : Tagged). A ++ K ++ untagged q.new ++ g) retagged_left
        ∙ (append_assoc (A ++ K) (untagged q.new) (tag_of (i + length (old_of h.front []) + length h.kept + length w.mid) later.pieces later.end)
        ∙ (append_assoc A K (untagged q.new ++ tag_of (i + length (old_of h.front []) + length h.kept + length w.mid) later.pieces later.end)
        ∙ sym (tag-append i h.front (piece h.kept w.mid q.new ∷ later.pieces) later.end))))))

  merged_next : IsMerged b ps tail (q ∷ qs) (o.parts ++ part_to o.place to [] q.new ∷ (v.parts ++ parts))
  merged_next = record { pieces = h.front ++ piece h.kept w.mid q.new ∷ later.pieces; end = later.end; old_is = merged_old; tag_is = merged_tag; alike = merged_alike }

-- the merge of two patches is that of the pieces of both
pub merge_is : (b c : Point) (ps : List Piece) (tail : List ℕ) (qs : List Piece) (tail' : List ℕ) → new_of ps tail ≡ old_of qs tail' → IsMerged b ps tail qs (merged b (seen b ps) (shown b c qs))
merge_is b c ps tail [] tail' text_is = merged_none b ps tail
merge_is b c ps tail (q ∷ qs) tail' text_is =
    let to : Point = traverse b (extent q.kept) in let end : Point = traverse to (extent q.old) in let z : List ℕ = old_of qs tail' in let c2 : Point = traverse (traverse c (extent q.kept)) (extent q.new) in
    let h = opening_is b to ps tail q.kept (q.old ++ z) refl text_is in
    let w = removal_is to end h.rest h.rest_tail q.old z refl h.rest_new in
    let later = merge_is end c2 (with_left w.post w.rest) w.rest_tail qs tail' (new_left w.post w.rest w.rest_tail ∙ w.new_is) in
    let o : Opening = opening b to (seen b ps) in
    subst (λ (ms : List Between). IsMerged b ps tail (q ∷ qs) (o.parts ++ part_to o.place to [] q.new ∷ ((removal end to q.old ms).parts ++ merged end (removal end to q.old ms).rest (shown end c2 qs)))) (sym h.rest_is)
    (subst (λ (ms : List Between). IsMerged b ps tail (q ∷ qs) (o.parts ++ part_to o.place to [] q.new ∷ ((removal end to q.old (seen to h.rest)).parts ++ merged end ms (shown end c2 qs)))) (sym w.rest_is)
    (merged_next b ps tail q qs z to end o (removal end to q.old (seen to h.rest)) (merged end (seen end (with_left w.post w.rest)) (shown end c2 qs)) h w later))

-- the units of tagged texts, cut
units_drop : (n : ℕ) (g : Tagged) → units_of (drop n g) ≡ drop n (units_of g)
units_drop zero g = refl
units_drop (suc n) [] = refl
units_drop (suc n) (x ∷ g) = units_drop n g

units_take : (n : ℕ) (g : Tagged) → units_of (take n g) ≡ take n (units_of g)
units_take zero g = refl
units_take (suc n) [] = refl
units_take (suc n) (x ∷ g) = ap (λ (us : List ℕ). x.0 ∷ us) (units_take n g)

units_range : (g : Tagged) (i j : ℕ) → units_of (slice_range g i j) ≡ slice_range (units_of g) i j
units_range g i j = units_take (j - i) (drop i g) ∙ ap (take (j - i)) (units_drop i g)

units_tagged : (s : List ℕ) → units_of (tagged s) ≡ s
units_tagged s = units_of_pieces 0 [] s

-- the units of a tagged text after replacements are those of its text after them
pub units_replaced : (g : Tagged) (i : ℕ) (q : List Hunk) → units_of (replaced_from g i q) ≡ units_of (tag_from (units_of g) i q)
units_replaced g i [] = units_drop i g ∙ sym (units_drop i (tagged (units_of g)) ∙ ap (drop i) (units_tagged (units_of g)))
units_replaced g i (h ∷ hs) =
    three (slice_range g i a) (untagged h.new_text) (replaced_from g b hs)
    ∙ (ap (λ (us : List ℕ). us ++ units_of (untagged h.new_text) ++ units_of (replaced_from g b hs)) (units_range g i a ∙ sym (units_range (tagged (units_of g)) i a ∙ ap (λ (us : List ℕ). slice_range us i a) (units_tagged (units_of g))))
    ∙ (ap (λ (us : List ℕ). units_of (slice_range (tagged (units_of g)) i a) ++ units_of (untagged h.new_text) ++ us) (units_replaced g b hs)
    ∙ sym (three (slice_range (tagged (units_of g)) i a) (untagged h.new_text) (tag_from (units_of g) b hs))))
  where
    a : ℕ
    a = offset_in (units_of g) h.old_start

    b : ℕ
    b = offset_in (units_of g) h.old_end

    three : (x y w : Tagged) → units_of (x ++ y ++ w) ≡ units_of x ++ units_of y ++ units_of w
    three x y w = map-append (λ (u : ℕ × Option ℕ). u.0) (x ++ y) w ∙ ap (λ (us : List ℕ). us ++ units_of w) (map-append (λ (u : ℕ × Option ℕ). u.0) x y)

-- the old ranges of a patch, replaced in a tagged text whose units fit it
pub replaced_is : (g : Tagged) (front : List ℕ) (i : ℕ) (c : Point) (qs : List Piece) (tail : List ℕ) → units_of g ≡ front ++ old_of qs tail → i ≡ length front → replaced_from g i (shown (extent front) c qs) ≡ retagged (drop i g) qs
replaced_is g front i c [] tail units_is i_is = refl
replaced_is g front i c (q ∷ qs) tail units_is i_is =
    ap (λ (n : ℕ). slice_range g i n ++ untagged q.new ++ replaced_from g (offset_in (units_of g) e) later) start_offset
    ∙ (ap (λ (n : ℕ). slice_range g i (i + length q.kept) ++ untagged q.new ++ replaced_from g n later) end_offset
    ∙ (ap (λ (n : ℕ). take n (drop i g) ++ untagged q.new ++ replaced_from g (i + length q.kept + length q.old) later) (omega arith)
    ∙ ap (λ (h : Tagged). take (length q.kept) (drop i g) ++ untagged q.new ++ h)
    (ap (λ (x : Point). replaced_from g (i + length q.kept + length q.old) (shown x c2 qs)) (sym front_extent)
    ∙ (replaced_is g (front ++ q.kept ++ q.old) (i + length q.kept + length q.old) c2 qs tail units_behind (omega (arith, length-append (front ++ q.kept) q.old, length-append front q.kept))
    ∙ ap (λ (h : Tagged). retagged h qs) (ap (λ (n : ℕ). drop n g) (omega arith) ∙ sym (drop-drop (length q.kept + length q.old) i g))))))
  where
    c2 : Point
    c2 = traverse (traverse c (extent q.kept)) (extent q.new)

    a : Point
    a = traverse (extent front) (extent q.kept)

    e : Point
    e = traverse (traverse (extent front) (extent q.kept)) (extent q.old)

    later : List Hunk
    later = shown (traverse (traverse (extent front) (extent q.kept)) (extent q.old)) (traverse (traverse c (extent q.kept)) (extent q.new)) qs

    units_behind : units_of g ≡ front ++ q.kept ++ q.old ++ old_of qs tail
    units_behind = units_is ∙ (sym (append_assoc front q.kept (q.old ++ old_of qs tail)) ∙ sym (append_assoc (front ++ q.kept) q.old (old_of qs tail)))

    front_extent : extent (front ++ q.kept ++ q.old) ≡ traverse (traverse (extent front) (extent q.kept)) (extent q.old)
    front_extent = extent-append (front ++ q.kept) q.old ∙ ap (λ (x : Point). traverse x (extent q.old)) (extent-append front q.kept)

    start_offset : offset_in (units_of g) (traverse (extent front) (extent q.kept)) ≡ i + length q.kept
    start_offset = ap (λ (o : Option ℕ). unwrap_or o 0) (offset_of-at (units_of g) (traverse (extent front) (extent q.kept)) (i + length q.kept)
        (omega (arith, ap length units_behind, length-append (front ++ q.kept ++ q.old) (old_of qs tail), length-append (front ++ q.kept) q.old, length-append front q.kept))
        (ap extent (taken (units_of g) front q.kept (q.old ++ old_of qs tail) (i + length q.kept) units_is (omega arith)) ∙ extent-append front q.kept))

    end_offset : offset_in (units_of g) (traverse (traverse (extent front) (extent q.kept)) (extent q.old)) ≡ i + length q.kept + length q.old
    end_offset = ap (λ (o : Option ℕ). unwrap_or o 0) (offset_of-at (units_of g) (traverse (traverse (extent front) (extent q.kept)) (extent q.old)) (i + length q.kept + length q.old)
        (omega (arith, ap length units_behind, length-append (front ++ q.kept ++ q.old) (old_of qs tail), length-append (front ++ q.kept) q.old, length-append front q.kept))
        (ap extent (taken (units_of g) (front ++ q.kept) q.old (old_of qs tail) (i + length q.kept + length q.old) (units_is ∙ sym (append_assoc front q.kept (q.old ++ old_of qs tail))) (omega (arith, length-append front q.kept))) ∙ front_extent))

-- what is made of the stretches of both patches, on each text that they fit in turn
pub record IsBoth (p q : List Hunk) (s : List ℕ) (made : List Hunk) : Type 0 where
  pub gaps_are : composed p q s ≡ made
  pub fits : Fits made s
  pub in_turn : applied made s ≡ applied q (applied p s)

pub both_are : (p q : List Hunk) (s : List ℕ) → IsPatch p → IsPatch q → FitsBoth p q s → IsBoth p q s (laid (merged origin (map between p) q))
both_are p q s p_is q_is both = subst (IsBoth p q s) gaps_laid record {
  gaps_are = refl;
  fits = of_gaps.fit;
  in_turn = ap units_of of_gaps.tag_is ∙ units_replaced (tag p s) 0 q;
}
  where
    first : IsCut false s [] s origin p
    first = cut_of s p p_is both.first

    between_is : applied p s ≡ new_of first.pieces first.tail
    between_is = ap units_of first.tags ∙ units_of_pieces 0 first.pieces first.tail

    second : IsCut false (applied p s) [] (applied p s) origin q
    second = cut_of (applied p s) q q_is both.second

    whole : IsMerged origin first.pieces first.tail second.pieces (merged origin (seen origin first.pieces) (shown origin origin second.pieces))
    whole = merge_is origin origin first.pieces first.tail second.pieces second.tail (sym between_is ∙ second.text)

    text_is : s ≡ old_of whole.pieces whole.end
    text_is = first.text ∙ whole.old_is

    tagged_is : replaced_from (tag p s) 0 q ≡ tag_of 0 whole.pieces whole.end
    tagged_is = ap (replaced_from (tag p s) 0) second.is ∙ (replaced_is (tag p s) [] 0 origin second.pieces second.tail second.text refl ∙ (ap (λ (g : Tagged). retagged g second.pieces) first.tags ∙ whole.tag_is 0))

    parts_are : merged origin (map between p) q ≡ merged origin (seen origin first.pieces) (shown origin origin second.pieces)
    parts_are = ap (λ (hs : List Hunk). merged origin (map between hs) q) first.is ∙ (ap (λ (ms : List Between). merged origin ms q) (seen_shown origin origin first.pieces) ∙ ap (merged origin (seen origin first.pieces)) second.is)

    gaps_laid : composed p q s ≡ laid (merged origin (map between p) q)
    gaps_laid = ap (gaps s) tagged_is ∙ (gaps_of_pieces s whole.pieces whole.end text_is ∙ sym (ap laid parts_are ∙ (whole.alike origin origin [] [] ∙ pieces_laid origin origin [] [] whole.pieces)))

    of_gaps : AreGapsOf s (replaced_from (tag p s) 0 q) (composed p q s)
    of_gaps = gaps_made s (replaced_from (tag p s) 0 q) whole.pieces whole.end text_is tagged_is

-- what is answered for the stretches of both is answered for both
module _ (p q : List Hunk) (ps : List Part) (p_is : IsPatch p) (q_is : IsPatch q) (ps_is : ps ≡ merged origin (map between p) q) where
  pub composed_laid : IsComposed p q (laid ps)
  composed_laid = λ s both. (both_are p q s p_is q_is both).gaps_are ∙ ap laid (sym ps_is)

  does_both : DoesBoth p q (laid ps)
  does_both = λ s both. let does = both_are p q s p_is q_is both in
      (subst (λ (hs : List Hunk). Fits hs s) (ap laid (sym ps_is)) does.fits, ap (λ (hs : List Hunk). applied hs s) (ap laid ps_is) ∙ does.in_turn)

  pub ok_composed : (r : Result PatchView PatchRefusal) → IfOk r (λ patch. (patch.changes ≡ laid ps) × IsPatch (laid ps)) → IfOk r (λ patch. IsComposed p q patch.changes)
  ok_composed (Ok patch) h = λ s both. composed_laid s both ∙ sym h.0
  ok_composed (Err e) h = tt

  pub ok_in_turn : (r : Result PatchView PatchRefusal) → IfOk r (λ patch. (patch.changes ≡ laid ps) × IsPatch (laid ps)) → IfOk r (λ patch. DoesBoth p q patch.changes)
  ok_in_turn (Ok patch) h = subst (λ (hs : List Hunk). DoesBoth p q hs) (sym h.0) does_both
  ok_in_turn (Err e) h = tt

  pub err_composed : (r : Result PatchView PatchRefusal) → IfErr r (Refuses (laid ps)) → IfErr r (λ refusal. (changes : List Hunk) × IsComposed p q changes × Refuses changes refusal)
  err_composed (Ok patch) h = tt
  err_composed (Err e) h = (laid ps, composed_laid, h)

pub ok_within : (r : Result PatchView PatchRefusal) (ps : List Part) → IfOk r (λ patch. (patch.changes ≡ laid ps) × IsPatch (laid ps)) → IfOk r (λ patch. KeepsLimits patch.changes)
ok_within (Ok patch) ps h = subst (λ (hs : List Hunk). KeepsLimits hs) (sym h.0) (keeps_limits (laid ps) h.1)
ok_within (Err e) ps h = tt
