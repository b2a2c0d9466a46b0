-- One replacement in the new text of a list of changes: the changes before it stay, those that it touches become one, and those behind it move.
use Rattle.std.proofs.Common.{◌≡◌, ℕ, suc, ◌+◌, ◌<◌, ◌≤◌, ◌==◌, List, [], ◌∷◌, ◌++◌, length, take, drop, map, unwrap_or, true, false, ◌&&◌, Option, refl, sym, ap, ◌∙◌, subst, inl, inr, arith, append_assoc, length-append, length-drop, take-append-drop}
use Rattle.std.proofs.lemmas.List.{append-nil, take_at, take-append-le, length-take-le}
use Rattle.std.proofs.lemmas.Bool.{cases_lt, cond-true, cond-false}
use Rattle.std.proofs.lemmas.Bool.Decides.{nat_tests}
use Rattle.points.specs.declared.point.Point.{Point}
use Rattle.points.specs.Point.{origin, point_le, point_lt, traverse, traversal}
use Rattle.points.specs.Place.{extent, offset_of}
use Rattle.points.proofs.PointLemmas.{traverse_origin, traverse-origin, traversal-traverse, point_lt-traverse, point_le-traverse, point_le_trans}
use Rattle.points.proofs.ExtentLemmas.{behind_whole}
use Rattle.points.proofs.OffsetLemmas.{offset_of-at}
use Rattle.patch.specs.Hunk.{Hunk}
use Rattle.patch.specs.Tagged.{Tagged, tagged_from, untagged, units_of, edited, gaps}
use Rattle.patch.specs.Fit.{StandsAt, Fits, tag, applied}
use Rattle.patch.specs.Spliced.{change_at, moved_hunk, Absorption, absorption, one_change, spliced_before, units_before, spliced_in, spliced_from}
pub use Rattle.patch.specs.Spliced.{spliced}
use Rattle.patch.proofs.GapLists.{IsGapList}
use Rattle.patch.proofs.GapPieces.{AreGapsOf, gaps_made}
use Rattle.patch.proofs.Pieces.{Piece, old_of, new_of, tag_of, changes_of, is_none, AllApart, AllApartBehind, AllSome, gaps_of_pieces}
use Rattle.patch.proofs.PatchPieces.{hunk_between, shown, IsCut, cut_of_gaps}
use Rattle.patch.proofs.ShownPieces.{units_of_pieces}
use Rattle.patch.proofs.SplicePieces.{piece, edited_is, tagged-append, untagged-append, length-tagged, length-untagged, spread, spread_whole, shown_moved}
use Rattle.patch.proofs.AbsorbLemmas.{IsAbsorption, absorption_is, shorter, behind_it, extent_two}

-- pieces whose first stretch `kept` is cut off
record IsFrom (a b : Point) (ps : List Piece) (tail kept : List ℕ) (qs : List Piece) (end : List ℕ) : Type 0 where
  old_is : old_of ps tail ≡ kept ++ old_of qs end
  new_is : new_of ps tail ≡ kept ++ new_of qs end
  tag_is : (i : ℕ) → tag_of i ps tail ≡ tagged_from i kept ++ tag_of (i + length kept) qs end
  shown_is : shown a b ps ≡ shown (traverse a (extent kept)) (traverse b (extent kept)) qs
  behind : AllApartBehind qs
  some : AllSome qs

from_tail : (a b : Point) (tail kept w : List ℕ) → tail ≡ kept ++ w → IsFrom a b [] tail kept [] w
from_tail a b tail kept w tail_is = record { old_is = tail_is; new_is = tail_is; tag_is = λ i. ap (tagged_from i) tail_is ∙ tagged-append i kept w; shown_is = refl; behind = tt; some = tt }

from_piece : (a b : Point) (p : Piece) (ps : List Piece) (tail kept w : List ℕ) → p.kept ≡ kept ++ w → AllApart ps → AllSome (p ∷ ps) → IsFrom a b (p ∷ ps) tail kept (piece w p.old p.new ∷ ps) tail
from_piece a b p ps tail kept w kept_is apart some_units = record {
  old_is = ap (λ (xs : List ℕ). xs ++ (p.old ++ old_of ps tail)) kept_is ∙ append_assoc kept w (p.old ++ old_of ps tail);
  new_is = ap (λ (xs : List ℕ). xs ++ (p.new ++ new_of ps tail)) kept_is ∙ append_assoc kept w (p.new ++ new_of ps tail);
  tag_is = λ i. ap (λ (xs : List ℕ). tagged_from i xs ++ (untagged p.new ++ tag_of (i + length xs + length p.old) ps tail)) kept_is
      ∙ (ap (λ (g : Tagged). g ++ (untagged p.new ++ tag_of (i + length (kept ++ w) + length p.old) ps tail)) (tagged-append i kept w)
      ∙ (append_assoc (tagged_from i kept) (tagged_from (i + length kept) w) (untagged p.new ++ tag_of (i + length (kept ++ w) + length p.old) ps tail)
      ∙ ap (λ (n : ℕ). tagged_from i kept ++ (tagged_from (i + length kept) w ++ (untagged p.new ++ tag_of n ps tail))) (omega (arith, length-append kept w))));
  shown_is = ap (λ (x : Point). row x (traverse b (extent p.kept))) (way a) ∙ ap (row (traverse (traverse a (extent kept)) (extent w))) (way b);
  behind = apart;
  some = some_units;
}
  where
    row : Point → Point → List Hunk
    row x y = hunk_between x y p.old p.new ∷ shown (traverse x (extent p.old)) (traverse y (extent p.new)) ps

    way : (x : Point) → traverse x (extent p.kept) ≡ traverse (traverse x (extent kept)) (extent w)
    way x = ap (λ (xs : List ℕ). traverse x (extent xs)) kept_is ∙ extent_two x kept w

-- the pieces after one replacement more, behind the new units x
pub record IsRespliced (a b : Point) (ps : List Piece) (tail x deleted inserted : List ℕ) (q : List Hunk) : Type 0 where
  pub pieces : List Piece
  pub end : List ℕ
  pub old_is : old_of ps tail ≡ old_of pieces end
  pub tag_is : (i : ℕ) → edited (tag_of i ps tail) (length x) (length x + length deleted) inserted ≡ tag_of i pieces end
  pub is : spread a b pieces ≡ q
  pub behind : AllApartBehind pieces
  pub apart : AllApart ps → 0 < length x → AllApart pieces

some_change : (a b : Point) (old new : List ℕ) → ((length old == 0) && (length new == 0)) ≡ false → change_at a b old new ≡ hunk_between a b old new ∷ []
some_change a b old new some_units = cond-false ((length old == 0) && (length new == 0)) [] (hunk_between a b old new ∷ []) some_units

pub spread_some : (a b : Point) (ps : List Piece) → AllSome ps → spread a b ps ≡ shown a b ps
spread_some a b [] some_units = refl
spread_some a b (p ∷ ps) some_units = ap (λ (hs : List Hunk). hs ++ spread (traverse (traverse a (extent p.kept)) (extent p.old)) (traverse (traverse b (extent p.kept)) (extent p.new)) ps)
    (some_change (traverse a (extent p.kept)) (traverse b (extent p.kept)) p.old p.new some_units.0)
    ∙ ap (λ (hs : List Hunk). hunk_between (traverse a (extent p.kept)) (traverse b (extent p.kept)) p.old p.new ∷ hs)
    (spread_some (traverse (traverse a (extent p.kept)) (extent p.old)) (traverse (traverse b (extent p.kept)) (extent p.new)) ps some_units.1)

-- the replacement starts behind what is kept and the new units `pre`
module _ (a b : Point) (ps : List Piece) (tail kept pre deleted inserted : List ℕ) (qs : List Piece) (end : List ℕ) (from : IsFrom a b ps tail kept qs end)
    (begins : (i : ℕ) → take (length pre) (tag_of i qs end) ≡ untagged pre) (c : Absorption) (absorbs : IsAbsorption (traverse a (extent kept)) (traverse b (extent kept)) qs end (pre ++ deleted) c)
    (some_kept : AllApart ps → 0 < length (kept ++ pre) → is_none kept ≡ false) where
  one_change_pieces : IsRespliced a b ps tail (kept ++ pre) deleted inserted (one_change (traverse a (extent kept)) (traverse b (extent kept)) pre deleted inserted c)
  one_change_pieces = record {
    pieces = piece kept c.mid (pre ++ inserted ++ c.post) ∷ absorbs.rest;
    end = absorbs.rest_tail;
    old_is = from.old_is ∙ ap (λ (xs : List ℕ). kept ++ xs) absorbs.absorbed.old_is;
    tag_is = λ i. ap (λ (g : Tagged). edited g (length (kept ++ pre)) (length (kept ++ pre) + length deleted) inserted) (from.tag_is i ∙ ap (λ (g : Tagged). tagged_from i kept ++ g) (absorbs.absorbed.tag_is (i + length kept)))
        ∙ edited_is (tagged_from i kept) (absorbs.absorbed.over (i + length kept)) (tag_of (i + length kept + length c.mid) absorbs.rest absorbs.rest_tail) pre c.post inserted (length (kept ++ pre)) (length deleted)
        (length-append kept pre ∙ omega (arith, length-tagged i kept)) (over_size (i + length kept)) (over_begins (i + length kept));
    is = ap (λ (hs : List Hunk). change_at A B c.mid (pre ++ inserted ++ c.post) ++ hs) rest_is;
    behind = absorbs.apart;
    apart = λ ps_apart some_before. (some_kept ps_apart some_before, absorbs.apart);
  }
    where
      A : Point
      A = traverse a (extent kept)

      B : Point
      B = traverse b (extent kept)

      over_size : (i : ℕ) → length (absorbs.absorbed.over i) ≡ length pre + length deleted
      over_size i = absorbs.absorbed.over_size i ∙ length-append pre deleted

      over_begins : (i : ℕ) → take (length pre) (absorbs.absorbed.over i) ≡ untagged pre
      over_begins i = sym (take-append-le (length pre) (absorbs.absorbed.over i) (untagged c.post ++ tag_of (i + length c.mid) absorbs.rest absorbs.rest_tail) (omega (arith, over_size i)))
          ∙ (ap (take (length pre)) (sym (absorbs.absorbed.tag_is i)) ∙ begins i)

      rest_is : spread (traverse (traverse a (extent kept)) (extent c.mid)) (traverse (traverse b (extent kept)) (extent (pre ++ inserted ++ c.post))) absorbs.rest
          ≡ map (moved_hunk (traverse (traverse b (extent kept)) (extent (pre ++ deleted ++ c.post))) (traverse (traverse b (extent kept)) (extent (pre ++ inserted ++ c.post)))) c.rest
      rest_is =
          let A2 : Point = traverse (traverse a (extent kept)) (extent c.mid) in
          let from_ : Point = traverse (traverse b (extent kept)) (extent (pre ++ deleted ++ c.post)) in
          let to : Point = traverse (traverse b (extent kept)) (extent (pre ++ inserted ++ c.post)) in
          spread_some A2 to absorbs.rest absorbs.some ∙ (ap (λ (x : Point). shown A2 x absorbs.rest) (sym (traverse_origin to)) ∙ (shown_moved from_ to A2 origin absorbs.rest
          ∙ ap (map (moved_hunk from_ to)) (ap (λ (x : Point). shown A2 x absorbs.rest) (traverse_origin from_) ∙ sym absorbs.rest_is)))

-- the replacement starts in what is kept before the first piece, or in the tail
before_is : (a b start : Point) (ps : List Piece) (tail x deleted inserted z : List ℕ) (qs : List Piece) (end : List ℕ) → IsFrom a b ps tail x qs end → start ≡ traverse b (extent x) → new_of qs end ≡ deleted ++ z
    → IsRespliced a b ps tail x deleted inserted (spliced_before a b start deleted inserted (shown a b ps))
before_is a b start ps tail x deleted inserted z qs end from start_is text_is = subst (IsRespliced a b ps tail x deleted inserted) (sym computed)
    (subst (λ (xs : List ℕ). IsRespliced a b ps tail xs deleted inserted (one_change (traverse a (extent x)) (traverse b (extent x)) [] deleted inserted c)) (append-nil x)
    (one_change_pieces a b ps tail x [] deleted inserted qs end from (λ i. refl) c absorbs (λ _ some_before. some_kept x (omega (arith, some_before, ap length (append-nil x))))))
  where
    c : Absorption
    c = absorption (traverse b (extent x)) deleted (shown (traverse a (extent x)) (traverse b (extent x)) qs)

    absorbs : IsAbsorption (traverse a (extent x)) (traverse b (extent x)) qs end deleted (absorption (traverse b (extent x)) deleted (shown (traverse a (extent x)) (traverse b (extent x)) qs))
    absorbs = absorption_is (traverse a (extent x)) (traverse b (extent x)) qs end deleted z from.behind from.some text_is

    some_kept : (xs : List ℕ) → 0 < length xs → is_none xs ≡ false
    some_kept [] lt = absurd (omega arith)
    some_kept (u ∷ us) lt = refl

    computed : spliced_before a b start deleted inserted (shown a b ps) ≡ one_change (traverse a (extent x)) (traverse b (extent x)) [] deleted inserted (absorption (traverse b (extent x)) deleted (shown (traverse a (extent x)) (traverse b (extent x)) qs))
    computed = ap (λ (s : Point). spliced_before a b s deleted inserted (shown a b ps)) start_is
        ∙ (ap (λ (e : Point). one_change (traverse a e) (traverse b (extent x)) [] deleted inserted (absorption (traverse b (extent x)) deleted (shown a b ps))) (traversal-traverse b (extent x))
        ∙ ap (λ (hs : List Hunk). one_change (traverse a (extent x)) (traverse b (extent x)) [] deleted inserted (absorption (traverse b (extent x)) deleted hs)) from.shown_is)

-- it starts in the first piece's new text, behind the units `pre` of it
in_is : (a b start : Point) (p : Piece) (ps : List Piece) (tail pre post deleted inserted z : List ℕ) → AllApart ps → AllSome (p ∷ ps) → start ≡ traverse (traverse b (extent p.kept)) (extent pre) → p.new ≡ pre ++ post
    → p.new ++ new_of ps tail ≡ (pre ++ deleted) ++ z
    → IsRespliced a b (p ∷ ps) tail (p.kept ++ pre) deleted inserted (spliced_in start deleted inserted (hunk_between (traverse a (extent p.kept)) (traverse b (extent p.kept)) p.old p.new)
    (shown (traverse (traverse a (extent p.kept)) (extent p.old)) (traverse (traverse b (extent p.kept)) (extent p.new)) ps))
in_is a b start p ps tail pre post deleted inserted z apart some_units start_is new_is text_is = subst (IsRespliced a b (p ∷ ps) tail (p.kept ++ pre) deleted inserted) (sym computed)
    (one_change_pieces a b (p ∷ ps) tail p.kept pre deleted inserted (piece [] p.old p.new ∷ ps) tail from begins c absorbs (λ ps_apart _. ps_apart.0))
  where
    A : Point
    A = traverse a (extent p.kept)

    B : Point
    B = traverse b (extent p.kept)

    from : IsFrom a b (p ∷ ps) tail p.kept (piece [] p.old p.new ∷ ps) tail
    from = from_piece a b p ps tail p.kept [] (sym (append-nil p.kept)) apart some_units

    c : Absorption
    c = absorption (traverse b (extent p.kept)) (pre ++ deleted) (shown (traverse a (extent p.kept)) (traverse b (extent p.kept)) (piece [] p.old p.new ∷ ps))

    absorbs : IsAbsorption (traverse a (extent p.kept)) (traverse b (extent p.kept)) (piece [] p.old p.new ∷ ps) tail (pre ++ deleted) (absorption (traverse b (extent p.kept)) (pre ++ deleted) (shown (traverse a (extent p.kept)) (traverse b (extent p.kept)) (piece [] p.old p.new ∷ ps)))
    absorbs = absorption_is (traverse a (extent p.kept)) (traverse b (extent p.kept)) (piece [] p.old p.new ∷ ps) tail (pre ++ deleted) z apart some_units text_is

    begins : (i : ℕ) → take (length pre) (tag_of i (piece [] p.old p.new ∷ ps) tail) ≡ untagged pre
    begins i = ap (λ (xs : List ℕ). take (length pre) (untagged xs ++ tag_of (i + 0 + length p.old) ps tail)) new_is
        ∙ (ap (λ (g : Tagged). take (length pre) (g ++ tag_of (i + 0 + length p.old) ps tail)) (untagged-append pre post)
        ∙ (ap (take (length pre)) (append_assoc (untagged pre) (untagged post) (tag_of (i + 0 + length p.old) ps tail))
        ∙ take_at (untagged pre) (untagged post ++ tag_of (i + 0 + length p.old) ps tail) (length pre) (length-untagged pre)))

    pre_is : units_before start (hunk_between (traverse a (extent p.kept)) (traverse b (extent p.kept)) p.old p.new) ≡ pre
    pre_is = ap (λ (s : Point). take (unwrap_or (offset_of p.new (traversal s (traverse b (extent p.kept)))) 0) p.new) start_is
        ∙ (ap (λ (e : Point). take (unwrap_or (offset_of p.new e) 0) p.new) (traversal-traverse (traverse b (extent p.kept)) (extent pre))
        ∙ (ap (λ (o : Option ℕ). take (unwrap_or o 0) p.new) (offset_of-at p.new (extent pre) (length pre) (omega (arith, ap length new_is, length-append pre post)) (ap extent begins_new)) ∙ begins_new))
      where
        begins_new : take (length pre) p.new ≡ pre
        begins_new = ap (take (length pre)) new_is ∙ take_at pre post (length pre) refl

    computed : spliced_in start deleted inserted (hunk_between (traverse a (extent p.kept)) (traverse b (extent p.kept)) p.old p.new) (shown (traverse (traverse a (extent p.kept)) (extent p.old)) (traverse (traverse b (extent p.kept)) (extent p.new)) ps)
        ≡ one_change (traverse a (extent p.kept)) (traverse b (extent p.kept)) pre deleted inserted (absorption (traverse b (extent p.kept)) (pre ++ deleted) (shown (traverse a (extent p.kept)) (traverse b (extent p.kept)) (piece [] p.old p.new ∷ ps)))
    computed = ap (λ (xs : List ℕ). one_change (traverse a (extent p.kept)) (traverse b (extent p.kept)) xs deleted inserted (absorption (traverse b (extent p.kept)) (xs ++ deleted) (shown a b (p ∷ ps)))) pre_is
        ∙ ap (λ (hs : List Hunk). one_change (traverse a (extent p.kept)) (traverse b (extent p.kept)) pre deleted inserted (absorption (traverse b (extent p.kept)) (pre ++ deleted) hs)) from.shown_is

edited_behind : (f g : Tagged) (n j size : ℕ) (inserted : List ℕ) → n ≡ length f + j → edited (f ++ g) n (n + size) inserted ≡ f ++ edited g j (j + size) inserted
edited_behind [] g n j size inserted n_is = let e : n ≡ j = omega arith in ap (λ (m : ℕ). edited g m (m + size) inserted) e
edited_behind (y ∷ f) g n j size inserted n_is = ap (λ (m : ℕ). edited (y ∷ (f ++ g)) m (n + size) inserted) first ∙ (ap (λ (m : ℕ). edited (y ∷ (f ++ g)) (suc (length f + j)) m inserted) last
    ∙ ap (λ (h : Tagged). y ∷ h) (edited_behind f g (length f + j) j size inserted refl))
  where
    first : n ≡ suc (length f + j)
    first = omega arith

    last : n + size ≡ suc (length f + j + size)
    last = omega arith

-- it starts behind the first piece
behind_is : (a b : Point) (p : Piece) (ps : List Piece) (tail x deleted inserted : List ℕ) (q : List Hunk) → ((length p.old == 0) && (length p.new == 0)) ≡ false → 0 < length x → AllApart ps
    → IsRespliced (traverse (traverse a (extent p.kept)) (extent p.old)) (traverse (traverse b (extent p.kept)) (extent p.new)) ps tail x deleted inserted q
    → IsRespliced a b (p ∷ ps) tail (p.kept ++ (p.new ++ x)) deleted inserted (hunk_between (traverse a (extent p.kept)) (traverse b (extent p.kept)) p.old p.new ∷ q)
behind_is a b p ps tail x deleted inserted q some_units some_before apart r = record {
  pieces = p ∷ r.pieces;
  end = r.end;
  old_is = ap (λ (xs : List ℕ). p.kept ++ (p.old ++ xs)) r.old_is;
  tag_is = λ i. let k : ℕ = i + length p.kept + length p.old in let F : Tagged = tagged_from i p.kept ++ untagged p.new in
      ap (λ (g : Tagged). edited g (length (p.kept ++ (p.new ++ x))) (length (p.kept ++ (p.new ++ x)) + length deleted) inserted) (sym (append_assoc (tagged_from i p.kept) (untagged p.new) (tag_of k ps tail)))
      ∙ (edited_behind F (tag_of k ps tail) (length (p.kept ++ (p.new ++ x))) (length x) (length deleted) inserted
      (omega (arith, length-append p.kept (p.new ++ x), length-append p.new x, length-append (tagged_from i p.kept) (untagged p.new), length-tagged i p.kept, length-untagged p.new))
      ∙ (ap (λ (g : Tagged). F ++ g) (r.tag_is k) ∙ append_assoc (tagged_from i p.kept) (untagged p.new) (tag_of k r.pieces r.end)));
  is = ap (λ (hs : List Hunk). hs ++ spread (traverse (traverse a (extent p.kept)) (extent p.old)) (traverse (traverse b (extent p.kept)) (extent p.new)) r.pieces)
      (some_change (traverse a (extent p.kept)) (traverse b (extent p.kept)) p.old p.new some_units)
      ∙ ap (λ (hs : List Hunk). hunk_between (traverse a (extent p.kept)) (traverse b (extent p.kept)) p.old p.new ∷ hs) r.is;
  behind = r.apart apart some_before;
  apart = λ ps_apart _. (ps_apart.0, r.apart apart some_before);
}

-- a place that lies behind another, or at it
lt_from_some : (p q : Point) (t : List ℕ) → q ≡ traverse p (extent t) → 0 < length t → point_lt p q ≡ true
lt_from_some p q t q_is some_units = ap (point_lt p) q_is ∙ point_lt-traverse p (extent t) (grind (arith, behind_whole t))

not_lt : (p q : Point) → point_le q p ≡ true → point_lt p q ≡ false
not_lt p q le = grind (arith, nat_tests)

not_le : (p q : Point) → point_lt q p ≡ true → point_le p q ≡ false
not_le p q lt = grind (arith, nat_tests)

le_from : (p q e : Point) → q ≡ traverse p e → point_le p q ≡ true
le_from p q e q_is = ap (point_le p) q_is ∙ point_le-traverse p e

module _ (a b start : Point) (p : Piece) (ps : List Piece) (tail x deleted inserted z : List ℕ) (apart : AllApart ps) (some_units : AllSome (p ∷ ps)) (start_is : start ≡ traverse b (extent x))
    (text_is : p.kept ++ (p.new ++ new_of ps tail) ≡ x ++ (deleted ++ z)) where
  -- it starts before the first piece's change
  step_before : length x < length p.kept → IsRespliced a b (p ∷ ps) tail x deleted inserted (spliced_from a b start deleted inserted (shown a b (p ∷ ps)))
  step_before lt = subst (IsRespliced a b (p ∷ ps) tail x deleted inserted) (sym (cond-false (point_lt (traverse (traverse b (extent p.kept)) (extent p.new)) start) _ _ not_behind ∙ cond-false (point_le (traverse b (extent p.kept)) start) _ _ not_in))
      (before_is a b start (p ∷ ps) tail x deleted inserted z (piece (drop (length x) p.kept) p.old p.new ∷ ps) tail (from_piece a b p ps tail x (drop (length x) p.kept) kept_is apart some_units) start_is
      (sym (behind_it x (deleted ++ z) p.kept (p.new ++ new_of ps tail) (sym text_is) kept_is)))
    where
      kept_is : p.kept ≡ x ++ drop (length x) p.kept
      kept_is = shorter p.kept (p.new ++ new_of ps tail) x (deleted ++ z) text_is (omega arith)

      new_start : traverse b (extent p.kept) ≡ traverse start (extent (drop (length x) p.kept))
      new_start = ap (λ (xs : List ℕ). traverse b (extent xs)) kept_is ∙ (extent_two b x (drop (length x) p.kept) ∙ ap (λ (s : Point). traverse s (extent (drop (length x) p.kept))) (sym start_is))

      start_lt : point_lt start (traverse b (extent p.kept)) ≡ true
      start_lt = lt_from_some start (traverse b (extent p.kept)) (drop (length x) p.kept) new_start (omega (arith, length-drop (length x) p.kept))

      not_in : point_le (traverse b (extent p.kept)) start ≡ false
      not_in = not_le (traverse b (extent p.kept)) start start_lt

      not_behind : point_lt (traverse (traverse b (extent p.kept)) (extent p.new)) start ≡ false
      not_behind = not_lt (traverse (traverse b (extent p.kept)) (extent p.new)) start (point_le_trans start (traverse b (extent p.kept)) (traverse (traverse b (extent p.kept)) (extent p.new))
          (le_from start (traverse b (extent p.kept)) (extent (drop (length x) p.kept)) new_start) (point_le-traverse (traverse b (extent p.kept)) (extent p.new)))

  module _ (le : length p.kept ≤ length x) where
    x_is : x ≡ p.kept ++ drop (length p.kept) x
    x_is = shorter x (deleted ++ z) p.kept (p.new ++ new_of ps tail) (sym text_is) le

    behind_kept : p.new ++ new_of ps tail ≡ drop (length p.kept) x ++ (deleted ++ z)
    behind_kept = behind_it p.kept (p.new ++ new_of ps tail) x (deleted ++ z) text_is x_is

    start_in : start ≡ traverse (traverse b (extent p.kept)) (extent (drop (length p.kept) x))
    start_in = start_is ∙ (ap (λ (xs : List ℕ). traverse b (extent xs)) x_is ∙ extent_two b p.kept (drop (length p.kept) x))

    -- it starts in the change
    step_in : length (drop (length p.kept) x) ≤ length p.new → IsRespliced a b (p ∷ ps) tail x deleted inserted (spliced_from a b start deleted inserted (shown a b (p ∷ ps)))
    step_in within = subst (IsRespliced a b (p ∷ ps) tail x deleted inserted) (sym (cond-false (point_lt (traverse (traverse b (extent p.kept)) (extent p.new)) start) _ _ not_behind ∙ cond-true (point_le (traverse b (extent p.kept)) start) _ _ is_in))
        (subst (λ (xs : List ℕ). IsRespliced a b (p ∷ ps) tail xs deleted inserted (spliced_in start deleted inserted (hunk_between (traverse a (extent p.kept)) (traverse b (extent p.kept)) p.old p.new)
        (shown (traverse (traverse a (extent p.kept)) (extent p.old)) (traverse (traverse b (extent p.kept)) (extent p.new)) ps))) (sym x_is)
        (in_is a b start p ps tail (drop (length p.kept) x) (drop (length (drop (length p.kept) x)) p.new) deleted inserted z apart some_units start_in new_is (behind_kept ∙ sym (append_assoc (drop (length p.kept) x) deleted z))))
      where
        new_is : p.new ≡ drop (length p.kept) x ++ drop (length (drop (length p.kept) x)) p.new
        new_is = shorter p.new (new_of ps tail) (drop (length p.kept) x) (deleted ++ z) behind_kept within

        is_in : point_le (traverse b (extent p.kept)) start ≡ true
        is_in = le_from (traverse b (extent p.kept)) start (extent (drop (length p.kept) x)) start_in

        not_behind : point_lt (traverse (traverse b (extent p.kept)) (extent p.new)) start ≡ false
        not_behind = not_lt (traverse (traverse b (extent p.kept)) (extent p.new)) start (le_from start (traverse (traverse b (extent p.kept)) (extent p.new)) (extent (drop (length (drop (length p.kept) x)) p.new))
            (ap (λ (xs : List ℕ). traverse (traverse b (extent p.kept)) (extent xs)) new_is ∙ (extent_two (traverse b (extent p.kept)) (drop (length p.kept) x) (drop (length (drop (length p.kept) x)) p.new)
            ∙ ap (λ (s : Point). traverse s (extent (drop (length (drop (length p.kept) x)) p.new))) (sym start_in))))

    -- it starts behind it
    module _ (longer : length p.new < length (drop (length p.kept) x)) where
      y_is : drop (length p.kept) x ≡ p.new ++ drop (length p.new) (drop (length p.kept) x)
      y_is = shorter (drop (length p.kept) x) (deleted ++ z) p.new (new_of ps tail) (sym behind_kept) (omega arith)

      rest_text : new_of ps tail ≡ drop (length p.new) (drop (length p.kept) x) ++ (deleted ++ z)
      rest_text = behind_it p.new (new_of ps tail) (drop (length p.kept) x) (deleted ++ z) behind_kept y_is

      rest_start : start ≡ traverse (traverse (traverse b (extent p.kept)) (extent p.new)) (extent (drop (length p.new) (drop (length p.kept) x)))
      rest_start = start_in ∙ (ap (λ (xs : List ℕ). traverse (traverse b (extent p.kept)) (extent xs)) y_is ∙ extent_two (traverse b (extent p.kept)) p.new (drop (length p.new) (drop (length p.kept) x)))

      some_before : 0 < length (drop (length p.new) (drop (length p.kept) x))
      some_before = omega (arith, longer, length-drop (length p.new) (drop (length p.kept) x))

      step_behind : IsRespliced (traverse (traverse a (extent p.kept)) (extent p.old)) (traverse (traverse b (extent p.kept)) (extent p.new)) ps tail (drop (length p.new) (drop (length p.kept) x)) deleted inserted
          (spliced_from (traverse (traverse a (extent p.kept)) (extent p.old)) (traverse (traverse b (extent p.kept)) (extent p.new)) start deleted inserted (shown (traverse (traverse a (extent p.kept)) (extent p.old)) (traverse (traverse b (extent p.kept)) (extent p.new)) ps))
          → IsRespliced a b (p ∷ ps) tail x deleted inserted (spliced_from a b start deleted inserted (shown a b (p ∷ ps)))
      step_behind later = subst (IsRespliced a b (p ∷ ps) tail x deleted inserted) (sym (cond-true (point_lt (traverse (traverse b (extent p.kept)) (extent p.new)) start) _ _ is_behind))
          (subst (λ (xs : List ℕ). IsRespliced a b (p ∷ ps) tail xs deleted inserted (hunk_between (traverse a (extent p.kept)) (traverse b (extent p.kept)) p.old p.new
          ∷ spliced_from (traverse (traverse a (extent p.kept)) (extent p.old)) (traverse (traverse b (extent p.kept)) (extent p.new)) start deleted inserted (shown (traverse (traverse a (extent p.kept)) (extent p.old)) (traverse (traverse b (extent p.kept)) (extent p.new)) ps)))
          (sym (x_is ∙ ap (λ (xs : List ℕ). p.kept ++ xs) y_is))
          (behind_is a b p ps tail (drop (length p.new) (drop (length p.kept) x)) deleted inserted (spliced_from (traverse (traverse a (extent p.kept)) (extent p.old)) (traverse (traverse b (extent p.kept)) (extent p.new)) start deleted inserted
          (shown (traverse (traverse a (extent p.kept)) (extent p.old)) (traverse (traverse b (extent p.kept)) (extent p.new)) ps)) some_units.0 some_before apart later))
        where
          is_behind : point_lt (traverse (traverse b (extent p.kept)) (extent p.new)) start ≡ true
          is_behind = lt_from_some (traverse (traverse b (extent p.kept)) (extent p.new)) start (drop (length p.new) (drop (length p.kept) x)) rest_start some_before

apart_from : (ps : List Piece) → AllApart ps → AllApartBehind ps
apart_from [] apart = tt
apart_from (p ∷ ps) apart = apart.1

-- on pieces, the replacement makes the changes that are found
pub respliced : (a b start : Point) (ps : List Piece) (tail x deleted inserted z : List ℕ) → AllApartBehind ps → AllSome ps → start ≡ traverse b (extent x) → new_of ps tail ≡ x ++ (deleted ++ z)
    → IsRespliced a b ps tail x deleted inserted (spliced_from a b start deleted inserted (shown a b ps))
respliced a b start [] tail x deleted inserted z apart some_units start_is text_is = before_is a b start [] tail x deleted inserted z [] (deleted ++ z) (from_tail a b tail x (deleted ++ z) text_is) start_is refl
respliced a b start (p ∷ ps) tail x deleted inserted z apart some_units start_is text_is = elim (cases_lt (length x) (length p.kept)) [
  | inl lt ↦ step_before a b start p ps tail x deleted inserted z apart some_units start_is text_is lt
  | inr le ↦ elim (cases_lt (length p.new) (length (drop (length p.kept) x))) [
    | inr within ↦ step_in a b start p ps tail x deleted inserted z apart some_units start_is text_is le within
    | inl longer ↦ step_behind a b start p ps tail x deleted inserted z apart some_units start_is text_is le longer
        (respliced (traverse (traverse a (extent p.kept)) (extent p.old)) (traverse (traverse b (extent p.kept)) (extent p.new)) start ps tail (drop (length p.new) (drop (length p.kept) x)) deleted inserted z (apart_from ps apart) some_units.1
        (rest_start a b start p ps tail x deleted inserted z apart some_units start_is text_is le longer) (rest_text a b start p ps tail x deleted inserted z apart some_units start_is text_is le longer))
  ]
]

whole_spread : (ps : List Piece) → AllApartBehind ps → changes_of origin origin [] [] ps ≡ spread origin origin ps
whole_spread [] apart = refl
whole_spread (p ∷ ps) apart = spread_whole p ps apart

-- a tagged text of s that is made of pieces, whose gaps are q
record IsMadeOn (s : List ℕ) (g : Tagged) (q : List Hunk) : Type 0 where
  pieces : List Piece
  end : List ℕ
  old_is : s ≡ old_of pieces end
  tag_is : g ≡ tag_of 0 pieces end
  is : gaps s g ≡ q

spliced_on : (p : List Hunk) → IsGapList p → (start end : Point) (deleted inserted s : List ℕ) (i : ℕ) → Fits p s → StandsAt (applied p s) i start end deleted
    → IsMadeOn s (edited (tag p s) i (i + length deleted) inserted) (spliced p start deleted inserted)
spliced_on p gap_list start end deleted inserted s i fits stands = record {
  pieces = r.pieces;
  end = r.end;
  old_is = cut.text ∙ r.old_is;
  tag_is = tags;
  is = ap (gaps s) tags ∙ (gaps_of_pieces s r.pieces r.end (cut.text ∙ r.old_is) ∙ (whole_spread r.pieces r.behind ∙ (r.is ∙ ap (spliced_from origin origin start deleted inserted) (sym cut.is))));
}
  where
    cut : IsCut false s [] s origin p
    cut = cut_of_gaps s p gap_list fits

    text : applied p s ≡ new_of cut.pieces cut.tail
    text = ap units_of cut.tags ∙ units_of_pieces 0 cut.pieces cut.tail

    x_size : length (take i (applied p s)) ≡ i
    x_size = length-take-le i (applied p s) (omega (arith, stands.within))

    text_is : new_of cut.pieces cut.tail ≡ take i (applied p s) ++ (deleted ++ drop (length deleted) (drop i (applied p s)))
    text_is = sym text ∙ (sym (take-append-drop i (applied p s)) ∙ ap (λ (xs : List ℕ). take i (applied p s) ++ xs) (sym (take-append-drop (length deleted) (drop i (applied p s))) ∙ ap (λ (xs : List ℕ). xs ++ drop (length deleted) (drop i (applied p s))) stands.units_are))

    r : IsRespliced origin origin cut.pieces cut.tail (take i (applied p s)) deleted inserted (spliced_from origin origin start deleted inserted (shown origin origin cut.pieces))
    r = respliced origin origin start cut.pieces cut.tail (take i (applied p s)) deleted inserted (drop (length deleted) (drop i (applied p s))) cut.behind cut.some (sym stands.start_is ∙ sym (traverse-origin (extent (take i (applied p s))))) text_is

    tags : edited (tag p s) i (i + length deleted) inserted ≡ tag_of 0 r.pieces r.end
    tags = ap (λ (g : Tagged). edited g i (i + length deleted) inserted) cut.tags ∙ (ap (λ (n : ℕ). edited (tag_of 0 cut.pieces cut.tail) n (n + length deleted) inserted) (sym x_size) ∙ r.tag_is 0)

-- the gaps after one replacement more, for every text that the changes fit
pub splice_is : (p : List Hunk) → IsGapList p → (start end : Point) (deleted inserted s : List ℕ) (i : ℕ) → Fits p s → StandsAt (applied p s) i start end deleted
    → gaps s (edited (tag p s) i (i + length deleted) inserted) ≡ spliced p start deleted inserted
splice_is p gap_list start end deleted inserted s i fits stands = (spliced_on p gap_list start end deleted inserted s i fits stands).is

-- they keep the rules, fit the text, and make the edited text of it
pub splice_made : (p : List Hunk) → IsGapList p → (start end : Point) (deleted inserted s : List ℕ) (i : ℕ) → Fits p s → StandsAt (applied p s) i start end deleted
    → AreGapsOf s (edited (tag p s) i (i + length deleted) inserted) (spliced p start deleted inserted)
splice_made p gap_list start end deleted inserted s i fits stands = let m = spliced_on p gap_list start end deleted inserted s i fits stands in
    subst (AreGapsOf s (edited (tag p s) i (i + length deleted) inserted)) m.is (gaps_made s (edited (tag p s) i (i + length deleted) inserted) m.pieces m.end m.old_is m.tag_is)
