-- A change of a layer with the changes before it and those behind it, and what a weaver takes over of them at once.
use Rattle.std.proofs.Common.{◌≡◌, ℕ, zero, suc, ◌+◌, ◌*◌, ◌-◌, ◌<◌, ◌≤◌, false, List, [], ◌∷◌, ◌++◌, length, take, drop, slice_get, slice_index_or, slice_range, unwrap_or, Option, Some, None, refl, sym, ap, ◌∙◌, subst, inl, inr, arith, append_assoc, length-append, take-append-drop}
use Rattle.std.specs.List.{sum_by}
use Rattle.std.proofs.lemmas.Option.{slice_get-get_or}
use Rattle.std.proofs.lemmas.List.{append-nil, drop_at, take_at, take_all, drop_all, take-append-le, take-map, drop-map, length-take-le, length-drop}
use Rattle.std.proofs.lemmas.List.Sums.{sum_by-cons}
use Rattle.points.specs.declared.limits.TheConstants.{MAX_UNITS}
use Rattle.patch.specs.Tagged.{Tagged, tagged_from, untagged, units_of, edited}
use Rattle.patch.proofs.Pieces.{Piece, AllApart, AllApartBehind, AllSome, is_none, old_of, new_of, tag_of}
use Rattle.patch.proofs.PatchPieces.{take-tagged}
use Rattle.patch.proofs.SplicePieces.{old-append, tag-append, untagged-append, length-tag, length-tagged, length-untagged}
use Rattle.chains.specs.declared.spot.Spot.{Spot}
use Rattle.chains.specs.declared.overlay.Cut.{Cut}
use Rattle.chains.specs.declared.overlay.Overlay.{Overlay}
use Rattle.chains.specs.declared.weaver.Weaver.{Weaver}
use Rattle.chains.specs.Overlay.{end_of, cuts_of, puts_of, tags_of, first_kept, IsLaid}
use Rattle.chains.specs.Spots.{ahead}
use Rattle.chains.specs.Weaving.{piece_size, a_piece, IsWoven, Follows, Weaves, IsStretch}
use Rattle.chains.specs.Walking.{IsIn, IsLater, IsEarlier, Lies, IsEdit, Opens, HasPut}
use Rattle.chains.proofs.LaidLemmas.{tags_of_laid, text_of_laid, slice_is}
use Rattle.chains.proofs.CutLemmas.{no_cut}
use Rattle.chains.proofs.StandParts.{puts_short}
use Rattle.chains.proofs.StandLemmas.{tag_first, old_first}
use Rattle.chains.specs.Moving.{IsRest, IsTail}
use Rattle.chains.proofs.RestLemmas.{get_drop, behind_all, drop_first, drop_tail, pieces_split, old_split, new_split, tag_split, puts_split, some_split, apart_split, cuts_prepend}
use Rattle.chains.proofs.WeaverLemmas.{cut_at, new-append, puts-append, cuts-append, ahead_is, follows_put, IsRoom}
use Rattle.chains.proofs.EditLemmas.{take_both, drop_both, spot_within, follows_tags, follows_untagged, follows_edited, edit_start}

-- the piece of the change at a place
pub piece_at : (a b put : List ℕ) (ps : List Piece) (j : ℕ) (c : Cut) → slice_get (cuts_of a b put ps) j ≡ Some c → (p : Piece) × (ps ≡ take j ps ++ p ∷ drop (suc j) ps) × (length (take j ps) ≡ j)
piece_at a b put [] j c e = absurd (no_cut c e)
piece_at a b put (p ∷ ps) zero c e = (p, refl, refl)
piece_at a b put (p ∷ ps) (suc j) c e = let h = piece_at (a ++ p.kept ++ p.old) (b ++ p.kept ++ p.new) (put ++ p.new) ps j c e in (h.0, ap (λ (qs : List Piece). p ∷ qs) h.1, ap suc h.2)

length-cuts : (a b put : List ℕ) (ps : List Piece) → length (cuts_of a b put ps) ≡ length ps
length-cuts a b put [] = refl
length-cuts a b put (p ∷ ps) = ap suc (length-cuts (a ++ p.kept ++ p.old) (b ++ p.kept ++ p.new) (put ++ p.new) ps)

get_next : (xs : List Cut) (y : Cut) (ys : List Cut) → slice_get (xs ++ y ∷ ys) (length xs) ≡ Some y
get_next [] y ys = refl
get_next (x ∷ xs) y ys = get_next xs y ys

drop_next : (xs : List Cut) (y : Cut) (ys : List Cut) → drop (suc (length xs)) (xs ++ y ∷ ys) ≡ ys
drop_next [] y ys = refl
drop_next (x ∷ xs) y ys = drop_next xs y ys

pub get_within : (xs : List Cut) (n : ℕ) (c : Cut) → slice_get xs n ≡ Some c → n < length xs
get_within [] n c e = absurd (no_cut c e)
get_within (x ∷ xs) zero c e = omega arith
get_within (x ∷ xs) (suc n) c e = omega (arith, get_within xs n c e)

-- the change at place j of a layer on s, with what stands before it and behind it
pub record HasCut (s : List ℕ) (o : Overlay) (j : ℕ) (cut : Cut) : Type 0 where
  pub front : List Piece
  pub piece : Piece
  pub back : List Piece
  pub tail : List ℕ
  pub text_is : s ≡ old_of front [] ++ (piece.kept ++ (piece.old ++ old_of back tail))
  pub new_is : units_of (tags_of s o) ≡ new_of front [] ++ (piece.kept ++ (piece.new ++ new_of back tail))
  pub tags_are : tags_of s o ≡ tag_of 0 front [] ++ (tagged_from (length (old_of front [])) piece.kept ++ (untagged piece.new ++ tag_of (length (old_of front [] ++ piece.kept ++ piece.old)) back tail))
  pub puts_are : o.text ≡ puts_of front ++ (piece.new ++ puts_of back)
  pub cut_is : cut ≡ cut_at (old_of front []) (new_of front []) (puts_of front) piece
  pub cuts_before : take j o.cuts.items ≡ cuts_of [] [] [] front
  pub cuts_behind : drop (suc j) o.cuts.items ≡ cuts_of (old_of front [] ++ piece.kept ++ piece.old) (new_of front [] ++ piece.kept ++ piece.new) (puts_of front ++ piece.new) back
  pub some : AllSome (front ++ piece ∷ back)
  pub apart : AllApartBehind (front ++ piece ∷ back)
  pub units_are : o.units ≡ sum_by piece_size (front ++ piece ∷ back)
  pub text_short : length o.text ≤ MAX_UNITS

pub has_cut : (s : List ℕ) (o : Overlay) (j : ℕ) (cut : Cut) → IsLaid s o → slice_get o.cuts.items j ≡ Some cut → HasCut s o j cut
has_cut s o j cut h e = record {
  front = F;
  piece = p;
  back = B;
  tail = h.tail;
  text_is = h.text_is ∙ (ap (λ (qs : List Piece). old_of qs h.tail) split ∙ old-append F (p ∷ B) h.tail);
  new_is = text_of_laid s o h ∙ (ap (λ (qs : List Piece). new_of qs h.tail) split ∙ new-append F (p ∷ B) h.tail);
  tags_are = tags_of_laid s o h ∙ (ap (λ (qs : List Piece). tag_of 0 qs h.tail) split ∙ (tag-append 0 F (p ∷ B) h.tail
      ∙ (ap (λ (i : ℕ). tag_of 0 F [] ++ tag_of i (p ∷ B) h.tail) (let z : 0 + length O ≡ length O = omega arith in z)
      ∙ ap (λ (i : ℕ). tag_of 0 F [] ++ (tagged_from (length O) p.kept ++ (untagged p.new ++ tag_of i B h.tail))) (let z : length O + length p.kept + length p.old ≡ length (O ++ p.kept ++ p.old) = omega (arith, length-append O p.kept, length-append (O ++ p.kept) p.old) in z))));
  puts_are = h.puts_are ∙ (ap puts_of split ∙ puts-append F (p ∷ B));
  cut_is = ap (λ (x : Option Cut). unwrap_or x cut) (sym e ∙ (ap (λ (cs : List Cut). slice_get cs j) all ∙ (ap (slice_get (CF ++ C ∷ CB)) (sym counted) ∙ get_next CF C CB)));
  cuts_before = ap (take j) all ∙ take_at CF (C ∷ CB) j counted;
  cuts_behind = ap (drop (suc j)) all ∙ (ap (λ (n : ℕ). drop (suc n) (CF ++ C ∷ CB)) (sym counted) ∙ drop_next CF C CB);
  some = subst AllSome split h.some;
  apart = subst AllApartBehind split h.behind;
  units_are = h.units_are ∙ ap (sum_by piece_size) split;
  text_short = omega (arith, ap length h.puts_are, puts_short h.pieces h.tail, h.new_short);
}
  where
    at : (p : Piece) × (h.pieces ≡ take j h.pieces ++ p ∷ drop (suc j) h.pieces) × (length (take j h.pieces) ≡ j)
    at = piece_at [] [] [] h.pieces j cut (ap (λ (cs : List Cut). slice_get cs j) (sym h.cuts_are) ∙ e)

    F : List Piece
    F = take j h.pieces

    p : Piece
    p = at.0

    B : List Piece
    B = drop (suc j) h.pieces

    O : List ℕ
    O = old_of F []

    split : h.pieces ≡ take j h.pieces ++ at.0 ∷ drop (suc j) h.pieces
    split = at.1

    CF : List Cut
    CF = cuts_of [] [] [] F

    C : Cut
    C = cut_at O (new_of F []) (puts_of F) p

    CB : List Cut
    CB = cuts_of (O ++ p.kept ++ p.old) (new_of F [] ++ p.kept ++ p.new) (puts_of F ++ p.new) B

    all : o.cuts.items ≡ CF ++ C ∷ CB
    all = h.cuts_are ∙ (ap (cuts_of [] [] []) split ∙ cuts-append [] [] [] F (p ∷ B))

    counted : length CF ≡ j
    counted = length-cuts [] [] [] F ∙ at.2

-- the cut before the place, and what is known of it
pub record Before (o : Overlay) (from : Spot) (n : ℕ) (cut : Cut) : Type 0 where
  pub at : slice_get o.cuts.items (n - 1) ≡ Some cut
  pub starts : cut.new.offset ≤ from.offset
  pub next : (d : Cut) → slice_get o.cuts.items (suc (n - 1)) ≡ Some d → from.offset < d.new.offset

pub before : (o : Overlay) (from : Spot) (xs : List Cut) (n : ℕ) (cut : Cut) → xs ≡ o.cuts.items → (n ≡ 0 → ⊥) → n ≤ length xs → ((d : Cut) → 0 < n → slice_get xs (n - 1) ≡ Some d → d.new.offset ≤ from.offset)
    → ((d : Cut) → slice_get xs n ≡ Some d → from.offset < d.new.offset) → cut ≡ slice_index_or o.cuts.items (n - 1) cut → Before o from n cut
before o from xs n cut same some within starts behind cut_is = record {
  at = at;
  starts = starts cut (omega (arith, some)) (ap (λ (ys : List Cut). slice_get ys (n - 1)) same ∙ at);
  next = λ d e. behind d (ap (λ (ys : List Cut). slice_get ys n) same ∙ (ap (slice_get o.cuts.items) (let z : n ≡ suc (n - 1) = omega (arith, some) in z) ∙ e));
}
  where
    at : slice_get o.cuts.items (n - 1) ≡ Some cut
    at = slice_get-get_or o.cuts.items (n - 1) cut (omega (arith, some, within, ap length same)) ∙ ap (λ (x : Cut). Some x) (sym cut_is)

-- pieces apart and some, in front
some_front : (f q : List Piece) → AllSome (f ++ q) → AllSome f
some_front [] q h = tt
some_front (x ∷ f) q h = (h.0, some_front f q h.1)

pub some_back : (f q : List Piece) → AllSome (f ++ q) → AllSome q
some_back [] q h = h
some_back (x ∷ f) q h = some_back f q h.1

apart_open : (f : List Piece) (p : Piece) (q : List Piece) (o n : List ℕ) → AllApart (f ++ p ∷ q) → AllApart (f ++ a_piece p.kept o n ∷ [])
apart_open [] p q o n h = (h.0, tt)
apart_open (x ∷ f) p q o n h = (h.0, apart_open f p q o n h.1)

behind_open : (f : List Piece) (p : Piece) (q : List Piece) (o n : List ℕ) → AllApartBehind (f ++ p ∷ q) → AllApartBehind (f ++ a_piece p.kept o n ∷ [])
behind_open [] p q o n h = tt
behind_open (x ∷ f) p q o n h = apart_open f p q o n h

-- how many units changes have, by what they leave of the old text and of the new one
pub sizes_by : (ps : List Piece) → sum_by piece_size ps + length (new_of ps []) ≡ length (old_of ps []) + 2 * length (puts_of ps)
sizes_by [] = omega arith
sizes_by (p ∷ ps) = omega (arith, sum_by-cons piece_size p ps, sizes_by ps, length-append p.kept (p.old ++ old_of ps []), length-append p.old (old_of ps []), length-append p.kept (p.new ++ new_of ps []), length-append p.new (new_of ps []), length-append p.new (puts_of ps))

take_tags : (n : ℕ) (us : List ℕ) → take n (untagged us) ≡ untagged (take n us)
take_tags n us = take-map (λ (u : ℕ). (u, None)) n us

-- a change that is opened, with what it put in up to a spot
module _ (s : List ℕ) (o : Overlay) (j : ℕ) (cut : Cut) (last : Spot) (h : Opens s o j cut last) (H : HasCut s o j cut) where
  abbrev p1 : Piece
  p1 = H.piece

  abbrev O1 : List ℕ
  O1 = old_of H.front []

  abbrev N1 : List ℕ
  N1 = new_of H.front []

  abbrev d1 : ℕ
  d1 = last.offset - length (N1 ++ p1.kept)

  put_lies : Lies (units_of (tags_of s o)) (N1 ++ p1.kept) p1.new cut.new cut.new_end
  put_lies = record { behind = new_of H.back H.tail; text_is = H.new_is ∙ sym (append_assoc N1 p1.kept (p1.new ++ new_of H.back H.tail)); start_is = ap (λ (c : Cut). c.new) H.cut_is; end_is = ap (λ (c : Cut). c.new_end) H.cut_is }

  starts1 : cut.new.offset ≡ length (N1 ++ p1.kept)
  starts1 = ap (λ (c : Cut). c.new.offset) H.cut_is

  ends1 : cut.new_end.offset ≡ length (N1 ++ p1.kept) + length p1.new
  ends1 = ap (λ (c : Cut). c.new_end.offset) H.cut_is ∙ length-append (N1 ++ p1.kept) p1.new

  d_within : d1 ≤ length p1.new
  d_within = omega (arith, starts1, ends1, h.behind, h.within)

  last_is : last ≡ end_of (N1 ++ p1.kept ++ take d1 p1.new)
  last_is = spot_within (units_of (tags_of s o)) (N1 ++ p1.kept) p1.new cut.new cut.new_end put_lies last h.last_in (omega (arith, starts1, h.behind)) (omega (arith, ends1, h.within))

  text_at : cut.text ≡ length (puts_of H.front)
  text_at = ap (λ (c : Cut). c.text) H.cut_is

  pub opened_end : cut.text + (last.offset - cut.new.offset) ≤ length o.text
  opened_end = omega (arith, text_at, starts1, ends1, h.behind, h.within, ap length H.puts_are, length-append (puts_of H.front) (p1.new ++ puts_of H.back), length-append p1.new (puts_of H.back))

  pub opened_short : length o.text ≤ MAX_UNITS
  opened_short = H.text_short

  opened_text : slice_range o.text 0 (cut.text + (last.offset - cut.new.offset)) ≡ puts_of H.front ++ take d1 p1.new
  opened_text = slice_is o.text [] (puts_of H.front ++ take d1 p1.new) (drop d1 p1.new ++ puts_of H.back) 0 _
      (H.puts_are ∙ (ap (λ (xs : List ℕ). puts_of H.front ++ (xs ++ puts_of H.back)) (sym (take-append-drop d1 p1.new))
      ∙ (ap (λ (xs : List ℕ). puts_of H.front ++ xs) (append_assoc (take d1 p1.new) (drop d1 p1.new) (puts_of H.back)) ∙ sym (append_assoc (puts_of H.front) (take d1 p1.new) (drop d1 p1.new ++ puts_of H.back)))))
      refl (omega (arith, text_at, starts1, h.behind, length-append (puts_of H.front) (take d1 p1.new), length-take-le d1 p1.new d_within))

  abbrev T1 : Tagged
  T1 = tag_of 0 H.front []

  abbrev K1 : Tagged
  K1 = tagged_from (length O1) p1.kept

  opened_tags : take last.offset (tags_of s o) ≡ T1 ++ (K1 ++ untagged (take d1 p1.new))
  opened_tags = ap (take last.offset) (H.tags_are ∙ (ap (λ (xs : List ℕ). T1 ++ (K1 ++ (untagged xs ++ R))) (sym (take-append-drop d1 p1.new))
      ∙ (ap (λ (x : Tagged). T1 ++ (K1 ++ (x ++ R))) (untagged-append (take d1 p1.new) (drop d1 p1.new))
      ∙ (ap (λ (x : Tagged). T1 ++ (K1 ++ x)) (append_assoc (untagged (take d1 p1.new)) (untagged (drop d1 p1.new)) R)
      ∙ (ap (λ (x : Tagged). T1 ++ x) (sym (append_assoc K1 (untagged (take d1 p1.new)) (untagged (drop d1 p1.new) ++ R)))
      ∙ sym (append_assoc T1 (K1 ++ untagged (take d1 p1.new)) (untagged (drop d1 p1.new) ++ R)))))))
      ∙ take_at (T1 ++ (K1 ++ untagged (take d1 p1.new))) (untagged (drop d1 p1.new) ++ R) last.offset (omega (
        arith,
        length-append T1 (K1 ++ untagged (take d1 p1.new)),
        length-append K1 (untagged (take d1 p1.new)),
        length-tag 0 H.front [],
        length-tagged (length O1) p1.kept,
        length-untagged (take d1 p1.new),
        length-take-le d1 p1.new d_within,
        length-append N1 p1.kept,
        starts1,
        h.behind,
      ))
    where
      R : Tagged
      R = tag_of (length (O1 ++ p1.kept ++ p1.old)) H.back H.tail

  sizes : sum_by piece_size H.front + cut.new.offset ≡ cut.old.offset + 2 * cut.text
  sizes = omega (arith, sizes_by H.front, starts1, ap (λ (c : Cut). c.old.offset) H.cut_is, text_at, length-append N1 p1.kept, length-append O1 p1.kept)

  pub opened_units : cut.new.offset ≤ cut.old.offset + 2 * cut.text
  opened_units = omega (arith, sizes)

  pub opened_old : cut.old.offset ≤ length s
  opened_old = omega (arith, ap (λ (c : Cut). c.old.offset) H.cut_is, ap length H.text_is, length-append O1 p1.kept, length-append O1 (p1.kept ++ (p1.old ++ old_of H.back H.tail)), length-append p1.kept (p1.old ++ old_of H.back H.tail))

  pub opened_woven : (w : Weaver) → w.cuts.items ≡ take j o.cuts.items → w.text ≡ slice_range o.text 0 (cut.text + (last.offset - cut.new.offset)) → w.open_old ≡ cut.old → w.open_new ≡ cut.new → w.open_text ≡ cut.text
      → w.at_old ≡ cut.old_end → w.at_new ≡ last → w.units ≡ cut.old.offset + 2 * cut.text - cut.new.offset → IsWoven s (take last.offset (tags_of s o)) w
  opened_woven w cuts_is text_is open_old_is open_new_is open_text_is old_is new_is units_is = record {
    pieces = H.front;
    kept = p1.kept;
    old = p1.old;
    new = take d1 p1.new;
    rest = old_of H.back H.tail;
    text_is = H.text_is;
    tags_are = opened_tags;
    cuts_are = cuts_is ∙ H.cuts_before;
    puts_are = text_is ∙ opened_text;
    open_old = open_old_is ∙ ap (λ (c : Cut). c.old) H.cut_is;
    open_new = open_new_is ∙ ap (λ (c : Cut). c.new) H.cut_is;
    open_text = open_text_is ∙ text_at;
    old_is = old_is ∙ ap (λ (c : Cut). c.old_end) H.cut_is;
    new_is = new_is ∙ last_is;
    units_are = units_is ∙ omega (arith, sizes);
    some = some_front H.front (p1 ∷ H.back) H.some;
    behind = λ x n. behind_open H.front p1 H.back x n H.apart;
  }

-- pieces behind others lie apart
apart_all : (f q : List Piece) → AllApart (f ++ q) → AllApart q
apart_all [] q h = h
apart_all (x ∷ f) q h = apart_all f q h.1

apart_behind : (f : List Piece) (p : Piece) (q : List Piece) → AllApartBehind (f ++ p ∷ q) → AllApartBehind q
apart_behind [] p q h = behind_all q h
apart_behind (x ∷ f) p q h = behind_all q (apart_all f (p ∷ q) h).1

apart_next : (f : List Piece) (p q : Piece) (qs : List Piece) → AllApartBehind (f ++ p ∷ q ∷ qs) → is_none q.kept ≡ false
apart_next [] p q qs h = h.0
apart_next (x ∷ f) p q qs h = (apart_all f (p ∷ q ∷ qs) h).1.0

some_kept : (k : List ℕ) → is_none k ≡ false → 0 < length k
some_kept [] e = absurd (let z : ⊥ = cc in z)
some_kept (u ∷ k) e = omega arith

new_first : (q : List Piece) (tail : List ℕ) → (more : List ℕ) × (new_of q tail ≡ first_kept q tail ++ more)
new_first [] tail = ([], sym (append-nil tail))
new_first (p ∷ ps) tail = (p.new ++ new_of ps tail, refl)

-- what the rest of an edited layer is
pub rest_is : (s : List ℕ) (o : Overlay) (n : ℕ) → IsLaid s o → slice_range (tags_of s o) n o.end.offset ++ [] ≡ drop n (tags_of s o)
rest_is s o n h = append-nil (slice_range (tags_of s o) n o.end.offset) ∙ take_all (o.end.offset - n) (drop n (tags_of s o)) (omega (arith, length-drop n (tags_of s o), ends))
  where
    ends : o.end.offset ≡ length (tags_of s o)
    ends = ap (λ (x : Spot). x.offset) h.end_is ∙ sym (ap length (tags_of_laid s o h) ∙ length-tag 0 h.pieces h.tail)

-- what a weaver keeps behind an opened change, up to a spot before the next one
module _ (s : List ℕ) (o : Overlay) (below from to : Spot) (put : List ℕ) (h : IsEdit s o below from to put) (j : ℕ) (cut : Cut) (at : slice_get o.cuts.items j ≡ Some cut) (H : HasCut s o j cut) (starts : cut.new.offset ≤ from.offset)
    (next : (c : Cut) → slice_get o.cuts.items (suc j) ≡ Some c → from.offset < c.new.offset) where
  abbrev p2 : Piece
  p2 = H.piece

  abbrev O2 : List ℕ
  O2 = old_of H.front []

  abbrev N2 : List ℕ
  N2 = new_of H.front []

  abbrev pub behind_old : List ℕ
  behind_old = O2 ++ p2.kept ++ p2.old

  abbrev E2 : List ℕ
  E2 = N2 ++ p2.kept ++ p2.new

  abbrev K2 : List ℕ
  K2 = first_kept H.back H.tail

  abbrev n2 : ℕ
  n2 = length (N2 ++ p2.kept)

  abbrev e2 : ℕ
  e2 = from.offset - length E2

  abbrev pub kept_behind : List ℕ
  kept_behind = take e2 K2

  abbrev t2 : List ℕ
  t2 = units_of (tags_of s o)

  abbrev g2 : Tagged
  g2 = tags_of s o

  old_end_is : cut.old_end ≡ end_of behind_old
  old_end_is = ap (λ (c : Cut). c.old_end) H.cut_is

  new_end_is : cut.new_end ≡ end_of E2
  new_end_is = ap (λ (c : Cut). c.new_end) H.cut_is

  ends : cut.new_end.offset ≡ length E2
  ends = ap (λ (x : Spot). x.offset) new_end_is

  begins : cut.new.offset ≡ n2
  begins = ap (λ (c : Cut). c.new.offset) H.cut_is

  E_length : length E2 ≡ n2 + length p2.new
  E_length = length-append (N2 ++ p2.kept) p2.new

  kept_lies : Lies t2 E2 K2 cut.new_end (end_of (E2 ++ K2))
  kept_lies = record {
    behind = (new_first H.back H.tail).0;
    text_is = H.new_is ∙ (ap (λ (xs : List ℕ). N2 ++ (p2.kept ++ (p2.new ++ xs))) (new_first H.back H.tail).1
        ∙ (sym (append_assoc N2 p2.kept (p2.new ++ (K2 ++ (new_first H.back H.tail).0))) ∙ sym (append_assoc (N2 ++ p2.kept) p2.new (K2 ++ (new_first H.back H.tail).0))));
    start_is = new_end_is;
    end_is = refl;
  }

  bound : from.offset ≤ length E2 + length K2
  bound = by_back H.back refl
    where
      by_back : (q : List Piece) → H.back ≡ q → from.offset ≤ length E2 + length (first_kept q H.tail)
      by_back [] none = omega (arith, h.from_in.within, ap length (H.new_is ∙ ap (λ (qs : List Piece). N2 ++ (p2.kept ++ (p2.new ++ new_of qs H.tail))) none), length-append N2 (p2.kept ++ (p2.new ++ H.tail)), length-append p2.kept (p2.new ++ H.tail), length-append p2.new H.tail, E_length, length-append N2 p2.kept)
      by_back (q ∷ qs) some = omega (arith, next (cut_at behind_old E2 (puts_of H.front ++ p2.new) q) (get_drop o.cuts.items (suc j) ∙ ap (λ (cs : List Cut). slice_get cs 0) (H.cuts_behind ∙ ap (cuts_of behind_old E2 (puts_of H.front ++ p2.new)) some)), length-append E2 q.kept)

  e_within : e2 ≤ length K2
  e_within = omega (arith, bound)

  later_is : (last : Spot) → IsLater cut.new_end from last → last ≡ end_of (E2 ++ take e2 K2)
  later_is last (inl f) = f.0 ∙ spot_within t2 E2 K2 cut.new_end (end_of (E2 ++ K2)) kept_lies from h.from_in (omega (arith, f.1, ends)) bound
  later_is last (inr f) = f.0 ∙ (new_end_is ∙ ap end_of (sym (ap (λ (i : ℕ). E2 ++ take i K2) none ∙ append-nil E2)))
    where
      none : from.offset - length E2 ≡ 0
      none = omega (arith, f.1, ends)

  pub below_is : (last : Spot) → IsLater cut.new_end from last → ahead cut.old_end cut.new_end last ≡ end_of (behind_old ++ kept_behind)
  below_is last f = ap (λ (v : Spot). ahead v cut.new_end last) old_end_is ∙ (ap (λ (v : Spot). ahead (end_of behind_old) v last) new_end_is
      ∙ (ap (ahead (end_of behind_old) (end_of E2)) (later_is last f) ∙ ahead_is behind_old E2 (take e2 K2)))

  pub front_order : (last : Spot) → IsLater cut.new_end from last → cut.new_end.offset ≤ last.offset
  front_order last (inl f) = omega (arith, f.1, ap (λ (x : Spot). x.offset) f.0)
  front_order last (inr f) = omega (arith, ap (λ (x : Spot). x.offset) f.0)

  text_split2 : s ≡ behind_old ++ (take e2 K2 ++ (drop e2 K2 ++ (old_first H.back H.tail).0))
  text_split2 = H.text_is ∙ (ap (λ (xs : List ℕ). O2 ++ (p2.kept ++ (p2.old ++ xs))) ((old_first H.back H.tail).1 ∙ (ap (λ (xs : List ℕ). xs ++ (old_first H.back H.tail).0) (sym (take-append-drop e2 K2)) ∙ append_assoc (take e2 K2) (drop e2 K2) (old_first H.back H.tail).0))
      ∙ (sym (append_assoc O2 p2.kept (p2.old ++ (take e2 K2 ++ (drop e2 K2 ++ (old_first H.back H.tail).0)))) ∙ sym (append_assoc (O2 ++ p2.kept) p2.old (take e2 K2 ++ (drop e2 K2 ++ (old_first H.back H.tail).0)))))

  pub front_stretch : (last y : Spot) → IsLater cut.new_end from last → y ≡ ahead cut.old_end cut.new_end last → IsStretch s behind_old kept_behind cut.old_end y
  front_stretch last y f y_is = record { behind = drop e2 K2 ++ (old_first H.back H.tail).0; text_is = text_split2; from_is = old_end_is; to_is = y_is ∙ below_is last f }

  pub front_room : (last : Spot) → IsLater cut.new_end from last → IsRoom (ahead cut.old_end cut.new_end last)
  front_room last f = record {
    text = behind_old ++ take e2 K2;
    is = below_is last f;
    short = omega (arith, h.laid.old_short, ap length text_split2, length-append behind_old (take e2 K2 ++ (drop e2 K2 ++ (old_first H.back H.tail).0)), length-append (take e2 K2) (drop e2 K2 ++ (old_first H.back H.tail).0), length-append behind_old (take e2 K2));
  }

  abbrev Rest2 : Tagged
  Rest2 = tag_of (length behind_old) H.back H.tail

  abbrev X2 : Tagged
  X2 = untagged p2.new ++ Rest2

  abbrev G2 : Tagged
  G2 = tag_of 0 H.front [] ++ tagged_from (length O2) p2.kept

  g_is : tags_of s o ≡ G2 ++ X2
  g_is = H.tags_are ∙ sym (append_assoc (tag_of 0 H.front []) (tagged_from (length O2) p2.kept) X2)

  G_length : length G2 ≡ n2
  G_length = length-append (tag_of 0 H.front []) (tagged_from (length O2) p2.kept) ∙ omega (arith, length-tag 0 H.front [], length-tagged (length O2) p2.kept, length-append N2 p2.kept)

  take_X : (i : ℕ) → take i X2 ≡ untagged (take i p2.new) ++ take (i - length p2.new) Rest2
  take_X i = take_both i (untagged p2.new) Rest2 ∙ (ap (λ (x : Tagged). x ++ take (i - length (untagged p2.new)) Rest2) (take_tags i p2.new)
      ∙ ap (λ (k : ℕ). untagged (take i p2.new) ++ take (i - k) Rest2) (length-untagged p2.new))

  take_g : (i : ℕ) → n2 ≤ i → take i g2 ≡ G2 ++ (untagged (take (i - n2) p2.new) ++ take (i - length E2) Rest2)
  take_g i le = ap (take i) g_is ∙ (take_both i G2 X2 ∙ (ap (λ (x : Tagged). x ++ take (i - length G2) X2) (take_all i G2 (omega (arith, le, G_length)))
      ∙ (ap (λ (k : ℕ). G2 ++ take (i - k) X2) G_length ∙ (ap (λ (x : Tagged). G2 ++ x) (take_X (i - n2))
      ∙ ap (λ (k : ℕ). G2 ++ (untagged (take (i - n2) p2.new) ++ take k Rest2)) (let z : i - n2 - length p2.new ≡ i - length E2 = omega (arith, E_length) in z)))))

  take_R : take e2 Rest2 ≡ tagged_from (length behind_old) (take e2 K2)
  take_R = ap (take e2) (tag_first (length behind_old) H.back H.tail).1 ∙ (take-append-le e2 (tagged_from (length behind_old) K2) _ (omega (arith, e_within, length-tagged (length behind_old) K2)) ∙ take-tagged e2 (length behind_old) K2)

  same_put : (m : Spot) → IsEarlier cut.new_end from m → take (m.offset - n2) p2.new ≡ take (from.offset - n2) p2.new
  same_put m (inl f) = ap (λ (v : Spot). take (v.offset - n2) p2.new) f.0
  same_put m (inr f) = take_all (m.offset - n2) p2.new (omega (arith, ap (λ (x : Spot). x.offset) f.0, ends, E_length)) ∙ sym (take_all (from.offset - n2) p2.new (omega (arith, f.1, ends, E_length)))

  pub earlier_within : (m : Spot) → IsEarlier cut.new_end from m → (cut.new.offset ≤ m.offset) × (m.offset ≤ cut.new_end.offset)
  earlier_within m (inl f) = (omega (arith, starts, ap (λ (x : Spot). x.offset) f.0), omega (arith, f.1, ap (λ (x : Spot). x.offset) f.0))
  earlier_within m (inr f) = (omega (arith, begins, ends, E_length, ap (λ (x : Spot). x.offset) f.0), omega (arith, ap (λ (x : Spot). x.offset) f.0))

  earlier_in : (m : Spot) → IsEarlier cut.new_end from m → IsIn t2 m
  earlier_in m (inl f) = subst (IsIn t2) (sym f.0) h.from_in
  earlier_in m (inr f) = subst (IsIn t2) (sym f.0) (record {
    is = new_end_is ∙ ap end_of (sym (ap (take cut.new_end.offset) kept_lies.text_is ∙ take_at E2 (K2 ++ kept_lies.behind) cut.new_end.offset (sym ends)));
    within = omega (arith, ends, ap length kept_lies.text_is, length-append E2 (K2 ++ kept_lies.behind));
  })

  pub front_opens : (m : Spot) → IsEarlier cut.new_end from m → Opens s o j cut m
  front_opens m f = record { laid = h.laid; at = at; last_in = earlier_in m f; behind = (earlier_within m f).0; within = (earlier_within m f).1 }

  done_is : (m : Spot) → IsEarlier cut.new_end from m → take m.offset g2 ≡ G2 ++ untagged (take (from.offset - n2) p2.new)
  done_is m f = take_g m.offset (omega (arith, begins, (earlier_within m f).0)) ∙ (ap (λ (i : ℕ). G2 ++ (untagged (take (m.offset - n2) p2.new) ++ take i Rest2)) (let z : m.offset - length E2 ≡ 0 = omega (arith, ends, (earlier_within m f).1) in z)
      ∙ (ap (λ (x : Tagged). G2 ++ x) (append-nil (untagged (take (m.offset - n2) p2.new))) ∙ ap (λ (xs : List ℕ). G2 ++ untagged xs) (same_put m f)))

  front_tags : (m : Spot) → IsEarlier cut.new_end from m → take from.offset g2 ≡ take m.offset g2 ++ tagged_from (length behind_old) (take e2 K2)
  front_tags m f = take_g from.offset (omega (arith, begins, starts)) ∙ (ap (λ (x : Tagged). G2 ++ (untagged (take (from.offset - n2) p2.new) ++ x)) take_R
      ∙ (sym (append_assoc G2 (untagged (take (from.offset - n2) p2.new)) (tagged_from (length behind_old) (take e2 K2))) ∙ ap (λ (x : Tagged). x ++ tagged_from (length behind_old) (take e2 K2)) (sym (done_is m f))))

  drop_is : drop to.offset g2 ≡ drop (to.offset - n2) X2
  drop_is = ap (drop to.offset) g_is ∙ (drop_both to.offset G2 X2 ∙ (ap (λ (x : Tagged). x ++ drop (to.offset - length G2) X2) (drop_all to.offset G2 (omega (arith, G_length, begins, starts, h.order)))
      ∙ ap (λ (i : ℕ). drop (to.offset - i) X2) G_length))

  front_follows : Follows (length behind_old) (tagged_from (length behind_old) (take e2 K2) ++ (untagged put ++ drop to.offset g2))
  front_follows = follows_put (length behind_old) (take (from.offset - n2) p2.new) (tagged_from (length behind_old) (take e2 K2) ++ (untagged put ++ drop to.offset g2))
      (subst (Follows (length behind_old)) (ap (λ (x : Tagged). x ++ (untagged put ++ drop (to.offset - n2) X2)) before
      ∙ (append_assoc (untagged (take (from.offset - n2) p2.new)) (tagged_from (length behind_old) (take e2 K2)) (untagged put ++ drop (to.offset - n2) X2)
      ∙ ap (λ (x : Tagged). untagged (take (from.offset - n2) p2.new) ++ (tagged_from (length behind_old) (take e2 K2) ++ (untagged put ++ x))) (sym drop_is)))
      (follows_edited (length behind_old) (from.offset - n2) (to.offset - n2) X2 put (omega (arith, h.order)) (follows_untagged (length behind_old) p2.new Rest2 (follows_tags (length behind_old) H.back H.tail))))
    where
      before : take (from.offset - n2) X2 ≡ untagged (take (from.offset - n2) p2.new) ++ tagged_from (length behind_old) (take e2 K2)
      before = take_X (from.offset - n2) ∙ (ap (λ (i : ℕ). untagged (take (from.offset - n2) p2.new) ++ take i Rest2) (let z : from.offset - n2 - length p2.new ≡ from.offset - length E2 = omega (arith, E_length) in z)
          ∙ ap (λ (x : Tagged). untagged (take (from.offset - n2) p2.new) ++ x) take_R)

  pub front_weaves : (m : Spot) (w : Weaver) → IsEarlier cut.new_end from m → IsWoven s (take m.offset (tags_of s o)) w → w.at_old ≡ cut.old_end
      → Weaves s (edited (tags_of s o) from.offset to.offset put) (tagged_from (length behind_old) kept_behind ++ (untagged put ++ (slice_range (tags_of s o) to.offset o.end.offset ++ []))) w
  front_weaves m w f woven old_is = record {
    done = take m.offset g2;
    whole_is = ap (λ (x : Tagged). take m.offset g2 ++ (tagged_from (length behind_old) (take e2 K2) ++ (untagged put ++ x))) (rest_is s o to.offset h.laid)
        ∙ (sym (append_assoc (take m.offset g2) (tagged_from (length behind_old) (take e2 K2)) (untagged put ++ drop to.offset g2))
        ∙ (ap (λ (x : Tagged). x ++ (untagged put ++ drop to.offset g2)) (sym (front_tags m f)) ∙ sym (append_assoc (take from.offset g2) (untagged put) (drop to.offset g2))));
    woven = woven;
    follows = subst (λ (i : ℕ). Follows i (tagged_from (length behind_old) (take e2 K2) ++ (untagged put ++ (slice_range g2 to.offset o.end.offset ++ [])))) (sym (ap (λ (x : Spot). x.offset) (old_is ∙ old_end_is)))
        (subst (λ (x : Tagged). Follows (length behind_old) (tagged_from (length behind_old) (take e2 K2) ++ (untagged put ++ x))) (sym (rest_is s o to.offset h.laid)) front_follows);
    short = h.short;
    short_text = h.laid.old_short;
  }

  -- what is left behind the spot
  abbrev pub rest_pieces : List Piece
  rest_pieces = drop_first e2 H.back

  abbrev pub rest_tail : List ℕ
  rest_tail = drop_tail e2 H.back H.tail

  abbrev pub rest_front : List ℕ
  rest_front = N2 ++ p2.kept

  abbrev pub rest_new : List ℕ
  rest_new = p2.new

  abbrev pub rest_puts : List ℕ
  rest_puts = puts_of H.front

  u_length : length (take e2 K2) ≡ e2
  u_length = length-take-le e2 K2 e_within

  drop_R : drop e2 Rest2 ≡ tag_of (length (behind_old ++ kept_behind)) rest_pieces rest_tail
  drop_R = ap (drop e2) (tag_split (length behind_old) e2 H.back H.tail) ∙ (drop_at (tagged_from (length behind_old) (take e2 K2)) (tag_of (length behind_old + length (take e2 K2)) rest_pieces rest_tail) e2 (length-tagged (length behind_old) (take e2 K2) ∙ u_length)
      ∙ ap (λ (i : ℕ). tag_of i rest_pieces rest_tail) (sym (length-append behind_old (take e2 K2))))

  drop_from : drop from.offset g2 ≡ untagged (drop (from.offset - n2) p2.new) ++ tag_of (length (behind_old ++ kept_behind)) rest_pieces rest_tail
  drop_from = ap (drop from.offset) g_is ∙ (drop_both from.offset G2 X2 ∙ (ap (λ (x : Tagged). x ++ drop (from.offset - length G2) X2) (drop_all from.offset G2 (omega (arith, G_length, begins, starts)))
      ∙ (ap (λ (i : ℕ). drop (from.offset - i) X2) G_length ∙ (drop_both (from.offset - n2) (untagged p2.new) Rest2
      ∙ (ap (λ (x : Tagged). x ++ drop (from.offset - n2 - length (untagged p2.new)) Rest2) (drop-map (λ (u : ℕ). (u, None)) (from.offset - n2) p2.new)
      ∙ (ap (λ (i : ℕ). untagged (drop (from.offset - n2) p2.new) ++ drop i Rest2) (let z : from.offset - n2 - length (untagged p2.new) ≡ e2 = omega (arith, length-untagged p2.new, E_length) in z)
      ∙ ap (λ (x : Tagged). untagged (drop (from.offset - n2) p2.new) ++ x) drop_R))))))

  end_at_text : o.end ≡ end_of t2
  end_at_text = h.laid.end_is ∙ ap end_of (sym (text_of_laid s o h.laid))

  slice_new : slice_range p2.new (from.offset - n2) (o.end.offset - n2) ≡ drop (from.offset - n2) p2.new
  slice_new = take_all (o.end.offset - n2 - (from.offset - n2)) (drop (from.offset - n2) p2.new) (omega (arith, length-drop (from.offset - n2) p2.new, ap (λ (x : Spot). x.offset) end_at_text, ap length kept_lies.text_is, length-append E2 (K2 ++ kept_lies.behind), E_length))

  pub rest_awaited : (whole : Tagged) (w : Weaver) → Weaves s whole (drop from.offset (tags_of s o)) w
      → Weaves s whole (untagged (slice_range rest_new (from.offset - length rest_front) (o.end.offset - length rest_front)) ++ tag_of (length (behind_old ++ kept_behind)) rest_pieces rest_tail) w
  rest_awaited whole w weaves = subst (λ (x : Tagged). Weaves s whole x w) (drop_from ∙ ap (λ (xs : List ℕ). untagged xs ++ tag_of (length (behind_old ++ kept_behind)) rest_pieces rest_tail) (sym slice_new)) weaves

  pub rest_put : HasPut o cut rest_puts rest_new
  rest_put = record { behind = puts_of H.back; text_is = H.puts_are; at = ap (λ (c : Cut). c.text) H.cut_is }

  pub rest_lies : Lies (units_of (tags_of s o)) rest_front rest_new cut.new cut.new_end
  rest_lies = record { behind = new_of H.back H.tail; text_is = H.new_is ∙ sym (append_assoc N2 p2.kept (p2.new ++ new_of H.back H.tail)); start_is = ap (λ (c : Cut). c.new) H.cut_is; end_is = new_end_is }

  more_kept : (q : Piece) (qs : List Piece) → H.back ≡ q ∷ qs → e2 < length q.kept
  more_kept q qs some = omega (
    arith,
    next (cut_at behind_old E2 (puts_of H.front ++ p2.new) q) (get_drop o.cuts.items (suc j) ∙ ap (λ (cs : List Cut). slice_get cs 0) (H.cuts_behind ∙ ap (cuts_of behind_old E2 (puts_of H.front ++ p2.new)) some)),
    length-append E2 q.kept,
    some_kept q.kept (apart_next H.front p2 q qs (subst (λ (b : List Piece). AllApartBehind (H.front ++ p2 ∷ b)) some H.apart)),
  )

  pub rest_is_left : (old last : Spot) (whole : Tagged) (w : Weaver) → IsLater cut.new_end from last → old ≡ ahead cut.old_end cut.new_end last
      → Weaves s whole (tag_of (length (behind_old ++ kept_behind)) rest_pieces rest_tail) w → IsRest s o (suc j) old last whole w
  rest_is_left old last whole w f old_is weaves = record {
    olds = behind_old ++ kept_behind;
    news = E2 ++ kept_behind;
    puts = puts_of H.front ++ p2.new;
    pieces = rest_pieces;
    tail = rest_tail;
    text_is = H.text_is ∙ (ap (λ (xs : List ℕ). O2 ++ (p2.kept ++ (p2.old ++ xs))) (old_split e2 H.back H.tail)
        ∙ (sym (append_assoc O2 p2.kept (p2.old ++ (take e2 K2 ++ old_of rest_pieces rest_tail))) ∙ (sym (append_assoc (O2 ++ p2.kept) p2.old (take e2 K2 ++ old_of rest_pieces rest_tail))
        ∙ sym (append_assoc behind_old (take e2 K2) (old_of rest_pieces rest_tail)))));
    cuts_are = H.cuts_behind ∙ (ap (cuts_of behind_old E2 (puts_of H.front ++ p2.new)) (pieces_split e2 H.back H.tail) ∙ cuts_prepend behind_old E2 (puts_of H.front ++ p2.new) (take e2 K2) rest_pieces);
    within = omega (arith, get_within o.cuts.items j cut at);
    puts_are = H.puts_are ∙ (sym (append_assoc (puts_of H.front) p2.new (puts_of H.back)) ∙ ap (λ (xs : List ℕ). puts_of H.front ++ p2.new ++ xs) (puts_split e2 H.back));
    text_short = H.text_short;
    end_is = end_at_text ∙ ap end_of (H.new_is ∙ (ap (λ (xs : List ℕ). N2 ++ (p2.kept ++ (p2.new ++ xs))) (new_split e2 H.back H.tail)
        ∙ (sym (append_assoc N2 p2.kept (p2.new ++ (take e2 K2 ++ new_of rest_pieces rest_tail))) ∙ (sym (append_assoc (N2 ++ p2.kept) p2.new (take e2 K2 ++ new_of rest_pieces rest_tail))
        ∙ sym (append_assoc E2 (take e2 K2) (new_of rest_pieces rest_tail))))));
    old_at = old_is ∙ below_is last f;
    new_at = later_is last f;
    some = some_split e2 H.back (some_back H.front (p2 ∷ H.back) H.some).1;
    apart = apart_split e2 H.back more_kept (apart_behind H.front p2 H.back H.apart);
    weaves = weaves;
  }

-- the same before the first change
module _ (s : List ℕ) (o : Overlay) (below from to : Spot) (put : List ℕ) (h : IsEdit s o below from to put) (next : (c : Cut) → slice_get o.cuts.items 0 ≡ Some c → from.offset < c.new.offset) where
  abbrev first3 : List ℕ
  first3 = first_kept h.laid.pieces h.laid.tail

  abbrev pub first_behind : List ℕ
  first_behind = take from.offset first3

  new_text : units_of (tags_of s o) ≡ first3 ++ (new_first h.laid.pieces h.laid.tail).0
  new_text = text_of_laid s o h.laid ∙ (new_first h.laid.pieces h.laid.tail).1

  first_bound : from.offset ≤ length first3
  first_bound = by_pieces h.laid.pieces refl
    where
      by_pieces : (q : List Piece) → h.laid.pieces ≡ q → from.offset ≤ length (first_kept q h.laid.tail)
      by_pieces [] none = omega (arith, h.from_in.within, ap length (text_of_laid s o h.laid ∙ ap (λ (qs : List Piece). new_of qs h.laid.tail) none))
      by_pieces (q ∷ qs) some = omega (arith, next (cut_at [] [] [] q) (ap (λ (cs : List Cut). slice_get cs 0) (h.laid.cuts_are ∙ ap (cuts_of [] [] []) some)))

  pub first_stretch : (start : Spot) → start ≡ end_of [] → IsStretch s [] first_behind start from
  first_stretch start start_is = record {
    behind = drop from.offset first3 ++ (old_first h.laid.pieces h.laid.tail).0;
    text_is = h.laid.text_is ∙ ((old_first h.laid.pieces h.laid.tail).1 ∙ (ap (λ (xs : List ℕ). xs ++ (old_first h.laid.pieces h.laid.tail).0) (sym (take-append-drop from.offset first3))
        ∙ append_assoc (take from.offset first3) (drop from.offset first3) (old_first h.laid.pieces h.laid.tail).0));
    from_is = start_is;
    to_is = h.from_in.is ∙ ap end_of (ap (take from.offset) new_text ∙ take-append-le from.offset first3 (new_first h.laid.pieces h.laid.tail).0 first_bound);
  }

  first_tags : slice_range (tags_of s o) 0 from.offset ≡ tagged_from 0 (take from.offset first3)
  first_tags = ap (λ (i : ℕ). take i (tags_of s o)) (let z : from.offset - 0 ≡ from.offset = omega arith in z) ∙ (ap (take from.offset) (tags_of_laid s o h.laid ∙ (tag_first 0 h.laid.pieces h.laid.tail).1)
      ∙ (take-append-le from.offset (tagged_from 0 first3) _ (omega (arith, first_bound, length-tagged 0 first3)) ∙ take-tagged from.offset 0 first3))

  pub first_weaves : (w : Weaver) → IsWoven s [] w → w.at_old.offset ≡ 0
      → Weaves s (edited (tags_of s o) from.offset to.offset put) (tagged_from 0 first_behind ++ (untagged put ++ (slice_range (tags_of s o) to.offset o.end.offset ++ []))) w
  first_weaves w woven old_is = subst (λ (x : Tagged). Weaves s (edited (tags_of s o) from.offset to.offset put) (x ++ (untagged put ++ (slice_range (tags_of s o) to.offset o.end.offset ++ []))) w) first_tags
      (edit_start s o from to put w h.laid h.order h.to_in h.short woven old_is)

  from_at : from ≡ end_of (take from.offset first3)
  from_at = h.from_in.is ∙ ap end_of (ap (take from.offset) new_text ∙ take-append-le from.offset first3 (new_first h.laid.pieces h.laid.tail).0 first_bound)

  pub first_rest : (whole : Tagged) (w : Weaver) → Weaves s whole (drop from.offset (tags_of s o)) w → IsRest s o 0 from from whole w
  first_rest whole w weaves = record {
    olds = first_behind;
    news = first_behind;
    puts = [];
    pieces = drop_first from.offset h.laid.pieces;
    tail = drop_tail from.offset h.laid.pieces h.laid.tail;
    text_is = h.laid.text_is ∙ old_split from.offset h.laid.pieces h.laid.tail;
    cuts_are = h.laid.cuts_are ∙ (ap (cuts_of [] [] []) (pieces_split from.offset h.laid.pieces h.laid.tail) ∙ cuts_prepend [] [] [] (take from.offset first3) (drop_first from.offset h.laid.pieces));
    within = omega arith;
    puts_are = h.laid.puts_are ∙ puts_split from.offset h.laid.pieces;
    text_short = omega (arith, ap length h.laid.puts_are, puts_short h.laid.pieces h.laid.tail, h.laid.new_short);
    end_is = h.laid.end_is ∙ ap end_of (new_split from.offset h.laid.pieces h.laid.tail);
    old_at = from_at;
    new_at = from_at;
    some = some_split from.offset h.laid.pieces h.laid.some;
    apart = apart_split from.offset h.laid.pieces (λ q qs some. omega (arith, next (cut_at [] [] [] q) (ap (λ (cs : List Cut). slice_get cs 0) (h.laid.cuts_are ∙ ap (cuts_of [] [] []) some)))) h.laid.behind;
    weaves = subst (λ (x : Tagged). Weaves s whole x w) (ap (drop from.offset) (tags_of_laid s o h.laid ∙ tag_split 0 from.offset h.laid.pieces h.laid.tail)
        ∙ (drop_at (tagged_from 0 (take from.offset first3)) (tag_of (0 + length (take from.offset first3)) (drop_first from.offset h.laid.pieces) (drop_tail from.offset h.laid.pieces h.laid.tail)) from.offset (length-tagged 0 (take from.offset first3) ∙ length-take-le from.offset first3 first_bound)
        ∙ ap (λ (i : ℕ). tag_of i (drop_first from.offset h.laid.pieces) (drop_tail from.offset h.laid.pieces h.laid.tail)) (let z : 0 + length (take from.offset first3) ≡ length (take from.offset first3) = omega arith in z))) weaves;
  }

-- the rest of a layer, as that of an edit which puts nothing in place of nothing
pub tail_edit : (s : List ℕ) (o : Overlay) (below to : Spot) (whole : Tagged) (w : Weaver) → IsTail s o below to whole w → IsEdit s o below to to []
tail_edit s o below to whole w h = record {
  laid = h.laid;
  below_is = h.below_is;
  from_in = h.to_in;
  to_in = h.to_in;
  order = omega arith;
  short = omega (
    arith,
    length-append (take to.offset (tags_of s o) ++ untagged []) (drop to.offset (tags_of s o)),
    length-append (take to.offset (tags_of s o)) (untagged []),
    ap length (take-append-drop to.offset (tags_of s o)),
    length-append (take to.offset (tags_of s o)) (drop to.offset (tags_of s o)),
    ap length (tags_of_laid s o h.laid),
    length-tag 0 h.laid.pieces h.laid.tail,
    h.laid.new_short,
  );
}
