-- The changes of a layer from a place on, taken over behind what a weaver has made.
use Rattle.std.proofs.Common.{◌≡◌, ℕ, zero, suc, ◌+◌, ◌*◌, ◌-◌, ◌<◌, ◌≤◌, false, List, [], ◌∷◌, ◌++◌, length, take, drop, map, slice_get, slice_index_or, slice_range, Some, refl, sym, ap, ◌∙◌, subst, arith, append_assoc, length-append, take-append-drop}
use Rattle.std.specs.List.{sum_by}
use Rattle.std.proofs.lemmas.List.{append-nil, take_all, length-drop}
use Rattle.std.proofs.lemmas.List.Sums.{sum_by-cons}
use Rattle.points.specs.declared.limits.TheConstants.{MAX_UNITS}
use Rattle.patch.specs.Tagged.{Tagged, tagged_from, untagged}
use Rattle.patch.proofs.Pieces.{Piece, AllApart, AllApartBehind, AllSome, is_none, old_of, new_of, tag_of}
use Rattle.patch.proofs.SplicePieces.{old-append, tag-append, tagged-append, length-tag}
use Rattle.chains.specs.declared.spot.Spot.{Spot}
use Rattle.chains.specs.declared.overlay.Cut.{Cut}
use Rattle.chains.specs.declared.overlay.Overlay.{Overlay}
use Rattle.chains.specs.declared.moving.Shift.{Shift}
use Rattle.chains.specs.declared.weaver.Weaver.{Weaver}
use Rattle.chains.specs.Overlay.{end_of, cuts_of, puts_of, tags_of, first_kept, IsLaid}
use Rattle.chains.specs.Spots.{ahead}
use Rattle.chains.specs.Weaving.{piece_size, a_piece, IsWoven, IsClosed, Follows}
use Rattle.chains.specs.Moving.{moved_cut, CanMove, CanReach, IsRest}
use Rattle.chains.proofs.LaidLemmas.{tags_of_laid, slice_is}
use Rattle.chains.proofs.CutLemmas.{no_cut, same_cut}
use Rattle.chains.proofs.WeaverLemmas.{cut_at, new-append, puts-append, cuts-append, some-append, still_some, same_front, ahead_is, IsRoom, room_offset, room_near, woven_taken, follows_kept}

-- k kept before what the first of these pieces keeps, or before the tail
abbrev pub prepend : List ℕ → List Piece → List Piece
prepend k [] = []
prepend k (p ∷ ps) = a_piece (k ++ p.kept) p.old p.new ∷ ps

abbrev pub prepend_tail : List ℕ → List Piece → List ℕ → List ℕ
prepend_tail k [] tail = k ++ tail
prepend_tail k (p ∷ ps) tail = tail

pub old_prepend : (k : List ℕ) (q : List Piece) (tail : List ℕ) → old_of (prepend k q) (prepend_tail k q tail) ≡ k ++ old_of q tail
old_prepend k [] tail = refl
old_prepend k (p ∷ ps) tail = append_assoc k p.kept (p.old ++ old_of ps tail)

pub new_prepend : (k : List ℕ) (q : List Piece) (tail : List ℕ) → new_of (prepend k q) (prepend_tail k q tail) ≡ k ++ new_of q tail
new_prepend k [] tail = refl
new_prepend k (p ∷ ps) tail = append_assoc k p.kept (p.new ++ new_of ps tail)

pub tag_prepend : (i : ℕ) (k : List ℕ) (q : List Piece) (tail : List ℕ) → tag_of i (prepend k q) (prepend_tail k q tail) ≡ tagged_from i k ++ tag_of (i + length k) q tail
tag_prepend i k [] tail = tagged-append i k tail
tag_prepend i k (p ∷ ps) tail = ap (λ (g : Tagged). g ++ (untagged p.new ++ tag_of (i + length (k ++ p.kept) + length p.old) ps tail)) (tagged-append i k p.kept)
    ∙ (append_assoc (tagged_from i k) (tagged_from (i + length k) p.kept) (untagged p.new ++ tag_of (i + length (k ++ p.kept) + length p.old) ps tail)
    ∙ ap (λ (n : ℕ). tagged_from i k ++ (tagged_from (i + length k) p.kept ++ (untagged p.new ++ tag_of n ps tail))) (let z : i + length (k ++ p.kept) + length p.old ≡ i + length k + length p.kept + length p.old = omega (arith, length-append k p.kept) in z))

pub puts_prepend : (k : List ℕ) (q : List Piece) → puts_of (prepend k q) ≡ puts_of q
puts_prepend k [] = refl
puts_prepend k (p ∷ ps) = refl

some_prepend : (k : List ℕ) (q : List Piece) → AllSome q → AllSome (prepend k q)
some_prepend k [] h = tt
some_prepend k (p ∷ ps) h = (h.0, h.1)

apart_prepend : (k : List ℕ) (q : List Piece) → AllApart q → AllApart (prepend k q)
apart_prepend k [] h = tt
apart_prepend k (p ∷ ps) h = (still_some k p.kept h.0, h.1)

abbrev cut_of : List ℕ → List ℕ → List ℕ → List ℕ → List ℕ → Cut
cut_of o oe n ne put = record { old = end_of o; old_end = end_of oe; new = end_of n; new_end = end_of ne; text = length put }

pub cuts_prepend : (a b put k : List ℕ) (q : List Piece) → cuts_of a b put (prepend k q) ≡ cuts_of (a ++ k) (b ++ k) put q
cuts_prepend a b put k [] = refl
cuts_prepend a b put k (p ∷ ps) = ap (λ (x : List ℕ). cut_of x (x ++ p.old) (b ++ (k ++ p.kept)) (b ++ (k ++ p.kept) ++ p.new) put ∷ cuts_of (x ++ p.old) (b ++ (k ++ p.kept) ++ p.new) (put ++ p.new) ps) (sym (append_assoc a k p.kept))
    ∙ ap (λ (x : List ℕ). cut_of (a ++ k ++ p.kept) (a ++ k ++ p.kept ++ p.old) x (x ++ p.new) put ∷ cuts_of (a ++ k ++ p.kept ++ p.old) (x ++ p.new) (put ++ p.new) ps) (sym (append_assoc b k p.kept))

-- pieces in a row lie apart
apart_both : (f q : List Piece) → AllApart f → AllApart q → AllApart (f ++ q)
apart_both [] q here there = there
apart_both (p ∷ f) q here there = (here.0, apart_both f q here.1 there)

pub behind_all : (q : List Piece) → AllApart q → AllApartBehind q
behind_all [] h = tt
behind_all (p ∷ ps) h = h.1

behind_both : (f q : List Piece) → AllApartBehind f → AllApart q → AllApartBehind (f ++ q)
behind_both [] q here there = behind_all q there
behind_both (p ∷ f) q here there = apart_both f q here there

-- how many units changes have, by what they leave of both texts
pub sizes_whole : (ps : List Piece) (tail : List ℕ) → sum_by piece_size ps + length (new_of ps tail) ≡ length (old_of ps tail) + 2 * length (puts_of ps)
sizes_whole [] tail = omega arith
sizes_whole (p ∷ ps) tail = omega (arith, sum_by-cons piece_size p ps, sizes_whole ps tail, length-append p.kept (p.old ++ old_of ps tail), length-append p.old (old_of ps tail), length-append p.kept (p.new ++ new_of ps tail), length-append p.new (new_of ps tail), length-append p.new (puts_of ps))

-- moved cuts are those of the same pieces elsewhere
module _ (by : Shift) (e b p r : List ℕ) (from_is : by.from ≡ end_of e) (to_is : by.to ≡ end_of b) (text_from_is : by.text_from ≡ length p) (text_to_is : by.text_to ≡ length r) where
  spot_moved : (u : List ℕ) → ahead by.to by.from (end_of (e ++ u)) ≡ end_of (b ++ u)
  spot_moved u = ap (λ (x : Spot). ahead x by.from (end_of (e ++ u))) to_is ∙ (ap (λ (x : Spot). ahead (end_of b) x (end_of (e ++ u))) from_is ∙ ahead_is b e u)

  abbrev cut_with : Spot → Spot → Spot → Spot → ℕ → Cut
  cut_with o oe n ne t = record { old = o; old_end = oe; new = n; new_end = ne; text = t }

  one_moved : (a u v : List ℕ) (q : Piece) → moved_cut by (cut_at a (e ++ u) (p ++ v) q) ≡ cut_at a (b ++ u) (r ++ v) q
  one_moved a u v q = ap (λ (x : Spot). cut_with (end_of (a ++ q.kept)) (end_of (a ++ q.kept ++ q.old)) x (ahead by.to by.from (end_of (e ++ u ++ q.kept ++ q.new))) (length (p ++ v) - by.text_from + by.text_to))
      (ap (λ (xs : List ℕ). ahead by.to by.from (end_of xs)) (append_assoc e u q.kept) ∙ (spot_moved (u ++ q.kept) ∙ ap end_of (sym (append_assoc b u q.kept))))
      ∙ (ap (λ (x : Spot). cut_with (end_of (a ++ q.kept)) (end_of (a ++ q.kept ++ q.old)) (end_of (b ++ u ++ q.kept)) x (length (p ++ v) - by.text_from + by.text_to))
      (ap (λ (xs : List ℕ). ahead by.to by.from (end_of xs)) (ap (λ (xs : List ℕ). xs ++ q.new) (append_assoc e u q.kept) ∙ append_assoc e (u ++ q.kept) q.new) ∙ (spot_moved (u ++ q.kept ++ q.new) ∙ ap end_of (sym (ap (λ (xs : List ℕ). xs ++ q.new) (append_assoc b u q.kept) ∙ append_assoc b (u ++ q.kept) q.new))))
      ∙ ap (cut_with (end_of (a ++ q.kept)) (end_of (a ++ q.kept ++ q.old)) (end_of (b ++ u ++ q.kept)) (end_of (b ++ u ++ q.kept ++ q.new)))
      (let z : length (p ++ v) - by.text_from + by.text_to ≡ length (r ++ v) = omega (arith, text_from_is, text_to_is, length-append p v, length-append r v) in z))

  cuts_moved_on : (a u v : List ℕ) (ps : List Piece) → map (moved_cut by) (cuts_of a (e ++ u) (p ++ v) ps) ≡ cuts_of a (b ++ u) (r ++ v) ps
  cuts_moved_on a u v [] = refl
  cuts_moved_on a u v (q ∷ ps) = ap (λ (c : Cut). c ∷ map (moved_cut by) (cuts_of (a ++ q.kept ++ q.old) (e ++ u ++ q.kept ++ q.new) (p ++ v ++ q.new) ps)) (one_moved a u v q)
      ∙ ap (λ (cs : List Cut). cut_at a (b ++ u) (r ++ v) q ∷ cs) (ap (map (moved_cut by)) (same_cuts e p) ∙ (cuts_moved_on (a ++ q.kept ++ q.old) (u ++ q.kept ++ q.new) (v ++ q.new) ps ∙ sym (same_cuts b r)))
    where
      same_cuts : (x y : List ℕ) → cuts_of (a ++ q.kept ++ q.old) (x ++ u ++ q.kept ++ q.new) (y ++ v ++ q.new) ps ≡ cuts_of (a ++ q.kept ++ q.old) (x ++ (u ++ q.kept ++ q.new)) (y ++ (v ++ q.new)) ps
      same_cuts x y = ap (λ (xs : List ℕ). cuts_of (a ++ q.kept ++ q.old) xs (y ++ v ++ q.new) ps) (ap (λ (xs : List ℕ). xs ++ q.new) (append_assoc x u q.kept) ∙ append_assoc x (u ++ q.kept) q.new)
          ∙ ap (λ (xs : List ℕ). cuts_of (a ++ q.kept ++ q.old) (x ++ (u ++ q.kept ++ q.new)) xs ps) (append_assoc y v q.new)

  pub cuts_moved : (a : List ℕ) (ps : List Piece) → map (moved_cut by) (cuts_of a e p ps) ≡ cuts_of a b r ps
  cuts_moved a ps = ap (λ (xs : List ℕ). map (moved_cut by) (cuts_of a xs p ps)) (sym (append-nil e)) ∙ (ap (λ (xs : List ℕ). map (moved_cut by) (cuts_of a (e ++ []) xs ps)) (sym (append-nil p))
      ∙ (cuts_moved_on a [] [] ps ∙ (ap (λ (xs : List ℕ). cuts_of a xs (r ++ []) ps) (append-nil b) ∙ ap (λ (xs : List ℕ). cuts_of a b xs ps) (append-nil r))))

  -- each of them can be moved
  reached : (u : List ℕ) → length (b ++ u) ≤ MAX_UNITS → CanReach (ahead by.to by.from (end_of (e ++ u)))
  reached u short = let room : IsRoom (ahead by.to by.from (end_of (e ++ u))) = record { text = b ++ u; is = spot_moved u; short = short } in record { room = room_offset _ room; near = room_near _ room }

  all_move_on : (a u v : List ℕ) (ps : List Piece) → length (b ++ u) + length (new_of ps []) ≤ MAX_UNITS → length (r ++ v) + length (puts_of ps) ≤ MAX_UNITS → (i : ℕ) (c : Cut) → slice_get (cuts_of a (e ++ u) (p ++ v) ps) i ≡ Some c → CanMove by c
  all_move_on a u v [] short fits i c is = absurd (no_cut c is)
  all_move_on a u v (q ∷ ps) short fits zero c is = subst (CanMove by) (sym (same_cut (cut_at a (e ++ u) (p ++ v) q) c is)) (record {
    new = omega (arith, ap (λ (x : Spot). x.offset) from_is, length-append e u, length-append (e ++ u) q.kept);
    new_end = omega (arith, ap (λ (x : Spot). x.offset) from_is, length-append e u, length-append (e ++ u) q.kept, length-append (e ++ u ++ q.kept) q.new);
    text = omega (arith, text_from_is, length-append p v);
    new_reached = subst (λ (xs : List ℕ). CanReach (ahead by.to by.from (end_of xs))) (sym (append_assoc e u q.kept)) (reached (u ++ q.kept) (omega (arith, short, length-append b (u ++ q.kept), length-append u q.kept, length-append b u, length-append q.kept (q.new ++ new_of ps []), length-append q.new (new_of ps []))));
    end_reached = subst (λ (xs : List ℕ). CanReach (ahead by.to by.from (end_of xs))) (sym (ap (λ (xs : List ℕ). xs ++ q.new) (append_assoc e u q.kept) ∙ append_assoc e (u ++ q.kept) q.new)) (reached (u ++ q.kept ++ q.new) (omega (arith, short, length-append b (u ++ q.kept ++ q.new), length-append (u ++ q.kept) q.new, length-append u q.kept, length-append b u, length-append q.kept (q.new ++ new_of ps []), length-append q.new (new_of ps []))));
    text_fits = omega (arith, text_from_is, text_to_is, fits, length-append p v, length-append r v);
  })
  all_move_on a u v (q ∷ ps) short fits (suc i) c is = all_move_on (a ++ q.kept ++ q.old) (u ++ q.kept ++ q.new) (v ++ q.new) ps
      (omega (arith, short, length-append b (u ++ q.kept ++ q.new), length-append (u ++ q.kept) q.new, length-append u q.kept, length-append b u, length-append q.kept (q.new ++ new_of ps []), length-append q.new (new_of ps [])))
      (omega (arith, fits, length-append r (v ++ q.new), length-append v q.new, length-append r v, length-append q.new (puts_of ps)))
      i c (ap (λ (cs : List Cut). slice_get cs i) (sym (ap (λ (xs : List ℕ). cuts_of (a ++ q.kept ++ q.old) xs (p ++ v ++ q.new) ps) (ap (λ (xs : List ℕ). xs ++ q.new) (append_assoc e u q.kept) ∙ append_assoc e (u ++ q.kept) q.new)
      ∙ ap (λ (xs : List ℕ). cuts_of (a ++ q.kept ++ q.old) (e ++ (u ++ q.kept ++ q.new)) xs ps) (append_assoc p v q.new))) ∙ is)

  pub all_move : (a : List ℕ) (ps : List Piece) → length b + length (new_of ps []) ≤ MAX_UNITS → length r + length (puts_of ps) ≤ MAX_UNITS → (i : ℕ) (c : Cut) → slice_get (cuts_of a e p ps) i ≡ Some c → CanMove by c
  all_move a ps short fits i c is = all_move_on a [] [] ps (omega (arith, short, ap length (append-nil b))) (omega (arith, fits, ap length (append-nil r))) i c
      (ap (λ (cs : List Cut). slice_get cs i) (ap (λ (xs : List ℕ). cuts_of a xs (p ++ []) ps) (append-nil e) ∙ ap (λ (xs : List ℕ). cuts_of a e xs ps) (append-nil p)) ∙ is)

-- what is cut off before what the first of these pieces keeps, or before the tail
abbrev pub drop_first : ℕ → List Piece → List Piece
drop_first n [] = []
drop_first n (p ∷ ps) = a_piece (drop n p.kept) p.old p.new ∷ ps

abbrev pub drop_tail : ℕ → List Piece → List ℕ → List ℕ
drop_tail n [] tail = drop n tail
drop_tail n (p ∷ ps) tail = tail

pub pieces_split : (n : ℕ) (q : List Piece) (tail : List ℕ) → q ≡ prepend (take n (first_kept q tail)) (drop_first n q)
pieces_split n [] tail = refl
pieces_split n (p ∷ ps) tail = ap (λ (xs : List ℕ). a_piece xs p.old p.new ∷ ps) (sym (take-append-drop n p.kept))

pub tail_split : (n : ℕ) (q : List Piece) (tail : List ℕ) → tail ≡ prepend_tail (take n (first_kept q tail)) (drop_first n q) (drop_tail n q tail)
tail_split n [] tail = sym (take-append-drop n tail)
tail_split n (p ∷ ps) tail = refl

pub old_split : (n : ℕ) (q : List Piece) (tail : List ℕ) → old_of q tail ≡ take n (first_kept q tail) ++ old_of (drop_first n q) (drop_tail n q tail)
old_split n [] tail = sym (take-append-drop n tail)
old_split n (p ∷ ps) tail = ap (λ (xs : List ℕ). xs ++ (p.old ++ old_of ps tail)) (sym (take-append-drop n p.kept)) ∙ append_assoc (take n p.kept) (drop n p.kept) (p.old ++ old_of ps tail)

pub new_split : (n : ℕ) (q : List Piece) (tail : List ℕ) → new_of q tail ≡ take n (first_kept q tail) ++ new_of (drop_first n q) (drop_tail n q tail)
new_split n [] tail = sym (take-append-drop n tail)
new_split n (p ∷ ps) tail = ap (λ (xs : List ℕ). xs ++ (p.new ++ new_of ps tail)) (sym (take-append-drop n p.kept)) ∙ append_assoc (take n p.kept) (drop n p.kept) (p.new ++ new_of ps tail)

pub tag_split : (i n : ℕ) (q : List Piece) (tail : List ℕ) → tag_of i q tail ≡ tagged_from i (take n (first_kept q tail)) ++ tag_of (i + length (take n (first_kept q tail))) (drop_first n q) (drop_tail n q tail)
tag_split i n q tail = ap (λ (qs : List Piece). tag_of i qs tail) (pieces_split n q tail) ∙ (ap (tag_of i (prepend (take n (first_kept q tail)) (drop_first n q))) (tail_split n q tail)
    ∙ tag_prepend i (take n (first_kept q tail)) (drop_first n q) (drop_tail n q tail))

pub puts_split : (n : ℕ) (q : List Piece) → puts_of q ≡ puts_of (drop_first n q)
puts_split n [] = refl
puts_split n (p ∷ ps) = refl

pub some_split : (n : ℕ) (q : List Piece) → AllSome q → AllSome (drop_first n q)
some_split n [] h = tt
some_split n (p ∷ ps) h = (h.0, h.1)

some_left : (n : ℕ) (k : List ℕ) → n < length k → is_none (drop n k) ≡ false
some_left n [] lt = absurd (let z : ⊥ = omega (arith, lt) in z)
some_left zero (u ∷ k) lt = refl
some_left (suc n) (u ∷ k) lt = some_left n k (omega (arith, lt))

-- the first of them keeps more than is cut off, and the others lie apart
pub apart_split : (n : ℕ) (q : List Piece) → ((p : Piece) (ps : List Piece) → q ≡ p ∷ ps → n < length p.kept) → AllApartBehind q → AllApart (drop_first n q)
apart_split n [] more h = tt
apart_split n (p ∷ ps) more h = (some_left n p.kept (more p ps refl), h)

new_tail : (ps : List Piece) (tail : List ℕ) → new_of ps tail ≡ new_of ps [] ++ tail
new_tail ps tail = ap (λ (qs : List Piece). new_of qs tail) (sym (append-nil ps)) ∙ new-append ps [] tail

puts_within : (ps : List Piece) (tail : List ℕ) → length (puts_of ps) ≤ length (new_of ps tail)
puts_within [] tail = omega arith
puts_within (p ∷ ps) tail = omega (arith, puts_within ps tail, length-append p.new (puts_of ps), length-append p.kept (p.new ++ new_of ps tail), length-append p.new (new_of ps tail))

-- what a weaver makes with the changes of a layer from a place on
module _ (s : List ℕ) (o : Overlay) (next : ℕ) (old new : Spot) (whole : Tagged) (w : Weaver) (h : IsRest s o next old new whole w) where
  rest_later : w.at_old.offset ≤ old.offset
  rest_later = by_pieces h.pieces h.tail h.text_is h.apart h.weaves.follows
    where
      by_pieces : (q : List Piece) (tail : List ℕ) → s ≡ h.olds ++ old_of q tail → AllApart q → Follows w.at_old.offset (tag_of (length h.olds) q tail) → w.at_old.offset ≤ old.offset
      by_pieces [] [] text_is all follows = omega (
        arith,
        ap length text_is,
        length-append h.olds (let none : List ℕ = [] in none),
        ap (λ (x : Spot). x.offset) h.old_at,
        ap (λ (x : Spot). x.offset) h.weaves.woven.old_is,
        ap length h.weaves.woven.text_is,
        length-append (old_of h.weaves.woven.pieces [] ++ h.weaves.woven.kept) h.weaves.woven.old,
        length-append (old_of h.weaves.woven.pieces []) h.weaves.woven.kept,
        length-append (old_of h.weaves.woven.pieces []) (h.weaves.woven.kept ++ (h.weaves.woven.old ++ h.weaves.woven.rest)),
        length-append h.weaves.woven.kept (h.weaves.woven.old ++ h.weaves.woven.rest),
        length-append h.weaves.woven.old h.weaves.woven.rest,
      )
      by_pieces [] (u ∷ tail) text_is all follows = omega (arith, (follows_kept w.at_old.offset (length h.olds) (u ∷ tail) [] (subst (Follows w.at_old.offset) (sym (append-nil (tagged_from (length h.olds) (u ∷ tail)))) follows) refl).0, ap (λ (x : Spot). x.offset) h.old_at)
      by_pieces (p ∷ ps) tail text_is all follows = omega (arith, (follows_kept w.at_old.offset (length h.olds) p.kept (untagged p.new ++ tag_of (length h.olds + length p.kept + length p.old) ps tail) follows all.0).0, ap (λ (x : Spot). x.offset) h.old_at)

  pub rest_taken : IsWoven s h.weaves.done (record w { at_old = old })
  rest_taken = woven_taken s h.weaves.done w old h.olds (old_of h.pieces h.tail) h.weaves.woven h.text_is h.old_at rest_later

  pub rest_order : new.offset ≤ o.end.offset
  rest_order = omega (arith, ap (λ (x : Spot). x.offset) h.new_at, ap (λ (x : Spot). x.offset) h.end_is, length-append h.news (new_of h.pieces h.tail))

  pub rest_from : length h.puts ≤ length o.text
  rest_from = omega (arith, ap length h.puts_are, length-append h.puts (puts_of h.pieces))

  module _ (w1 : Weaver) (closed : IsClosed s h.weaves.done w1) (at : w1.at_old ≡ old) where
    abbrev P4 : List Piece
    P4 = closed.pieces

    abbrev O4 : List ℕ
    O4 = old_of closed.pieces []

    abbrev N4 : List ℕ
    N4 = new_of closed.pieces []

    abbrev B4 : List ℕ
    B4 = new_of closed.pieces [] ++ closed.kept

    abbrev Q4 : List Piece
    Q4 = prepend closed.kept h.pieces

    abbrev tail4 : List ℕ
    tail4 = prepend_tail closed.kept h.pieces h.tail

    both : (old_of closed.pieces [] ++ closed.kept ≡ h.olds) × (closed.rest ≡ old_of h.pieces h.tail)
    both = same_front (O4 ++ closed.kept) closed.rest h.olds (old_of h.pieces h.tail) (append_assoc O4 closed.kept closed.rest ∙ (sym closed.text_is ∙ h.text_is)) (ap (λ (x : Spot). x.offset) (sym closed.old_is ∙ (at ∙ h.old_at)))

    tags_is : tag_of 0 (P4 ++ Q4) tail4 ≡ whole
    tags_is = tag-append 0 P4 Q4 tail4 ∙ (ap (λ (i : ℕ). tag_of 0 P4 [] ++ tag_of i Q4 tail4) (let z : 0 + length O4 ≡ length O4 = omega arith in z)
        ∙ (ap (λ (g : Tagged). tag_of 0 P4 [] ++ g) (tag_prepend (length O4) closed.kept h.pieces h.tail)
        ∙ (sym (append_assoc (tag_of 0 P4 []) (tagged_from (length O4) closed.kept) (tag_of (length O4 + length closed.kept) h.pieces h.tail))
        ∙ (ap (λ (g : Tagged). g ++ tag_of (length O4 + length closed.kept) h.pieces h.tail) (sym closed.tags_are)
        ∙ (ap (λ (i : ℕ). h.weaves.done ++ tag_of i h.pieces h.tail) (sym (length-append O4 closed.kept) ∙ ap length both.0) ∙ h.weaves.whole_is)))))

    made_short : length (new_of (P4 ++ Q4) tail4) ≤ MAX_UNITS
    made_short = omega (arith, length-tag 0 (P4 ++ Q4) tail4, ap length tags_is, h.weaves.short)

    new_text : new_of (P4 ++ Q4) tail4 ≡ B4 ++ new_of h.pieces h.tail
    new_text = new-append P4 Q4 tail4 ∙ (ap (λ (xs : List ℕ). N4 ++ xs) (new_prepend closed.kept h.pieces h.tail) ∙ sym (append_assoc N4 closed.kept (new_of h.pieces h.tail)))

    old_text : s ≡ old_of (P4 ++ Q4) tail4
    old_text = closed.text_is ∙ (ap (λ (xs : List ℕ). O4 ++ (closed.kept ++ xs)) both.1 ∙ (ap (λ (xs : List ℕ). O4 ++ xs) (sym (old_prepend closed.kept h.pieces h.tail)) ∙ sym (old-append P4 Q4 tail4)))

    puts_text : puts_of (P4 ++ Q4) ≡ puts_of P4 ++ puts_of h.pieces
    puts_text = puts-append P4 Q4 ∙ ap (λ (xs : List ℕ). puts_of P4 ++ xs) (puts_prepend closed.kept h.pieces)

    end_made : ahead w1.at_new new o.end ≡ end_of (new_of (P4 ++ Q4) tail4)
    end_made = ap (λ (x : Spot). ahead x new o.end) closed.new_is ∙ (ap (λ (x : Spot). ahead (end_of B4) x o.end) h.new_at ∙ (ap (ahead (end_of B4) (end_of h.news)) h.end_is
        ∙ (ahead_is B4 h.news (new_of h.pieces h.tail) ∙ ap end_of (sym new_text))))

    pub rest_room : IsRoom (ahead w1.at_new new o.end)
    rest_room = record { text = new_of (P4 ++ Q4) tail4; is = end_made; short = made_short }

    puts_fit : length (puts_of P4) + length (puts_of h.pieces) ≤ MAX_UNITS
    puts_fit = omega (arith, ap length puts_text, length-append (puts_of P4) (puts_of h.pieces), puts_within (P4 ++ Q4) tail4, made_short)

    taken_text : (n : ℕ) → n ≡ length h.puts → slice_range o.text n (length o.text) ≡ puts_of h.pieces
    taken_text n n_is = slice_is o.text h.puts (puts_of h.pieces) [] n (length o.text) (h.puts_are ∙ ap (λ (xs : List ℕ). h.puts ++ xs) (sym (append-nil (puts_of h.pieces)))) n_is (omega (arith, n_is, ap length h.puts_are, length-append h.puts (puts_of h.pieces)))

    pub rest_fits : (n : ℕ) → n ≡ length h.puts → length w1.text + length (slice_range o.text n (length o.text)) ≤ MAX_UNITS
    rest_fits n n_is = omega (arith, puts_fit, ap length closed.puts_are, ap length (taken_text n n_is))

    pub rest_text_short : length w1.text ≤ MAX_UNITS
    rest_text_short = omega (arith, puts_fit, ap length closed.puts_are)

    module _ (by : Shift) (from_is : by.from ≡ new) (to_is : by.to ≡ w1.at_new) (text_from_is : by.text_from ≡ length h.puts) (text_to_is : by.text_to ≡ length w1.text) where
      pub rest_moves : (i : ℕ) (c : Cut) → slice_get (drop next o.cuts.items) i ≡ Some c → CanMove by c
      rest_moves i c e = all_move by h.news B4 h.puts (puts_of P4) (from_is ∙ h.new_at) (to_is ∙ closed.new_is) text_from_is (text_to_is ∙ ap length closed.puts_are) h.olds h.pieces
          (omega (arith, made_short, ap length new_text, length-append B4 (new_of h.pieces h.tail), ap length (new_tail h.pieces h.tail), length-append (new_of h.pieces []) h.tail)) puts_fit i c
          (ap (λ (cs : List Cut). slice_get cs i) (sym h.cuts_are) ∙ e)

      pub rest_units : (made below : Spot) → made ≡ ahead w1.at_new new o.end → below ≡ end_of s → made.offset ≤ below.offset + 2 * length (w1.text ++ slice_range o.text by.text_from (length o.text))
      rest_units made below made_is below_is = omega (
        arith,
        ap (λ (x : Spot). x.offset) made_is,
        ap (λ (x : Spot). x.offset) end_made,
        ap (λ (x : Spot). x.offset) below_is,
        ap length old_text,
        sizes_whole (P4 ++ Q4) tail4,
        ap length puts_text,
        length-append (puts_of P4) (puts_of h.pieces),
        length-append w1.text (slice_range o.text by.text_from (length o.text)),
        ap length closed.puts_are,
        ap length (taken_text by.text_from text_from_is),
      )

      module _ (made : Overlay) (below : Spot) (below_is : below ≡ end_of s) (cuts_is : made.cuts.items ≡ w1.cuts.items ++ map (moved_cut by) (drop next o.cuts.items))
          (text_is : made.text ≡ w1.text ++ slice_range o.text by.text_from (length o.text)) (end_is : made.end ≡ ahead w1.at_new new o.end) (units_is : made.units ≡ below.offset + 2 * length made.text - made.end.offset) where
        puts_are : made.text ≡ puts_of (P4 ++ Q4)
        puts_are = text_is ∙ (ap (λ (xs : List ℕ). xs ++ slice_range o.text by.text_from (length o.text)) closed.puts_are ∙ (ap (λ (xs : List ℕ). puts_of P4 ++ xs) (taken_text by.text_from text_from_is) ∙ sym puts_text))

        pub rest_laid : IsLaid s made
        rest_laid = record {
          pieces = P4 ++ Q4;
          tail = tail4;
          text_is = old_text;
          cuts_are = cuts_is ∙ (ap (λ (cs : List Cut). cs ++ map (moved_cut by) (drop next o.cuts.items)) closed.cuts_are
              ∙ (ap (λ (cs : List Cut). cuts_of [] [] [] P4 ++ cs) (ap (map (moved_cut by)) h.cuts_are
              ∙ (cuts_moved by h.news B4 h.puts (puts_of P4) (from_is ∙ h.new_at) (to_is ∙ closed.new_is) text_from_is (text_to_is ∙ ap length closed.puts_are) h.olds h.pieces
              ∙ (ap (λ (xs : List ℕ). cuts_of xs B4 (puts_of P4) h.pieces) (sym both.0) ∙ sym (cuts_prepend O4 N4 (puts_of P4) closed.kept h.pieces))))
              ∙ sym (cuts-append [] [] [] P4 Q4)));
          puts_are = puts_are;
          end_is = end_is ∙ end_made;
          units_are = units_is ∙ omega (arith, sizes_whole (P4 ++ Q4) tail4, ap length puts_are, ap length old_text, ap (λ (x : Spot). x.offset) below_is, ap (λ (x : Spot). x.offset) end_is, ap (λ (x : Spot). x.offset) end_made);
          some = some-append P4 Q4 closed.some (some_prepend closed.kept h.pieces h.some);
          behind = behind_both P4 Q4 closed.behind (apart_prepend closed.kept h.pieces h.apart);
          old_short = h.weaves.short_text;
          new_short = made_short;
        }

        pub rest_tags : tags_of s made ≡ whole
        unfolding rest_laid
        rest_tags = tags_of_laid s made rest_laid ∙ tags_is

-- all cuts from a place on
pub all_behind_at : (xs items : List Cut) (n : ℕ) → xs ≡ items → take (length xs - n) (drop n xs) ≡ drop n items
all_behind_at xs items n same = take_all (length xs - n) (drop n xs) (omega (arith, length-drop n xs)) ∙ ap (drop n) same

-- where the text of the changes from a place on begins
pub get_drop : (xs : List Cut) (n : ℕ) → slice_get xs n ≡ slice_get (drop n xs) 0
get_drop [] zero = refl
get_drop [] (suc n) = refl
get_drop (x ∷ xs) zero = refl
get_drop (x ∷ xs) (suc n) = get_drop xs n

pub text_first : (items : List Cut) (n : ℕ) (c : Cut) (olds news puts : List ℕ) (pieces : List Piece) → slice_get items n ≡ Some c → drop n items ≡ cuts_of olds news puts pieces → c.text ≡ length puts
text_first items n c olds news puts [] is all = absurd (no_cut c (sym (get_drop items n ∙ ap (λ (cs : List Cut). slice_get cs 0) all) ∙ is))
text_first items n c olds news puts (p ∷ ps) is all = ap (λ (x : Cut). x.text) (same_cut (cut_at olds news puts p) c (sym (get_drop items n ∙ ap (λ (cs : List Cut). slice_get cs 0) all) ∙ is))

pub text_last : (items : List Cut) (n : ℕ) (olds news puts text : List ℕ) (pieces : List Piece) → length items ≤ n → drop n items ≡ cuts_of olds news puts pieces → text ≡ puts ++ puts_of pieces → length text ≡ length puts
text_last items n olds news puts text [] none all text_is = ap length text_is ∙ ap length (append-nil puts)
text_last items n olds news puts text (p ∷ ps) none all text_is = absurd (let z : ⊥ = omega (arith, none, length-drop n items, ap length all) in z)

-- one more cut is moved
map_next : (f : Cut → Cut) (xs : List Cut) (i : ℕ) (d : Cut) → i < length xs → map f (take (suc i) xs) ≡ map f (take i xs) ++ f (slice_index_or xs i d) ∷ []
map_next f [] i d lt = absurd (let z : ⊥ = omega (arith, lt) in z)
map_next f (x ∷ xs) zero d lt = refl
map_next f (x ∷ xs) (suc i) d lt = ap (λ (cs : List Cut). f x ∷ cs) (map_next f xs i d (omega (arith, lt)))

pub one_more_moved : (by : Shift) (start some more xs : List Cut) (i : ℕ) (d m : Cut) → i < length xs → some ≡ start ++ map (moved_cut by) (take i xs) → m ≡ moved_cut by (slice_index_or xs i d) → more ≡ some ++ m ∷ [] → more ≡ start ++ map (moved_cut by) (take (i + 1) xs)
one_more_moved by start some more xs i d m lt some_is m_is more_is = more_is ∙ (ap (λ (cs : List Cut). cs ++ m ∷ []) some_is ∙ (ap (λ (c : Cut). start ++ map (moved_cut by) (take i xs) ++ c ∷ []) m_is
    ∙ (append_assoc start (map (moved_cut by) (take i xs)) (moved_cut by (slice_index_or xs i d) ∷ []) ∙ (ap (λ (cs : List Cut). start ++ cs) (sym (map_next (moved_cut by) xs i d lt))
    ∙ ap (λ (n : ℕ). start ++ map (moved_cut by) (take n xs)) (let z : suc i ≡ i + 1 = omega arith in z)))))
