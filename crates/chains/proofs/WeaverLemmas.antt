-- What the weaver's steps do to the pieces that it has made.
use Rattle.std.proofs.Common.{◌≡◌, ℕ, zero, suc, ◌+◌, ◌-◌, ◌≤◌, ◌==◌, ◌^◌, Bool, true, false, ◌&&◌, List, [], ◌∷◌, ◌++◌, length, take, drop, Some, None, refl, sym, ap, ◌∙◌, subst, arith, append_assoc, length-append}
use Rattle.std.specs.List.{sum_by}
use Rattle.std.proofs.lemmas.List.{append-nil, drop_at, take_at, take-append-le, drop-append-le, take-append-drop, nil_from_length}
use Rattle.std.proofs.lemmas.List.Sums.{sum_by-append, sum_by-cons}
use Rattle.std.proofs.lemmas.Bool.Decides.{nat_tests}
use Rattle.points.specs.declared.point.Point.{Point}
use Rattle.points.specs.declared.limits.TheConstants.{MAX_UNITS, MAX_COORD}
use Rattle.points.specs.Point.{IsWithin, traverse, traversal}
use Rattle.points.specs.Place.{extent}
use Rattle.points.proofs.PointLemmas.{traversal-traverse}
use Rattle.points.proofs.ExtentLemmas.{extent-append}
use Rattle.points.proofs.ExtentParts.{extent_within}
use Rattle.patch.specs.Tagged.{Tagged, tagged_from, untagged}
use Rattle.patch.proofs.Pieces.{Piece, AllApart, AllApartBehind, AllSome, is_none, old_of, new_of, tag_of}
use Rattle.patch.proofs.SplicePieces.{old-append, tag-append, tagged-append, untagged-append, length-tagged, length-untagged, length-tag}
use Rattle.chains.specs.declared.spot.Spot.{Spot}
use Rattle.chains.specs.declared.overlay.Cut.{Cut}
use Rattle.chains.specs.declared.overlay.Overlay.{Overlay}
use Rattle.chains.specs.declared.weaver.Weaver.{Weaver}
use Rattle.chains.specs.Overlay.{end_of, cuts_of, puts_of, tags_of, IsLaid}
use Rattle.chains.specs.Spots.{ahead}
use Rattle.chains.specs.Weaving.{piece_size, a_piece, IsWoven, IsClosed, Follows, Weaves, IsStretch}
use Rattle.chains.proofs.LaidLemmas.{tags_of_laid}

-- spots
pub ahead_is : (a b k : List ℕ) → ahead (end_of a) (end_of b) (end_of (b ++ k)) ≡ end_of (a ++ k)
ahead_is a b k = ap (λ (n : ℕ). spot n (traverse (extent a) (traversal (extent (b ++ k)) (extent b)))) counted
    ∙ ap (spot (length (a ++ k))) (ap (traverse (extent a)) (ap (λ (p : Point). traversal p (extent b)) (extent-append b k) ∙ traversal-traverse (extent b) (extent k)) ∙ sym (extent-append a k))
  where
    spot : ℕ → Point → Spot
    spot n p = record { offset = n; point = p }

    counted : length a + (length (b ++ k) - length b) ≡ length (a ++ k)
    counted = omega (arith, length-append b k, length-append a k)

-- two ways to cut one list
pub same_front : (p r f q : List ℕ) → p ++ r ≡ f ++ q → length p ≡ length f → (p ≡ f) × (r ≡ q)
same_front p r f q e same = (
  sym (take_at p r (length p) refl) ∙ (ap (take (length p)) e ∙ take_at f q (length p) (sym same)),
  sym (drop_at p r (length p) refl) ∙ (ap (drop (length p)) e ∙ drop_at f q (length p) (sym same)),
)

pub longer_front : (p r f q : List ℕ) → p ++ r ≡ f ++ q → length p ≤ length f → (f ≡ p ++ drop (length p) f) × (r ≡ drop (length p) f ++ q)
longer_front p r f q e longer = (
  sym (take-append-drop (length p) f) ∙ ap (λ (xs : List ℕ). xs ++ drop (length p) f) (sym (take-append-le (length p) f q longer) ∙ (ap (take (length p)) (sym e) ∙ take_at p r (length p) refl)),
  sym (drop_at p r (length p) refl) ∙ (ap (drop (length p)) e ∙ drop-append-le (length p) f q longer),
)

-- pieces in a row
pub new-append : (f q : List Piece) (tail : List ℕ) → new_of (f ++ q) tail ≡ new_of f [] ++ new_of q tail
new-append [] q tail = refl
new-append (p ∷ f) q tail = ap (λ (xs : List ℕ). p.kept ++ (p.new ++ xs)) (new-append f q tail)
    ∙ sym (append_assoc p.kept (p.new ++ new_of f []) (new_of q tail) ∙ ap (λ (xs : List ℕ). p.kept ++ xs) (append_assoc p.new (new_of f []) (new_of q tail)))

pub puts-append : (f q : List Piece) → puts_of (f ++ q) ≡ puts_of f ++ puts_of q
puts-append [] q = refl
puts-append (p ∷ f) q = ap (λ (xs : List ℕ). p.new ++ xs) (puts-append f q) ∙ sym (append_assoc p.new (puts_of f) (puts_of q))

pub some-append : (f q : List Piece) → AllSome f → AllSome q → AllSome (f ++ q)
some-append [] q here there = there
some-append (p ∷ f) q here there = (here.0, some-append f q here.1 there)

abbrev pub cut_at : List ℕ → List ℕ → List ℕ → Piece → Cut
cut_at a b put p = record { old = end_of (a ++ p.kept); old_end = end_of (a ++ p.kept ++ p.old); new = end_of (b ++ p.kept); new_end = end_of (b ++ p.kept ++ p.new); text = length put }

regroup : (a k o x : List ℕ) → a ++ k ++ o ++ x ≡ a ++ (k ++ (o ++ x))
regroup a k o x = append_assoc (a ++ k) o x ∙ append_assoc a k (o ++ x)

cuts_same : (a a' b b' put put' : List ℕ) (q : List Piece) → a ≡ a' → b ≡ b' → put ≡ put' → cuts_of a b put q ≡ cuts_of a' b' put' q
cuts_same a a' b b' put put' q ea eb ep = ap (λ (xs : List ℕ). cuts_of xs b put q) ea ∙ (ap (λ (xs : List ℕ). cuts_of a' xs put q) eb ∙ ap (λ (xs : List ℕ). cuts_of a' b' xs q) ep)

pub cuts-append : (a b put : List ℕ) (f q : List Piece) → cuts_of a b put (f ++ q) ≡ cuts_of a b put f ++ cuts_of (a ++ old_of f []) (b ++ new_of f []) (put ++ puts_of f) q
cuts-append a b put [] q = cuts_same a (a ++ []) b (b ++ []) put (put ++ []) q (sym (append-nil a)) (sym (append-nil b)) (sym (append-nil put))
cuts-append a b put (p ∷ f) q = ap (λ (cs : List Cut). cut_at a b put p ∷ cs) (cuts-append (a ++ p.kept ++ p.old) (b ++ p.kept ++ p.new) (put ++ p.new) f q
    ∙ ap (λ (cs : List Cut). cuts_of (a ++ p.kept ++ p.old) (b ++ p.kept ++ p.new) (put ++ p.new) f ++ cs)
    (cuts_same _ _ _ _ _ _ q (regroup a p.kept p.old (old_of f [])) (regroup b p.kept p.new (new_of f [])) (append_assoc put p.new (puts_of f))))

-- pieces that lie apart
all_behind : (ps : List Piece) → AllApart ps → AllApartBehind ps
all_behind [] all = tt
all_behind (p ∷ ps) all = all.1

apart_front : (ps q : List Piece) → AllApart (ps ++ q) → AllApart ps
apart_front [] q all = tt
apart_front (p ∷ ps) q all = (all.0, apart_front ps q all.1)

pub behind_front : (ps q : List Piece) → AllApartBehind (ps ++ q) → AllApartBehind ps
behind_front [] q all = tt
behind_front (p ∷ ps) q all = apart_front ps q all

apart_more : (ps : List Piece) (p : Piece) → AllApart ps → is_none p.kept ≡ false → AllApart (ps ++ p ∷ [])
apart_more [] p all some = (some, tt)
apart_more (x ∷ ps) p all some = (all.0, apart_more ps p all.1 some)

pub behind_more : (ps : List Piece) (p : Piece) → AllApartBehind ps → is_none p.kept ≡ false → AllApartBehind (ps ++ p ∷ [])
behind_more [] p all some = tt
behind_more (x ∷ ps) p all some = apart_more ps p all some

pub still_some : (a k : List ℕ) → is_none k ≡ false → is_none (a ++ k) ≡ false
still_some [] k e = e
still_some (u ∷ a) k e = refl

-- one piece more
module _ (ps : List Piece) (k o n : List ℕ) where
  pub old_more : old_of (ps ++ a_piece k o n ∷ []) [] ≡ old_of ps [] ++ k ++ o
  old_more = old-append ps (a_piece k o n ∷ []) [] ∙ (ap (λ (xs : List ℕ). old_of ps [] ++ (k ++ xs)) (append-nil o) ∙ sym (append_assoc (old_of ps []) k o))

  pub new_more : new_of (ps ++ a_piece k o n ∷ []) [] ≡ new_of ps [] ++ k ++ n
  new_more = new-append ps (a_piece k o n ∷ []) [] ∙ (ap (λ (xs : List ℕ). new_of ps [] ++ (k ++ xs)) (append-nil n) ∙ sym (append_assoc (new_of ps []) k n))

  pub puts_more : puts_of (ps ++ a_piece k o n ∷ []) ≡ puts_of ps ++ n
  puts_more = puts-append ps (a_piece k o n ∷ []) ∙ ap (λ (xs : List ℕ). puts_of ps ++ xs) (append-nil n)

  pub tags_more : tag_of 0 (ps ++ a_piece k o n ∷ []) [] ≡ tag_of 0 ps [] ++ (tagged_from (length (old_of ps [])) k ++ untagged n)
  tags_more = tag-append 0 ps (a_piece k o n ∷ []) [] ∙ (ap (λ (i : ℕ). tag_of 0 ps [] ++ (tagged_from i k ++ (untagged n ++ []))) (let z : 0 + length (old_of ps []) ≡ length (old_of ps []) = omega arith in z)
      ∙ ap (λ (g : Tagged). tag_of 0 ps [] ++ (tagged_from (length (old_of ps [])) k ++ g)) (append-nil (untagged n)))

-- what is left out is taken out
pub woven_taken : (s : List ℕ) (g : Tagged) (w : Weaver) (from : Spot) (f q : List ℕ) → IsWoven s g w → s ≡ f ++ q → from ≡ end_of f → w.at_old.offset ≤ from.offset → IsWoven s g (record w { at_old = from })
woven_taken s g w from f q h s_is from_is later = record {
  pieces = h.pieces;
  kept = h.kept;
  old = h.old ++ took;
  new = h.new;
  rest = q;
  text_is = h.text_is ∙ ap (λ (xs : List ℕ). O ++ (h.kept ++ xs)) (ap (λ (xs : List ℕ). h.old ++ xs) cut.1 ∙ sym (append_assoc h.old took q));
  tags_are = h.tags_are;
  cuts_are = h.cuts_are;
  puts_are = h.puts_are;
  open_old = h.open_old;
  open_new = h.open_new;
  open_text = h.open_text;
  old_is = from_is ∙ ap end_of (cut.0 ∙ append_assoc (O ++ h.kept) h.old took);
  new_is = h.new_is;
  units_are = h.units_are;
  some = h.some;
  behind = h.behind;
}
  where
    O : List ℕ
    O = old_of h.pieces []

    took : List ℕ
    took = drop (length (O ++ h.kept ++ h.old)) f

    cut : (f ≡ O ++ h.kept ++ h.old ++ took) × (h.rest ≡ took ++ q)
    cut = longer_front (O ++ h.kept ++ h.old) h.rest f q (regroup O h.kept h.old h.rest ∙ (sym h.text_is ∙ s_is))
        (omega (arith, later, ap (λ (x : Spot). x.offset) from_is, ap (λ (x : Spot). x.offset) h.old_is))

-- an open change that takes nothing out and puts nothing in
pub closed_none : (s : List ℕ) (g : Tagged) (w : Weaver) → (h : IsWoven s g w) → h.old ≡ [] → h.new ≡ [] → IsClosed s g w
closed_none s g w h no_old no_new = record {
  pieces = h.pieces;
  kept = h.kept;
  rest = h.rest;
  text_is = h.text_is ∙ ap (λ (xs : List ℕ). O ++ (h.kept ++ (xs ++ h.rest))) no_old;
  tags_are = h.tags_are ∙ ap (λ (x : Tagged). tag_of 0 h.pieces [] ++ x) (ap (λ (xs : List ℕ). tagged_from (length O) h.kept ++ untagged xs) no_new ∙ append-nil (tagged_from (length O) h.kept));
  cuts_are = h.cuts_are;
  puts_are = h.puts_are ∙ (ap (λ (xs : List ℕ). puts_of h.pieces ++ xs) no_new ∙ append-nil (puts_of h.pieces));
  old_is = h.old_is ∙ ap end_of (ap (λ (xs : List ℕ). O ++ h.kept ++ xs) no_old ∙ append-nil (O ++ h.kept));
  new_is = h.new_is ∙ ap end_of (ap (λ (xs : List ℕ). N ++ h.kept ++ xs) no_new ∙ append-nil (N ++ h.kept));
  units_are = h.units_are;
  some = h.some;
  behind = behind_front h.pieces (a_piece h.kept [] [] ∷ []) (h.behind [] []);
}
  where
    O : List ℕ
    O = old_of h.pieces []

    N : List ℕ
    N = new_of h.pieces []

-- how much the open change takes out and puts in
pub taken_size : (s : List ℕ) (g : Tagged) (w : Weaver) → (h : IsWoven s g w) → w.at_old.offset ≡ w.open_old.offset + length h.old
taken_size s g w h = omega (arith, ap (λ (x : Spot). x.offset) h.old_is, ap (λ (x : Spot). x.offset) h.open_old, length-append (old_of h.pieces [] ++ h.kept) h.old)

pub put_size : (s : List ℕ) (g : Tagged) (w : Weaver) → (h : IsWoven s g w) → length w.text ≡ w.open_text + length h.new
put_size s g w h = omega (arith, ap length h.puts_are, h.open_text, length-append (puts_of h.pieces) h.new)

abbrev pub cut_made : Spot → Spot → Spot → Spot → ℕ → Cut
cut_made a b c d n = record { old = a; old_end = b; new = c; new_end = d; text = n }

same_cut : (a a' b b' c c' d d' : Spot) (n n' : ℕ) → a ≡ a' → b ≡ b' → c ≡ c' → d ≡ d' → n ≡ n' → cut_made a b c d n ≡ cut_made a' b' c' d' n'
same_cut a a' b b' c c' d d' n n' ea eb ec ed en = ap (λ (x : Spot). cut_made x b c d n) ea ∙ (ap (λ (x : Spot). cut_made a' x c d n) eb
    ∙ (ap (λ (x : Spot). cut_made a' b' x d n) ec ∙ (ap (λ (x : Spot). cut_made a' b' c' x n) ed ∙ ap (cut_made a' b' c' d') en)))

-- an open change that becomes a cut
pub closed_some : (s : List ℕ) (g : Tagged) (w w' : Weaver) → (h : IsWoven s g w) → ((length h.old == 0) && (length h.new == 0)) ≡ false
    → w'.cuts.items ≡ w.cuts.items ++ cut_made w.open_old w.at_old w.open_new w.at_new w.open_text ∷ [] → w'.units ≡ w.units + (length h.old + length h.new)
    → w'.text ≡ w.text → w'.at_old ≡ w.at_old → w'.at_new ≡ w.at_new → IsClosed s g w'
closed_some s g w w' h some_units cuts_is units_is text_is old_is new_is = record {
  pieces = ps;
  kept = [];
  rest = h.rest;
  text_is = h.text_is ∙ (sym (regroup O h.kept h.old h.rest) ∙ ap (λ (xs : List ℕ). xs ++ h.rest) (sym (old_more h.pieces h.kept h.old h.new)));
  tags_are = h.tags_are ∙ (sym (tags_more h.pieces h.kept h.old h.new) ∙ sym (append-nil (tag_of 0 ps [])));
  cuts_are = cuts_is ∙ (ap (λ (cs : List Cut). cs ++ cut_made w.open_old w.at_old w.open_new w.at_new w.open_text ∷ []) h.cuts_are
      ∙ (ap (λ (c : Cut). cuts_of [] [] [] h.pieces ++ c ∷ []) (same_cut _ _ _ _ _ _ _ _ _ _ h.open_old h.old_is h.open_new h.new_is h.open_text)
      ∙ sym (cuts-append [] [] [] h.pieces (a_piece h.kept h.old h.new ∷ []))));
  puts_are = text_is ∙ (h.puts_are ∙ sym (puts_more h.pieces h.kept h.old h.new));
  old_is = old_is ∙ (h.old_is ∙ ap end_of (sym (old_more h.pieces h.kept h.old h.new) ∙ sym (append-nil (old_of ps []))));
  new_is = new_is ∙ (h.new_is ∙ ap end_of (sym (new_more h.pieces h.kept h.old h.new) ∙ sym (append-nil (new_of ps []))));
  units_are = units_is ∙ (ap (λ (n : ℕ). n + (length h.old + length h.new)) h.units_are ∙ sym (sum_by-append piece_size h.pieces (a_piece h.kept h.old h.new ∷ []) ∙ omega arith));
  some = some-append h.pieces (a_piece h.kept h.old h.new ∷ []) h.some (some_units, tt);
  behind = h.behind h.old h.new;
}
  where
    O : List ℕ
    O = old_of h.pieces []

    ps : List Piece
    ps = h.pieces ++ a_piece h.kept h.old h.new ∷ []

-- the same, by the numbers that the code has
pub closed_by_none : (s : List ℕ) (g : Tagged) (w : Weaver) (taken put : ℕ) → IsWoven s g w → taken ≡ w.at_old.offset - w.open_old.offset → put ≡ length w.text - w.open_text → taken + put ≡ 0 → IsClosed s g w
closed_by_none s g w taken put h taken_is put_is none = closed_none s g w h
    (nil_from_length h.old (omega (arith, taken_is, none, taken_size s g w h)))
    (nil_from_length h.new (omega (arith, put_is, none, put_size s g w h)))

pub closed_by_some : (s : List ℕ) (g : Tagged) (w w' : Weaver) (taken put : ℕ) → IsWoven s g w → taken ≡ w.at_old.offset - w.open_old.offset → put ≡ length w.text - w.open_text → (taken + put ≡ 0 → ⊥)
    → w'.cuts.items ≡ w.cuts.items ++ cut_made w.open_old w.at_old w.open_new w.at_new w.open_text ∷ [] → w'.units ≡ w.units + (taken + put)
    → w'.text ≡ w.text → w'.at_old ≡ w.at_old → w'.at_new ≡ w.at_new → IsClosed s g w'
closed_by_some s g w w' taken put h taken_is put_is some_units cuts_is units_is text_is old_is new_is = closed_some s g w w' h (some_size (length h.old) (length h.new) (λ e. some_units (omega (arith, e, t, p)))) cuts_is (units_is ∙ omega (arith, t, p)) text_is old_is new_is
  where
    t : taken ≡ length h.old
    t = omega (arith, taken_is, taken_size s g w h)

    p : put ≡ length h.new
    p = omega (arith, put_is, put_size s g w h)

    some_size : (a b : ℕ) → (a + b ≡ 0 → ⊥) → ((a == 0) && (b == 0)) ≡ false
    some_size zero zero e = absurd (e refl)
    some_size zero (suc b) e = grind (arith, nat_tests)
    some_size (suc a) b e = grind (arith, nat_tests)

-- the changes are no larger than the texts
sizes_small : (ps : List Piece) → sum_by piece_size ps ≤ length (old_of ps []) + length (new_of ps [])
sizes_small [] = omega arith
sizes_small (p ∷ ps) = omega (arith, sum_by-cons piece_size p ps, sizes_small ps, length-append p.kept (p.old ++ old_of ps []), length-append p.old (old_of ps []), length-append p.kept (p.new ++ new_of ps []), length-append p.new (new_of ps []))

pub units_small : (s : List ℕ) (g : Tagged) (w : Weaver) (m : ℕ) → IsWoven s g w → length s ≤ m → length g ≤ m → w.units ≤ m + m
units_small s g w m h s_short g_short = omega (
  arith,
  h.units_are,
  sizes_small h.pieces,
  s_short,
  g_short,
  ap length h.text_is,
  length-append (old_of h.pieces []) (h.kept ++ (h.old ++ h.rest)),
  ap length h.tags_are,
  length-append (tag_of 0 h.pieces []) (tagged_from (length (old_of h.pieces [])) h.kept ++ untagged h.new),
  length-tag 0 h.pieces [],
)

-- units kept behind a closed change
pub woven_kept : (s : List ℕ) (g : Tagged) (w w' : Weaver) (f k z : List ℕ) (from to : Spot) → IsClosed s g w → s ≡ f ++ (k ++ z) → from ≡ end_of f → to ≡ end_of (f ++ k) → is_none k ≡ false → w.at_old ≡ from
    → w'.cuts.items ≡ w.cuts.items → w'.text ≡ w.text → w'.units ≡ w.units → w'.open_old ≡ to → w'.at_old ≡ to → w'.at_new ≡ ahead w.at_new from to → w'.open_new ≡ w'.at_new → w'.open_text ≡ length w.text
    → IsWoven s (g ++ tagged_from (length f) k) w'
woven_kept s g w w' f k z from to h s_is from_is to_is some_kept at cuts_is text_is units_is open_is old_is new_is open_new_is put_is = record {
  pieces = h.pieces;
  kept = h.kept ++ k;
  old = [];
  new = [];
  rest = z;
  text_is = h.text_is ∙ ap (λ (xs : List ℕ). O ++ xs) (ap (λ (xs : List ℕ). h.kept ++ xs) front.1 ∙ sym (append_assoc h.kept k z));
  tags_are = ap (λ (x : Tagged). x ++ tagged_from (length f) k) h.tags_are ∙ (append_assoc (tag_of 0 h.pieces []) (tagged_from (length O) h.kept) (tagged_from (length f) k)
      ∙ ap (λ (x : Tagged). tag_of 0 h.pieces [] ++ x) (ap (λ (i : ℕ). tagged_from (length O) h.kept ++ tagged_from i k) (ap length (sym front.0) ∙ length-append O h.kept)
      ∙ (sym (tagged-append (length O) h.kept k) ∙ sym (append-nil (tagged_from (length O) (h.kept ++ k))))));
  cuts_are = cuts_is ∙ h.cuts_are;
  puts_are = text_is ∙ (h.puts_are ∙ sym (append-nil (puts_of h.pieces)));
  open_old = open_is ∙ to_old;
  open_new = open_new_is ∙ to_new;
  open_text = put_is ∙ ap length h.puts_are;
  old_is = old_is ∙ (to_old ∙ ap end_of (sym (append-nil (O ++ (h.kept ++ k)))));
  new_is = to_new ∙ ap end_of (sym (append-nil (new_of h.pieces [] ++ (h.kept ++ k))));
  units_are = units_is ∙ h.units_are;
  some = h.some;
  behind = λ o n. behind_more h.pieces (a_piece (h.kept ++ k) o n) h.behind (still_some h.kept k some_kept);
}
  where
    O : List ℕ
    O = old_of h.pieces []

    front : (O ++ h.kept ≡ f) × (h.rest ≡ k ++ z)
    front = same_front (O ++ h.kept) h.rest f (k ++ z) (append_assoc O h.kept h.rest ∙ (sym h.text_is ∙ s_is)) (ap (λ (x : Spot). x.offset) (sym h.old_is ∙ (at ∙ from_is)))

    to_old : to ≡ end_of (O ++ (h.kept ++ k))
    to_old = to_is ∙ ap end_of (ap (λ (xs : List ℕ). xs ++ k) (sym front.0) ∙ append_assoc O h.kept k)

    to_new : w'.at_new ≡ end_of (new_of h.pieces [] ++ (h.kept ++ k))
    to_new = new_is ∙ (ap (λ (x : Spot). ahead x from to) h.new_is ∙ (ap (λ (x : Spot). ahead (end_of (new_of h.pieces [] ++ h.kept)) x to) from_is
        ∙ (ap (ahead (end_of (new_of h.pieces [] ++ h.kept)) (end_of f)) to_is ∙ (ahead_is (new_of h.pieces [] ++ h.kept) f k ∙ ap end_of (append_assoc (new_of h.pieces []) h.kept k)))))

-- units put in
pub woven_put : (s : List ℕ) (g : Tagged) (w w' : Weaver) (b n : List ℕ) (from to : Spot) → IsWoven s g w → from ≡ end_of b → to ≡ end_of (b ++ n)
    → w'.cuts ≡ w.cuts → w'.text ≡ w.text ++ n → w'.units ≡ w.units → w'.open_old ≡ w.open_old → w'.open_new ≡ w.open_new → w'.open_text ≡ w.open_text → w'.at_old ≡ w.at_old → w'.at_new ≡ ahead w.at_new from to
    → IsWoven s (g ++ untagged n) w'
woven_put s g w w' b n from to h from_is to_is cuts_is text_is units_is open_old_is open_new_is open_text_is old_is new_is = record {
  pieces = h.pieces;
  kept = h.kept;
  old = h.old;
  new = h.new ++ n;
  rest = h.rest;
  text_is = h.text_is;
  tags_are = ap (λ (x : Tagged). x ++ untagged n) h.tags_are ∙ (append_assoc (tag_of 0 h.pieces []) (K ++ untagged h.new) (untagged n)
      ∙ ap (λ (x : Tagged). tag_of 0 h.pieces [] ++ x) (append_assoc K (untagged h.new) (untagged n) ∙ ap (λ (x : Tagged). K ++ x) (sym (untagged-append h.new n))));
  cuts_are = ap (λ c. c.items) cuts_is ∙ h.cuts_are;
  puts_are = text_is ∙ (ap (λ (xs : List ℕ). xs ++ n) h.puts_are ∙ append_assoc (puts_of h.pieces) h.new n);
  open_old = open_old_is ∙ h.open_old;
  open_new = open_new_is ∙ h.open_new;
  open_text = open_text_is ∙ h.open_text;
  old_is = old_is ∙ h.old_is;
  new_is = new_is ∙ (ap (λ (x : Spot). ahead x from to) h.new_is ∙ (ap (λ (x : Spot). ahead (end_of B) x to) from_is ∙ (ap (ahead (end_of B) (end_of b)) to_is ∙ (ahead_is B b n ∙ ap end_of (append_assoc (new_of h.pieces [] ++ h.kept) h.new n)))));
  units_are = units_is ∙ h.units_are;
  some = h.some;
  behind = h.behind;
}
  where
    K : Tagged
    K = tagged_from (length (old_of h.pieces [])) h.kept

    B : List ℕ
    B = new_of h.pieces [] ++ h.kept ++ h.new

-- offsets that rise
pub follows_put : (m : ℕ) (n : List ℕ) (left : Tagged) → Follows m (untagged n ++ left) → Follows m left
follows_put m [] left h = h
follows_put m (u ∷ n) left h = follows_put m n left h

pub follows_kept : (m i : ℕ) (k : List ℕ) (left : Tagged) → Follows m (tagged_from i k ++ left) → is_none k ≡ false → (m ≤ i) × Follows (i + length k) left
follows_kept m i [] left h e = cc
follows_kept m i (u ∷ []) left h e = (h.0, h.1)
follows_kept m i (u ∷ v ∷ k) left h e = (h.0, subst (λ (n : ℕ). Follows n left) (let n : i + 1 + length (v ∷ k) ≡ i + length (u ∷ v ∷ k) = omega arith in n) (follows_kept (i + 1) (i + 1) (v ∷ k) left h.1 refl).1)

-- the weaver's steps on the way to a whole
pub weaves_none : (s : List ℕ) (whole left : Tagged) (w : Weaver) (f k : List ℕ) (from to : Spot) → IsStretch s f k from to → from.offset ≡ to.offset → Weaves s whole (tagged_from (length f) k ++ left) w → Weaves s whole left w
weaves_none s whole left w f k from to h same weaves = subst (λ (xs : List ℕ). Weaves s whole (tagged_from (length f) xs ++ left) w) (nil_from_length k none) weaves
  where
    none : length k ≡ 0
    none = omega (arith, same, ap (λ (x : Spot). x.offset) h.from_is, ap (λ (x : Spot). x.offset) h.to_is, length-append f k)

pub stretch_some : (s f k : List ℕ) (from to : Spot) → IsStretch s f k from to → (from.offset ≡ to.offset → ⊥) → is_none k ≡ false
stretch_some s f [] from to h differ = absurd (differ (omega (arith, ap (λ (x : Spot). x.offset) h.from_is, ap (λ (x : Spot). x.offset) h.to_is, length-append f (let none : List ℕ = [] in none))))
stretch_some s f (u ∷ k) from to h differ = refl

-- how long what is made is
pub made_length : (s : List ℕ) (g : Tagged) (w : Weaver) → (h : IsWoven s g w) → length (new_of h.pieces [] ++ h.kept ++ h.new) ≡ length g
made_length s g w h = omega (
  arith,
  length-append (new_of h.pieces []) h.kept,
  length-append (new_of h.pieces [] ++ h.kept) h.new,
  ap length h.tags_are,
  length-append (tag_of 0 h.pieces []) (tagged_from (length (old_of h.pieces [])) h.kept ++ untagged h.new),
  length-append (tagged_from (length (old_of h.pieces [])) h.kept) (untagged h.new),
  length-tag 0 h.pieces [],
  length-tagged (length (old_of h.pieces [])) h.kept,
  length-untagged h.new,
)

puts_short : (ps : List Piece) → length (puts_of ps) ≤ length (new_of ps [])
puts_short [] = omega arith
puts_short (p ∷ ps) = omega (arith, puts_short ps, length-append p.new (puts_of ps), length-append p.kept (p.new ++ new_of ps []), length-append p.new (new_of ps []))

pub text_short : (s : List ℕ) (g : Tagged) (w : Weaver) → IsWoven s g w → length w.text ≤ length g
text_short s g w h = omega (arith, ap length h.puts_are, length-append (puts_of h.pieces) h.new, puts_short h.pieces, made_length s g w h, length-append (new_of h.pieces []) h.kept, length-append (new_of h.pieces [] ++ h.kept) h.new)

pub done_short : (s : List ℕ) (whole left : Tagged) (w : Weaver) → (h : Weaves s whole left w) → length h.done + length left ≤ MAX_UNITS
done_short s whole left w h = omega (arith, ap length h.whole_is, length-append h.done left, h.short)

-- a spot that can be made
pub record IsRoom (x : Spot) : Type 0 where
  pub text : List ℕ
  pub is : x ≡ end_of text
  pub short : length text ≤ MAX_UNITS

pub room_offset : (x : Spot) → IsRoom x → x.offset ≤ MAX_UNITS
room_offset x h = omega (arith, ap (λ (y : Spot). y.offset) h.is, h.short)

pub room_near : (x : Spot) → IsRoom x → IsWithin MAX_COORD x.point
room_near x h = subst (λ (y : Spot). IsWithin MAX_COORD y.point) (sym h.is) (extent_within h.text MAX_COORD (omega (arith, h.short)))

pub room_made : (s : List ℕ) (g : Tagged) (w : Weaver) → IsWoven s g w → length g ≤ MAX_UNITS → IsRoom w.at_new
room_made s g w h short = record { text = new_of h.pieces [] ++ h.kept ++ h.new; is = h.new_is; short = omega (arith, made_length s g w h, short) }

-- keeping, where a unit or more is kept
module _ (s f k : List ℕ) (whole left : Tagged) (w w1 : Weaver) (from to : Spot) (h : IsStretch s f k from to) (differ : from.offset ≡ to.offset → ⊥) (weaves : Weaves s whole (tagged_from (length f) k ++ left) w) where
  rising : (w.at_old.offset ≤ length f) × Follows (length f + length k) left
  rising = follows_kept w.at_old.offset (length f) k left weaves.follows (stretch_some s f k from to h differ)

  pub keep_taken : IsWoven s weaves.done (record w { at_old = from })
  keep_taken = woven_taken s weaves.done w from f (k ++ h.behind) weaves.woven h.text_is h.from_is (omega (arith, rising.0, ap (λ (x : Spot). x.offset) h.from_is))

  keep_woven : (w2 : Weaver) → IsClosed s weaves.done w1 → w1.at_old ≡ from → w2.cuts.items ≡ w1.cuts.items → w2.text ≡ w1.text → w2.units ≡ w1.units → w2.open_old ≡ to → w2.at_old ≡ to → w2.at_new ≡ ahead w1.at_new from to → w2.open_new ≡ w2.at_new → w2.open_text ≡ length w1.text
      → IsWoven s (weaves.done ++ tagged_from (length f) k) w2
  keep_woven w2 closed at = woven_kept s weaves.done w1 w2 f k h.behind from to closed h.text_is h.from_is h.to_is (stretch_some s f k from to h differ) at

  pub keep_room : IsClosed s weaves.done w1 → w1.at_old ≡ from → IsRoom (ahead w1.at_new from to)
  keep_room closed at = let w2 : Weaver = record w1 { open_old = to; at_old = to; at_new = ahead w1.at_new from to; open_new = ahead w1.at_new from to; open_text = length w1.text } in
      room_made s (weaves.done ++ tagged_from (length f) k) w2 (keep_woven w2 closed at refl refl refl refl refl refl refl refl)
      (omega (arith, done_short s whole (tagged_from (length f) k ++ left) w weaves, length-append (tagged_from (length f) k) left, length-append weaves.done (tagged_from (length f) k)))

  pub keep_made : (w2 : Weaver) → IsClosed s weaves.done w1 → w1.at_old ≡ from → w2.cuts.items ≡ w1.cuts.items → w2.text ≡ w1.text → w2.units ≡ w1.units → w2.open_old ≡ to → w2.at_old ≡ to → w2.at_new ≡ ahead w1.at_new from to → w2.open_new ≡ w2.at_new → w2.open_text ≡ length w1.text
      → Weaves s whole left w2
  keep_made w2 closed at cuts_is text_is units_is open_is old_is new_is open_new_is put_is = record {
    done = weaves.done ++ tagged_from (length f) k;
    whole_is = append_assoc weaves.done (tagged_from (length f) k) left ∙ weaves.whole_is;
    woven = keep_woven w2 closed at cuts_is text_is units_is open_is old_is new_is open_new_is put_is;
    follows = subst (λ (n : ℕ). Follows n left) (sym (ap (λ (x : Spot). x.offset) (old_is ∙ h.to_is) ∙ length-append f k)) rising.1;
    short = weaves.short;
    short_text = weaves.short_text;
  }

-- putting in
module _ (s b n : List ℕ) (whole left : Tagged) (w : Weaver) (from to : Spot) (from_is : from ≡ end_of b) (to_is : to ≡ end_of (b ++ n)) (weaves : Weaves s whole (untagged n ++ left) w) where
  pub put_fits : length w.text + length n ≤ MAX_UNITS
  put_fits = omega (arith, text_short s weaves.done w weaves.woven, done_short s whole (untagged n ++ left) w weaves, length-append (untagged n) left, length-untagged n)

  pub put_room : IsRoom (ahead w.at_new from to)
  put_room = record {
    text = new_of weaves.woven.pieces [] ++ weaves.woven.kept ++ weaves.woven.new ++ n;
    is = ap (λ (x : Spot). ahead x from to) weaves.woven.new_is ∙ (ap (λ (x : Spot). ahead (end_of B) x to) from_is ∙ (ap (ahead (end_of B) (end_of b)) to_is ∙ ahead_is B b n));
    short = omega (arith, made_length s weaves.done w weaves.woven, length-append B n, done_short s whole (untagged n ++ left) w weaves, length-append (untagged n) left, length-untagged n);
  }
    where
      B : List ℕ
      B = new_of weaves.woven.pieces [] ++ weaves.woven.kept ++ weaves.woven.new

  pub put_made : (w2 : Weaver) → w2.cuts ≡ w.cuts → w2.text ≡ w.text ++ n → w2.units ≡ w.units → w2.open_old ≡ w.open_old → w2.open_new ≡ w.open_new → w2.open_text ≡ w.open_text → w2.at_old ≡ w.at_old → w2.at_new ≡ ahead w.at_new from to → Weaves s whole left w2
  put_made w2 cuts_is text_is units_is open_old_is open_new_is open_text_is old_is new_is = record {
    done = weaves.done ++ untagged n;
    whole_is = append_assoc weaves.done (untagged n) left ∙ weaves.whole_is;
    woven = woven_put s weaves.done w w2 b n from to weaves.woven from_is to_is cuts_is text_is units_is open_old_is open_new_is open_text_is old_is new_is;
    follows = subst (λ (x : Spot). Follows x.offset left) (sym old_is) (follows_put w.at_old.offset n left weaves.follows);
    short = weaves.short;
    short_text = weaves.short_text;
  }

-- the end
old_tail : (ps : List Piece) (tail : List ℕ) → old_of ps tail ≡ old_of ps [] ++ tail
old_tail ps tail = ap (λ (qs : List Piece). old_of qs tail) (sym (append-nil ps)) ∙ old-append ps [] tail

new_tail : (ps : List Piece) (tail : List ℕ) → new_of ps tail ≡ new_of ps [] ++ tail
new_tail ps tail = ap (λ (qs : List Piece). new_of qs tail) (sym (append-nil ps)) ∙ new-append ps [] tail

tag_tail : (ps : List Piece) (tail : List ℕ) → tag_of 0 ps tail ≡ tag_of 0 ps [] ++ tagged_from (length (old_of ps [])) tail
tag_tail ps tail = ap (λ (qs : List Piece). tag_of 0 qs tail) (sym (append-nil ps)) ∙ (tag-append 0 ps [] tail ∙ ap (λ (i : ℕ). tag_of 0 ps [] ++ tagged_from i tail) (let z : 0 + length (old_of ps []) ≡ length (old_of ps []) = omega arith in z))

module _ (s : List ℕ) (whole : Tagged) (w : Weaver) (end : Spot) (end_is : end ≡ end_of s) (weaves : Weaves s whole [] w) where
  pub finish_taken : IsWoven s weaves.done (record w { at_old = end })
  finish_taken = woven_taken s weaves.done w end s [] weaves.woven (sym (append-nil s)) end_is (omega (
    arith,
    ap (λ (x : Spot). x.offset) end_is,
    ap (λ (x : Spot). x.offset) weaves.woven.old_is,
    ap length weaves.woven.text_is,
    length-append (old_of weaves.woven.pieces [] ++ weaves.woven.kept) weaves.woven.old,
    length-append (old_of weaves.woven.pieces []) weaves.woven.kept,
    length-append (old_of weaves.woven.pieces []) (weaves.woven.kept ++ (weaves.woven.old ++ weaves.woven.rest)),
    length-append weaves.woven.kept (weaves.woven.old ++ weaves.woven.rest),
    length-append weaves.woven.old weaves.woven.rest,
  ))

  module _ (w1 : Weaver) (closed : IsClosed s weaves.done w1) (at : w1.at_old ≡ end) (o : Overlay) (cuts_is : o.cuts.items ≡ w1.cuts.items) (text_is : o.text ≡ w1.text) (o_end : o.end ≡ w1.at_new) (units_is : o.units ≡ w1.units) where
    whole_text : s ≡ old_of closed.pieces [] ++ closed.kept
    whole_text = closed.text_is ∙ ap (λ (xs : List ℕ). old_of closed.pieces [] ++ xs) (ap (λ (xs : List ℕ). closed.kept ++ xs) (nil_from_length closed.rest none) ∙ append-nil closed.kept)
      where
        none : length closed.rest ≡ 0
        none = omega (
          arith,
          ap length closed.text_is,
          ap (λ (x : Spot). x.offset) (sym closed.old_is ∙ (at ∙ end_is)),
          length-append (old_of closed.pieces []) closed.kept,
          length-append (old_of closed.pieces []) (closed.kept ++ closed.rest),
          length-append closed.kept closed.rest,
        )

    done_is : tag_of 0 closed.pieces closed.kept ≡ whole
    done_is = tag_tail closed.pieces closed.kept ∙ (sym closed.tags_are ∙ (sym (append-nil weaves.done) ∙ weaves.whole_is))

    pub finish_laid : IsLaid s o
    finish_laid = record {
      pieces = closed.pieces;
      tail = closed.kept;
      text_is = whole_text ∙ sym (old_tail closed.pieces closed.kept);
      cuts_are = cuts_is ∙ closed.cuts_are;
      puts_are = text_is ∙ closed.puts_are;
      end_is = o_end ∙ (closed.new_is ∙ ap end_of (sym (new_tail closed.pieces closed.kept)));
      units_are = units_is ∙ closed.units_are;
      some = closed.some;
      behind = closed.behind;
      old_short = weaves.short_text;
      new_short = omega (arith, length-tag 0 closed.pieces closed.kept, ap length done_is, weaves.short);
    }

    pub finish_tags : tags_of s o ≡ whole
    unfolding finish_laid
    finish_tags = tags_of_laid s o finish_laid ∙ done_is
