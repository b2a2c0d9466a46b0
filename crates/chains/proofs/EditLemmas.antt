-- Stretches of tagged texts between two spots, as a walk over a layer comes to them.
use Rattle.std.proofs.Common.{◌≡◌, ℕ, zero, suc, ◌+◌, ◌-◌, ◌<◌, ◌≤◌, List, [], ◌∷◌, ◌++◌, length, take, drop, map, get_or, slice_range, Option, Some, None, refl, sym, ap, ◌∙◌, subst, inl, inr, arith, append_assoc, length-append, length-drop, take-append-drop}
use Rattle.std.proofs.lemmas.Bool.{cases_lt}
use Rattle.std.proofs.lemmas.List.{append-nil, drop_more, drop_at, take_at, take_all, drop_all, take-append-le, take-map, drop-map, drop-drop, length-take-le}
use Rattle.points.specs.declared.point.Point.{Point}
use Rattle.points.specs.Place.{extent}
use Rattle.points.specs.declared.limits.TheConstants.{MAX_UNITS, MAX_COORD}
use Rattle.patch.specs.Tagged.{Tagged, tagged, tagged_from, untagged, units_of, edited}
use Rattle.patch.proofs.Pieces.{Piece, old_of, new_of, tag_of}
use Rattle.patch.proofs.PatchPieces.{take-tagged, drop-tagged}
use Rattle.patch.proofs.SplicePieces.{length-tag, length-tagged, length-untagged}
use Rattle.chains.specs.declared.spot.Spot.{Spot}
use Rattle.chains.specs.declared.overlay.Cut.{Cut}
use Rattle.chains.specs.declared.overlay.Overlay.{Overlay}
use Rattle.chains.specs.declared.edit.Overlap.{Overlap}
use Rattle.chains.specs.declared.weaver.Weaver.{Weaver}
use Rattle.chains.specs.Overlay.{end_of, cuts_of, puts_of, tags_of, IsLaid}
use Rattle.chains.specs.Spots.{ahead}
use Rattle.chains.specs.Weaving.{Weaves, IsWoven, IsStretch, Follows}
use Rattle.chains.specs.Walking.{IsIn, IsLater, IsEarlier, Lies, IsOverlap, Passes, IsKept, HasPut}
use Rattle.chains.proofs.LaidLemmas.{tags_of_laid, text_of_laid, slice_is}
use Rattle.chains.proofs.WeaverLemmas.{ahead_is, IsRoom}

-- stretches of lists that are joined
pub drop_both : {X : Type 0} (a : ℕ) (x y : List X) → drop a (x ++ y) ≡ drop a x ++ drop (a - length x) y
drop_both zero [] y = refl
drop_both {X} (suc a) [] y = ap (λ (n : ℕ). drop n y) (let e : suc a ≡ suc a - 0 = omega arith in e)
drop_both {X} zero (u ∷ x) y = ap (λ (n : ℕ). u ∷ x ++ drop n y) (let e : 0 ≡ 0 - suc (length x) = omega arith in e)
drop_both {X} (suc a) (u ∷ x) y = drop_both a x y ∙ ap (λ (n : ℕ). drop a x ++ drop n y) (let e : a - length x ≡ suc a - suc (length x) = omega arith in e)

pub take_both : {X : Type 0} (a : ℕ) (x y : List X) → take a (x ++ y) ≡ take a x ++ take (a - length x) y
take_both zero [] y = refl
take_both {X} (suc a) [] y = ap (λ (n : ℕ). take n y) (let e : suc a ≡ suc a - 0 = omega arith in e)
take_both {X} zero (u ∷ x) y = ap (λ (n : ℕ). take n y) (let e : 0 ≡ 0 - suc (length x) = omega arith in e)
take_both {X} (suc a) (u ∷ x) y = ap (λ (xs : List X). u ∷ xs) (take_both a x y ∙ ap (λ (n : ℕ). take a x ++ take n y) (let e : a - length x ≡ suc a - suc (length x) = omega arith in e))

pub slice_both : {X : Type 0} (a b : ℕ) (x y : List X) → slice_range (x ++ y) a b ≡ slice_range x a b ++ slice_range y (a - length x) (b - length x)
slice_both a b x y = ap (take (b - a)) (drop_both a x y) ∙ (take_both (b - a) (drop a x) (drop (a - length x) y)
    ∙ ap (λ (n : ℕ). take (b - a) (drop a x) ++ take n (drop (a - length x) y)) (let e : b - a - length (drop a x) ≡ b - length x - (a - length x) = omega (arith, length-drop a x) in e))

take_nil : {X : Type 0} (n : ℕ) → take n (let none : List X = [] in none) ≡ []
take_nil zero = refl
take_nil (suc n) = refl

slice_before : {X : Type 0} (a b : ℕ) (x : List X) → b ≤ a → slice_range x a b ≡ []
slice_before a b x le = ap (λ (n : ℕ). take n (drop a x)) (let e : b - a ≡ 0 = omega arith in e)

slice_past : {X : Type 0} (a b : ℕ) (x : List X) → length x ≤ a → slice_range x a b ≡ []
slice_past a b x le = ap (take (b - a)) (drop_all a x le) ∙ take_nil (b - a)

pub slice_tagged : (k a b : ℕ) (us : List ℕ) → slice_range (tagged_from k us) a b ≡ tagged_from (k + a) (slice_range us a b)
slice_tagged k a b us = ap (take (b - a)) (drop-tagged a k us) ∙ take-tagged (b - a) (k + a) (drop a us)

pub slice_untagged : (a b : ℕ) (us : List ℕ) → slice_range (untagged us) a b ≡ untagged (slice_range us a b)
slice_untagged a b us = ap (take (b - a)) (drop-map (λ (u : ℕ). (u, None)) a us) ∙ take-map (λ (u : ℕ). (u, None)) (b - a) (drop a us)

-- up to a, then up to b
pub take_more_slice : {X : Type 0} (a b : ℕ) (x : List X) → a ≤ b → take b x ≡ take a x ++ slice_range x a b
take_more_slice zero b x le = ap (λ (n : ℕ). take n x) (let e : b ≡ b - 0 = omega arith in e)
take_more_slice {X} (suc a) zero x le = absurd (let z : ⊥ = omega (arith, le) in z)
take_more_slice (suc a) (suc b) [] le = sym (take_nil (suc b - suc a))
take_more_slice {X} (suc a) (suc b) (u ∷ x) le = ap (λ (xs : List X). u ∷ xs) (take_more_slice a b x (omega (arith, le)) ∙ ap (λ (n : ℕ). take a x ++ take n (drop a x)) (let e : b - a ≡ suc b - suc a = omega arith in e))

pub three_parts : {X : Type 0} (a b : ℕ) (x : List X) → a ≤ b → x ≡ take a x ++ (slice_range x a b ++ drop b x)
three_parts {X} a b x le = sym (take-append-drop b x) ∙ (ap (λ (xs : List X). xs ++ drop b x) (take_more_slice a b x le) ∙ append_assoc (take a x) (slice_range x a b) (drop b x))

-- spots of a text that stand in a stretch of it
module _ (t n k : List ℕ) (start end : Spot) (lies : Lies t n k start end) where
  start_at : start.offset ≡ length n
  start_at = ap (λ (x : Spot). x.offset) lies.start_is

  end_at : end.offset ≡ length n + length k
  end_at = ap (λ (x : Spot). x.offset) lies.end_is ∙ length-append n k

  pub spot_within : (x : Spot) → IsIn t x → length n ≤ x.offset → x.offset ≤ length n + length k → x ≡ end_of (n ++ take (x.offset - length n) k)
  spot_within x x_in from to = x_in.is ∙ ap end_of (ap (take x.offset) lies.text_is ∙ (take_both x.offset n (k ++ lies.behind)
      ∙ (ap (λ (xs : List ℕ). xs ++ take (x.offset - length n) (k ++ lies.behind)) (take_all x.offset n from) ∙ ap (λ (xs : List ℕ). n ++ xs) (take-append-le (x.offset - length n) k lies.behind (omega (arith, to))))))

  spot_first : (a : ℕ) → a ≡ 0 → start ≡ end_of (n ++ take a k)
  spot_first a none = lies.start_is ∙ ap end_of (sym (ap (λ (i : ℕ). n ++ take i k) none ∙ append-nil n))

  spot_last : (b : ℕ) → length k ≤ b → end ≡ end_of (n ++ take b k)
  spot_last b all = lies.end_is ∙ ap (λ (xs : List ℕ). end_of (n ++ xs)) (sym (take_all b k all))

  module _ (from to : Spot) (from_in : IsIn t from) (to_in : IsIn t to) where
    pub overlap_none : (first last : Spot) → IsLater start from first → IsEarlier end to last → last.offset ≤ first.offset → slice_range k (from.offset - length n) (to.offset - length n) ≡ []
    overlap_none first last (inl f) (inl l) none = slice_before _ _ k (omega (arith, ap (λ (x : Spot). x.offset) f.0, ap (λ (x : Spot). x.offset) l.0, none, start_at, end_at))
    overlap_none first last (inl f) (inr l) none = slice_past _ _ k (omega (arith, ap (λ (x : Spot). x.offset) f.0, ap (λ (x : Spot). x.offset) l.0, f.1, none, start_at, end_at))
    overlap_none first last (inr f) (inl l) none = slice_before _ _ k (omega (arith, ap (λ (x : Spot). x.offset) f.0, ap (λ (x : Spot). x.offset) l.0, none, start_at, end_at))
    overlap_none first last (inr f) (inr l) none = slice_past _ _ k (omega (arith, ap (λ (x : Spot). x.offset) f.0, ap (λ (x : Spot). x.offset) l.0, f.1, none, start_at, end_at))

    pub overlap_some : (first last : Spot) → IsLater start from first → IsEarlier end to last → first.offset < last.offset → IsOverlap n k (from.offset - length n) (to.offset - length n) (Some (record { from = first; to = last }))
    overlap_some first last f l some = (first_is f l, last_is f l, ordered f l, inside f l)
      where
        first_is : IsLater start from first → IsEarlier end to last → first ≡ end_of (n ++ take (from.offset - length n) k)
        first_is (inl f) (inl l) = f.0 ∙ spot_within from from_in (omega (arith, f.1, start_at)) (omega (arith, ap (λ (x : Spot). x.offset) f.0, ap (λ (x : Spot). x.offset) l.0, l.1, some, end_at))
        first_is (inl f) (inr l) = f.0 ∙ spot_within from from_in (omega (arith, f.1, start_at)) (omega (arith, ap (λ (x : Spot). x.offset) f.0, ap (λ (x : Spot). x.offset) l.0, some, end_at))
        first_is (inr f) l = f.0 ∙ spot_first (from.offset - length n) (omega (arith, f.1, start_at))

        last_is : IsLater start from first → IsEarlier end to last → last ≡ end_of (n ++ take (to.offset - length n) k)
        last_is (inl f) (inl l) = l.0 ∙ spot_within to to_in (omega (arith, f.1, ap (λ (x : Spot). x.offset) f.0, ap (λ (x : Spot). x.offset) l.0, some, start_at)) (omega (arith, l.1, end_at))
        last_is (inr f) (inl l) = l.0 ∙ spot_within to to_in (omega (arith, ap (λ (x : Spot). x.offset) f.0, ap (λ (x : Spot). x.offset) l.0, some, start_at)) (omega (arith, l.1, end_at))
        last_is f (inr l) = l.0 ∙ spot_last (to.offset - length n) (omega (arith, l.1, end_at))

        ordered : IsLater start from first → IsEarlier end to last → from.offset - length n < to.offset - length n
        ordered (inl f) (inl l) = omega (arith, f.1, l.1, ap (λ (x : Spot). x.offset) f.0, ap (λ (x : Spot). x.offset) l.0, some, start_at, end_at)
        ordered (inl f) (inr l) = omega (arith, f.1, l.1, ap (λ (x : Spot). x.offset) f.0, ap (λ (x : Spot). x.offset) l.0, some, start_at, end_at)
        ordered (inr f) (inl l) = omega (arith, f.1, l.1, ap (λ (x : Spot). x.offset) f.0, ap (λ (x : Spot). x.offset) l.0, some, start_at, end_at)
        ordered (inr f) (inr l) = omega (arith, f.1, l.1, ap (λ (x : Spot). x.offset) f.0, ap (λ (x : Spot). x.offset) l.0, some, start_at, end_at)

        inside : IsLater start from first → IsEarlier end to last → from.offset - length n < length k
        inside (inl f) (inl l) = omega (arith, f.1, l.1, ap (λ (x : Spot). x.offset) f.0, ap (λ (x : Spot). x.offset) l.0, some, start_at, end_at)
        inside (inl f) (inr l) = omega (arith, f.1, l.1, ap (λ (x : Spot). x.offset) f.0, ap (λ (x : Spot). x.offset) l.0, some, start_at, end_at)
        inside (inr f) (inl l) = omega (arith, f.1, l.1, ap (λ (x : Spot). x.offset) f.0, ap (λ (x : Spot). x.offset) l.0, some, start_at, end_at)
        inside (inr f) (inr l) = omega (arith, f.1, l.1, ap (λ (x : Spot). x.offset) f.0, ap (λ (x : Spot). x.offset) l.0, some, start_at, end_at)

-- a stretch that is kept, moved down to the text below
pub kept_stretch : (s d n k : List ℕ) (old new x y : Spot) (a b : ℕ) → IsKept s d k old → new ≡ end_of n → x ≡ end_of (n ++ take a k) → y ≡ end_of (n ++ take b k) → a < b → a < length k
    → IsStretch s (d ++ take a k) (slice_range k a b) (ahead old new x) (ahead old new y)
kept_stretch s d n k old new x y a b kept new_is x_is y_is lt within = record {
  behind = drop b k ++ kept.behind;
  text_is = kept.text_is ∙ (ap (λ (xs : List ℕ). d ++ (xs ++ kept.behind)) (three_parts a b k (omega (arith, lt)))
      ∙ (ap (λ (xs : List ℕ). d ++ xs) (append_assoc (take a k) (slice_range k a b ++ drop b k) kept.behind ∙ ap (λ (xs : List ℕ). take a k ++ xs) (append_assoc (slice_range k a b) (drop b k) kept.behind))
      ∙ sym (append_assoc d (take a k) (slice_range k a b ++ (drop b k ++ kept.behind)))));
  from_is = moved x (take a k) x_is;
  to_is = moved y (take b k) y_is ∙ ap end_of (ap (λ (xs : List ℕ). d ++ xs) (take_more_slice a b k (omega (arith, lt))) ∙ sym (append_assoc d (take a k) (slice_range k a b)));
}
  where
    moved : (z : Spot) (u : List ℕ) → z ≡ end_of (n ++ u) → ahead old new z ≡ end_of (d ++ u)
    moved z u e = ap (λ (v : Spot). ahead v new z) kept.old_is ∙ (ap (λ (v : Spot). ahead (end_of d) v z) new_is ∙ (ap (ahead (end_of d) (end_of n)) e ∙ ahead_is d n u))

pub kept_tags : (d k : List ℕ) (a b : ℕ) → a < length k → slice_range (tagged_from (length d) k) a b ≡ tagged_from (length (d ++ take a k)) (slice_range k a b)
kept_tags d k a b within = slice_tagged (length d) a b k ∙ ap (λ (i : ℕ). tagged_from i (slice_range k a b)) (sym (length-append d (take a k) ∙ omega (arith, length-take-le a k (omega (arith, within)))))

-- the next change of a walk
pub record IsNextCut (s t : List ℕ) (o : Overlay) (from to : Spot) (whole left : Tagged) (cut : Cut) (rest : List Cut) (old new : Spot) (w : Weaver) : Type 0 where
  pub olds : List ℕ
  pub news : List ℕ
  pub puts : List ℕ
  pub piece : Piece
  pub pieces : List Piece
  pub tail : List ℕ
  pub kept_is : IsKept s olds piece.kept old
  pub kept_lies : Lies t news piece.kept new cut.new
  pub put_is : HasPut o cut puts piece.new
  pub put_lies : Lies t (news ++ piece.kept) piece.new cut.new cut.new_end
  pub from_in : IsIn t from
  pub to_in : IsIn t to
  pub later : Tagged
  pub weaves : Weaves s whole (slice_range (tagged_from (length olds) piece.kept) (from.offset - length news) (to.offset - length news)
      ++ (untagged (slice_range piece.new (from.offset - length (news ++ piece.kept)) (to.offset - length (news ++ piece.kept))) ++ later)) w
  pub on : (w' : Weaver) → Weaves s whole later w' → Passes s t o from to whole left rest cut.old_end cut.new_end w'

slice_of_piece : (i a b : ℕ) (p : Piece) (ps : List Piece) (tail : List ℕ) (d n : List ℕ) → i ≡ length d → slice_range (tag_of i (p ∷ ps) tail) (a - length n) (b - length n)
    ≡ slice_range (tagged_from (length d) p.kept) (a - length n) (b - length n)
    ++ (untagged (slice_range p.new (a - length (n ++ p.kept)) (b - length (n ++ p.kept)))
    ++ slice_range (tag_of (length (d ++ p.kept ++ p.old)) ps tail) (a - length (n ++ p.kept ++ p.new)) (b - length (n ++ p.kept ++ p.new)))
slice_of_piece i a b p ps tail d n i_is = slice_both (a - length n) (b - length n) (tagged_from i p.kept) (untagged p.new ++ R)
    ∙ (ap (λ (k : ℕ). slice_range (tagged_from k p.kept) (a - length n) (b - length n) ++ slice_range (untagged p.new ++ R) (a - length n - length (tagged_from i p.kept)) (b - length n - length (tagged_from i p.kept))) i_is
    ∙ ap (λ (g : Tagged). K ++ g) (slice_both _ _ (untagged p.new) R ∙ (ap (λ (g : Tagged). g ++ slice_range R (a - length n - length (tagged_from i p.kept) - length (untagged p.new)) (b - length n - length (tagged_from i p.kept) - length (untagged p.new))) (slice_untagged _ _ p.new)
    ∙ (at_units (kept_off a) (kept_off b) ∙ at_rest (new_off a) (new_off b) rest_is))))
  where
    R : Tagged
    R = tag_of (i + length p.kept + length p.old) ps tail

    K : Tagged
    K = slice_range (tagged_from (length d) p.kept) (a - length n) (b - length n)

    kept_off : (x : ℕ) → x - length n - length (tagged_from i p.kept) ≡ x - length (n ++ p.kept)
    kept_off x = omega (arith, length-tagged i p.kept, length-append n p.kept)

    new_off : (x : ℕ) → x - length n - length (tagged_from i p.kept) - length (untagged p.new) ≡ x - length (n ++ p.kept ++ p.new)
    new_off x = omega (arith, length-tagged i p.kept, length-untagged p.new, length-append n p.kept, length-append (n ++ p.kept) p.new)

    rest_is : i + length p.kept + length p.old ≡ length (d ++ p.kept ++ p.old)
    rest_is = omega (arith, i_is, length-append d p.kept, length-append (d ++ p.kept) p.old)

    at_units : {x x' y y' : ℕ} → x ≡ x' → y ≡ y' → untagged (slice_range p.new x y) ++ slice_range R (a - length n - length (tagged_from i p.kept) - length (untagged p.new)) (b - length n - length (tagged_from i p.kept) - length (untagged p.new))
        ≡ untagged (slice_range p.new x' y') ++ slice_range R (a - length n - length (tagged_from i p.kept) - length (untagged p.new)) (b - length n - length (tagged_from i p.kept) - length (untagged p.new))
    at_units {x} {x'} {y} {y'} ex ey = ap (λ (z : ℕ). untagged (slice_range p.new z y) ++ slice_range R (a - length n - length (tagged_from i p.kept) - length (untagged p.new)) (b - length n - length (tagged_from i p.kept) - length (untagged p.new))) ex
        ∙ ap (λ (z : ℕ). untagged (slice_range p.new x' z) ++ slice_range R (a - length n - length (tagged_from i p.kept) - length (untagged p.new)) (b - length n - length (tagged_from i p.kept) - length (untagged p.new))) ey

    at_rest : {x x' y y' k k' : ℕ} → x ≡ x' → y ≡ y' → k ≡ k' → untagged (slice_range p.new (a - length (n ++ p.kept)) (b - length (n ++ p.kept))) ++ slice_range (tag_of k ps tail) x y
        ≡ untagged (slice_range p.new (a - length (n ++ p.kept)) (b - length (n ++ p.kept))) ++ slice_range (tag_of k' ps tail) x' y'
    at_rest {x} {x'} {y} {y'} {k} {k'} ex ey ek = ap (λ (z : ℕ). U ++ slice_range (tag_of k ps tail) z y) ex ∙ (ap (λ (z : ℕ). U ++ slice_range (tag_of k ps tail) x' z) ey ∙ ap (λ (z : ℕ). U ++ slice_range (tag_of z ps tail) x' y') ek)
      where
        U : Tagged
        U = untagged (slice_range p.new (a - length (n ++ p.kept)) (b - length (n ++ p.kept)))

pub next_cut : (s t : List ℕ) (o : Overlay) (from to : Spot) (whole left : Tagged) (cut : Cut) (rest : List Cut) (old new : Spot) (w : Weaver) → Passes s t o from to whole left (cut ∷ rest) old new w → IsNextCut s t o from to whole left cut rest old new w
next_cut s t o from to whole left cut rest old new w h = by_pieces h.pieces refl
  where
    by_pieces : (ps : List Piece) → h.pieces ≡ ps → IsNextCut s t o from to whole left cut rest old new w
    by_pieces [] e = absurd (none (ap length (h.cuts_are ∙ ap (cuts_of h.olds h.news h.puts) e)))
      where
        none : suc (length rest) ≡ 0 → ⊥
        none z = omega (arith, z)
    by_pieces (p ∷ ps) e = record {
      olds = h.olds;
      news = h.news;
      puts = h.puts;
      piece = p;
      pieces = ps;
      tail = h.tail;
      kept_is = record { behind = p.old ++ old_of ps h.tail; text_is = h.text_is ∙ ap (λ (qs : List Piece). h.olds ++ old_of qs h.tail) e; old_is = h.old_at; short = h.weaves.short_text };
      kept_lies = record { behind = p.new ++ new_of ps h.tail; text_is = new_text; start_is = h.new_at; end_is = ap (λ (c : Cut). c.new) cut_is };
      put_is = record { behind = puts_of ps; text_is = h.puts_are ∙ ap (λ (qs : List Piece). h.puts ++ puts_of qs) e; at = ap (λ (c : Cut). c.text) cut_is };
      put_lies = record { behind = new_of ps h.tail; text_is = new_text ∙ sym (append_assoc h.news p.kept (p.new ++ new_of ps h.tail)); start_is = ap (λ (c : Cut). c.new) cut_is; end_is = ap (λ (c : Cut). c.new_end) cut_is };
      from_in = h.from_in;
      to_in = h.to_in;
      later = slice_range (tag_of (length (h.olds ++ p.kept ++ p.old)) ps h.tail) (from.offset - length (h.news ++ p.kept ++ p.new)) (to.offset - length (h.news ++ p.kept ++ p.new)) ++ left;
      weaves = subst (λ (g : Tagged). Weaves s whole g w) awaited h.weaves;
      on = λ w' weaves. record {
        olds = h.olds ++ p.kept ++ p.old;
        news = h.news ++ p.kept ++ p.new;
        puts = h.puts ++ p.new;
        pieces = ps;
        tail = h.tail;
        text_is = h.text_is ∙ (ap (λ (qs : List Piece). h.olds ++ old_of qs h.tail) e ∙ (sym (append_assoc h.olds p.kept (p.old ++ old_of ps h.tail)) ∙ sym (append_assoc (h.olds ++ p.kept) p.old (old_of ps h.tail))));
        new_is = new_text ∙ (sym (append_assoc h.news p.kept (p.new ++ new_of ps h.tail)) ∙ sym (append_assoc (h.news ++ p.kept) p.new (new_of ps h.tail)));
        puts_are = h.puts_are ∙ (ap (λ (qs : List Piece). h.puts ++ puts_of qs) e ∙ sym (append_assoc h.puts p.new (puts_of ps)));
        cuts_are = ap (drop 1) all_cuts;
        old_at = ap (λ (c : Cut). c.old_end) cut_is;
        new_at = ap (λ (c : Cut). c.new_end) cut_is;
        end_at = h.end_at;
        short = h.short;
        from_in = h.from_in;
        to_in = h.to_in;
        weaves = weaves;
      };
    }
      where
        all_cuts : cut ∷ rest ≡ cuts_of h.olds h.news h.puts (p ∷ ps)
        all_cuts = h.cuts_are ∙ ap (cuts_of h.olds h.news h.puts) e

        cut_is : cut ≡ get_or (cuts_of h.olds h.news h.puts (p ∷ ps)) 0 cut
        cut_is = ap (λ (cs : List Cut). get_or cs 0 cut) all_cuts

        new_text : t ≡ h.news ++ (p.kept ++ (p.new ++ new_of ps h.tail))
        new_text = h.new_is ∙ ap (λ (qs : List Piece). h.news ++ new_of qs h.tail) e

        K : Tagged
        K = slice_range (tagged_from (length h.olds) p.kept) (from.offset - length h.news) (to.offset - length h.news)

        U : Tagged
        U = untagged (slice_range p.new (from.offset - length (h.news ++ p.kept)) (to.offset - length (h.news ++ p.kept)))

        R : Tagged
        R = slice_range (tag_of (length (h.olds ++ p.kept ++ p.old)) ps h.tail) (from.offset - length (h.news ++ p.kept ++ p.new)) (to.offset - length (h.news ++ p.kept ++ p.new))

        awaited : slice_range (tag_of (length h.olds) h.pieces h.tail) (from.offset - length h.news) (to.offset - length h.news) ++ left
            ≡ slice_range (tagged_from (length h.olds) p.kept) (from.offset - length h.news) (to.offset - length h.news)
            ++ (untagged (slice_range p.new (from.offset - length (h.news ++ p.kept)) (to.offset - length (h.news ++ p.kept)))
            ++ (slice_range (tag_of (length (h.olds ++ p.kept ++ p.old)) ps h.tail) (from.offset - length (h.news ++ p.kept ++ p.new)) (to.offset - length (h.news ++ p.kept ++ p.new)) ++ left))
        awaited = ap (λ (qs : List Piece). slice_range (tag_of (length h.olds) qs h.tail) (from.offset - length h.news) (to.offset - length h.news) ++ left) e
            ∙ (ap (λ (g : Tagged). g ++ left) (slice_of_piece (length h.olds) from.offset to.offset p ps h.tail h.olds h.news refl)
            ∙ (append_assoc K (U ++ R) left ∙ ap (λ (g : Tagged). K ++ g) (append_assoc U R left)))

-- what is kept behind the last change of a walk
pub record IsLastKept (s t : List ℕ) (o : Overlay) (from to : Spot) (whole left : Tagged) (old new : Spot) (w : Weaver) : Type 0 where
  pub olds : List ℕ
  pub news : List ℕ
  pub kept : List ℕ
  pub kept_is : IsKept s olds kept old
  pub kept_lies : Lies t news kept new o.end
  pub from_in : IsIn t from
  pub to_in : IsIn t to
  pub weaves : Weaves s whole (slice_range (tagged_from (length olds) kept) (from.offset - length news) (to.offset - length news) ++ left) w

pub last_kept : (s t : List ℕ) (o : Overlay) (from to : Spot) (whole left : Tagged) (old new : Spot) (w : Weaver) → Passes s t o from to whole left [] old new w → IsLastKept s t o from to whole left old new w
last_kept s t o from to whole left old new w h = by_pieces h.pieces refl
  where
    by_pieces : (ps : List Piece) → h.pieces ≡ ps → IsLastKept s t o from to whole left old new w
    by_pieces [] e = record {
      olds = h.olds;
      news = h.news;
      kept = h.tail;
      kept_is = record { behind = []; text_is = h.text_is ∙ ap (λ (xs : List ℕ). h.olds ++ xs) (ap (λ (qs : List Piece). old_of qs h.tail) e ∙ sym (append-nil h.tail)); old_is = h.old_at; short = h.weaves.short_text };
      kept_lies = record { behind = []; text_is = text_is ∙ ap (λ (xs : List ℕ). h.news ++ xs) (sym (append-nil h.tail)); start_is = h.new_at; end_is = h.end_at ∙ ap end_of text_is };
      from_in = h.from_in;
      to_in = h.to_in;
      weaves = subst (λ (qs : List Piece). Weaves s whole (slice_range (tag_of (length h.olds) qs h.tail) (from.offset - length h.news) (to.offset - length h.news) ++ left) w) e h.weaves;
    }
      where
        text_is : t ≡ h.news ++ h.tail
        text_is = h.new_is ∙ ap (λ (qs : List Piece). h.news ++ new_of qs h.tail) e
    by_pieces (p ∷ ps) e = absurd (none (ap length (h.cuts_are ∙ ap (cuts_of h.olds h.news h.puts) e)))
      where
        none : 0 ≡ suc (length (cuts_of (h.olds ++ p.kept ++ p.old) (h.news ++ p.kept ++ p.new) (h.puts ++ p.new) ps)) → ⊥
        none z = omega (arith, z)

puts_within : (ps : List Piece) (tail : List ℕ) → length (puts_of ps) ≤ length (new_of ps tail)
puts_within [] tail = omega arith
puts_within (p ∷ ps) tail = omega (arith, puts_within ps tail, length-append p.new (puts_of ps), length-append p.kept (p.new ++ new_of ps tail), length-append p.new (new_of ps tail))

-- the start of a walk
pub pass_start : (s : List ℕ) (o : Overlay) (from to : Spot) (whole left : Tagged) (start : Spot) (w : Weaver) → IsLaid s o → IsIn (units_of (tags_of s o)) from → IsIn (units_of (tags_of s o)) to → start ≡ end_of []
    → Weaves s whole (slice_range (tags_of s o) from.offset to.offset ++ left) w → Passes s (units_of (tags_of s o)) o from to whole left o.cuts.items start start w
pass_start s o from to whole left start w h from_in to_in start_is weaves = record {
  olds = [];
  news = [];
  puts = [];
  pieces = h.pieces;
  tail = h.tail;
  text_is = h.text_is;
  new_is = text_of_laid s o h;
  puts_are = h.puts_are;
  cuts_are = h.cuts_are;
  old_at = start_is;
  new_at = start_is;
  end_at = h.end_is ∙ ap end_of (sym (text_of_laid s o h));
  short = omega (arith, ap length h.puts_are, puts_within h.pieces h.tail, h.new_short);
  from_in = from_in;
  to_in = to_in;
  weaves = subst (λ (g : Tagged). Weaves s whole (g ++ left) w) (ap (λ (g : Tagged). slice_range g from.offset to.offset) (tags_of_laid s o h) ∙ (ap (λ (i : ℕ). slice_range (tag_of 0 h.pieces h.tail) i to.offset) (none from.offset)
      ∙ ap (λ (i : ℕ). slice_range (tag_of 0 h.pieces h.tail) (from.offset - 0) i) (none to.offset))) weaves;
}
  where
    none : (x : ℕ) → x ≡ x - 0
    none x = omega arith

-- offsets that rise
follows_weaker : (m n : ℕ) (g : Tagged) → m ≤ n → Follows n g → Follows m g
follows_weaker m n [] le h = tt
follows_weaker m n ((u, None) ∷ g) le h = follows_weaker m n g le h
follows_weaker m n ((u, Some i) ∷ g) le h = (omega (arith, le, h.0), h.1)

follows_drop : (m j : ℕ) (g : Tagged) → Follows m g → Follows m (drop j g)
follows_drop m zero g h = h
follows_drop m (suc j) [] h = tt
follows_drop m (suc j) ((u, None) ∷ g) h = follows_drop m j g h
follows_drop m (suc j) ((u, Some i) ∷ g) h = follows_weaker m (i + 1) (drop j g) (omega (arith, h.0)) (follows_drop (i + 1) j g h.1)

pub follows_untagged : (m : ℕ) (t : List ℕ) (g : Tagged) → Follows m g → Follows m (untagged t ++ g)
follows_untagged m [] g h = h
follows_untagged m (u ∷ t) g h = follows_untagged m t g h

pub follows_edited : (m i j : ℕ) (g : Tagged) (t : List ℕ) → i ≤ j → Follows m g → Follows m (take i g ++ (untagged t ++ drop j g))
follows_edited m zero j g t le h = follows_untagged m t (drop j g) (follows_drop m j g h)
follows_edited m (suc i) j [] t le h = follows_untagged m t (drop j []) (follows_drop m j [] tt)
follows_edited m (suc i) zero (x ∷ g) t le h = absurd (let z : ⊥ = omega (arith, le) in z)
follows_edited m (suc i) (suc j) ((u, None) ∷ g) t le h = follows_edited m i j g t (omega (arith, le)) h
follows_edited m (suc i) (suc j) ((u, Some k) ∷ g) t le h = (h.0, follows_edited (k + 1) i j g t (omega (arith, le)) h.1)

follows_tagged : (i : ℕ) (us : List ℕ) (g : Tagged) → Follows (i + length us) g → Follows i (tagged_from i us ++ g)
follows_tagged i [] g h = follows_weaker i (i + 0) g (omega arith) h
follows_tagged i (u ∷ us) g h = (omega arith, follows_tagged (i + 1) us g (subst (λ (n : ℕ). Follows n g) (let e : i + suc (length us) ≡ i + 1 + length us = omega arith in e) h))

pub follows_tags : (i : ℕ) (ps : List Piece) (tail : List ℕ) → Follows i (tag_of i ps tail)
follows_tags i [] tail = subst (Follows i) (append-nil (tagged_from i tail)) (follows_tagged i tail [] tt)
follows_tags i (p ∷ ps) tail = let k : ℕ = i + length p.kept + length p.old in let g : Tagged = tag_of k ps tail in
    follows_tagged i p.kept (untagged p.new ++ g) (follows_untagged (i + length p.kept) p.new g (follows_weaker (i + length p.kept) k g (omega arith) (follows_tags k ps tail)))

-- an edit, as the weaver makes it
pub edit_start : (s : List ℕ) (o : Overlay) (from to : Spot) (put : List ℕ) (w : Weaver) → IsLaid s o → from.offset ≤ to.offset → IsIn (units_of (tags_of s o)) to → length (edited (tags_of s o) from.offset to.offset put) ≤ MAX_UNITS
    → IsWoven s [] w → w.at_old.offset ≡ 0
    → Weaves s (edited (tags_of s o) from.offset to.offset put) (slice_range (tags_of s o) 0 from.offset ++ (untagged put ++ (slice_range (tags_of s o) to.offset o.end.offset ++ []))) w
edit_start s o from to put w h order to_in short woven at = record {
  done = [];
  whole_is = front ∙ sym (append_assoc (take from.offset g) (untagged put) (drop to.offset g));
  woven = woven;
  follows = subst (λ (n : ℕ). Follows n (slice_range g 0 from.offset ++ (untagged put ++ (slice_range g to.offset o.end.offset ++ [])))) (sym at)
      (subst (Follows 0) (sym front) (follows_edited 0 from.offset to.offset g put order (subst (Follows 0) (sym (tags_of_laid s o h)) (follows_tags 0 h.pieces h.tail))));
  short = short;
  short_text = h.old_short;
}
  where
    g : Tagged
    g = tags_of s o

    ends : o.end.offset ≡ length g
    ends = ap (λ (x : Spot). x.offset) h.end_is ∙ sym (ap length (tags_of_laid s o h) ∙ length-tag 0 h.pieces h.tail)

    front : slice_range g 0 from.offset ++ (untagged put ++ (slice_range g to.offset o.end.offset ++ [])) ≡ take from.offset g ++ (untagged put ++ drop to.offset g)
    front = ap (λ (n : ℕ). take n g ++ (untagged put ++ (slice_range g to.offset o.end.offset ++ []))) (let e : from.offset - 0 ≡ from.offset = omega arith in e)
        ∙ ap (λ (x : Tagged). take from.offset g ++ (untagged put ++ x)) (append-nil (slice_range g to.offset o.end.offset) ∙ take_all (o.end.offset - to.offset) (drop to.offset g) (omega (arith, length-drop to.offset g, ends)))

-- the same, where the two spots below are named
pub stretch_at : (s d n k : List ℕ) (old new x y x' y' : Spot) (a b : ℕ) → IsKept s d k old → new ≡ end_of n → x ≡ end_of (n ++ take a k) → y ≡ end_of (n ++ take b k) → a < b → a < length k → x' ≡ ahead old new x → y' ≡ ahead old new y
    → IsStretch s (d ++ take a k) (slice_range k a b) x' y'
stretch_at s d n k old new x y x' y' a b kept new_is x_is y_is lt within x'_is y'_is = let h = kept_stretch s d n k old new x y a b kept new_is x_is y_is lt within in record { behind = h.behind; text_is = h.text_is; from_is = x'_is ∙ h.from_is; to_is = y'_is ∙ h.to_is }

-- nothing of a kept stretch lies between the spots
pub kept_none : (s : List ℕ) (whole left : Tagged) (w : Weaver) (i a b : ℕ) (k : List ℕ) → slice_range k a b ≡ [] → Weaves s whole (slice_range (tagged_from i k) a b ++ left) w → Weaves s whole left w
kept_none s whole left w i a b k none weaves = subst (λ (g : Tagged). Weaves s whole (g ++ left) w) (slice_tagged i a b k ∙ ap (tagged_from (i + a)) none) weaves

pub kept_some : (s d k : List ℕ) (whole left : Tagged) (w : Weaver) (a b : ℕ) → a < length k → Weaves s whole (slice_range (tagged_from (length d) k) a b ++ left) w → Weaves s whole (tagged_from (length (d ++ take a k)) (slice_range k a b) ++ left) w
kept_some s d k whole left w a b within weaves = subst (λ (g : Tagged). Weaves s whole (g ++ left) w) (kept_tags d k a b within) weaves

pub put_none : (s : List ℕ) (whole left : Tagged) (w : Weaver) (units : List ℕ) → units ≡ [] → Weaves s whole (untagged units ++ left) w → Weaves s whole left w
put_none s whole left w units none weaves = subst (λ (us : List ℕ). Weaves s whole (untagged us ++ left) w) none weaves

-- a spot of a kept stretch in the text below
pub kept_room : (s d n k : List ℕ) (old new x : Spot) (a : ℕ) → IsKept s d k old → new ≡ end_of n → x ≡ end_of (n ++ take a k) → IsRoom (ahead old new x)
kept_room s d n k old new x a kept new_is x_is = record {
  text = d ++ take a k;
  is = ap (λ (v : Spot). ahead v new x) kept.old_is ∙ (ap (λ (v : Spot). ahead (end_of d) v x) new_is ∙ (ap (ahead (end_of d) (end_of n)) x_is ∙ ahead_is d n (take a k)));
  short = omega (arith, kept.short, ap length kept.text_is, length-append d (k ++ kept.behind), length-append k kept.behind, length-append d (take a k), ap length (take-append-drop a k), length-append (take a k) (drop a k));
}

pub spot_behind : (n k : List ℕ) (new x : Spot) (a : ℕ) → new ≡ end_of n → x ≡ end_of (n ++ take a k) → new.offset ≤ x.offset
spot_behind n k new x a new_is x_is = omega (arith, ap (λ (z : Spot). z.offset) new_is, ap (λ (z : Spot). z.offset) x_is, length-append n (take a k))

-- the units of a change between two spots, in the text of its layer
module _ (o : Overlay) (cut : Cut) (t n k p : List ℕ) (x y : Spot) (a b : ℕ) (put : HasPut o cut p k) (new_is : cut.new ≡ end_of n) (x_is : x ≡ end_of (n ++ take a k)) (y_is : y ≡ end_of (n ++ take b k)) (lt : a < b) where
  last_length : length (take b k) ≡ length (take a k) + length (slice_range k a b)
  last_length = ap length (take_more_slice a b k (omega (arith, lt))) ∙ length-append (take a k) (slice_range k a b)

  put_first : cut.text + (x.offset - cut.new.offset) ≡ length (p ++ take a k)
  put_first = omega (arith, put.at, ap (λ (z : Spot). z.offset) new_is, ap (λ (z : Spot). z.offset) x_is, length-append n (take a k), length-append p (take a k))

  put_last : cut.text + (y.offset - cut.new.offset) ≡ length (p ++ take a k) + length (slice_range k a b)
  put_last = omega (arith, put.at, ap (λ (z : Spot). z.offset) new_is, ap (λ (z : Spot). z.offset) y_is, length-append n (take b k), length-append p (take a k), last_length)

  text_parts : o.text ≡ p ++ take a k ++ (slice_range k a b ++ (drop b k ++ put.behind))
  text_parts = put.text_is ∙ (ap (λ (xs : List ℕ). p ++ (xs ++ put.behind)) (three_parts a b k (omega (arith, lt)))
      ∙ (ap (λ (xs : List ℕ). p ++ xs) (append_assoc (take a k) (slice_range k a b ++ drop b k) put.behind ∙ ap (λ (xs : List ℕ). take a k ++ xs) (append_assoc (slice_range k a b) (drop b k) put.behind))
      ∙ sym (append_assoc p (take a k) (slice_range k a b ++ (drop b k ++ put.behind)))))

  pub put_units : slice_range o.text (cut.text + (x.offset - cut.new.offset)) (cut.text + (y.offset - cut.new.offset)) ≡ slice_range k a b
  put_units = slice_is o.text (p ++ take a k) (slice_range k a b) (drop b k ++ put.behind) _ _ text_parts put_first (omega (arith, put_first, put_last))

  pub put_to : y ≡ end_of (n ++ take a k ++ slice_range k a b)
  put_to = y_is ∙ ap end_of (ap (λ (xs : List ℕ). n ++ xs) (take_more_slice a b k (omega (arith, lt))) ∙ sym (append_assoc n (take a k) (slice_range k a b)))

  pub put_order : cut.text + (x.offset - cut.new.offset) ≤ cut.text + (y.offset - cut.new.offset)
  put_order = omega (arith, put_first, put_last)

  pub put_within : cut.text + (y.offset - cut.new.offset) ≤ length o.text
  put_within = omega (arith, put_last, ap length text_parts, length-append (p ++ take a k) (slice_range k a b ++ (drop b k ++ put.behind)), length-append (slice_range k a b) (drop b k ++ put.behind))

-- the spots at both ends of a text
pub start_in : (t : List ℕ) (x : Spot) → x ≡ end_of [] → IsIn t x
start_in t x x_is = record {
  is = x_is ∙ ap (λ (n : ℕ). end_of (take n t)) (sym (ap (λ (y : Spot). y.offset) x_is));
  within = omega (arith, ap (λ (y : Spot). y.offset) x_is);
}

pub end_in : (s : List ℕ) (o : Overlay) → IsLaid s o → IsIn (units_of (tags_of s o)) o.end
end_in s o h = record {
  is = whole ∙ ap end_of (sym (take_all o.end.offset (units_of (tags_of s o)) (omega (arith, ap (λ (y : Spot). y.offset) whole))));
  within = omega (arith, ap (λ (y : Spot). y.offset) whole);
}
  where
    whole : o.end ≡ end_of (units_of (tags_of s o))
    whole = h.end_is ∙ ap end_of (sym (text_of_laid s o h))

pub slice_whole : (t : List ℕ) (n : ℕ) → n ≡ length t → slice_range t 0 n ≡ t
slice_whole t n n_is = take_all (n - 0) t (omega (arith, n_is))

-- the next cut of a walk over a list of them
pub next_of_cuts : (cs : List Cut) (i : ℕ) (d cut : Cut) → i < length cs → cut ≡ get_or cs i d → drop i cs ≡ cut ∷ drop (i + 1) cs
next_of_cuts cs i d cut lt cut_is = drop_more cs i d lt ∙ ap (λ (c : Cut). c ∷ drop (i + 1) cs) (sym cut_is)

abbrev pub spot_of : ℕ → Point → Spot
spot_of n p = record { offset = n; point = p }

pub put_end : (n : ℕ) (p : Point) (t u : List ℕ) → n ≡ length t → p ≡ extent t → u ≡ t → spot_of n p ≡ end_of u
put_end n p t u n_is p_is u_is = ap (λ (k : ℕ). spot_of k p) n_is ∙ (ap (spot_of (length t)) p_is ∙ ap end_of (sym u_is))
