-- A patch on a text that it fits, cut into pieces: each change's kept stretch before it, its old text and its new one.
use Rattle.std.proofs.Common.{◌≡◌, ℕ, suc, zero, ◌+◌, ◌-◌, ◌≤◌, List, [], ◌∷◌, ◌++◌, length, take, drop, slice_range, unwrap_or, Bool, true, false, Option, Some, refl, sym, ap, ◌∙◌, subst, inl, inr, arith, append_assoc, length-append, take-append-drop}
use Rattle.std.proofs.lemmas.List.{drop_at, take_at, drop-drop, length-take-le}
use Rattle.std.proofs.lemmas.List.Elements.{All-head, All-tail}
use Rattle.std.proofs.lemmas.Bool.{and_parts, and_cases, both_ways, cases_lt}
use Rattle.std.proofs.lemmas.Bool.Decides.{nat_tests}
use Rattle.points.specs.declared.point.Point.{Point}
use Rattle.points.specs.Point.{origin, point_le, point_lt, traverse, traversal}
use Rattle.points.specs.Place.{extent, point_at, same_point}
use Rattle.points.proofs.PointLemmas.{same_point-true, same_point-false, traverse_origin, traverse-traversal, traversal-traverse, traverse_assoc}
use Rattle.points.proofs.ExtentLemmas.{extent-append}
use Rattle.points.proofs.OffsetLemmas.{point_at_lt, offset_of-at}
use Rattle.patch.specs.Hunk.{Hunk}
use Rattle.patch.specs.ChangeList.{IsPatch}
use Rattle.patch.specs.Tagged.{Tagged, tagged_from, tagged, untagged}
use Rattle.patch.specs.Fit.{StandsAt, HunkFits, Fits, offset_in, tag_from}
use Rattle.patch.proofs.ListLemmas.{IsSound, reaches_of}
use Rattle.patch.proofs.GapLists.{IsGap, AreGaps, IsGapList, gaps_of_patch}
use Rattle.patch.proofs.Pieces.{Piece, old_of, tag_of, is_none, AllApart, AllApartBehind, AllSome}

abbrev pub hunk_with : Point → Point → Point → Point → List ℕ → List ℕ → Hunk
hunk_with a a' b b' old new = record { old_start = a; old_end = a'; new_start = b; new_end = b'; old_text = old; new_text = new }

-- the change with these texts that starts at these points
abbrev pub hunk_between : Point → Point → List ℕ → List ℕ → Hunk
hunk_between a b old new = hunk_with a (traverse a (extent old)) b (traverse b (extent new)) old new

-- the changes of pieces that don't touch, the first behind these points of the old and the new text
abbrev pub shown : Point → Point → List Piece → List Hunk
shown a b [] = []
shown a b (p ∷ ps) = hunk_between (traverse a (extent p.kept)) (traverse b (extent p.kept)) p.old p.new
    ∷ shown (traverse (traverse a (extent p.kept)) (extent p.old)) (traverse (traverse b (extent p.kept)) (extent p.new)) ps

-- tagged texts, cut
pub take-tagged : (n k : ℕ) (us : List ℕ) → take n (tagged_from k us) ≡ tagged_from k (take n us)
take-tagged zero k us = refl
take-tagged (suc n) k [] = refl
take-tagged (suc n) k (u ∷ us) = ap (λ (g : Tagged). (u, Some k) ∷ g) (take-tagged n (k + 1) us)

pub drop-tagged : (n k : ℕ) (us : List ℕ) → drop n (tagged_from k us) ≡ tagged_from (k + n) (drop n us)
drop-tagged zero k us = ap (λ (m : ℕ). tagged_from m us) (omega arith)
drop-tagged (suc n) k [] = refl
drop-tagged (suc n) k (u ∷ us) = drop-tagged n (k + 1) us ∙ ap (λ (m : ℕ). tagged_from m (drop n us)) (omega arith)

drop_past : (front rest : List ℕ) (n m : ℕ) → n ≡ length front → drop (n + m) (front ++ rest) ≡ drop m rest
drop_past front rest n m n_is = sym (drop-drop m n (front ++ rest)) ∙ ap (drop m) (drop_at front rest n (sym n_is))

-- the tagged units of a stretch
pub tagged_range : (s front kept rest : List ℕ) (i j : ℕ) → s ≡ front ++ (kept ++ rest) → i ≡ length front → j ≡ i + length kept → slice_range (tagged s) i j ≡ tagged_from i kept
tagged_range s front kept rest i j s_is i_is j_is = let n : j - i ≡ length kept = omega arith in
    ap (λ (m : ℕ). take m (drop i (tagged s))) n ∙ (ap (take (length kept)) (drop-tagged i 0 s) ∙ (take-tagged (length kept) (0 + i) (drop i s)
    ∙ (ap (λ (xs : List ℕ). tagged_from (0 + i) (take (length kept) (drop i xs))) s_is ∙ (ap (λ (xs : List ℕ). tagged_from (0 + i) (take (length kept) xs)) (drop_at front (kept ++ rest) i (sym i_is))
    ∙ (ap (tagged_from (0 + i)) (take_at kept rest (length kept) refl) ∙ ap (λ (m : ℕ). tagged_from m kept) (omega arith))))))

pub taken : (s front x y : List ℕ) (n : ℕ) → s ≡ front ++ (x ++ y) → n ≡ length front + length x → take n s ≡ front ++ x
taken s front x y n s_is n_is = ap (take n) (s_is ∙ sym (append_assoc front x y)) ∙ take_at (front ++ x) y n (length-append front x ∙ sym n_is)

pub old_text_of : (at : ℕ) (a b : Point) (h : Hunk) → IsSound at a b h → same_point (extent h.old_text) (traversal h.old_end h.old_start) ≡ true
old_text_of at a b h s = (reaches_of a b h s.extents).old_text

pub new_text_of : (at : ℕ) (a b : Point) (h : Hunk) → IsSound at a b h → same_point (extent h.new_text) (traversal h.new_end h.new_start) ≡ true
new_text_of at a b h s = (reaches_of a b h s.extents).new_text

-- a change that stands behind `front`: what is kept before it, and what comes behind
record IsNext (s front rest : List ℕ) (b : Point) (i : ℕ) (h : Hunk) (kept after : List ℕ) : Type 0 where
  cut : rest ≡ kept ++ (h.old_text ++ after)
  offset : i ≡ length front + length kept
  start : h.old_start ≡ traverse (extent front) (extent kept)
  hunk : h ≡ hunk_between (traverse (extent front) (extent kept)) (traverse b (extent kept)) h.old_text h.new_text

not_before : (p q : Point) → point_le p q ≡ true → point_lt q p ≡ true → ⊥
not_before p q le lt = grind (arith, nat_tests)

behind_front : (s front rest : List ℕ) (i : ℕ) (start : Point) → s ≡ front ++ rest → i ≤ length s → point_at s i ≡ start → point_le (extent front) start ≡ true → length front ≤ i
behind_front s front rest i start s_is within start_is le = elim (cases_lt i (length front)) [
  | inr above ↦ above
  | inl below ↦ absurd (not_before (extent front) start le (subst (λ (x : Point). point_lt x (extent front) ≡ true) start_is
      (subst (λ (x : Point). point_lt (point_at s i) x ≡ true) (ap (λ (xs : List ℕ). extent (take (length front) xs)) s_is ∙ ap extent (take_at front rest (length front) refl))
      (point_at_lt s i (length front) below (omega (arith, ap length s_is, length-append front rest))))))
]

pub same_hunk : (h : Hunk) (a b : Point) → h.old_start ≡ a → h.old_end ≡ traverse a (extent h.old_text) → h.new_start ≡ b → h.new_end ≡ traverse b (extent h.new_text) → h ≡ hunk_between a b h.old_text h.new_text
same_hunk h a b e1 e2 e3 e4 = ap (λ (x : Point). hunk_with x h.old_end h.new_start h.new_end h.old_text h.new_text) e1
    ∙ (ap (λ (x : Point). hunk_with a x h.new_start h.new_end h.old_text h.new_text) e2
    ∙ (ap (λ (x : Point). hunk_with a (traverse a (extent h.old_text)) x h.new_end h.old_text h.new_text) e3
    ∙ ap (λ (x : Point). hunk_with a (traverse a (extent h.old_text)) b x h.old_text h.new_text) e4))

next_hunk : (s front rest : List ℕ) (b : Point) (later : Bool) (i : ℕ) (h : Hunk) → s ≡ front ++ rest → IsGap later (extent front) b h → StandsAt s i h.old_start h.old_end h.old_text
    → IsNext s front rest b i h (take (i - length front) rest) (drop (length h.old_text) (drop (i - length front) rest))
next_hunk s front rest b later i h s_is sound stands = record {
  cut = sym (take-append-drop m rest) ∙ ap (λ (xs : List ℕ). take m rest ++ xs) (sym (take-append-drop (length h.old_text) (drop m rest)) ∙ ap (λ (xs : List ℕ). xs ++ drop (length h.old_text) (drop m rest)) old_is);
  offset = omega (arith, kept_length, above);
  start = start_is;
  hunk = same_hunk h (traverse (extent front) (extent kept)) (traverse b (extent kept)) start_is end_is new_start_is new_end_is;
}
  where
    m : ℕ
    m = i - length front

    kept : List ℕ
    kept = take (i - length front) rest

    above : length front ≤ i
    above = behind_front s front rest i h.old_start s_is (omega (arith, stands.within)) stands.start_is (and_parts (point_le (extent front) h.old_start) (point_le b h.new_start) sound.behind).0

    kept_length : length (take (i - length front) rest) ≡ i - length front
    kept_length = length-take-le (i - length front) rest (omega (arith, stands.within, ap length s_is, length-append front rest))

    whole : length front + (i - length front) ≡ i
    whole = omega (arith, above)

    drop_is : drop i s ≡ drop (i - length front) rest
    drop_is = ap (drop i) s_is ∙ (ap (λ (n : ℕ). drop n (front ++ rest)) (sym whole) ∙ drop_past front rest (length front) (i - length front) refl)

    old_is : take (length h.old_text) (drop (i - length front) rest) ≡ h.old_text
    old_is = ap (take (length h.old_text)) (sym drop_is) ∙ stands.units_are

    cut_is : rest ≡ take (i - length front) rest ++ drop (i - length front) rest
    cut_is = sym (take-append-drop (i - length front) rest)

    cut_twice : rest ≡ (take (i - length front) rest ++ h.old_text) ++ drop (length h.old_text) (drop (i - length front) rest)
    cut_twice = cut_is ∙ (ap (λ (xs : List ℕ). take (i - length front) rest ++ xs) (sym (take-append-drop (length h.old_text) (drop (i - length front) rest)) ∙ ap (λ (xs : List ℕ). xs ++ drop (length h.old_text) (drop (i - length front) rest)) old_is)
        ∙ sym (append_assoc (take (i - length front) rest) h.old_text (drop (length h.old_text) (drop (i - length front) rest))))

    start_is : h.old_start ≡ traverse (extent front) (extent (take (i - length front) rest))
    start_is = sym stands.start_is ∙ (ap extent (taken s front (take (i - length front) rest) (drop (i - length front) rest) i (s_is ∙ ap (λ (xs : List ℕ). front ++ xs) cut_is) (omega (arith, kept_length, above)))
        ∙ extent-append front (take (i - length front) rest))

    end_is : h.old_end ≡ traverse (traverse (extent front) (extent (take (i - length front) rest))) (extent h.old_text)
    end_is = sym stands.end_is ∙ (ap extent (taken s front (take (i - length front) rest ++ h.old_text) (drop (length h.old_text) (drop (i - length front) rest)) (i + length h.old_text) (s_is ∙ ap (λ (xs : List ℕ). front ++ xs) cut_twice)
        (omega (arith, kept_length, above, length-append (take (i - length front) rest) h.old_text)))
        ∙ (extent-append front (take (i - length front) rest ++ h.old_text) ∙ (ap (traverse (extent front)) (extent-append (take (i - length front) rest) h.old_text) ∙ sym (traverse_assoc (extent front) (extent (take (i - length front) rest)) (extent h.old_text)))))

    stretch : traversal h.new_start b ≡ extent (take (i - length front) rest)
    stretch = sym (same_point-true (traversal h.old_start (extent front)) (traversal h.new_start b) (reaches_of (extent front) b h sound.extents).stretch)
        ∙ (ap (λ (x : Point). traversal x (extent front)) start_is ∙ traversal-traverse (extent front) (extent (take (i - length front) rest)))

    new_start_is : h.new_start ≡ traverse b (extent (take (i - length front) rest))
    new_start_is = sym (traverse-traversal h.new_start b (and_parts (point_le (extent front) h.old_start) (point_le b h.new_start) sound.behind).1) ∙ ap (traverse b) stretch

    new_end_is : h.new_end ≡ traverse (traverse b (extent (take (i - length front) rest))) (extent h.new_text)
    new_end_is = sym (traverse-traversal h.new_end h.new_start sound.ordered.1)
        ∙ (ap (traverse h.new_start) (sym (same_point-true (extent h.new_text) (traversal h.new_end h.new_start) (reaches_of (extent front) b h sound.extents).new_text)) ∙ ap (λ (x : Point). traverse x (extent h.new_text)) new_start_is)

-- a patch on a text behind `front`, cut into pieces
pub record IsCut (later : Bool) (s front rest : List ℕ) (b : Point) (p : List Hunk) : Type 0 where
  pub pieces : List Piece
  pub tail : List ℕ
  pub text : rest ≡ old_of pieces tail
  pub tags : tag_from s (length front) p ≡ tag_of (length front) pieces tail
  pub is : p ≡ shown (extent front) b pieces
  pub some : AllSome pieces
  pub apart : later ≡ true → AllApart pieces
  pub behind : AllApartBehind pieces

-- something stays between a change and the point where the one before it ends
kept_between : (kept : List ℕ) (a start : Point) → start ≡ traverse a (extent kept) → same_point start a ≡ false → is_none kept ≡ false
kept_between [] a start e apart = absurd (same_point-false start a apart (e ∙ traverse_origin a))
kept_between (u ∷ us) a start e apart = refl

next_cut : (s front rest : List ℕ) (b : Point) (later : Bool) (h : Hunk) (hs : List Hunk) (i : ℕ) (kept after : List ℕ) → IsGap later (extent front) b h → StandsAt s i h.old_start h.old_end h.old_text → IsNext s front rest b i h kept after
    → IsCut true s (front ++ kept ++ h.old_text) after (traverse (traverse b (extent kept)) (extent h.new_text)) hs → s ≡ front ++ rest → IsCut later s front rest b (h ∷ hs)
next_cut s front rest b later h hs i kept after gap stands next more s_is = record {
  pieces = record { kept = kept; old = h.old_text; new = h.new_text } ∷ more.pieces;
  tail = more.tail;
  text = next.cut ∙ ap (λ (xs : List ℕ). kept ++ (h.old_text ++ xs)) more.text;
  tags = ap (λ (n : ℕ). slice_range (tagged s) (length front) n ++ untagged h.new_text ++ tag_from s (offset_in s h.old_end) hs) start_offset
      ∙ (ap (λ (n : ℕ). slice_range (tagged s) (length front) i ++ untagged h.new_text ++ tag_from s n hs) end_offset
      ∙ (ap (λ (g : Tagged). g ++ untagged h.new_text ++ tag_from s (i + length h.old_text) hs) (tagged_range s front kept (h.old_text ++ after) (length front) i (s_is ∙ ap (λ (xs : List ℕ). front ++ xs) next.cut) refl next.offset)
      ∙ (append_assoc (tagged_from (length front) kept) (untagged h.new_text) (tag_from s (i + length h.old_text) hs)
      ∙ ap (λ (g : Tagged). tagged_from (length front) kept ++ (untagged h.new_text ++ g)) (ap (λ (n : ℕ). tag_from s n hs) (sym front_length) ∙ (more.tags ∙ ap (λ (n : ℕ). tag_of n more.pieces more.tail) (front_length ∙ omega (arith, next.offset)))))));
  is = ap (λ (x : Hunk). x ∷ hs) next.hunk ∙ ap (λ (xs : List Hunk). hunk_between (traverse (extent front) (extent kept)) (traverse b (extent kept)) h.old_text h.new_text ∷ xs) (more.is
      ∙ ap (λ (x : Point). shown x (traverse (traverse b (extent kept)) (extent h.new_text)) more.pieces) (extent-append (front ++ kept) h.old_text ∙ ap (λ (x : Point). traverse x (extent h.old_text)) (extent-append front kept)));
  some = (gap.some_units, more.some);
  apart = λ is_later. (kept_here is_later, more.apart refl);
  behind = more.apart refl;
}
  where
    start_offset : offset_in s h.old_start ≡ i
    start_offset = ap (λ (o : Option ℕ). unwrap_or o 0) (offset_of-at s h.old_start i (omega (arith, stands.within)) stands.start_is)

    end_offset : offset_in s h.old_end ≡ i + length h.old_text
    end_offset = ap (λ (o : Option ℕ). unwrap_or o 0) (offset_of-at s h.old_end (i + length h.old_text) stands.within stands.end_is)

    front_length : length (front ++ kept ++ h.old_text) ≡ i + length h.old_text
    front_length = length-append (front ++ kept) h.old_text ∙ omega (arith, length-append front kept, next.offset)

    kept_here : later ≡ true → is_none kept ≡ false
    kept_here is_later = kept_between kept (extent front) h.old_start next.start (elim (and_cases later (same_point h.old_start (extent front)) gap.apart) [ inl first ↦ absurd (both_ways later first is_later) | inr apart ↦ apart ])

pub cut_at : (s front rest : List ℕ) (b : Point) (later : Bool) (p : List Hunk) → s ≡ front ++ rest → AreGaps later (extent front) b p → Fits p s → IsCut later s front rest b p
cut_at s front rest b later [] s_is gaps fits = record {
  pieces = [];
  tail = rest;
  text = refl;
  tags = drop-tagged (length front) 0 s ∙ (ap (λ (xs : List ℕ). tagged_from (0 + length front) (drop (length front) xs)) s_is ∙ (ap (tagged_from (0 + length front)) (drop_at front rest (length front) refl) ∙ ap (λ (n : ℕ). tagged_from n rest) (omega arith)));
  is = refl;
  some = tt;
  apart = λ _. tt;
  behind = tt;
}
cut_at s front rest b later (h ∷ hs) s_is gaps fits =
    let here = All-head (HunkFits s) h hs fits in
    let next = next_hunk s front rest b later here.0 h s_is gaps.0 here.1 in
    let kept : List ℕ = take (here.0 - length front) rest in
    let after : List ℕ = drop (length h.old_text) (drop (here.0 - length front) rest) in
    let whole : s ≡ front ++ kept ++ h.old_text ++ after = s_is ∙ (ap (λ (xs : List ℕ). front ++ xs) next.cut ∙ (sym (append_assoc front kept (h.old_text ++ after)) ∙ sym (append_assoc (front ++ kept) h.old_text after))) in
    let old_end : h.old_end ≡ extent (front ++ kept ++ h.old_text) = ap (λ (x : Hunk). x.old_end) next.hunk ∙ (ap (λ (x : Point). traverse x (extent h.old_text)) (sym (extent-append front kept)) ∙ sym (extent-append (front ++ kept) h.old_text)) in
    let new_end : h.new_end ≡ traverse (traverse b (extent kept)) (extent h.new_text) = ap (λ (x : Hunk). x.new_end) next.hunk in
    next_cut s front rest b later h hs here.0 kept after gaps.0 here.1 next (cut_at s (front ++ kept ++ h.old_text) after (traverse (traverse b (extent kept)) (extent h.new_text)) true hs whole
    (subst (λ (x : Point). AreGaps true x (traverse (traverse b (extent kept)) (extent h.new_text)) hs) old_end (subst (λ (x : Point). AreGaps true h.old_end x hs) new_end gaps.1))
    (All-tail (HunkFits s) h hs fits)) s_is

-- gaps on a text that they fit
pub cut_of_gaps : (s : List ℕ) (p : List Hunk) → IsGapList p → Fits p s → IsCut false s [] s origin p
cut_of_gaps s p gaps fits = cut_at s [] s origin false p refl gaps fits

-- a patch on a text that it fits
pub cut_of : (s : List ℕ) (p : List Hunk) → IsPatch p → Fits p s → IsCut false s [] s origin p
cut_of s p is_patch fits = cut_of_gaps s p (gaps_of_patch p is_patch) fits
