-- Where a unit survives a patch, the look-ups give its point in the other text.
use Rattle.std.proofs.Common.{◌≡◌, ℕ, suc, zero, ◌+◌, ◌-◌, ◌<◌, ◌≤◌, List, [], ◌∷◌, ◌++◌, length, take, map, cond, slice_get, Bool, true, false, Option, Some, None, option_and_then, refl, sym, ap, ◌∙◌, subst, inl, inr, ◌⊎◌, arith}
use Rattle.std.specs.Option.{option_or, option_map}
use Rattle.std.proofs.lemmas.Option.{slice_get-map, none-some, same_Some}
use Rattle.std.proofs.Math.Seq.{take-append-add}
use Rattle.std.proofs.lemmas.List.{take_all, take-append-le}
use Rattle.std.proofs.lemmas.Bool.{cases_lt, cases_Bool}
use Rattle.std.proofs.lemmas.Bool.Decides.{nat_tests}
use Rattle.points.specs.declared.point.Point.{Point}
use Rattle.points.specs.Point.{origin, point_le, point_lt, traverse, traversal}
use Rattle.points.specs.Place.{extent, point_at}
use Rattle.points.proofs.PointLemmas.{point_le_trans, point_lt_le_trans, point_lt_not_le, point_le-traverse, traverse-origin, traversal-traverse}
use Rattle.points.proofs.OffsetLemmas.{point_at_lt}
use Rattle.points.specs.Distance.{near}
use Rattle.patch.specs.Hunk.{Hunk, inverted}
use Rattle.patch.specs.ChangeList.{IsPatch}
use Rattle.patch.specs.Tagged.{Tagged, tagged_from, untagged, units_of}
use Rattle.patch.specs.Fit.{Fits, applied}
use Rattle.patch.specs.LookUp.{last_from, change_for_new, moved_to_new, moved_to_old, to_new, to_old}
use Rattle.patch.specs.Surviving.{source_at, Survives}
use Rattle.patch.proofs.SearchLemmas.{last-map}
use Rattle.patch.proofs.Pieces.{Piece, old_of, new_of, tag_of}
use Rattle.patch.proofs.PatchPieces.{hunk_between, shown, cut_of}
use Rattle.patch.proofs.ShownPieces.{units_of_pieces, turned_piece, old_of_turned, new_of_turned, shown_turned}
use Rattle.patch.proofs.SplicePieces.{length-tagged, length-untagged, led_on}

-- the sources of units in tagged texts
source_at-left : (f g : Tagged) (j : ℕ) → j < length f → source_at (f ++ g) j ≡ source_at f j
source_at-left [] g j lt = absurd (omega arith)
source_at-left (x ∷ f) g zero lt = refl
source_at-left (x ∷ f) g (suc j) lt = source_at-left f g j (omega arith)

source_at-right : (f g : Tagged) (j : ℕ) → length f ≤ j → source_at (f ++ g) j ≡ source_at g (j - length f)
source_at-right [] g j le = ap (source_at g) (omega arith)
source_at-right (x ∷ f) g zero le = absurd (omega arith)
source_at-right (x ∷ f) g (suc j) le = source_at-right f g j (omega arith) ∙ ap (source_at g) (omega arith)

source_at-tagged : (n : ℕ) (us : List ℕ) (j : ℕ) → j < length us → source_at (tagged_from n us) j ≡ Some (n + j)
source_at-tagged n [] j lt = absurd (omega arith)
source_at-tagged n (u ∷ us) zero lt = ap Some (omega arith)
source_at-tagged n (u ∷ us) (suc j) lt = source_at-tagged (n + 1) us j (omega arith) ∙ ap Some (omega arith)

source_at-past : (n : ℕ) (us : List ℕ) (j : ℕ) → length us ≤ j → source_at (tagged_from n us) j ≡ None
source_at-past n [] j le = refl
source_at-past n (u ∷ us) zero le = absurd (omega arith)
source_at-past n (u ∷ us) (suc j) le = source_at-past (n + 1) us j (omega arith)

source_at-untagged : (t : List ℕ) (j : ℕ) → source_at (untagged t) j ≡ None
source_at-untagged [] j = refl
source_at-untagged (u ∷ t) zero = refl
source_at-untagged (u ∷ t) (suc j) = source_at-untagged t j

-- the unit that is kept at offset x of the pieces' old text is that at offset y of their new text
abbrev pub IsKept : List Piece → List ℕ → ℕ → ℕ → Type 0
IsKept [] tail x y = (x ≡ y) × (x < length tail)
IsKept (p ∷ ps) tail x y = ((x ≡ y) × (x < length p.kept))
    ⊎ ((i : ℕ) × (j : ℕ) × (x ≡ length p.kept + length p.old + i) × (y ≡ length p.kept + length p.new + j) × IsKept ps tail i j)

-- a unit with a source is kept
pub kept_of_source : (n : ℕ) (ps : List Piece) (tail : List ℕ) (i j : ℕ) → source_at (tag_of n ps tail) j ≡ Some i → (x : ℕ) × (i ≡ n + x) × IsKept ps tail x j
kept_of_source n [] tail i j is = elim (cases_lt j (length tail)) [
  | inl lt ↦ (j, same_Some i (n + j) (sym is ∙ source_at-tagged n tail j lt), (refl, lt))
  | inr ge ↦ absurd (none-some i (sym (source_at-past n tail j ge) ∙ is))
]
kept_of_source n (p ∷ ps) tail i j is = let k : ℕ = n + length p.kept + length p.old in let rest : Tagged = untagged p.new ++ tag_of k ps tail in elim (cases_lt j (length p.kept)) [
  | inl lt ↦ let e : source_at (tagged_from n p.kept ++ rest) j ≡ Some (n + j) = source_at-left (tagged_from n p.kept) rest j (omega (arith, length-tagged n p.kept)) ∙ source_at-tagged n p.kept j lt in
      (j, same_Some i (n + j) (sym is ∙ e), inl (refl, lt))
  | inr ge ↦ let e : source_at rest (j - length p.kept) ≡ Some i = ap (λ (m : ℕ). source_at rest (j - m)) (sym (length-tagged n p.kept)) ∙ (sym (source_at-right (tagged_from n p.kept) rest j (omega (arith, length-tagged n p.kept))) ∙ is) in
      elim (cases_lt (j - length p.kept) (length p.new)) [
        | inl lt ↦ absurd (none-some i (sym (source_at-left (untagged p.new) (tag_of k ps tail) (j - length p.kept) (omega (arith, length-untagged p.new)) ∙ source_at-untagged p.new (j - length p.kept)) ∙ e))
        | inr past ↦ let r = kept_of_source k ps tail i (j - length p.kept - length p.new) (ap (λ (m : ℕ). source_at (tag_of k ps tail) (j - length p.kept - m)) (sym (length-untagged p.new))
            ∙ (sym (source_at-right (untagged p.new) (tag_of k ps tail) (j - length p.kept) (omega (arith, length-untagged p.new))) ∙ e)) in
            (length p.kept + length p.old + r.0, omega (arith, r.1), inr (r.0, j - length p.kept - length p.new, refl, omega arith, r.2))
      ]
]

-- the last item that passes
abbrev pub last_item : {X : Type 0} → (X → Bool) → List X → Option X
last_item q [] = None
last_item q (x ∷ xs) = option_or (last_item q xs) (cond (q x) (Some x) None)

module _ {X : Type 0} (q : X → Bool) where
  fails_first : (x : X) (xs : List X) → q x ≡ false → last_item q xs ≡ None → last_item q (x ∷ xs) ≡ None
  fails_first x xs fails none = rw none (rw fails refl)

  passes_first : (x : X) (xs : List X) → q x ≡ true → last_item q xs ≡ None → last_item q (x ∷ xs) ≡ Some x
  passes_first x xs passes none = rw none (rw passes refl)

  found_behind : (x y : X) (xs : List X) → last_item q xs ≡ Some y → last_item q (x ∷ xs) ≡ Some y
  found_behind x y xs found = rw found refl

  -- the index of the last item that passes, and the item
  abbrev IsPlace : (ℕ → Option X) → Option ℕ → Option X → Type 0
  IsPlace g o r = ((o ≡ None) × (r ≡ None)) ⊎ ((k : ℕ) × (x : X) × (o ≡ Some k) × (r ≡ Some x) × (g k ≡ Some x))

  place_of_last : (i : ℕ) (xs : List X) (g : ℕ → Option X) → ((k : ℕ) → g (i + k) ≡ slice_get xs k) → IsPlace g (last_from q i xs) (last_item q xs)
  place_of_last i [] g at = inl (refl, refl)
  place_of_last i (x ∷ xs) g at = elim (place_of_last (i + 1) xs g (λ k. ap g (omega arith) ∙ at (suc k))) [
    | inr found ↦ inr (found.0, found.1, (rw found.2 refl), (rw found.3 refl), found.4)
    | inl none ↦ elim (cases_Bool (q x)) [
      | inl passes ↦ inr (i, x, (rw none.0 (rw passes refl)), passes_first x xs passes none.1, ap g (omega arith) ∙ at 0)
      | inr fails ↦ inl ((rw none.0 (rw fails refl)), fails_first x xs fails none.1)
    ]
  ]

  pub last_is_item : (p : List X) → option_and_then (slice_get p) (last_from q 0 p) ≡ last_item q p
  last_is_item p = elim (place_of_last 0 p (slice_get p) (λ k. ap (slice_get p) (omega arith))) [
    | inl none ↦ ap (option_and_then (slice_get p)) none.0 ∙ sym none.1
    | inr found ↦ ap (option_and_then (slice_get p)) found.2 ∙ (found.4 ∙ sym found.3)
  ]

-- no change behind a point is reached from it
none_reached : (a b point : Point) (ps : List Piece) → point_lt point a ≡ true → last_item (λ (h : Hunk). point_le h.old_start point) (shown a b ps) ≡ None
none_reached a b point [] lt = refl
none_reached a b point (p ∷ ps) lt = let A : Point = traverse a (extent p.kept) in
    let below : point_lt point A ≡ true = point_lt_le_trans point a A lt (point_le-traverse a (extent p.kept)) in
    fails_first (λ (h : Hunk). point_le h.old_start point) (hunk_between A (traverse b (extent p.kept)) p.old p.new) (shown (traverse A (extent p.old)) (traverse (traverse b (extent p.kept)) (extent p.new)) ps)
    (point_lt_not_le point A below) (none_reached (traverse A (extent p.old)) (traverse (traverse b (extent p.kept)) (extent p.new)) point ps (point_lt_le_trans point A (traverse A (extent p.old)) below (point_le-traverse A (extent p.old))))

led_strictly : (a p q : Point) → point_lt p q ≡ true → point_lt (traverse a p) (traverse a q) ≡ true
led_strictly a p q lt = grind (arith, nat_tests)

-- a unit of a stretch stands before its end
before_end : (a : Point) (kept : List ℕ) (x : ℕ) → x < length kept → point_lt (traverse a (extent (take x kept))) (traverse a (extent kept)) ≡ true
before_end a kept x lt = led_strictly a (extent (take x kept)) (extent kept)
    (subst (λ (xs : List ℕ). point_lt (extent (take x kept)) (extent xs) ≡ true) (take_all (length kept) kept (omega arith)) (point_at_lt kept x (length kept) lt (omega arith)))

-- where the changes before this place are followed by these ones, the last change reached from a point of the old text leads to that point of the new text:
-- none is reached, and both points lie equally far behind the place, or the last reached leads there
abbrev Leads : Point → Point → List Hunk → Point → Point → Type 0
Leads a b hs old new = ((last_item (λ (h : Hunk). point_le h.old_start old) hs ≡ None) × (e : Point) × (old ≡ traverse a e) × (new ≡ traverse b e))
    ⊎ ((h : Hunk) × (last_item (λ (h : Hunk). point_le h.old_start old) hs ≡ Some h) × (moved_to_new (Some h) old ≡ new))

-- one change more in front
led_over : (a b : Point) (p : Piece) (hs : List Hunk) (old new : Point) → Leads (traverse (traverse a (extent p.kept)) (extent p.old)) (traverse (traverse b (extent p.kept)) (extent p.new)) hs old new
    → Leads a b (hunk_between (traverse a (extent p.kept)) (traverse b (extent p.kept)) p.old p.new ∷ hs) old new
led_over a b p hs old new leads = elim leads [
  | inr found ↦ inr (found.0, found_behind (λ (h : Hunk). point_le h.old_start old) first found.0 hs found.1, found.2)
  | inl none ↦ let above : point_le (traverse (traverse a (extent p.kept)) (extent p.old)) old ≡ true = subst (λ (x : Point). point_le (traverse (traverse a (extent p.kept)) (extent p.old)) x ≡ true) (sym none.2) (point_le-traverse (traverse (traverse a (extent p.kept)) (extent p.old)) none.1) in
      inr (
        first,
        passes_first (λ (h : Hunk). point_le h.old_start old) first hs (point_le_trans (traverse a (extent p.kept)) (traverse (traverse a (extent p.kept)) (extent p.old)) old (point_le-traverse (traverse a (extent p.kept)) (extent p.old)) above) none.0,
        rw above (ap (λ (x : Point). traverse (traverse (traverse b (extent p.kept)) (extent p.new)) (traversal x (traverse (traverse a (extent p.kept)) (extent p.old)))) none.2
            ∙ (ap (traverse (traverse (traverse b (extent p.kept)) (extent p.new))) (traversal-traverse (traverse (traverse a (extent p.kept)) (extent p.old)) none.1) ∙ sym none.3)),
      )
]
  where
    first : Hunk
    first = hunk_between (traverse a (extent p.kept)) (traverse b (extent p.kept)) p.old p.new

-- the units up to one that lies behind both lists
take_behind : (x y z : List ℕ) (n : ℕ) → take (length x + length y + n) (x ++ (y ++ z)) ≡ x ++ (y ++ take n z)
take_behind x y z n = let sizes : length x + length y + n ≡ length x + (length y + n) = omega arith in
    ap (λ (m : ℕ). take m (x ++ (y ++ z))) sizes ∙ (take-append-add x (y ++ z) (length y + n) ∙ ap (λ (xs : List ℕ). x ++ xs) (take-append-add y z n))

-- the old point of a kept unit leads to its new point
kept_leads : (a b : Point) (ps : List Piece) (tail : List ℕ) (x y : ℕ) → IsKept ps tail x y → Leads a b (shown a b ps) (traverse a (extent (take x (old_of ps tail)))) (traverse b (extent (take y (new_of ps tail))))
kept_leads a b [] tail x y kept = inl (refl, extent (take x tail), refl, ap (λ (n : ℕ). traverse b (extent (take n tail))) (sym kept.0))
kept_leads a b (p ∷ ps) tail x y kept = let A : Point = traverse a (extent p.kept) in let B : Point = traverse b (extent p.kept) in
    let a2 : Point = traverse A (extent p.old) in let b2 : Point = traverse B (extent p.new) in elim kept [
      | inl here ↦ let old_is : take x p.kept ≡ take x (old_of (p ∷ ps) tail) = sym (take-append-le x p.kept (p.old ++ old_of ps tail) (omega (arith, here.1))) in
          let new_is : take x p.kept ≡ take y (new_of (p ∷ ps) tail) = ap (λ (n : ℕ). take n p.kept) here.0 ∙ sym (take-append-le y p.kept (p.new ++ new_of ps tail) (omega (arith, here.0, here.1))) in
          let point : Point = traverse a (extent (take x p.kept)) in let below : point_lt point A ≡ true = before_end a p.kept x here.1 in
          subst (λ (xs : List ℕ). Leads a b (shown a b (p ∷ ps)) (traverse a (extent xs)) (traverse b (extent (take y (new_of (p ∷ ps) tail))))) old_is
          (subst (λ (xs : List ℕ). Leads a b (shown a b (p ∷ ps)) point (traverse b (extent xs))) new_is (inl (
            fails_first (λ (h : Hunk). point_le h.old_start point) (hunk_between A B p.old p.new) (shown a2 b2 ps) (point_lt_not_le point A below)
                (none_reached a2 b2 point ps (point_lt_le_trans point A a2 below (point_le-traverse A (extent p.old)))),
            extent (take x p.kept),
            refl,
            refl,
          )))
      | inr later ↦ let old_is : take x (old_of (p ∷ ps) tail) ≡ p.kept ++ (p.old ++ take later.0 (old_of ps tail)) = ap (λ (n : ℕ). take n (old_of (p ∷ ps) tail)) later.2 ∙ take_behind p.kept p.old (old_of ps tail) later.0 in
          let new_is : take y (new_of (p ∷ ps) tail) ≡ p.kept ++ (p.new ++ take later.1 (new_of ps tail)) = ap (λ (n : ℕ). take n (new_of (p ∷ ps) tail)) later.3 ∙ take_behind p.kept p.new (new_of ps tail) later.1 in
          subst (λ (q : Point). Leads a b (shown a b (p ∷ ps)) q (traverse b (extent (take y (new_of (p ∷ ps) tail))))) (sym (ap (λ (xs : List ℕ). traverse a (extent xs)) old_is ∙ led_on a p.kept p.old (take later.0 (old_of ps tail))))
          (subst (λ (q : Point). Leads a b (shown a b (p ∷ ps)) (traverse a2 (extent (take later.0 (old_of ps tail)))) q) (sym (ap (λ (xs : List ℕ). traverse b (extent xs)) new_is ∙ led_on b p.kept p.new (take later.1 (new_of ps tail))))
          (led_over a b p (shown a2 b2 ps) (traverse a2 (extent (take later.0 (old_of ps tail)))) (traverse b2 (extent (take later.1 (new_of ps tail)))) (kept_leads a2 b2 ps tail later.0 later.1 later.4)))
    ]

-- from the start of both texts
leads_from_start : (hs : List Hunk) (old new : Point) → Leads origin origin hs old new → to_new hs old ≡ near new
leads_from_start hs old new leads = ap (λ (o : Option Hunk). near (moved_to_new o old)) (last_is_item (λ (h : Hunk). point_le h.old_start old) hs) ∙ elim leads [
  | inl none ↦ ap (λ (o : Option Hunk). near (moved_to_new o old)) none.0 ∙ ap near (none.2 ∙ sym none.3)
  | inr found ↦ ap (λ (o : Option Hunk). near (moved_to_new o old)) found.1 ∙ ap near found.2
]

kept_to_new : (ps : List Piece) (tail : List ℕ) (x y : ℕ) → IsKept ps tail x y → to_new (shown origin origin ps) (point_at (old_of ps tail) x) ≡ near (point_at (new_of ps tail) y)
kept_to_new ps tail x y kept = ap (to_new (shown origin origin ps)) (sym (traverse-origin (point_at (old_of ps tail) x)))
    ∙ (leads_from_start (shown origin origin ps) (traverse origin (extent (take x (old_of ps tail)))) (traverse origin (extent (take y (new_of ps tail)))) (kept_leads origin origin ps tail x y kept)
    ∙ ap near (traverse-origin (point_at (new_of ps tail) y)))

-- a surviving unit, in the pieces of a patch on a text that it fits
record IsKeptIn (p : List Hunk) (s : List ℕ) (i j : ℕ) : Type 0 where
  pieces : List Piece
  tail : List ℕ
  is : p ≡ shown origin origin pieces
  old_is : s ≡ old_of pieces tail
  new_is : applied p s ≡ new_of pieces tail
  kept : IsKept pieces tail i j

survivor_kept : (p : List Hunk) (s : List ℕ) (i j : ℕ) → IsPatch p → Fits p s → Survives p s i j → IsKeptIn p s i j
survivor_kept p s i j is_patch fits survives = let cut = cut_of s p is_patch fits in
    let found = kept_of_source 0 cut.pieces cut.tail i j (ap (λ (g : Tagged). source_at g j) (sym cut.tags) ∙ survives) in record {
      pieces = cut.pieces;
      tail = cut.tail;
      is = cut.is;
      old_is = cut.text;
      new_is = ap units_of cut.tags ∙ units_of_pieces 0 cut.pieces cut.tail;
      kept = subst (λ (n : ℕ). IsKept cut.pieces cut.tail n j) (sym (found.1 ∙ omega arith)) found.2;
    }

-- the point of a surviving unit goes to its new point
pub survivor_to_new : (p : List Hunk) (s : List ℕ) (i j : ℕ) → IsPatch p → Fits p s → Survives p s i j → to_new p (point_at s i) ≡ near (point_at (applied p s) j)
survivor_to_new p s i j is_patch fits survives = let k = survivor_kept p s i j is_patch fits survives in
    ap (λ (hs : List Hunk). to_new hs (point_at s i)) k.is ∙ (ap (λ (xs : List ℕ). to_new (shown origin origin k.pieces) (point_at xs i)) k.old_is
    ∙ (kept_to_new k.pieces k.tail i j k.kept ∙ ap (λ (xs : List ℕ). near (point_at xs j)) (sym k.new_is)))

-- the way back is the way there in the inverse
moved_inverted : (o : Option Hunk) (point : Point) → moved_to_new (option_map inverted o) point ≡ moved_to_old o point
moved_inverted None point = refl
moved_inverted (Some h) point = refl

moved_back : (p : List Hunk) (o : Option ℕ) (point : Point) → moved_to_new (option_and_then (slice_get (map inverted p)) o) point ≡ moved_to_old (option_and_then (slice_get p) o) point
moved_back p None point = refl
moved_back p (Some k) point = ap (λ (o : Option Hunk). moved_to_new o point) (slice_get-map inverted p k) ∙ moved_inverted (slice_get p k) point

to_old_is : (p : List Hunk) (point : Point) → to_old p point ≡ to_new (map inverted p) point
to_old_is p point = sym (ap (λ (o : Option ℕ). near (moved_to_new (option_and_then (slice_get (map inverted p)) o) point)) (last-map inverted (λ (h : Hunk). point_le h.old_start point) 0 p) ∙ ap near (moved_back p (change_for_new p point) point))

kept_turned : (ps : List Piece) (tail : List ℕ) (x y : ℕ) → IsKept ps tail x y → IsKept (map turned_piece ps) tail y x
kept_turned [] tail x y kept = (sym kept.0, omega (arith, kept.0, kept.1))
kept_turned (p ∷ ps) tail x y kept = elim kept [
  | inl here ↦ inl (sym here.0, omega (arith, here.0, here.1))
  | inr later ↦ inr (later.1, later.0, later.3, later.2, kept_turned ps tail later.0 later.1 later.4)
]

-- the new point of a surviving unit goes to its old point
pub survivor_to_old : (p : List Hunk) (s : List ℕ) (i j : ℕ) → IsPatch p → Fits p s → Survives p s i j → to_old p (point_at (applied p s) j) ≡ near (point_at s i)
survivor_to_old p s i j is_patch fits survives = let k = survivor_kept p s i j is_patch fits survives in let ps : List Piece = map turned_piece k.pieces in
    to_old_is p (point_at (applied p s) j)
    ∙ (ap (λ (hs : List Hunk). to_new hs (point_at (applied p s) j)) (ap (map inverted) k.is ∙ shown_turned origin origin k.pieces)
    ∙ (ap (λ (xs : List ℕ). to_new (shown origin origin ps) (point_at xs j)) (k.new_is ∙ sym (old_of_turned k.pieces k.tail))
    ∙ (kept_to_new ps k.tail j i (kept_turned k.pieces k.tail i j k.kept)
    ∙ ap (λ (xs : List ℕ). near (point_at xs i)) (new_of_turned k.pieces k.tail ∙ sym k.old_is))))
