-- What is kept of a patch when its old text changes underneath, as stretches, and that they make the moved patch.
use Rattle.std.proofs.Common.{◌≡◌, ℕ, suc, zero, ◌+◌, ◌^◌, ◌<◌, ◌≤◌, ◌&&◌, ◌||◌, ◌⊎◌, List, [], ◌∷◌, ◌++◌, length, drop, get_or, cond, eqb, Bool, true, false, Option, Some, None, Result, Ok, Err, refl, sym, ap, ◌∙◌, subst, inl, inr, arith, append_assoc, length-append}
use Rattle.std.specs.List.{All}
use Rattle.std.specs.Prelude.{IfOk, IfErr}
use Rattle.std.proofs.lemmas.List.{drop_more, map-append}
use Rattle.std.proofs.lemmas.List.Elements.{All-head, All-tail}
use Rattle.std.proofs.lemmas.Bool.{and_parts}
use Rattle.std.proofs.lemmas.Bool.Decides.{nat_tests}
use Rattle.points.specs.declared.point.Point.{Point}
use Rattle.points.specs.Point.{origin, point_le, point_lt, traverse, traversal, IsWithin}
use Rattle.points.specs.Place.{extent, same_point}
use Rattle.points.proofs.PointLemmas.{same_point-true, traverse_assoc, traverse_origin, traverse-origin, traverse-traversal, traversal-traverse, point_le-traverse, point_le-refl, point_le_trans, point_le-false, traverse_mono, traversal_mono}
use Rattle.points.proofs.ExtentLemmas.{extent-append}
use Rattle.points.specs.Distance.{is_far}
use Rattle.patch.specs.Hunk.{Hunk, hunk_of, hunks_of}
use Rattle.patch.specs.ChangeList.{is_empty_change, fault_at, fault_from, IsOrdered, IsPatch}
use Rattle.patch.specs.Stretches.{Part, part_seen, parts_seen, parts_of, change_by, laid_by, laid, any_far, Refuses}
use Rattle.patch.specs.declared.stretch.Stretch.{Stretch}
use Rattle.patch.specs.Splicing.{KeepsLimits}
use Rattle.patch.specs.MovedOld.{moved_with, kept_start, with_start, with_kept, kept_of, placed, both, joined_from, joined, moved_old, RefusesMove}
use Rattle.patch.specs.declared.refusal.PatchRefusal.{PatchRefusal}
use Rattle.patch.specs.declared.refusal.PatchRefusal.TheVariants.{TooFar, TooMany, NoMemory}
use Rattle.patch.specs.declared.change.Change.{Change}
use Rattle.patch.proofs.ListLemmas.{IsSound, sound_from, both_none}
use Rattle.patch.proofs.PatchPieces.{hunk_with, hunk_between, old_text_of}

-- changes in a row, the first behind the point a: each reaches over its text and has one
abbrev pub IsRow : Point → List Hunk → Type 0
IsRow a [] = Unit {0}
IsRow a (h ∷ hs) = (point_le a h.old_start ≡ true) × (h.old_end ≡ traverse h.old_start (extent h.old_text)) × (is_empty_change h ≡ false) × IsRow h.old_end hs

pub old_end_is : (at : ℕ) (a b : Point) (h : Hunk) → IsSound at a b h → IsOrdered h → h.old_end ≡ traverse h.old_start (extent h.old_text)
old_end_is at a b h sound ordered = sym (traverse-traversal h.old_end h.old_start ordered.0) ∙ ap (traverse h.old_start) (sym (same_point-true (extent h.old_text) (traversal h.old_end h.old_start) (old_text_of at a b h sound)))

-- a moved range keeps its extent
pub moved_over_text : (o n x e : Point) → point_le o x ≡ true → traverse (moved_with o n x) e ≡ moved_with o n (traverse x e)
moved_over_text o n x e behind = traverse_assoc n (traversal x o) e ∙ ap (traverse n) (sym (ap (λ (y : Point). traversal (traverse y e) o) (sym (traverse-traversal x o behind)) ∙ (ap (λ (y : Point). traversal y o) (traverse_assoc o (traversal x o) e) ∙ traversal-traverse o (traverse (traversal x o) e))))

moved_mono : (o n x y : Point) → point_le o x ≡ true → point_le x y ≡ true → point_le (moved_with o n x) (moved_with o n y) ≡ true
moved_mono o n x y behind le = traverse_mono n (traversal x o) (traversal y o) (traversal_mono x y o behind le)

never : (p q : Point) → point_lt p q ≡ true → point_le q p ≡ true → ⊥
never p q lt le = grind (arith, nat_tests)

module _ (start o n : Point) (from : point_le start o ≡ true) (to : point_le start n ≡ true) where
  -- the kept changes end at a, where those before end at `last`: none has moved yet, or the last one that moved ended behind `start`
  abbrev pub Follows : Point → Point → Type 0
  Follows a last = ((point_le a last ≡ true) × (point_le a start ≡ true)) ⊎ ((x : Point) × (point_lt start x ≡ true) × (point_le o x ≡ true) × (point_le x last ≡ true) × (a ≡ moved_with o n x))

  module _ (at : ℕ) (a0 b0 a : Point) (h : Hunk) (sound : IsSound at a0 b0 h) (ordered : IsOrdered h) (follows : Follows a a0) where
    behind : point_le a0 h.old_start ≡ true
    behind = (and_parts (point_le a0 h.old_start) (point_le b0 h.new_start) sound.behind).0

    -- the change stays
    stays_row : (hs : List Hunk) → point_le h.old_end start ≡ true → IsRow (traverse h.old_start (extent h.old_text)) hs → IsRow a (with_start h.old_start h ∷ hs)
    stays_row hs before rest = elim follows [
      | inl none ↦ (point_le_trans a a0 h.old_start none.0 behind, refl, sound.some_units, rest)
      | inr some ↦ absurd (never start some.0 some.1 (point_le_trans some.0 a0 start some.3 (point_le_trans a0 h.old_start start behind (point_le_trans h.old_start h.old_end start ordered.0 before))))
    ]

    stays_next : point_le h.old_end start ≡ true → Follows (traverse h.old_start (extent h.old_text)) h.old_end
    stays_next before = subst (λ (x : Point). Follows x h.old_end) (old_end_is at a0 b0 h sound ordered) (inl (point_le-refl h.old_end, before))

    -- the change moves
    moves_row : (hs : List Hunk) → point_le o h.old_start ≡ true → IsRow (traverse (moved_with o n h.old_start) (extent h.old_text)) hs → IsRow a (with_start (moved_with o n h.old_start) h ∷ hs)
    moves_row hs from_end rest = elim follows [
      | inl none ↦ (point_le_trans a start (moved_with o n h.old_start) none.1 (point_le_trans start n (moved_with o n h.old_start) to (point_le-traverse n (traversal h.old_start o))), refl, sound.some_units, rest)
      | inr some ↦ (subst (λ (x : Point). point_le x (moved_with o n h.old_start) ≡ true) (sym some.4) (moved_mono o n some.0 h.old_start some.2 (point_le_trans some.0 a0 h.old_start some.3 behind)), refl, sound.some_units, rest)
    ]

    moves_next : point_le h.old_end start ≡ false → point_le o h.old_start ≡ true → Follows (traverse (moved_with o n h.old_start) (extent h.old_text)) h.old_end
    moves_next past from_end = inr (
      h.old_end,
      point_le-false h.old_end start past,
      point_le_trans o h.old_start h.old_end from_end ordered.0,
      point_le-refl h.old_end,
      moved_over_text o n h.old_start (extent h.old_text) from_end ∙ ap (moved_with o n) (sym (old_end_is at a0 b0 h sound ordered)),
    )

    -- the change goes
    goes_next : Follows a h.old_end
    goes_next = elim follows [
      | inl none ↦ inl (point_le_trans a a0 h.old_end none.0 (point_le_trans a0 h.old_start h.old_end behind ordered.0), none.1)
      | inr some ↦ inr (some.0, some.1, some.2, point_le_trans some.0 a0 h.old_end some.3 (point_le_trans a0 h.old_start h.old_end behind ordered.0), some.4)
    ]

  -- the kept changes are a row
  pub kept_row : (at : ℕ) (a0 b0 a : Point) (p : List Hunk) → fault_from at a0 b0 p ≡ None → All IsOrdered p → Follows a a0 → IsRow a (kept_of start o n p)
  kept_row at a0 b0 a [] none ordered follows = tt
  kept_row at a0 b0 a (h ∷ hs) none ordered follows = let parts = both_none (fault_at at a0 b0 h) (fault_from (at + 1) h.old_end h.new_end hs) none in
      let sound = sound_from at a0 b0 h parts.0 in
      let here = All-head IsOrdered h hs ordered in
      let later = All-tail IsOrdered h hs ordered in
      at_stays (point_le h.old_end start) (point_le o h.old_start)
      (λ before. stays_row at a0 b0 a h sound here follows (kept_of start o n hs) before (kept_row (at + 1) h.old_end h.new_end (traverse h.old_start (extent h.old_text)) hs parts.1 later (stays_next at a0 b0 a h sound here follows before)))
      (λ past from_end. moves_row at a0 b0 a h sound here follows (kept_of start o n hs) from_end (kept_row (at + 1) h.old_end h.new_end (traverse (moved_with o n h.old_start) (extent h.old_text)) hs parts.1 later (moves_next at a0 b0 a h sound here follows past from_end)))
      (kept_row (at + 1) h.old_end h.new_end a hs parts.1 later (goes_next at a0 b0 a h sound here follows))
    where
      at_stays : (x y : Bool) → (x ≡ true → IsRow a (with_start h.old_start h ∷ kept_of start o n hs)) → (x ≡ false → y ≡ true → IsRow a (with_start (moved_with o n h.old_start) h ∷ kept_of start o n hs)) → IsRow a (kept_of start o n hs)
          → IsRow a (with_kept (cond x (Some h.old_start) (cond y (Some (moved_with o n h.old_start)) None)) h (kept_of start o n hs))
      at_stays true y stays moves goes = stays refl
      at_stays false true stays moves goes = moves refl refl
      at_stays false false stays moves goes = goes

-- stretches of changes in a row are laid out as the list rule joins them
not_empty : (x y p q : List ℕ) → (eqb (length x) 0 && eqb (length y) 0) ≡ false → (eqb (length (x ++ p)) 0 && eqb (length (y ++ q)) 0) ≡ false
not_empty x y p q h = grind (arith, nat_tests, length-append x p, length-append y q)

touches : (s x : Point) → point_le s x ≡ true → same_point (traversal x s) origin ≡ same_point s x
touches s x le = grind (arith, nat_tests)

extent_two : (a : Point) (x y : List ℕ) → traverse (traverse a (extent x)) (extent y) ≡ traverse a (extent (x ++ y))
extent_two a x y = traverse_assoc a (extent x) (extent y) ∙ ap (traverse a) (sym (extent-append x y))

module _ (a b : Point) (old new : List ℕ) (k : Hunk) (ks : List Hunk) (some : (eqb (length old) 0 && eqb (length new) 0) ≡ false)
    (le : point_le (traverse a (extent old)) k.old_start ≡ true) (end_is : k.old_end ≡ traverse k.old_start (extent k.old_text)) where
  -- the way to the next change
  way : Point
  way = traversal k.old_start (traverse a (extent old))

  abbrev new_start : Point
  new_start = traverse (traverse b (extent new)) (traversal k.old_start (traverse a (extent old)))

  abbrev placed_next : Hunk
  placed_next = hunk_with k.old_start k.old_end new_start (traverse new_start (extent k.new_text)) k.old_text k.new_text

  joins : same_point (traverse a (extent old)) k.old_start ≡ true
      → laid_by traverse a b (old ++ k.old_text) (new ++ k.new_text) (parts_of (traverse a (extent (old ++ k.old_text))) ks)
      ≡ joined_from (hunk_between a b (old ++ k.old_text) (new ++ k.new_text)) (placed (traverse a (extent (old ++ k.old_text))) (traverse b (extent (new ++ k.new_text))) ks)
      → laid_by traverse a b (old ++ k.old_text) (new ++ k.new_text) (parts_of k.old_end ks)
      ≡ joined_from (both (hunk_between a b old new) placed_next) (placed k.old_end (traverse new_start (extent k.new_text)) ks)
  joins touch rest = ap (λ (x : Point). laid_by traverse a b (old ++ k.old_text) (new ++ k.new_text) (parts_of x ks)) old_end
      ∙ (rest ∙ sym (ap (λ (x : Point). joined_from (hunk_with a x b (traverse new_start (extent k.new_text)) (old ++ k.old_text) (new ++ k.new_text)) (placed x (traverse new_start (extent k.new_text)) ks)) old_end
      ∙ ap (λ (x : Point). joined_from (hunk_with a (traverse a (extent (old ++ k.old_text))) b x (old ++ k.old_text) (new ++ k.new_text)) (placed (traverse a (extent (old ++ k.old_text))) x ks)) new_end))
    where
      same : traverse a (extent old) ≡ k.old_start
      same = same_point-true (traverse a (extent old)) k.old_start touch

      old_end : k.old_end ≡ traverse a (extent (old ++ k.old_text))
      old_end = end_is ∙ (ap (λ (x : Point). traverse x (extent k.old_text)) (sym same) ∙ extent_two a old k.old_text)

      no_way : traversal k.old_start (traverse a (extent old)) ≡ origin
      no_way = same_point-true (traversal k.old_start (traverse a (extent old))) origin (touches (traverse a (extent old)) k.old_start le ∙ touch)

      new_end : traverse new_start (extent k.new_text) ≡ traverse b (extent (new ++ k.new_text))
      new_end = ap (λ (x : Point). traverse (traverse (traverse b (extent new)) x) (extent k.new_text)) no_way ∙ (ap (λ (x : Point). traverse x (extent k.new_text)) (traverse_origin (traverse b (extent new))) ∙ extent_two b new k.new_text)

  parts : laid_by traverse k.old_start new_start k.old_text k.new_text (parts_of (traverse k.old_start (extent k.old_text)) ks)
      ≡ joined_from (hunk_between k.old_start new_start k.old_text k.new_text) (placed (traverse k.old_start (extent k.old_text)) (traverse new_start (extent k.new_text)) ks)
      → laid_by traverse (traverse (traverse a (extent old)) (traversal k.old_start (traverse a (extent old)))) new_start k.old_text k.new_text (parts_of k.old_end ks)
      ≡ joined_from placed_next (placed k.old_end (traverse new_start (extent k.new_text)) ks)
  parts rest = ap (λ (x : Point). laid_by traverse x new_start k.old_text k.new_text (parts_of k.old_end ks)) (traverse-traversal k.old_start (traverse a (extent old)) le)
      ∙ (ap (λ (x : Point). laid_by traverse k.old_start new_start k.old_text k.new_text (parts_of x ks)) end_is
      ∙ (rest ∙ sym (ap (λ (x : Point). joined_from (hunk_with k.old_start x new_start (traverse new_start (extent k.new_text)) k.old_text k.new_text) (placed x (traverse new_start (extent k.new_text)) ks)) end_is)))

-- an open change that the next one joins, or that is closed
join_or_close : (a b : Point) (old new : List ℕ) (one one' two two' : List Hunk) (t u : Bool) → (eqb (length old) 0 && eqb (length new) 0) ≡ false → t ≡ u → (u ≡ true → one ≡ one') → two ≡ two'
    → cond t one (change_by traverse a b old new ++ two) ≡ cond u one' (hunk_between a b old new ∷ two')
join_or_close a b old new one one' two two' true true some e joins apart = joins refl
join_or_close a b old new one one' two two' true false some e joins apart = cc
join_or_close a b old new one one' two two' false true some e joins apart = cc
join_or_close a b old new one one' two two' false false some e joins apart = ap (λ (none : Bool). cond none [] (hunk_between a b old new ∷ []) ++ two) some ∙ ap (λ (hs : List Hunk). hunk_between a b old new ∷ hs) apart

pub laid_joined : (a b : Point) (old new : List ℕ) (ks : List Hunk) → (eqb (length old) 0 && eqb (length new) 0) ≡ false → IsRow (traverse a (extent old)) ks
    → laid_by traverse a b old new (parts_of (traverse a (extent old)) ks) ≡ joined_from (hunk_between a b old new) (placed (traverse a (extent old)) (traverse b (extent new)) ks)
laid_joined a b old new [] some row = ap (λ (none : Bool). cond none [] (hunk_between a b old new ∷ [])) some
laid_joined a b old new (k ∷ ks) some row =
    let start : Point = traverse (traverse b (extent new)) (traversal k.old_start (traverse a (extent old))) in
    let next : Hunk = hunk_with k.old_start k.old_end start (traverse start (extent k.new_text)) k.old_text k.new_text in
    let later : List Hunk = placed k.old_end (traverse start (extent k.new_text)) ks in
    join_or_close a b old new (laid_by traverse a b (old ++ k.old_text) (new ++ k.new_text) (parts_of k.old_end ks)) (joined_from (both (hunk_between a b old new) next) later)
    (laid_by traverse (traverse (traverse a (extent old)) (traversal k.old_start (traverse a (extent old)))) start k.old_text k.new_text (parts_of k.old_end ks)) (joined_from next later)
    (same_point (traversal k.old_start (traverse a (extent old))) origin) (same_point (traverse a (extent old)) k.old_start) some (touches (traverse a (extent old)) k.old_start row.0)
    (λ touch. joins a b old new k ks some row.0 row.1 touch (laid_joined a b (old ++ k.old_text) (new ++ k.new_text) ks (not_empty old new k.old_text k.new_text some)
    (subst (λ (x : Point). IsRow x ks) (row.1 ∙ (ap (λ (x : Point). traverse x (extent k.old_text)) (sym (same_point-true (traverse a (extent old)) k.old_start touch)) ∙ extent_two a old k.old_text)) row.3)))
    (parts a b old new k ks some row.0 row.1 (laid_joined k.old_start start k.old_text k.new_text ks row.2 (subst (λ (x : Point). IsRow x ks) row.1 row.3)))

-- the first change opens at its start, whether something is kept before it or not
module _ (k : Hunk) (ks : List Hunk) (row : IsRow origin (k ∷ ks)) where
  abbrev first : Point
  first = traverse origin (traversal k.old_start origin)

  start_is : traverse origin (traversal k.old_start origin) ≡ k.old_start
  start_is = traverse-traversal k.old_start origin row.0

  at_start : (t : Bool) → same_point (traversal k.old_start origin) origin ≡ t
      → cond t (laid_by traverse origin origin k.old_text k.new_text (parts_of k.old_end ks)) (laid_by traverse first first k.old_text k.new_text (parts_of k.old_end ks))
      ≡ laid_by traverse first first k.old_text k.new_text (parts_of k.old_end ks)
  at_start true e = ap (λ (x : Point). laid_by traverse x x k.old_text k.new_text (parts_of k.old_end ks)) (sym (ap (traverse origin) (same_point-true (traversal k.old_start origin) origin e)))
  at_start false e = refl

  end_is : k.old_end ≡ traverse first (extent k.old_text)
  end_is = row.1 ∙ ap (λ (x : Point). traverse x (extent k.old_text)) (sym start_is)

  started : laid_by traverse first first k.old_text k.new_text (parts_of k.old_end ks) ≡ joined_from (hunk_with k.old_start k.old_end first (traverse first (extent k.new_text)) k.old_text k.new_text) (placed k.old_end (traverse first (extent k.new_text)) ks)
  started = ap (λ (x : Point). laid_by traverse first first k.old_text k.new_text (parts_of x ks)) end_is
      ∙ (laid_joined first first k.old_text k.new_text ks row.2 (subst (λ (x : Point). IsRow x ks) end_is row.3)
      ∙ (ap (λ (x : Point). joined_from (hunk_with first x first (traverse first (extent k.new_text)) k.old_text k.new_text) (placed x (traverse first (extent k.new_text)) ks)) (sym end_is)
      ∙ ap (λ (x : Point). joined_from (hunk_with x k.old_end first (traverse first (extent k.new_text)) k.old_text k.new_text) (placed k.old_end (traverse first (extent k.new_text)) ks)) start_is))

-- the stretches of changes in a row make the changes of which those that touch are one
pub laid_row : (ks : List Hunk) → IsRow origin ks → laid (parts_of origin ks) ≡ joined (placed origin origin ks)
laid_row [] row = refl
laid_row (k ∷ ks) row = at_start k ks row (same_point (traversal k.old_start origin) origin) refl ∙ started k ks row

-- how many there are at most
few_joined : (h : Hunk) (ks : List Hunk) → length (joined_from h ks) ≤ length ks + 1
few_joined h [] = omega arith
few_joined h (k ∷ ks) = at_touch (same_point h.old_end k.old_start) (few_joined (both h k) ks) (few_joined k ks)
  where
    at_touch : (t : Bool) → length (joined_from (both h k) ks) ≤ length ks + 1 → length (joined_from k ks) ≤ length ks + 1 → length (cond t (joined_from (both h k) ks) (h ∷ joined_from k ks)) ≤ length (k ∷ ks) + 1
    at_touch true one two = omega arith
    at_touch false one two = omega arith

few_placed : (a b : Point) (hs : List Hunk) → length (placed a b hs) ≡ length hs
few_placed a b [] = refl
few_placed a b (h ∷ hs) = ap suc (few_placed h.old_end (traverse (traverse b (traversal h.old_start a)) (extent h.new_text)) hs)

few_kept : (start o n : Point) (hs : List Hunk) → length (kept_of start o n hs) ≤ length hs
few_kept start o n [] = omega arith
few_kept start o n (h ∷ hs) = at_start (kept_start start o n h.old_start h.old_end) (few_kept start o n hs)
  where
    at_start : (x : Option Point) → length (kept_of start o n hs) ≤ length hs → length (with_kept x h (kept_of start o n hs)) ≤ length (h ∷ hs)
    at_start None few = omega arith
    at_start (Some x) few = omega arith

few_whole : (hs : List Hunk) → length (joined hs) ≤ length hs
few_whole [] = omega arith
few_whole (h ∷ hs) = omega (arith, few_joined h hs)

patch_few : (at : ℕ) (a b : Point) (p : List Hunk) → fault_from at a b p ≡ None → at ≤ 2 ^ 24 → at + length p ≤ 2 ^ 24
patch_few at a b [] none le = omega arith
patch_few at a b (h ∷ hs) none le = let parts = both_none (fault_at at a b h) (fault_from (at + 1) h.old_end h.new_end hs) none in
    let few = (sound_from at a b h parts.0).few in
    omega (arith, patch_few (at + 1) h.old_end h.new_end hs parts.1 (below at le few))
  where
    below : (n : ℕ) → n ≤ 2 ^ 24 → eqb n (2 ^ 24) ≡ false → n + 1 ≤ 2 ^ 24
    below n le few = grind (arith, nat_tests)

-- the moved patch, by the kept stretches
pub record IsMoved (p : List Hunk) (start o n : Point) : Type 0 where
  pub made : laid (parts_of origin (kept_of start o n p)) ≡ moved_old p start o n
  pub few : length (moved_old p start o n) ≤ 2 ^ 24
  pub row : IsRow origin (kept_of start o n p)

pub is_moved : (p : List Hunk) (start o n : Point) → point_le start o ≡ true → point_le start n ≡ true → IsPatch p → IsMoved p start o n
is_moved p start o n from to is_patch = record {
  made = laid_row (kept_of start o n p) row;
  few = omega (arith, few_whole (placed origin origin (kept_of start o n p)), few_placed origin origin (kept_of start o n p), few_kept start o n p, patch_few 0 origin origin p is_patch.0 (omega arith));
  row = row;
}
  where
    before_all : (x : Point) → point_le origin x ≡ true
    before_all x = subst (λ (y : Point). point_le origin y ≡ true) (traverse-origin x) (point_le-traverse origin x)

    row : IsRow origin (kept_of start o n p)
    row = kept_row start o n from to 0 origin origin origin p is_patch.0 is_patch.1 (inl (point_le-refl origin, before_all start))

-- what the kept stretches need of a change of a patch
pub record IsGood (h : Hunk) : Type 0 where
  pub near_start : IsWithin (2 ^ 30) h.old_start
  pub near_end : IsWithin (2 ^ 30) h.old_end
  pub end_is : h.old_end ≡ traverse h.old_start (extent h.old_text)

within : (p : Point) → is_far p ≡ false → IsWithin (2 ^ 30) p
within p near = record { row = grind (arith, nat_tests); column = grind (arith, nat_tests) }

either : (x y : Bool) → (x || y) ≡ false → (x ≡ false) × (y ≡ false)
either true y h = cc
either false y h = (refl, h)

good : (at : ℕ) (a b : Point) (h : Hunk) → IsSound at a b h → IsOrdered h → IsGood h
good at a b h sound ordered = let ends = either (is_far h.old_start) (is_far h.old_end) (either (is_far h.old_start || is_far h.old_end) (is_far h.new_start) (either (is_far h.old_start || is_far h.old_end || is_far h.new_start) (is_far h.new_end) sound.near).0).0 in
    record { near_start = within h.old_start ends.0; near_end = within h.old_end ends.1; end_is = old_end_is at a b h sound ordered }

good_from : (at : ℕ) (a b : Point) (cs : List Change) (i : ℕ) (d : Change) → fault_from at a b (hunks_of cs) ≡ None → i < length cs → IsGood (hunk_of (get_or cs i d))
good_from at a b [] i d none lt = absurd (omega arith)
good_from at a b (c ∷ cs) zero d none lt = good at a b (hunk_of c) (sound_from at a b (hunk_of c) (both_none (fault_at at a b (hunk_of c)) (fault_from (at + 1) c.old_range.end c.new_range.end (hunks_of cs)) none).0) (c.old_range.ordered, c.new_range.ordered)
good_from at a b (c ∷ cs) (suc i) d none lt = good_from (at + 1) c.old_range.end c.new_range.end cs i d (both_none (fault_at at a b (hunk_of c)) (fault_from (at + 1) c.old_range.end c.new_range.end (hunks_of cs)) none).1 (omega arith)

pub good_at : (cs : List Change) (i : ℕ) (c : Change) → IsPatch (hunks_of cs) → i < length cs → c ≡ get_or cs i c → IsGood (hunk_of c)
good_at cs i c is_patch lt is = subst (λ (x : Change). IsGood (hunk_of x)) (sym is) (good_from 0 origin origin cs i c is_patch.0 lt)

module _ (s o n : Point) (cs : List Change) (i : ℕ) (c : Change) (lt : i < length cs) (is : c ≡ get_or cs i c) where
  next : kept_of s o n (hunks_of (drop i cs)) ≡ kept_of s o n (hunk_of c ∷ hunks_of (drop (i + 1) cs))
  next = ap (λ (xs : List Change). kept_of s o n (hunks_of xs)) (drop_more cs i c lt) ∙ ap (λ (x : Change). kept_of s o n (hunk_of x ∷ hunks_of (drop (i + 1) cs))) (sym is)

  -- the next change goes
  pub goes : None ≡ kept_start s o n c.old_range.start c.old_range.end → kept_of s o n (hunks_of (drop i cs)) ≡ kept_of s o n (hunks_of (drop (i + 1) cs))
  goes found = next ∙ ap (λ (x : Option Point). with_kept x (hunk_of c) (kept_of s o n (hunks_of (drop (i + 1) cs)))) (sym found)

  -- or it is kept, with an old range that starts there and reaches as far as it did
  pub stays : (x y : Point) → Some x ≡ kept_start s o n c.old_range.start c.old_range.end → point_le x y ≡ true → traversal y x ≡ traversal c.old_range.end c.old_range.start → IsPatch (hunks_of cs)
      → kept_of s o n (hunks_of (drop i cs)) ≡ hunk_with x y c.new_range.start c.new_range.end c.old_text c.new_text ∷ kept_of s o n (hunks_of (drop (i + 1) cs))
  stays x y found ordered reach is_patch = next ∙ (ap (λ (z : Option Point). with_kept z (hunk_of c) (kept_of s o n (hunks_of (drop (i + 1) cs)))) (sym found)
      ∙ ap (λ (e : Point). hunk_with x e c.new_range.start c.new_range.end c.old_text c.new_text ∷ kept_of s o n (hunks_of (drop (i + 1) cs))) end_is)
    where
      text_is : traversal c.old_range.end c.old_range.start ≡ extent c.old_text
      text_is = ap (λ (e : Point). traversal e c.old_range.start) (good_at cs i c is_patch lt is).end_is ∙ traversal-traverse c.old_range.start (extent c.old_text)

      end_is : traverse x (extent c.old_text) ≡ y
      end_is = ap (traverse x) (sym (reach ∙ text_is)) ∙ traverse-traversal y x ordered

-- a moved range reaches as far
pub moved_reach : (o n from to : Point) → point_le o from ≡ true → point_le from to ≡ true → traversal (moved_with o n to) (moved_with o n from) ≡ traversal to from
moved_reach o n from to behind ordered = ap (λ (x : Point). traversal (moved_with o n x) (moved_with o n from)) (sym (traverse-traversal to from ordered))
    ∙ (ap (λ (x : Point). traversal x (moved_with o n from)) (sym (moved_over_text o n from (traversal to from) behind)) ∙ traversal-traverse (moved_with o n from) (traversal to from))

pub part_with : (kept kept' : Point) (old old' new new' : List ℕ) → kept ≡ kept' → old ≡ old' → new ≡ new'
    → ◌≡◌ {A = Part} (record { kept = kept; old_text = old; new_text = new }) (record { kept = kept'; old_text = old'; new_text = new' })
part_with kept kept' old old' new new' e f g = cc

-- one stretch more
pub stretch_more : (done new : List Stretch) (e : Stretch) (end y : Point) (part : Part) (hs rest : List Hunk) (whole : List Part) → parts_seen done ++ parts_of end hs ≡ whole → parts_of end hs ≡ part ∷ parts_of y rest → part_seen e ≡ part → new ≡ done ++ e ∷ []
    → parts_seen new ++ parts_of y rest ≡ whole
stretch_more done new e end y part hs rest whole before step same pushed = ap (λ (xs : List Stretch). parts_seen xs ++ parts_of y rest) pushed ∙ (ap (λ (ps : List Part). ps ++ parts_of y rest) (map-append part_seen done (e ∷ []))
    ∙ (append_assoc (parts_seen done) (part_seen e ∷ []) (parts_of y rest) ∙ (ap (λ (p : Part). parts_seen done ++ (p ∷ parts_of y rest)) same ∙ (ap (λ (ps : List Part). parts_seen done ++ ps) (sym step) ∙ before))))

near_from : (at : ℕ) (a b : Point) (hs : List Hunk) → fault_from at a b hs ≡ None → any_far hs ≡ false
near_from at a b [] none = refl
near_from at a b (h ∷ hs) none = let rules = both_none (fault_at at a b h) (fault_from (at + 1) h.old_end h.new_end hs) none in
    ap (λ (x : Bool). x || any_far hs) (sound_from at a b h rules.0).near ∙ near_from (at + 1) h.old_end h.new_end hs rules.1

-- a patch keeps the limits
pub keeps_limits : (hs : List Hunk) → IsPatch hs → KeepsLimits hs
keeps_limits hs is_patch = (near_from 0 origin origin hs is_patch.0, omega (arith, patch_few 0 origin origin hs is_patch.0 (omega arith)))

-- what is answered for the kept stretches is answered for the move
-- what is laid out from the stretches that are kept of a patch p, which is seen as hs
pub laid_moved : (p hs : List Hunk) (start o n : Point) (ss ks : List Stretch) → hs ≡ p → IsMoved p start o n → ss ≡ ks → parts_seen ks ≡ parts_of origin (kept_of start o n hs)
    → laid (parts_seen ss) ≡ moved_old p start o n
laid_moved p hs start o n ss ks seen moved same kept = ap (λ (xs : List Stretch). laid (parts_seen xs)) same ∙ (ap laid (kept ∙ ap (λ (xs : List Hunk). parts_of origin (kept_of start o n xs)) seen) ∙ moved.made)

pub made_near : (m : List Hunk) (ps : List Part) → laid ps ≡ m → IsPatch (laid ps) → any_far m ≡ false
made_near m ps same is_patch = subst (λ (hs : List Hunk). any_far hs ≡ false) same (near_from 0 origin origin (laid ps) is_patch.0)

pub err_moved : (e : PatchRefusal) (ps : List Part) (m : List Hunk) → laid ps ≡ m → length m ≤ 2 ^ 24 → Refuses (laid ps) e → RefusesMove m e
err_moved TooFar ps m same few h = subst (λ (hs : List Hunk). any_far hs ≡ true) same h
err_moved TooMany ps m same few h = omega (arith, h.1, ap length same)
err_moved NoMemory ps m same few h = tt
