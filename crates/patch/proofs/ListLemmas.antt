-- The rules of a list of changes: tested at each in turn, and kept when the sides are exchanged.
use Rattle.std.proofs.Common.{◌≡◌, ℕ, suc, zero, ◌+◌, ◌<◌, ◌^◌, List, [], ◌∷◌, length, drop, get_or, map, cond, ltb, eqb, Bool, true, false, Option, Some, None, refl, sym, ap, ◌∙◌, inl, inr, arith, ◌&&◌, ◌||◌, not}
use Rattle.std.specs.Option.{option_or, is_some}
use Rattle.std.specs.List.{All}
use Rattle.std.proofs.lemmas.Bool.{not-false, and_parts, and_from, and_cases, and_left, and_right, false_from_ne_true, both_ways}
use Rattle.std.proofs.lemmas.Bool.Decides.{nat_tests}
use Rattle.std.proofs.lemmas.List.{drop_more}
use Rattle.points.specs.declared.point.Point.{Point}
use Rattle.points.specs.Point.{point_le, traversal}
use Rattle.points.specs.Place.{extent, same_point}
use Rattle.points.specs.Distance.{is_far}
use Rattle.patch.specs.Hunk.{Hunk, hunk_of, hunks_of, inverted}
use Rattle.patch.specs.ChangeList.{reaches_far, is_empty_change, is_behind, has_extents, fault_at, fault_from, IsOrdered}
use Rattle.patch.specs.declared.change.Change.{Change}
use Rattle.patch.specs.declared.refusal.ListRefusal.{ListRefusal}

-- one change more of the list
pub fault_next : (cs : List Change) (i : ℕ) (c : Change) (a b : Point) → i < length cs → c ≡ get_or cs i c → fault_from i a b (hunks_of (drop i cs)) ≡ option_or (fault_at i a b (hunk_of c)) (fault_from (i + 1) c.old_range.end c.new_range.end (hunks_of (drop (i + 1) cs)))
fault_next cs i c a b within is = ap (λ (xs : List Change). fault_from i a b (hunks_of xs)) (drop_more cs i c within)
    ∙ ap (λ (x : Change). option_or (fault_at i a b (hunk_of x)) (fault_from (i + 1) x.old_range.end x.new_range.end (hunks_of (drop (i + 1) cs)))) (sym is)

pub some_first : {X : Type 0} (r rest : Option X) → is_some r ≡ true → option_or r rest ≡ r
some_first None rest h = cc
some_first (Some x) rest h = refl

pub none_first : {X : Type 0} (r rest : Option X) → is_some r ≡ false → option_or r rest ≡ rest
none_first None rest h = refl
none_first (Some x) rest h = cc

-- the change at i breaks a rule: it is the first that does
pub fault_stops : (cs : List Change) (i : ℕ) (c : Change) (a b : Point) (r whole : Option ListRefusal) → i < length cs → c ≡ get_or cs i c → r ≡ fault_at i a b (hunk_of c) → is_some r ≡ true → fault_from i a b (hunks_of (drop i cs)) ≡ whole → r ≡ whole
fault_stops cs i c a b r whole within is tested found rest = let later = fault_from (i + 1) c.old_range.end c.new_range.end (hunks_of (drop (i + 1) cs)) in
    sym (some_first r later found) ∙ (ap (λ (x : Option ListRefusal). option_or x later) tested ∙ (sym (fault_next cs i c a b within is) ∙ rest))

-- it breaks none
pub fault_goes_on : (cs : List Change) (i : ℕ) (c : Change) (a b : Point) (r whole : Option ListRefusal) → i < length cs → c ≡ get_or cs i c → r ≡ fault_at i a b (hunk_of c) → is_some r ≡ false → fault_from i a b (hunks_of (drop i cs)) ≡ whole
    → fault_from (i + 1) c.old_range.end c.new_range.end (hunks_of (drop (i + 1) cs)) ≡ whole
fault_goes_on cs i c a b r whole within is tested none rest = let later = fault_from (i + 1) c.old_range.end c.new_range.end (hunks_of (drop (i + 1) cs)) in
    sym (none_first r later none) ∙ (ap (λ (x : Option ListRefusal). option_or x later) tested ∙ (sym (fault_next cs i c a b within is) ∙ rest))

-- both are None where the first of them is
pub both_none : {X : Type 0} (r rest : Option X) → option_or r rest ≡ None → (r ≡ None) × (rest ≡ None)
both_none None rest h = (refl, h)
both_none (Some x) rest h = cc

rule_kept : {X : Type 0} (b : Bool) (x : X) (rest : Option X) → cond b (Some x) rest ≡ None → (b ≡ false) × (rest ≡ None)
rule_kept true x rest h = cc
rule_kept false x rest h = (refl, h)

-- the change at index `at` breaks no rule
pub record IsSound (at : ℕ) (old_end new_end : Point) (h : Hunk) : Type 0 where
  pub behind : is_behind old_end new_end h ≡ true
  pub apart : (ltb 0 at && same_point h.old_start old_end) ≡ false
  pub extents : has_extents old_end new_end h ≡ true
  pub some_units : is_empty_change h ≡ false
  pub near : reaches_far h ≡ false
  pub few : eqb at (2 ^ 24) ≡ false

pub sound_from : (at : ℕ) (a b : Point) (h : Hunk) → fault_at at a b h ≡ None → IsSound at a b h
sound_from at a b h none =
    let r1 = rule_kept (not (is_behind a b h)) _ _ none in
    let r2 = rule_kept (ltb 0 at && same_point h.old_start a) _ _ r1.1 in
    let r3 = rule_kept (not (has_extents a b h)) _ _ r2.1 in
    let r4 = rule_kept (is_empty_change h) _ _ r3.1 in
    let r5 = rule_kept (reaches_far h) _ _ r4.1 in
    let r6 = rule_kept (eqb at (2 ^ 24)) _ _ r5.1 in
    record { behind = not-false (is_behind a b h) r1.0; apart = r2.0; extents = not-false (has_extents a b h) r3.0; some_units = r4.0; near = r5.0; few = r6.0 }

pub fault_none : (at : ℕ) (a b : Point) (h : Hunk) → IsSound at a b h → fault_at at a b h ≡ None
fault_none at a b h s = rw (s.behind, s.apart, s.extents, s.some_units, s.near, s.few)

and_swap : (x y : Bool) → (x && y) ≡ true → (y && x) ≡ true
and_swap x y h = let p = and_parts x y h in and_from y x p.1 p.0

-- no stretch on one side is none on the other
no_stretch : (p a q b : Point) → point_le a p ≡ true → point_le b q ≡ true → same_point (traversal p a) (traversal q b) ≡ true → same_point q b ≡ true → same_point p a ≡ true
no_stretch p a q b p_behind q_behind same_reach none = grind (arith, nat_tests)

-- the stretch before a change reaches equally far on both sides, and its texts reach over its ranges
pub record HasReaches (a b : Point) (h : Hunk) : Type 0 where
  pub stretch : same_point (traversal h.old_start a) (traversal h.new_start b) ≡ true
  pub old_text : same_point (extent h.old_text) (traversal h.old_end h.old_start) ≡ true
  pub new_text : same_point (extent h.new_text) (traversal h.new_end h.new_start) ≡ true

pub reaches_of : (a b : Point) (h : Hunk) → has_extents a b h ≡ true → HasReaches a b h
reaches_of a b h e =
    let parts = and_parts (same_point (traversal h.old_start a) (traversal h.new_start b) && same_point (extent h.old_text) (traversal h.old_end h.old_start)) (same_point (extent h.new_text) (traversal h.new_end h.new_start)) e in
    let first = and_parts (same_point (traversal h.old_start a) (traversal h.new_start b)) (same_point (extent h.old_text) (traversal h.old_end h.old_start)) parts.0 in record { stretch = first.0; old_text = first.1; new_text = parts.1 }

pub stretch_of : (at : ℕ) (a b : Point) (h : Hunk) → IsSound at a b h → same_point (traversal h.old_start a) (traversal h.new_start b) ≡ true
stretch_of at a b h s = (reaches_of a b h s.extents).stretch

inverted_apart : (at : ℕ) (a b : Point) (h : Hunk) → IsSound at a b h → (ltb 0 at && same_point h.new_start b) ≡ false
inverted_apart at a b h s = elim (and_cases (ltb 0 at) (same_point h.old_start a) s.apart) [
  | inl first ↦ and_left (ltb 0 at) (same_point h.new_start b) first
  | inr apart ↦ and_right (ltb 0 at) (same_point h.new_start b) (false_from_ne_true (same_point h.new_start b) (λ touches.
      let behind = and_parts (point_le a h.old_start) (point_le b h.new_start) s.behind in both_ways (same_point h.old_start a) apart (no_stretch h.old_start a h.new_start b behind.0 behind.1 (stretch_of at a b h s) touches)))
]

same_point-sym : (p q : Point) → same_point p q ≡ true → same_point q p ≡ true
same_point-sym p q h = grind (arith, nat_tests)

pub inverted_sound : (at : ℕ) (a b : Point) (h : Hunk) → IsSound at a b h → IsSound at b a (inverted h)
inverted_sound at a b h s = record {
  behind = and_swap (point_le a h.old_start) (point_le b h.new_start) s.behind;
  apart = inverted_apart at a b h s;
  extents = turned_extents (same_point (traversal h.old_start a) (traversal h.new_start b)) (same_point (traversal h.new_start b) (traversal h.old_start a)) (same_point (extent h.old_text) (traversal h.old_end h.old_start)) (same_point (extent h.new_text) (traversal h.new_end h.new_start))
      (same_point-sym (traversal h.old_start a) (traversal h.new_start b)) s.extents;
  some_units = false_from_ne_true (is_empty_change (inverted h)) (λ empty. both_ways (is_empty_change h) s.some_units (and_swap (eqb (length h.new_text) 0) (eqb (length h.old_text) 0) empty));
  near = far_swap (is_far h.old_start) (is_far h.old_end) (is_far h.new_start) (is_far h.new_end) s.near;
  few = s.few;
}
  where
    turned_extents : (x x' y z : Bool) → (x ≡ true → x' ≡ true) → ((x && y) && z) ≡ true → ((x' && z) && y) ≡ true
    turned_extents x x' y z turn h = let both = and_parts (x && y) z h in let first = and_parts x y both.0 in and_from (x' && z) y (and_from x' z (turn first.0) both.1) first.1

    far_swap : (x y z w : Bool) → (((x || y) || z) || w) ≡ false → (((z || w) || x) || y) ≡ false
    far_swap true y z w h = cc
    far_swap false true z w h = cc
    far_swap false false true w h = cc
    far_swap false false false true h = cc
    far_swap false false false false h = refl

-- a patch with its sides exchanged is one
pub inverted_list : (at : ℕ) (a b : Point) (hs : List Hunk) → fault_from at a b hs ≡ None → fault_from at b a (map inverted hs) ≡ None
inverted_list at a b [] none = refl
inverted_list at a b (h ∷ hs) none = let parts = both_none (fault_at at a b h) _ none in
    rw (fault_none at b a (inverted h) (inverted_sound at a b h (sound_from at a b h parts.0))) (inverted_list (at + 1) h.old_end h.new_end hs parts.1)

pub inverted_ordered : (hs : List Hunk) → All IsOrdered hs → All IsOrdered (map inverted hs)
inverted_ordered [] all k d lt = absurd (omega arith)
inverted_ordered (h ∷ hs) all zero d lt = let both = all 0 h (omega arith) in (both.1, both.0)
inverted_ordered (h ∷ hs) all (suc k) d lt = inverted_ordered hs (λ i e in_rest. all (suc i) e (omega arith)) k d (omega arith)
