-- Lists of changes that keep the rules of a patch but for its limits: sorted, never touching, with ranges that fit their texts, never empty.
use Rattle.std.proofs.Common.{◌≡◌, ℕ, ◌+◌, List, [], ◌∷◌, ltb, Bool, true, false, ◌&&◌, None, refl, sym, ap, ◌∙◌, arith}
use Rattle.std.specs.List.{All}
use Rattle.std.proofs.lemmas.Bool.{lt-ltb}
use Rattle.std.proofs.lemmas.List.Elements.{All-head, All-tail}
use Rattle.points.specs.declared.point.Point.{Point}
use Rattle.points.specs.Point.{origin}
use Rattle.points.specs.Place.{same_point}
use Rattle.patch.specs.Hunk.{Hunk}
use Rattle.patch.specs.ChangeList.{is_empty_change, is_behind, has_extents, fault_at, fault_from, IsOrdered, IsPatch}
use Rattle.patch.proofs.ListLemmas.{IsSound, sound_from, both_none}

-- a change behind these points, which are the ends of the change before it where there is one
pub record IsGap (later : Bool) (a b : Point) (h : Hunk) : Type 0 where
  pub behind : is_behind a b h ≡ true
  pub apart : (later && same_point h.old_start a) ≡ false
  pub extents : has_extents a b h ≡ true
  pub some_units : is_empty_change h ≡ false
  pub ordered : IsOrdered h

abbrev pub AreGaps : Bool → Point → Point → List Hunk → Type 0
AreGaps later a b [] = Unit {0}
AreGaps later a b (h ∷ hs) = IsGap later a b h × AreGaps true h.old_end h.new_end hs

abbrev pub IsGapList : List Hunk → Type 0
IsGapList p = AreGaps false origin origin p

-- a patch is such a list
gap_of_sound : (at : ℕ) (later : Bool) (a b : Point) (h : Hunk) → later ≡ ltb 0 at → IsSound at a b h → IsOrdered h → IsGap later a b h
gap_of_sound at later a b h later_is s ordered = record {
  behind = s.behind;
  apart = ap (λ (x : Bool). x && same_point h.old_start a) later_is ∙ s.apart;
  extents = s.extents;
  some_units = s.some_units;
  ordered = ordered;
}

gaps_of_sound : (at : ℕ) (later : Bool) (a b : Point) (p : List Hunk) → later ≡ ltb 0 at → fault_from at a b p ≡ None → All IsOrdered p → AreGaps later a b p
gaps_of_sound at later a b [] later_is none ordered = tt
gaps_of_sound at later a b (h ∷ hs) later_is none ordered = let parts = both_none (fault_at at a b h) (fault_from (at + 1) h.old_end h.new_end hs) none in (
  gap_of_sound at later a b h later_is (sound_from at a b h parts.0) (All-head IsOrdered h hs ordered),
  gaps_of_sound (at + 1) true h.old_end h.new_end hs (sym (lt-ltb 0 (at + 1) (omega arith))) parts.1 (All-tail IsOrdered h hs ordered),
)

pub gaps_of_patch : (p : List Hunk) → IsPatch p → IsGapList p
gaps_of_patch p is_patch = gaps_of_sound 0 false origin origin p refl is_patch.0 is_patch.1
