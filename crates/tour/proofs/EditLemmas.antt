-- One edit of a text, and the patch of it.
use Rattle.std.proofs.Common.{◌≡◌, ℕ, ◌+◌, ◌-◌, ◌≤◌, List, [], ◌∷◌, ◌++◌, length, take, drop, slice_range, Option, refl, sym, ap, ◌∙◌, subst, arith, length-drop, length-take-le}
use Rattle.std.proofs.lemmas.List.{map-append, take-map, drop-map}
use Rattle.points.specs.declared.point.Point.{Point}
use Rattle.points.specs.Place.{point_at}
use Rattle.points.specs.Text.{replaced}
use Rattle.patch.specs.Hunk.{Hunk}
use Rattle.patch.specs.Tagged.{tagged_from, tagged, untagged, units_of, edited}
use Rattle.patch.specs.Fit.{StandsAt, Fits, tag, applied}
use Rattle.patch.specs.Splicing.{HasDeleted}

units_tagged : (i : ℕ) (us : List ℕ) → units_of (tagged_from i us) ≡ us
units_tagged i [] = refl
units_tagged i (u ∷ us) = ap (λ (xs : List ℕ). u ∷ xs) (units_tagged (i + 1) us)

units_untagged : (us : List ℕ) → units_of (untagged us) ≡ us
units_untagged [] = refl
units_untagged (u ∷ us) = ap (λ (xs : List ℕ). u ∷ xs) (units_untagged us)

abbrev unit_of : ℕ × Option ℕ → ℕ
unit_of x = x.0

-- what an edit makes of the tags is what it makes of the units
units_edited : (s : List ℕ) (i j : ℕ) (t : List ℕ) → units_of (edited (tagged s) i j t) ≡ replaced s i j t
units_edited s i j t = map-append unit_of (take i (tagged s) ++ untagged t) (drop j (tagged s))
    ∙ (ap (λ (xs : List ℕ). xs ++ units_of (drop j (tagged s))) (map-append unit_of (take i (tagged s)) (untagged t))
    ∙ (ap (λ (xs : List ℕ). xs ++ units_of (untagged t) ++ units_of (drop j (tagged s))) (sym (take-map unit_of i (tagged s)) ∙ ap (take i) (units_tagged 0 s))
    ∙ (ap (λ (xs : List ℕ). take i s ++ xs ++ units_of (drop j (tagged s))) (units_untagged t)
    ∙ ap (λ (xs : List ℕ). take i s ++ t ++ xs) (sym (drop-map unit_of j (tagged s)) ∙ ap (drop j) (units_tagged 0 s)))))

stands : (s : List ℕ) (i j : ℕ) → i ≤ j → j ≤ length s → StandsAt s i (point_at s i) (point_at s j) (slice_range s i j)
stands s i j order within = record {
  within = omega (arith, len);
  start_is = refl;
  end_is = ap (point_at s) (omega (arith, len));
  units_are = ap (λ (n : ℕ). take n (drop i s)) len;
}
  where
    len : length (slice_range s i j) ≡ j - i
    len = length-take-le (j - i) (drop i s) (omega (arith, length-drop i s))

-- before any edit the units between two offsets stand in the new text, which is the old one
has_units : (p : List Hunk) (s : List ℕ) (i j : ℕ) → Fits p s → tag p s ≡ tagged s → i ≤ j → j ≤ length s
    → HasDeleted p (point_at s i) (point_at s j) (slice_range s i j) s i
has_units p s i j fits none order within = record {
  fits = fits;
  stands = subst (λ (t : List ℕ). StandsAt t i (point_at s i) (point_at s j) (slice_range s i j)) (sym (ap units_of none ∙ units_tagged 0 s)) (stands s i j order within);
}

pub has_deleted : (p : List Hunk) (s deleted : List ℕ) (start : Point) (i j : ℕ) → Fits p s → tag p s ≡ tagged s → i ≤ j → j ≤ length s → start ≡ point_at s i → deleted ≡ slice_range s i j
    → HasDeleted p start (point_at s j) deleted s i
has_deleted p s deleted start i j fits none order within start_is deleted_is = subst (λ (x : Point). HasDeleted p x (point_at s j) deleted s i) (sym start_is)
    (subst (λ (us : List ℕ). HasDeleted p (point_at s i) (point_at s j) us s i) (sym deleted_is) (has_units p s i j fits none order within))

-- the patch of one edit makes of the text what the edit makes
pub applied_is : (p q : List Hunk) (s deleted : List ℕ) (i j : ℕ) (t : List ℕ) → tag p s ≡ tagged s → i ≤ j → j ≤ length s → deleted ≡ slice_range s i j
    → tag q s ≡ edited (tag p s) i (i + length deleted) t → replaced s i j t ≡ applied q s
applied_is p q s deleted i j t none order within deleted_is same = sym (ap units_of same ∙ (ap (λ g. units_of (edited g i (i + length deleted) t)) none
    ∙ (ap (λ (k : ℕ). units_of (edited (tagged s) i k t)) end ∙ units_edited s i j t)))
  where
    end : i + length deleted ≡ j
    end = omega (arith, ap length deleted_is, length-take-le (j - i) (drop i s) (omega (arith, length-drop i s)))
