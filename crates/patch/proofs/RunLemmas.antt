-- Runs of edits kept unit by unit: the tagged text that is kept is what the patch makes.
use Rattle.std.proofs.Common.{◌≡◌, ℕ, ◌+◌, ◌-◌, ◌<◌, ◌≤◌, List, [], ◌∷◌, ◌++◌, length, take, drop, get_or, Some, refl, sym, ap, ◌∙◌, arith, length-drop}
use Rattle.std.proofs.lemmas.List.{take_more, length-take-le}
use Rattle.points.specs.declared.point.Point.{Point}
use Rattle.points.specs.Place.{extent, point_at}
use Rattle.patch.specs.Hunk.{Hunk}
use Rattle.patch.specs.Tagged.{Tagged, tagged, units_of}
use Rattle.patch.specs.Fit.{Fits, tag, applied}
use Rattle.patch.specs.Splicing.{HasDeleted}
use Rattle.patch.proofs.SplicePieces.{tagged-append}

-- one unit more of the original text
pub tags_more : (us : List ℕ) (i : ℕ) → i < length us → tagged (take (i + 1) us) ≡ tagged (take i us) ++ (get_or us i 0, Some i) ∷ []
tags_more us i within = ap tagged (take_more us i 0 within) ∙ (tagged-append 0 (take i us) (get_or us i 0 ∷ [])
    ∙ (let n : 0 + length (take i us) ≡ i = omega (arith, length-take-le i us (omega arith)) in ap (λ (k : ℕ). tagged (take i us) ++ (get_or us i 0, Some k) ∷ []) n))

-- the units from one offset up to another stand there
pub has_units : (p : List Hunk) (s : List ℕ) (g : Tagged) (units deleted : List ℕ) (from to : ℕ) (start : Point) → Fits p s → tag p s ≡ g → units ≡ units_of g → from ≤ to → to ≤ length units
    → deleted ≡ take (to - from) (drop from units) → start ≡ extent (take from units)
    → HasDeleted p start (point_at (applied p s) (from + length deleted)) deleted s from × (from + length deleted ≡ to)
has_units p s g units deleted from to start fits tag_is units_are ordered within deleted_is start_is = (
  record {
    fits = fits;
    stands = record {
      within = omega (arith, size, ap length text, within);
      start_is = ap (λ (xs : List ℕ). extent (take from xs)) text ∙ sym start_is;
      end_is = refl;
      units_are = let n : length deleted ≡ to - from = omega (arith, size, ordered) in ap (λ (xs : List ℕ). take (length deleted) (drop from xs)) text ∙ (ap (λ (k : ℕ). take k (drop from units)) n ∙ sym deleted_is);
    };
  },
  size,
)
  where
    text : applied p s ≡ units
    text = ap units_of tag_is ∙ sym units_are

    size : from + length deleted ≡ to
    size = omega (arith, ap length deleted_is, length-take-le (to - from) (drop from units) (omega (arith, length-drop from units)))
