-- Stretches of a text in layers, from those of its newest layer.
use Rattle.std.proofs.Common.{◌≡◌, ℕ, zero, suc, ◌+◌, ◌-◌, ◌<◌, ◌≤◌, List, [], ◌∷◌, ◌++◌, length, take, drop, map, slice_range, Option, Some, None, refl, sym, ap, ◌∙◌, subst, arith, length-append}
use Rattle.std.proofs.lemmas.List.{length-take, length-drop}
use Rattle.patch.specs.Tagged.{Tagged, tagged_from, tagged, untagged, units_of}
use Rattle.patch.proofs.PatchPieces.{take-tagged}
use Rattle.chains.specs.declared.overlay.Overlay.{Overlay}
use Rattle.chains.specs.Layered.{text_above, retagged, tags_since}
use Rattle.chains.specs.Overlay.{IsLaid, AreLaid, tags_of, tags_above, text_of_all}
use Rattle.points.specs.declared.limits.TheConstants.{MAX_UNITS}
use Rattle.chains.specs.declared.stand.Stand.TheVariants.{Put, Kept}
use Rattle.chains.specs.Stand.{StandsIn, tags_at}
use Rattle.chains.proofs.StandParts.{puts_short}
use Rattle.chains.proofs.StandLemmas.{slice-tagged}
use Rattle.chains.proofs.RetagLemmas.{retag, slice-map, retag_new, retag_kept, units_since, units_tagged, units_untagged}

pub length-slice : {X : Type 0} (xs : List X) (i j : ℕ) → i ≤ j → j ≤ length xs → length (slice_range xs i j) ≡ j - i
length-slice xs i j order within = length-take (j - i) (drop i xs) ∙ omega (arith, length-drop i xs, order, within)

pub length-units : (g : Tagged) → length (units_of g) ≡ length g
length-units [] = refl
length-units (x ∷ g) = ap suc (length-units g)

take_shorter : {X : Type 0} (m n : ℕ) (xs : List X) → m ≤ n → take m (take n xs) ≡ take m xs
take_shorter zero n xs less = refl
take_shorter (suc m) zero xs less = absurd (let no : ⊥ = omega (arith, less) in no)
take_shorter (suc m) (suc n) [] less = refl
take_shorter {X} (suc m) (suc n) (x ∷ xs) less = ap (λ (ys : List X). x ∷ ys) (take_shorter m n xs (omega (arith, less)))

-- the beginning of a range
pub slice_begins : {X : Type 0} (xs : List X) (at n m : ℕ) → m ≤ n → slice_range xs at (at + m) ≡ take m (slice_range xs at (at + n))
slice_begins xs at n m less = let e : at + m - at ≡ m = omega arith in let f : at + n - at ≡ n = omega arith in
    ap (λ (k : ℕ). take k (drop at xs)) e ∙ (sym (take_shorter m n (drop at xs) less) ∙ ap (λ (k : ℕ). take m (take k (drop at xs))) (sym f))

-- a text with no layer above it
pub base_stands : (base : List ℕ) (at to : ℕ) → at < to → to ≤ length base
    → slice_range (tags_since base []) at (at + length (slice_range base at to)) ≡ tagged_from at (slice_range base at to)
base_stands base at to order within = let n : length (slice_range base at to) ≡ to - at = length-slice base at to (omega (arith, order)) within in
    let e : at + length (slice_range base at to) ≡ to = omega (arith, n, order) in
    slice-tagged 0 base at (at + length (slice_range base at to)) ∙ (ap (λ (k : ℕ). tagged_from (0 + at) (slice_range base at k)) e ∙ ap (λ (k : ℕ). tagged_from k (slice_range base at to)) (omega arith))

-- units that the newest layer put in
pub put_stretch : (base : List ℕ) (g : Tagged) (gs : List Tagged) (us : List ℕ) (at : ℕ) → slice_range g at (at + length us) ≡ untagged us
    → slice_range (tags_since base (g ∷ gs)) at (at + length us) ≡ tags_at us None
put_stretch base g gs us at is = slice-map (retag (tags_since base gs)) g at (at + length us) ∙ (ap (retagged (tags_since base gs)) is ∙ retag_new (tags_since base gs) us)

-- units that it keeps: they stand where they do in the text below
pub kept_stretch : (base : List ℕ) (g : Tagged) (gs : List Tagged) (us : List ℕ) (where_ : Option ℕ) (at from n : ℕ) → length us ≤ n → from + n ≤ length (text_above base gs)
    → slice_range g at (at + n) ≡ tagged_from from (slice_range (text_above base gs) from (from + n))
    → slice_range (tags_since base gs) from (from + length us) ≡ tags_at us where_
    → slice_range (tags_since base (g ∷ gs)) at (at + length us) ≡ tags_at us where_
kept_stretch base g gs us where_ at from n less within stands is =
    slice-map (retag (tags_since base gs)) g at (at + length us)
    ∙ (ap (retagged f) (slice_begins g at n (length us) less ∙ (ap (take (length us)) stands ∙ (take-tagged (length us) from (slice_range (text_above base gs) from (from + n))
    ∙ ap (tagged_from from) (sym (slice_begins (text_above base gs) from n (length us) less) ∙ ap (λ (xs : List ℕ). slice_range xs from (from + length us)) (sym (units_since base gs))))))
    ∙ (retag_kept f from (length us) (omega (arith, less, within, ap length (units_since base gs), length-units (tags_since base gs))) ∙ is))
  where
    f : Tagged
    f = tags_since base gs

-- the units of a stretch
pub units_at : (us : List ℕ) (where_ : Option ℕ) → units_of (tags_at us where_) ≡ us
units_at us None = units_untagged us
units_at us (Some k) = units_tagged k us

pub stretch_units : (base : List ℕ) (gs : List Tagged) (us : List ℕ) (where_ : Option ℕ) (i j : ℕ) → slice_range (tags_since base gs) i j ≡ tags_at us where_ → slice_range (text_above base gs) i j ≡ us
stretch_units base gs us where_ i j is = ap (λ (xs : List ℕ). slice_range xs i j) (sym (units_since base gs)) ∙ (slice-map (λ (x : ℕ × Option ℕ). x.0) (tags_since base gs) i j ∙ (ap units_of is ∙ units_at us where_))

-- the newest of these overlays lies on the text of those below it
pub laid_newest : (base : List ℕ) (os : List Overlay) (o : Overlay) (below : List Overlay) → os ≡ o ∷ below → AreLaid base os → IsLaid (text_of_all base below) o
laid_newest base os o below os_is laid = let here : AreLaid base (o ∷ below) = subst (AreLaid base) os_is laid in here.0

pub laid_below : (base : List ℕ) (os : List Overlay) (o : Overlay) (below : List Overlay) → os ≡ o ∷ below → AreLaid base os → AreLaid base below
laid_below base os o below os_is laid = let here : AreLaid base (o ∷ below) = subst (AreLaid base) os_is laid in here.1

pub text_short : (s : List ℕ) (o : Overlay) → IsLaid s o → length o.text ≤ MAX_UNITS
text_short s o h = omega (arith, ap length h.puts_are, puts_short h.pieces h.tail, h.new_short)

pub none_tags : (base : List ℕ) (os : List Overlay) (us : List ℕ) (at to : ℕ) → os ≡ [] → us ≡ slice_range base at to → at < to → to ≤ length (text_of_all base os)
    → slice_range (tags_since base (tags_above base os)) at (at + length us) ≡ tagged_from at us
none_tags base os us at to none us_is order within = let fits : to ≤ length base = omega (arith, within, ap (λ (xs : List Overlay). length (text_of_all base xs)) none) in
    ap (λ (xs : List Overlay). slice_range (tags_since base (tags_above base xs)) at (at + length us)) none ∙ (ap (λ (vs : List ℕ). slice_range (tagged base) at (at + length vs)) us_is
    ∙ (base_stands base at to order fits ∙ ap (tagged_from at) (sym us_is)))

module _ (base : List ℕ) (os : List Overlay) (o : Overlay) (below : List Overlay) (os_is : os ≡ o ∷ below) where
  pub put_tags : (us : List ℕ) (at to from len : ℕ) → StandsIn (text_of_all base below) o at to (Put from len) → us ≡ slice_range o.text from (from + len)
      → slice_range (tags_since base (tags_above base os)) at (at + length us) ≡ untagged us
  put_tags us at to from len stands us_is =
      let g : Tagged = tags_of (text_of_all base below) o in
      let size : length us ≡ len = ap length us_is ∙ (length-slice o.text from (from + len) (omega arith) stands.2 ∙ omega arith) in
      ap (λ (xs : List Overlay). slice_range (tags_since base (tags_above base xs)) at (at + length us)) os_is
      ∙ put_stretch base g (tags_above base below) us at (ap (λ (n : ℕ). slice_range g at (at + n)) size ∙ (stands.3 ∙ ap untagged (sym us_is)))

  pub kept_tags : (us : List ℕ) (where_ : Option ℕ) (at to from len : ℕ) → StandsIn (text_of_all base below) o at to (Kept from len) → from + length us ≤ from + len
      → slice_range (tags_since base (tags_above base below)) from (from + length us) ≡ tags_at us where_
      → slice_range (tags_since base (tags_above base os)) at (at + length us) ≡ tags_at us where_
  kept_tags us where_ at to from len stands less is =
      ap (λ (xs : List Overlay). slice_range (tags_since base (tags_above base xs)) at (at + length us)) os_is
      ∙ kept_stretch base (tags_of (text_of_all base below) o) (tags_above base below) us where_ at from len (omega (arith, less)) stands.2 stands.3 is
