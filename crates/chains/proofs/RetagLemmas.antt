-- Texts tagged anew: what a layer keeps of the text below has the offsets of that text.
use Rattle.std.proofs.Common.{◌≡◌, ℕ, zero, suc, ◌+◌, ◌-◌, ◌≤◌, List, [], ◌∷◌, ◌++◌, length, take, drop, map, slice_range, slice_get, option_and_then, Option, Some, None, refl, sym, ap, ◌∙◌, arith, append_assoc, length-append}
use Rattle.std.proofs.lemmas.List.{append-nil, take-append-drop, length-take, length-drop}
use Rattle.patch.specs.Tagged.{Tagged, tagged_from, tagged, untagged, units_of}
use Rattle.chains.specs.Layered.{text_above, retagged, tags_since}
use Rattle.chains.proofs.StandLemmas.{slice-tagged}

abbrev pub retag : Tagged → ℕ × Option ℕ → ℕ × Option ℕ
retag f x = (x.0, option_and_then (λ (i : ℕ). option_and_then (λ (y : ℕ × Option ℕ). y.1) (slice_get f i)) x.1)

pub drop-map : {X Y : Type 0} (f : X → Y) (n : ℕ) (xs : List X) → drop n (map f xs) ≡ map f (drop n xs)
drop-map f zero xs = refl
drop-map f (suc n) [] = refl
drop-map f (suc n) (x ∷ xs) = drop-map f n xs

pub take_of_map : {X Y : Type 0} (f : X → Y) (n : ℕ) (xs : List X) → take n (map f xs) ≡ map f (take n xs)
take_of_map f zero xs = refl
take_of_map f (suc n) [] = refl
take_of_map {X} {Y} f (suc n) (x ∷ xs) = ap (λ (ys : List Y). f x ∷ ys) (take_of_map f n xs)

pub slice-map : {X Y : Type 0} (f : X → Y) (xs : List X) (i j : ℕ) → slice_range (map f xs) i j ≡ map f (slice_range xs i j)
slice-map f xs i j = ap (take (j - i)) (drop-map f i xs) ∙ take_of_map f (j - i) (drop i xs)

-- new units stay new
pub retag_new : (f : Tagged) (us : List ℕ) → retagged f (untagged us) ≡ untagged us
retag_new f [] = refl
retag_new f (u ∷ us) = ap (λ (g : Tagged). (u, None) ∷ g) (retag_new f us)

got_behind : (front : Tagged) (x : ℕ × Option ℕ) (rest : Tagged) → slice_get (front ++ x ∷ rest) (length front) ≡ Some x
got_behind [] x rest = refl
got_behind (y ∷ front) x rest = got_behind front x rest

retag_behind : (f front mid rest : Tagged) → f ≡ front ++ (mid ++ rest) → retagged f (tagged_from (length front) (units_of mid)) ≡ mid
retag_behind f front [] rest f_is = refl
retag_behind f front (x ∷ mid) rest f_is =
    ap (λ (o : Option (ℕ × Option ℕ)). (x.0, option_and_then (λ (y : ℕ × Option ℕ). y.1) o) ∷ retagged f (tagged_from (length front + 1) (units_of mid))) (ap (λ (g : Tagged). slice_get g (length front)) f_is ∙ got_behind front x (mid ++ rest))
    ∙ ap (λ (g : Tagged). x ∷ g) (ap (λ (n : ℕ). retagged f (tagged_from n (units_of mid))) one_more ∙ retag_behind f (front ++ x ∷ []) mid rest (f_is ∙ sym (append_assoc front (x ∷ []) (mid ++ rest))))
  where
    one_more : length front + 1 ≡ length (front ++ x ∷ [])
    one_more = sym (length-append front (x ∷ []))

-- what is kept of the text of f has f's own tags
pub retag_kept : (f : Tagged) (k n : ℕ) → k + n ≤ length f → retagged f (tagged_from k (slice_range (units_of f) k (k + n))) ≡ slice_range f k (k + n)
retag_kept f k n within =
    ap (λ (us : List ℕ). retagged f (tagged_from k us)) (slice-map (λ (x : ℕ × Option ℕ). x.0) f k (k + n))
    ∙ (ap (λ (m : ℕ). retagged f (tagged_from m (units_of (slice_range f k (k + n))))) (sym front_is)
    ∙ retag_behind f (take k f) (slice_range f k (k + n)) (drop (k + n - k) (drop k f)) (sym (take-append-drop k f) ∙ ap (λ (g : Tagged). take k f ++ g) (sym (take-append-drop (k + n - k) (drop k f)))))
  where
    front_is : length (take k f) ≡ k
    front_is = length-take k f ∙ omega (arith, within)

pub units_tagged : (i : ℕ) (us : List ℕ) → units_of (tagged_from i us) ≡ us
units_tagged i [] = refl
units_tagged i (u ∷ us) = ap (λ (xs : List ℕ). u ∷ xs) (units_tagged (i + 1) us)

pub units_untagged : (us : List ℕ) → units_of (untagged us) ≡ us
units_untagged [] = refl
units_untagged (u ∷ us) = ap (λ (xs : List ℕ). u ∷ xs) (units_untagged us)

pub units_retagged : (f g : Tagged) → units_of (retagged f g) ≡ units_of g
units_retagged f [] = refl
units_retagged f (x ∷ g) = ap (λ (xs : List ℕ). x.0 ∷ xs) (units_retagged f g)

-- the tags since the base are those of the text
pub units_since : (base : List ℕ) (gs : List Tagged) → units_of (tags_since base gs) ≡ text_above base gs
units_since base [] = units_tagged 0 base
units_since base (g ∷ gs) = units_retagged (tags_since base gs) g
