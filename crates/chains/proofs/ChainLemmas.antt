-- Layers follow the edits that made them.
use Rattle.std.proofs.Common.{◌≡◌, ℕ, suc, ◌+◌, ◌<◌, List, [], ◌∷◌, ◌++◌, length, take, drop, map, cond, ltb, Bool, true, false, Option, Some, None, refl, sym, ap, ◌∙◌, arith, append_assoc, length-append}
use Rattle.std.specs.List.{slice_get}
use Rattle.std.specs.Prelude.{option_and_then}
use Rattle.std.proofs.lemmas.List.{append-nil, take-map, drop-map}
use Rattle.std.proofs.lemmas.List.{map-append}
use Rattle.patch.specs.Tagged.{Tagged, tagged, tagged_from, untagged, units_of, edited, run}
use Rattle.chains.specs.Layered.{Edit, Layered, on_base, text_above, whole_text, retagged, tags_since, with_layer, changed_above, after_change, squashed, size_of, is_small, is_within}
use Rattle.chains.specs.Chain.{EditChain, edits_on, all_edits, text_of_edits, layers_of, layered, with_newest, joined_above, with_edits, squashed_edits}

run-append : (g : Tagged) (es fs : List Edit) → run g (es ++ fs) ≡ run (run g es) fs
run-append g [] fs = refl
run-append g (e ∷ es) fs = run-append (edited g e.0 e.1 e.2) es fs

units_base : (i : ℕ) (us : List ℕ) → units_of (tagged_from i us) ≡ us
units_base i [] = refl
units_base i (u ∷ us) = ap (λ (xs : List ℕ). u ∷ xs) (units_base (i + 1) us)

-- tags taken from f
abbrev tag_by : Tagged → ℕ × Option ℕ → ℕ × Option ℕ
tag_by f x = (x.0, option_and_then (λ (i : ℕ). option_and_then (λ (y : ℕ × Option ℕ). y.1) (slice_get f i)) x.1)

retag_untagged : (f : Tagged) (t : List ℕ) → retagged f (untagged t) ≡ untagged t
retag_untagged f [] = refl
retag_untagged f (u ∷ t) = ap (λ (g : Tagged). (u, None) ∷ g) (retag_untagged f t)

retag_edited : (f g : Tagged) (i j : ℕ) (t : List ℕ) → retagged f (edited g i j t) ≡ edited (retagged f g) i j t
retag_edited f g i j t = map-append (tag_by f) (take i g ++ untagged t) (drop j g)
    ∙ (ap (λ (x : Tagged). x ++ retagged f (drop j g)) (map-append (tag_by f) (take i g) (untagged t) ∙ ap (λ (x : Tagged). retagged f (take i g) ++ x) (retag_untagged f t))
    ∙ (ap (λ (x : Tagged). x ++ untagged t ++ retagged f (drop j g)) (sym (take-map (tag_by f) i g)) ∙ ap (λ (x : Tagged). take i (retagged f g) ++ untagged t ++ x) (sym (drop-map (tag_by f) j g))))

retag_run : (f g : Tagged) (es : List Edit) → retagged f (run g es) ≡ run (retagged f g) es
retag_run f g [] = refl
retag_run f g (e ∷ es) = retag_run f (edited g e.0 e.1 e.2) es ∙ ap (λ (x : Tagged). run x es) (retag_edited f g e.0 e.1 e.2)

get_behind : (a : Tagged) (x : ℕ × Option ℕ) (b : Tagged) → slice_get (a ++ x ∷ b) (length a) ≡ Some x
get_behind [] x b = refl
get_behind (y ∷ a) x b = get_behind a x b

retag_from : (a b : Tagged) (i : ℕ) → i ≡ length a → retagged (a ++ b) (tagged_from i (units_of b)) ≡ b
retag_from a [] i i_is = refl
retag_from a (x ∷ b) i i_is = ap (λ (y : Option ℕ). (x.0, y) ∷ retagged (a ++ x ∷ b) (tagged_from (i + 1) (units_of b))) (ap (λ (k : ℕ). option_and_then (λ (y : ℕ × Option ℕ). y.1) (slice_get (a ++ x ∷ b) k)) i_is
    ∙ ap (option_and_then (λ (y : ℕ × Option ℕ). y.1)) (get_behind a x b))
    ∙ ap (λ (g : Tagged). x ∷ g) (ap (λ (f : Tagged). retagged f (tagged_from (i + 1) (units_of b))) (sym (append_assoc a (x ∷ []) b)) ∙ retag_from (a ++ x ∷ []) b (i + 1) (sym (length-append a (x ∷ []) ∙ omega (arith, i_is))))

retag_self : (f : Tagged) → retagged f (tagged (units_of f)) ≡ f
retag_self f = retag_from [] f 0 refl

units_retagged : (f g : Tagged) → units_of (retagged f g) ≡ units_of g
units_retagged f [] = refl
units_retagged f (x ∷ g) = ap (λ (xs : List ℕ). x.0 ∷ xs) (units_retagged f g)

text_since : (base : List ℕ) (gs : List Tagged) → units_of (tags_since base gs) ≡ text_above base gs
text_since base [] = units_base 0 base
text_since base (g ∷ gs) = units_retagged (tags_since base gs) g

-- the newest text, tagged by the base, is all edits run on it
pub since_edits : (base : List ℕ) (ess : List (List Edit)) → tags_since base (layers_of base ess) ≡ run (tagged base) (all_edits ess)
since_edits base [] = refl
since_edits base (es ∷ ess) = retag_run f (tagged (text_above base (layers_of base ess))) es
    ∙ (ap (λ (t : List ℕ). run (retagged f (tagged t)) es) (sym (text_since base (layers_of base ess)))
    ∙ (ap (λ (x : Tagged). run x es) (retag_self f ∙ since_edits base ess) ∙ sym (run-append (tagged base) (all_edits ess) es)))
  where
    f : Tagged
    f = tags_since base (layers_of base ess)

pub text_edits : (base : List ℕ) (ess : List (List Edit)) → text_above base (layers_of base ess) ≡ text_of_edits (edits_on base ess)
text_edits base ess = sym (text_since base (layers_of base ess)) ∙ ap units_of (since_edits base ess)

layers_length : (base : List ℕ) (ess : List (List Edit)) → length (layers_of base ess) ≡ length ess
layers_length base [] = refl
layers_length base (es ∷ ess) = ap suc (layers_length base ess)

both_ways : {X Y : Type 0} (f : X → Y) (b : Bool) (x y : X) (x' y' : Y) → f x ≡ x' → f y ≡ y' → f (cond b x y) ≡ cond b x' y'
both_ways f true x y x' y' ex ey = ex
both_ways f false x y x' y' ex ey = ey

newest : (base : List ℕ) (ess : List (List Edit)) (es : List Edit) → layered (with_newest base ess es) ≡ with_layer base (layers_of base ess) es
newest base ess es = both_ways layered (ltb (1 + length ess) 8) _ _ _ _ refl (ap (λ (t : List ℕ). on_base t []) (sym (text_edits base (es ∷ ess))))
    ∙ ap (λ (n : ℕ). cond (ltb (1 + n) 8) (on_base base (g ∷ layers_of base ess)) (on_base (units_of g) [])) (sym (layers_length base ess))
  where
    g : Tagged
    g = run (tagged (text_above base (layers_of base ess))) es

pub follows_change : (base : List ℕ) (ess : List (List Edit)) (es : List Edit) → layered (joined_above base ess es) ≡ changed_above base (layers_of base ess) es
follows_change base [] es = newest base [] es
follows_change base (e ∷ ess) es = both_ways layered (is_small (size_of t (run (tagged t) e))) _ _ _ _ (ap (λ (g : Tagged). on_base base (g ∷ layers_of base ess)) (run-append (tagged t) e es)) (newest base (e ∷ ess) es)
  where
    t : List ℕ
    t = text_above base (layers_of base ess)

pub follows_squash : (base : List ℕ) (ess : List (List Edit)) → layered (squashed_edits (edits_on base ess)) ≡ squashed (layered (edits_on base ess))
follows_squash base ess = both_ways layered (is_within 512 65536 (size_of base (run (tagged base) (all_edits ess)))) _ _ _ _ refl (ap (λ (t : List ℕ). on_base t []) (sym (text_edits base ess)))
    ∙ ap (λ (g : Tagged). cond (is_within 512 65536 (size_of base g)) (on_base base (g ∷ [])) (on_base (text_above base (layers_of base ess)) [])) (sym (since_edits base ess))
