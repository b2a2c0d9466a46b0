-- What stretches make, laid out with coordinates that count no further than a greatest number, and that it is a patch.
use Rattle.std.proofs.Common.{◌≡◌, ℕ, suc, ◌+◌, ◌-◌, ◌^◌, ◌<◌, ◌≤◌, ◌&&◌, ◌||◌, ◌⊎◌, List, [], ◌∷◌, ◌++◌, length, drop, get_or, map, min, cond, eqb, ltb, Bool, true, false, Option, None, refl, sym, ap, ◌∙◌, subst, inl, inr, arith}
use Rattle.std.specs.Option.{option_or}
use Rattle.std.proofs.lemmas.List.{append-nil, drop_more, map-append}
use Rattle.std.proofs.lemmas.Bool.{and_parts, and_from, and_left, and_right, ne_eqb}
use Rattle.std.proofs.lemmas.Bool.Decides.{nat_tests}
use Rattle.points.specs.declared.point.Point.{Point}
use Rattle.points.specs.Point.{origin, point_le, traverse, traversal}
use Rattle.points.specs.Place.{extent, same_point}
use Rattle.points.proofs.CapLemmas.{capped_behind, far_capped, near_capped}
use Rattle.points.proofs.PointLemmas.{same_coordinates, same_point-refl, traverse_assoc, traverse_origin, traversal-traverse, point_le-traverse, at_row_column}
use Rattle.points.specs.Distance.{capped, is_far, traverse_capped}
use Rattle.patch.specs.Hunk.{Hunk, hunk_of, hunks_of}
use Rattle.patch.specs.ChangeList.{reaches_far, fault_from, fault_of, IsPatch}
use Rattle.patch.specs.Stretches.{Part, change_by, laid_by, laid, any_far}
use Rattle.patch.specs.declared.change.Change.{Change}
use Rattle.patch.specs.declared.refusal.ListRefusal.{ListRefusal}
use Rattle.patch.proofs.ListLemmas.{IsSound, fault_none}
use Rattle.patch.proofs.SortLemmas.{ordered_all}
use Rattle.patch.proofs.PatchPieces.{hunk_with, hunk_between}

-- one change more was tested
pub far_next : (cs : List Change) (i : ℕ) (c : Change) → i < length cs → c ≡ get_or cs i c → any_far (hunks_of (drop i cs)) ≡ (reaches_far (hunk_of c) || any_far (hunks_of (drop (i + 1) cs)))
far_next cs i c within is = ap (λ (xs : List Change). any_far (hunks_of xs)) (drop_more cs i c within) ∙ ap (λ (x : Change). reaches_far (hunk_of x) || any_far (hunks_of (drop (i + 1) cs))) (sym is)

-- a change with such coordinates
abbrev pub capped_hunk : Hunk → Hunk
capped_hunk h = hunk_with (capped h.old_start) (capped h.old_end) (capped h.new_start) (capped h.new_end) h.old_text h.new_text

change_capped : (a b : Point) (old new : List ℕ) → change_by traverse_capped (capped a) (capped b) old new ≡ map capped_hunk (change_by traverse a b old new)
change_capped a b old new = at_test (eqb (length old) 0 && eqb (length new) 0)
  where
    at_test : (none : Bool) → cond none [] (hunk_with (capped a) (traverse_capped (capped a) (extent old)) (capped b) (traverse_capped (capped b) (extent new)) old new ∷ [])
        ≡ map capped_hunk (cond none [] (hunk_between a b old new ∷ []))
    at_test true = refl
    at_test false = ap (λ (x : Point). hunk_with (capped a) x (capped b) (traverse_capped (capped b) (extent new)) old new ∷ []) (capped_behind a (extent old))
        ∙ ap (λ (x : Point). hunk_with (capped a) (capped (traverse a (extent old))) (capped b) x old new ∷ []) (capped_behind b (extent new))

capped_behind_kept : (a e k : Point) → traverse_capped (traverse_capped (capped a) e) k ≡ capped (traverse (traverse a e) k)
capped_behind_kept a e k = ap (λ (x : Point). traverse_capped x k) (capped_behind a e) ∙ capped_behind (traverse a e) k

-- laid out with such coordinates, the changes are the same but for these
pub laid_capped : (a b : Point) (old new : List ℕ) (ps : List Part) → laid_by traverse_capped (capped a) (capped b) old new ps ≡ map capped_hunk (laid_by traverse a b old new ps)
laid_capped a b old new [] = change_capped a b old new
laid_capped a b old new (p ∷ ps) =
    at_kept (same_point p.kept origin) (laid_capped a b (old ++ p.old_text) (new ++ p.new_text) ps) (laid_capped (traverse (traverse a (extent old)) p.kept) (traverse (traverse b (extent new)) p.kept) p.old_text p.new_text ps)
  where
    at_kept : (none : Bool) → laid_by traverse_capped (capped a) (capped b) (old ++ p.old_text) (new ++ p.new_text) ps ≡ map capped_hunk (laid_by traverse a b (old ++ p.old_text) (new ++ p.new_text) ps)
        → laid_by traverse_capped (capped (traverse (traverse a (extent old)) p.kept)) (capped (traverse (traverse b (extent new)) p.kept)) p.old_text p.new_text ps
        ≡ map capped_hunk (laid_by traverse (traverse (traverse a (extent old)) p.kept) (traverse (traverse b (extent new)) p.kept) p.old_text p.new_text ps)
        → cond none (laid_by traverse_capped (capped a) (capped b) (old ++ p.old_text) (new ++ p.new_text) ps)
        (change_by traverse_capped (capped a) (capped b) old new ++ laid_by traverse_capped (traverse_capped (traverse_capped (capped a) (extent old)) p.kept) (traverse_capped (traverse_capped (capped b) (extent new)) p.kept) p.old_text p.new_text ps)
        ≡ map capped_hunk (cond none (laid_by traverse a b (old ++ p.old_text) (new ++ p.new_text) ps)
        (change_by traverse a b old new ++ laid_by traverse (traverse (traverse a (extent old)) p.kept) (traverse (traverse b (extent new)) p.kept) p.old_text p.new_text ps))
    at_kept true joins apart = joins
    at_kept false joins apart =
        ap (λ (x : Point). change_by traverse_capped (capped a) (capped b) old new ++ laid_by traverse_capped x (traverse_capped (traverse_capped (capped b) (extent new)) p.kept) p.old_text p.new_text ps) (capped_behind_kept a (extent old) p.kept)
        ∙ (ap (λ (x : Point). change_by traverse_capped (capped a) (capped b) old new ++ laid_by traverse_capped (capped (traverse (traverse a (extent old)) p.kept)) x p.old_text p.new_text ps) (capped_behind_kept b (extent new) p.kept)
        ∙ (ap (λ (hs : List Hunk). hs ++ laid_by traverse_capped (capped (traverse (traverse a (extent old)) p.kept)) (capped (traverse (traverse b (extent new)) p.kept)) p.old_text p.new_text ps) (change_capped a b old new)
        ∙ (ap (λ (hs : List Hunk). map capped_hunk (change_by traverse a b old new) ++ hs) apart
        ∙ sym (map-append capped_hunk (change_by traverse a b old new) (laid_by traverse (traverse (traverse a (extent old)) p.kept) (traverse (traverse b (extent new)) p.kept) p.old_text p.new_text ps)))))

reaches_capped : (h : Hunk) → reaches_far (capped_hunk h) ≡ reaches_far h
reaches_capped h = ap (λ (x : Bool). x || is_far (capped h.old_end) || is_far (capped h.new_start) || is_far (capped h.new_end)) (far_capped h.old_start)
    ∙ (ap (λ (x : Bool). is_far h.old_start || x || is_far (capped h.new_start) || is_far (capped h.new_end)) (far_capped h.old_end)
    ∙ (ap (λ (x : Bool). is_far h.old_start || is_far h.old_end || x || is_far (capped h.new_end)) (far_capped h.new_start)
    ∙ ap (λ (x : Bool). is_far h.old_start || is_far h.old_end || is_far h.new_start || x) (far_capped h.new_end)))

none_of : (x y : Bool) → (x || y) ≡ false → (x ≡ false) × (y ≡ false)
none_of true y h = cc
none_of false y h = (refl, h)

near_hunk : (h : Hunk) → reaches_far h ≡ false → capped_hunk h ≡ h
near_hunk h near = let p3 = none_of (is_far h.old_start || is_far h.old_end || is_far h.new_start) (is_far h.new_end) near in
    let p2 = none_of (is_far h.old_start || is_far h.old_end) (is_far h.new_start) p3.0 in
    let p1 = none_of (is_far h.old_start) (is_far h.old_end) p2.0 in
    ap (λ (x : Point). hunk_with x (capped h.old_end) (capped h.new_start) (capped h.new_end) h.old_text h.new_text) (near_capped h.old_start p1.0)
    ∙ (ap (λ (x : Point). hunk_with h.old_start x (capped h.new_start) (capped h.new_end) h.old_text h.new_text) (near_capped h.old_end p1.1)
    ∙ (ap (λ (x : Point). hunk_with h.old_start h.old_end x (capped h.new_end) h.old_text h.new_text) (near_capped h.new_start p2.1)
    ∙ ap (λ (x : Point). hunk_with h.old_start h.old_end h.new_start x h.old_text h.new_text) (near_capped h.new_end p3.1)))

pub any_far_capped : (hs : List Hunk) → any_far (map capped_hunk hs) ≡ any_far hs
any_far_capped [] = refl
any_far_capped (h ∷ hs) = ap (λ (x : Bool). x || any_far (map capped_hunk hs)) (reaches_capped h) ∙ ap (λ (x : Bool). reaches_far h || x) (any_far_capped hs)

pub near_list : (hs : List Hunk) → any_far hs ≡ false → map capped_hunk hs ≡ hs
near_list [] near = refl
near_list (h ∷ hs) near = let parts = none_of (reaches_far h) (any_far hs) near in ap (λ (x : Hunk). x ∷ map capped_hunk hs) (near_hunk h parts.0) ∙ ap (λ (xs : List Hunk). h ∷ xs) (near_list hs parts.1)

-- a change behind these ends, with something kept before it where it isn't the first
apart_from : (a g : Point) → same_point g origin ≡ false → same_point (traverse a g) a ≡ false
apart_from a g some = grind (arith, nat_tests)

same_reach : (p q g : Point) → p ≡ g → q ≡ g → same_point p q ≡ true
same_reach p q g e f = subst (λ (x : Point). same_point p x ≡ true) (sym f) (subst (λ (x : Point). same_point x g ≡ true) (sym e) (same_point-refl g))

abbrev IsApart : ℕ → Point → Type 0
IsApart at g = (at ≡ 0) ⊎ (same_point g origin ≡ false)

one_sound : (at : ℕ) (a b g : Point) (old new : List ℕ) → IsApart at g → (eqb (length old) 0 && eqb (length new) 0) ≡ false → reaches_far (hunk_between (traverse a g) (traverse b g) old new) ≡ false → at < 2 ^ 24
    → IsSound at a b (hunk_between (traverse a g) (traverse b g) old new)
one_sound at a b g old new apart some near few = record {
  behind = and_from (point_le a (traverse a g)) (point_le b (traverse b g)) (point_le-traverse a g) (point_le-traverse b g);
  apart = elim apart [
    | inl first ↦ and_left (ltb 0 at) (same_point (traverse a g) a) (ap (ltb 0) first)
    | inr kept ↦ and_right (ltb 0 at) (same_point (traverse a g) a) (apart_from a g kept)
  ];
  extents = and_from (same_point (traversal (traverse a g) a) (traversal (traverse b g) b) && same_point (extent old) (traversal (traverse (traverse a g) (extent old)) (traverse a g))) (same_point (extent new) (traversal (traverse (traverse b g) (extent new)) (traverse b g)))
      (and_from (same_point (traversal (traverse a g) a) (traversal (traverse b g) b)) (same_point (extent old) (traversal (traverse (traverse a g) (extent old)) (traverse a g)))
      (same_reach (traversal (traverse a g) a) (traversal (traverse b g) b) g (traversal-traverse a g) (traversal-traverse b g))
      (same_reach (extent old) (traversal (traverse (traverse a g) (extent old)) (traverse a g)) (extent old) refl (traversal-traverse (traverse a g) (extent old))))
      (same_reach (extent new) (traversal (traverse (traverse b g) (extent new)) (traverse b g)) (extent new) refl (traversal-traverse (traverse b g) (extent new)));
  some_units = some;
  near = near;
  few = ne_eqb at (2 ^ 24) (λ e. too_many e);
}
  where
    too_many : at ≡ 2 ^ 24 → ⊥
    too_many e = omega arith

-- the changes behind one that is made, or that isn't
abbrev IsRest : ℕ → Point → Point → List Hunk → Type 0
IsRest at a b hs = any_far hs ≡ false → at + length hs ≤ 2 ^ 24 → fault_from at a b hs ≡ None

some_kept : (g k : Point) → same_point k origin ≡ false → same_point (traverse g k) origin ≡ false
some_kept g k some = grind (arith, nat_tests)

made_before : (at : ℕ) (a b g : Point) (old new : List ℕ) (hs : List Hunk) (none : Bool) → IsApart at g → (eqb (length old) 0 && eqb (length new) 0) ≡ none
    → (none ≡ true → IsRest at a b hs) → (none ≡ false → IsRest (at + 1) (traverse (traverse a g) (extent old)) (traverse (traverse b g) (extent new)) hs)
    → IsRest at a b (cond none [] (hunk_between (traverse a g) (traverse b g) old new ∷ []) ++ hs)
made_before at a b g old new hs true apart test goes stays near few = goes refl near few
made_before at a b g old new hs false apart test goes stays near few = let h : Hunk = hunk_between (traverse a g) (traverse b g) old new in
    let parts = none_of (reaches_far h) (any_far hs) near in
    ap (λ (x : Option ListRefusal). option_or x (fault_from (at + 1) h.old_end h.new_end hs)) (fault_none at a b h (one_sound at a b g old new apart test parts.0 (omega arith))) ∙ stays refl parts.1 (omega arith)

empty : (t : List ℕ) → length t ≡ 0 → t ≡ []
empty [] h = refl
empty (u ∷ us) h = absurd (omega arith)

no_text : (t : List ℕ) → eqb (length t) 0 ≡ true → t ≡ []
no_text t h = empty t (grind (arith, nat_tests))

pub laid_rules : (at : ℕ) (a b g : Point) (old new : List ℕ) (ps : List Part) → IsApart at g → IsRest at a b (laid_by traverse (traverse a g) (traverse b g) old new ps)
laid_rules at a b g old new [] apart = subst (IsRest at a b) (append-nil (change_by traverse (traverse a g) (traverse b g) old new))
    (made_before at a b g old new [] (eqb (length old) 0 && eqb (length new) 0) apart refl (λ e near few. refl) (λ e near few. refl))
laid_rules at a b g old new (p ∷ ps) apart = at_kept (same_point p.kept origin) refl
    (laid_rules at a b g (old ++ p.old_text) (new ++ p.new_text) ps apart)
    (λ some. laid_rules at a b (traverse g p.kept) p.old_text p.new_text ps (inr (some_kept g p.kept some)))
    (λ some. laid_rules (at + 1) (traverse (traverse a g) (extent old)) (traverse (traverse b g) (extent new)) p.kept p.old_text p.new_text ps (inr some))
  where
    led : (x : Point) (t : List ℕ) → eqb (length t) 0 ≡ true → traverse (traverse (traverse x g) (extent t)) p.kept ≡ traverse x (traverse g p.kept)
    led x t none = ap (λ (us : List ℕ). traverse (traverse (traverse x g) (extent us)) p.kept) (no_text t none) ∙ (ap (λ (y : Point). traverse y p.kept) (traverse_origin (traverse x g)) ∙ traverse_assoc x g p.kept)

    at_kept : (none : Bool) → same_point p.kept origin ≡ none → IsRest at a b (laid_by traverse (traverse a g) (traverse b g) (old ++ p.old_text) (new ++ p.new_text) ps)
        → (same_point p.kept origin ≡ false → IsRest at a b (laid_by traverse (traverse a (traverse g p.kept)) (traverse b (traverse g p.kept)) p.old_text p.new_text ps))
        → (same_point p.kept origin ≡ false → IsRest (at + 1) (traverse (traverse a g) (extent old)) (traverse (traverse b g) (extent new)) (laid_by traverse (traverse (traverse (traverse a g) (extent old)) p.kept) (traverse (traverse (traverse b g) (extent new)) p.kept) p.old_text p.new_text ps))
        → IsRest at a b (cond none (laid_by traverse (traverse a g) (traverse b g) (old ++ p.old_text) (new ++ p.new_text) ps)
        (change_by traverse (traverse a g) (traverse b g) old new ++ laid_by traverse (traverse (traverse (traverse a g) (extent old)) p.kept) (traverse (traverse (traverse b g) (extent new)) p.kept) p.old_text p.new_text ps))
    at_kept true e joins goes stays = joins
    at_kept false e joins goes stays =
        made_before at a b g old new (laid_by traverse (traverse (traverse (traverse a g) (extent old)) p.kept) (traverse (traverse (traverse b g) (extent new)) p.kept) p.old_text p.new_text ps) (eqb (length old) 0 && eqb (length new) 0) apart refl
        (λ none. let both = and_parts (eqb (length old) 0) (eqb (length new) 0) none in
        subst (λ (x : Point). IsRest at a b (laid_by traverse x (traverse (traverse (traverse b g) (extent new)) p.kept) p.old_text p.new_text ps)) (sym (led a old both.0))
        (subst (λ (x : Point). IsRest at a b (laid_by traverse (traverse a (traverse g p.kept)) x p.old_text p.new_text ps)) (sym (led b new both.1)) (goes e)))
        (λ some. stays e)

-- what stretches make breaks no rule but those of coordinates and number
pub laid_sound : (ps : List Part) → any_far (laid ps) ≡ false → length (laid ps) ≤ 2 ^ 24 → fault_of (laid ps) ≡ None
laid_sound ps near few = laid_rules 0 origin origin origin [] [] ps (inl refl) near (omega arith)

mapped_length : {X Y : Type 0} (f : X → Y) (xs : List X) → length (map f xs) ≡ length xs
mapped_length f [] = refl
mapped_length f (x ∷ xs) = ap suc (mapped_length f xs)

-- changes laid out with capped coordinates, against those with their own
pub record IsLaid (hs : List Hunk) (ps : List Part) : Type 0 where
  pub far : any_far hs ≡ any_far (laid ps)
  pub count : length hs ≡ length (laid ps)
  pub same : any_far (laid ps) ≡ false → hs ≡ laid ps

pub is_laid : (hs : List Hunk) (ps : List Part) → hs ≡ laid_by traverse_capped origin origin [] [] ps → IsLaid hs ps
is_laid hs ps made = record {
  far = ap any_far whole ∙ any_far_capped (laid ps);
  count = ap length whole ∙ mapped_length capped_hunk (laid ps);
  same = λ near. whole ∙ near_list (laid ps) near;
}
  where
    whole : hs ≡ map capped_hunk (laid ps)
    whole = made ∙ laid_capped origin origin [] [] ps

pub too_many_laid : (cs : List Change) (ps : List Part) → hunks_of cs ≡ laid_by traverse_capped origin origin [] [] ps → 2 ^ 24 < length cs → 2 ^ 24 < length (laid ps)
too_many_laid cs ps made many = omega (arith, (is_laid (hunks_of cs) ps made).count, mapped_length hunk_of cs)

-- where none reaches far and they aren't too many, they are a patch
pub patch_laid : (cs : List Change) (ps : List Part) → hunks_of cs ≡ laid_by traverse_capped origin origin [] [] ps → any_far (hunks_of cs) ≡ false → length cs ≤ 2 ^ 24
    → (hunks_of cs ≡ laid ps) × IsPatch (hunks_of cs)
patch_laid cs ps made tested few = let laid_out = is_laid (hunks_of cs) ps made in let near : any_far (laid ps) ≡ false = sym laid_out.far ∙ tested in let same = laid_out.same near in
    (same, (subst (λ (hs : List Hunk). fault_of hs ≡ None) (sym same) (laid_sound ps near (omega (arith, laid_out.count, mapped_length hunk_of cs))), ordered_all cs))
