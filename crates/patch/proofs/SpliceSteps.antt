-- The change that a replacement makes, put in its place: the limits that the changes then pass, and the changes behind it, moved one by one.
use Rattle.std.proofs.Common.{◌≡◌, ℕ, suc, zero, ◌+◌, ◌-◌, ◌<◌, ◌≤◌, ◌^◌, ◌==◌, List, [], ◌∷◌, ◌++◌, length, take, drop, get_or, set, map, cond, ltb, min, Bool, true, false, not, ◌&&◌, ◌||◌, Option, None, refl, sym, ap, ◌∙◌, subst, inl, inr, arith, append_assoc, length-append, length-drop}
use Rattle.std.specs.Prelude.{MatchOption}
use Rattle.std.specs.List.{All}
use Rattle.std.proofs.lemmas.List.{drop_at, take_at, drop-drop, length-map, map-append, take-map, drop-map, length-take-le, take_more_set}
use Rattle.std.proofs.lemmas.List.Elements.{All-nil, All-cons, All-head, All-tail}
use Rattle.std.proofs.lemmas.Bool.{cases_Bool, and_parts, eqb-true}
use Rattle.std.proofs.lemmas.Bool.Decides.{nat_tests}
use Rattle.points.specs.declared.point.Point.{Point}
use Rattle.points.specs.Point.{origin, point_le, traverse, traversal}
use Rattle.points.specs.Place.{extent}
use Rattle.points.proofs.PointLemmas.{same_coordinates, at_row_column, traverse_origin}
use Rattle.points.specs.Distance.{capped, is_far}
use Rattle.patch.specs.Hunk.{Hunk, hunk_of, hunks_of}
use Rattle.patch.specs.ChangeList.{reaches_far, fault_at, fault_from, IsOrdered, IsPatch}
use Rattle.patch.specs.Stretches.{any_far, Refuses}
use Rattle.patch.specs.Spliced.{change_at, moved_hunk, spliced}
use Rattle.patch.specs.Splicing.{KeepsLimits}
use Rattle.patch.specs.Joints.{Joins, is_empty_joint, is_far_joint, joint_change, joint_list}
use Rattle.patch.specs.declared.change.Change.{Change}
use Rattle.patch.specs.declared.joint.Joint.{Joint}
use Rattle.patch.specs.declared.refusal.PatchRefusal.{PatchRefusal}
use Rattle.patch.specs.declared.refusal.PatchRefusal.TheVariants as refusal
use Rattle.patch.proofs.ListLemmas.{sound_from, both_none}
use Rattle.patch.proofs.PatchPieces.{hunk_with}
use Rattle.patch.proofs.AbsorbSteps.{hunks_next}

pub or_parts : (x y : Bool) → (x || y) ≡ false → (x ≡ false) × (y ≡ false)
or_parts true y e = cc
or_parts false y e = (refl, e)

or_false : (x : Bool) → (x || false) ≡ x
or_false true = refl
or_false false = refl

pub any_far-append : (xs ys : List Hunk) → any_far (xs ++ ys) ≡ (any_far xs || any_far ys)
any_far-append [] ys = refl
any_far-append (x ∷ xs) ys = ap (λ (b : Bool). reaches_far x || b) (any_far-append xs ys) ∙ sym (or_assoc (reaches_far x) (any_far xs) (any_far ys))
  where
    or_assoc : (a b c : Bool) → ((a || b) || c) ≡ (a || (b || c))
    or_assoc true b c = refl
    or_assoc false b c = refl

-- no coordinate of a patch passes the greatest one
near_from : (at : ℕ) (a b : Point) (hs : List Hunk) → fault_from at a b hs ≡ None → any_far hs ≡ false
near_from at a b [] none = refl
near_from at a b (h ∷ hs) none = let parts = both_none (fault_at at a b h) (fault_from (at + 1) h.old_end h.new_end hs) none in
    ap (λ (x : Bool). x || any_far hs) (sound_from at a b h parts.0).near ∙ near_from (at + 1) h.old_end h.new_end hs parts.1

pub near_patch : (hs : List Hunk) → IsPatch hs → any_far hs ≡ false
near_patch hs is_patch = near_from 0 origin origin hs is_patch.0

pub near_drop : (n : ℕ) (hs : List Hunk) → any_far hs ≡ false → any_far (drop n hs) ≡ false
near_drop zero hs near = near
near_drop (suc n) [] near = near
near_drop (suc n) (h ∷ hs) near = near_drop n hs (or_parts (reaches_far h) (any_far hs) near).1

near_take : (n : ℕ) (hs : List Hunk) → any_far hs ≡ false → any_far (take n hs) ≡ false
near_take zero hs near = refl
near_take (suc n) [] near = near
near_take (suc n) (h ∷ hs) near = let parts = or_parts (reaches_far h) (any_far hs) near in ap (λ (x : Bool). x || any_far (take n hs)) parts.0 ∙ near_take n hs parts.1

-- a moved change's old side stays
moved_far : (from to : Point) (h : Hunk) → reaches_far h ≡ false → reaches_far (moved_hunk from to h) ≡ (is_far (traverse to (traversal h.new_start from)) || is_far (traverse to (traversal h.new_end from)))
moved_far from to h near =
    let p1 = or_parts ((is_far h.old_start || is_far h.old_end) || is_far h.new_start) (is_far h.new_end) near in
    let p2 = or_parts (is_far h.old_start || is_far h.old_end) (is_far h.new_start) p1.0 in
    ap (λ (x : Bool). (x || is_far (traverse to (traversal h.new_start from))) || is_far (traverse to (traversal h.new_end from))) p2.0

pub far_step : (cs : List Change) (at : ℕ) (c : Change) → at < length cs → c ≡ get_or cs at c → (from to : Point) → any_far (hunks_of (drop at cs)) ≡ false
    → any_far (map (moved_hunk from to) (hunks_of (drop at cs)))
    ≡ ((is_far (traverse to (traversal c.new_range.start from)) || is_far (traverse to (traversal c.new_range.end from))) || any_far (map (moved_hunk from to) (hunks_of (drop (at + 1) cs))))
far_step cs at c within is from to near = ap (λ (hs : List Hunk). any_far (map (moved_hunk from to) hs)) (hunks_next cs at c within is)
    ∙ ap (λ (x : Bool). x || any_far (map (moved_hunk from to) (hunks_of (drop (at + 1) cs)))) (moved_far from to (hunk_of c)
    (or_parts (reaches_far (hunk_of c)) (any_far (hunks_of (drop (at + 1) cs))) (sym (ap any_far (hunks_next cs at c within is)) ∙ near)).0)

pub near_next : (cs : List Change) (at : ℕ) (c : Change) → at < length cs → c ≡ get_or cs at c → any_far (hunks_of (drop at cs)) ≡ false → any_far (hunks_of (drop (at + 1) cs)) ≡ false
near_next cs at c within is near = (or_parts (reaches_far (hunk_of c)) (any_far (hunks_of (drop (at + 1) cs))) (sym (ap any_far (hunks_next cs at c within is)) ∙ near)).1

-- points that are capped
module _ (m k : ℕ) (less : k < m) where
  cap_far : (p : Point) → (ltb k (cond (ltb m p.row) (at_row_column m m) (at_row_column p.row (min p.column m))).row || ltb k (cond (ltb m p.row) (at_row_column m m) (at_row_column p.row (min p.column m))).column) ≡ (ltb k p.row || ltb k p.column)
  cap_far p = grind (arith, nat_tests)

  cap_near : (p : Point) → p.row ≤ k → p.column ≤ k → cond (ltb m p.row) (at_row_column m m) (at_row_column p.row (min p.column m)) ≡ p
  cap_near p rows columns = same_coordinates (cond (ltb m p.row) (at_row_column m m) (at_row_column p.row (min p.column m))) p (grind (arith, nat_tests)) (grind (arith, nat_tests))

  cap_way : (p f : Point) → p.row ≤ k → p.column ≤ k → traversal p (cond (ltb m f.row) (at_row_column m m) (at_row_column f.row (min f.column m))) ≡ traversal p f
  cap_way p f rows columns = same_coordinates (traversal p (cond (ltb m f.row) (at_row_column m m) (at_row_column f.row (min f.column m)))) (traversal p f) (grind (arith, nat_tests)) (grind (arith, nat_tests))

pub far_capped : (p : Point) → is_far (capped p) ≡ is_far p
far_capped p = cap_far (2 ^ 32 - 1) (2 ^ 30) (omega arith) p

near_number : (n : ℕ) → ltb (2 ^ 30) n ≡ false → n ≤ 2 ^ 30
near_number n near = grind (arith, nat_tests)

pub near_capped : (p : Point) → is_far p ≡ false → capped p ≡ p
near_capped p near = let parts = or_parts (ltb (2 ^ 30) p.row) (ltb (2 ^ 30) p.column) near in
    cap_near (2 ^ 32 - 1) (2 ^ 30) (omega arith) p (near_number p.row parts.0) (near_number p.column parts.1)

pub traversal_capped : (p f : Point) → is_far p ≡ false → traversal p (capped f) ≡ traversal p f
traversal_capped p f near = let parts = or_parts (ltb (2 ^ 30) p.row) (ltb (2 ^ 30) p.column) near in
    cap_way (2 ^ 32 - 1) (2 ^ 30) (omega arith) p f (near_number p.row parts.0) (near_number p.column parts.1)

moved_capped : (f t : Point) (hs : List Hunk) → any_far hs ≡ false → map (moved_hunk (capped f) t) hs ≡ map (moved_hunk f t) hs
moved_capped f t [] near = refl
moved_capped f t (h ∷ hs) near =
    let parts = or_parts (reaches_far h) (any_far hs) near in
    let ends = or_parts ((is_far h.old_start || is_far h.old_end) || is_far h.new_start) (is_far h.new_end) parts.0 in
    let starts = or_parts (is_far h.old_start || is_far h.old_end) (is_far h.new_start) ends.0 in
    ap (λ (x : Point). hunk_with h.old_start h.old_end (traverse t x) (traverse t (traversal h.new_end (capped f))) h.old_text h.new_text ∷ map (moved_hunk (capped f) t) hs) (traversal_capped h.new_start f starts.1)
    ∙ (ap (λ (x : Point). hunk_with h.old_start h.old_end (traverse t (traversal h.new_start f)) (traverse t x) h.old_text h.new_text ∷ map (moved_hunk (capped f) t) hs) (traversal_capped h.new_end f ends.1)
    ∙ ap (λ (xs : List Hunk). moved_hunk f t h ∷ xs) (moved_capped f t hs parts.1))

-- lists of one change or none
any_one : (e : Bool) (h : Hunk) (r : Bool) → reaches_far h ≡ r → any_far (cond e [] (h ∷ [])) ≡ (not e && r)
any_one true h r e = refl
any_one false h r e = or_false (reaches_far h) ∙ e

length_one : (e : Bool) (h g : Hunk) → length (cond e [] (h ∷ [])) ≡ length (cond e [] (g ∷ []))
length_one true h g = refl
length_one false h g = refl

no_units : (xs : List ℕ) → length xs ≡ 0 → xs ≡ []
no_units [] e = refl
no_units (x ∷ xs) e = absurd (omega arith)

module _ (hs q : List Hunk) (j : Joint) (near : any_far hs ≡ false) (joins : Joins hs q j) where
  h : Hunk
  h = hunk_with joins.start (traverse joins.start (extent j.old_text)) j.new_start (traverse j.new_start (extent j.new_text)) j.old_text j.new_text

  far_joint : any_far (change_at joins.start j.new_start j.old_text j.new_text) ≡ is_far_joint j
  unfolding h
  far_joint = any_one (is_empty_joint j) h (((is_far j.old_start || is_far j.old_end) || is_far j.new_start) || is_far j.new_end)
      (ap (λ (x : Bool). ((x || is_far (traverse joins.start (extent j.old_text))) || is_far j.new_start) || is_far (traverse j.new_start (extent j.new_text))) (same joins.start j.old_start joins.old_start)
      ∙ (ap (λ (x : Bool). ((is_far j.old_start || x) || is_far j.new_start) || is_far (traverse j.new_start (extent j.new_text))) (same (traverse joins.start (extent j.old_text)) j.old_end joins.old_end)
      ∙ ap (λ (x : Bool). ((is_far j.old_start || is_far j.old_end) || is_far j.new_start) || x) (same (traverse j.new_start (extent j.new_text)) j.new_end joins.new_end)))
    where
      same : (p r : Point) → r ≡ capped p → is_far p ≡ is_far r
      same p r e = sym (ap is_far e ∙ far_capped p)

  -- its end is as it was counted, where no coordinate of it passes the greatest one
  end_is : is_far_joint j ≡ false → traverse j.new_start (extent j.new_text) ≡ j.new_end
  end_is no_far = elim (cases_Bool (is_empty_joint j)) [
    | inl empty ↦ let none : j.new_text ≡ [] = no_units j.new_text (eqb-true (length j.new_text) 0 (and_parts (length j.old_text == 0) (length j.new_text == 0) empty).1) in
        let back : traverse j.new_start (extent j.new_text) ≡ j.new_start = ap (λ (xs : List ℕ). traverse j.new_start (extent xs)) none ∙ traverse_origin j.new_start in
        back ∙ sym (joins.new_end ∙ (ap capped back ∙ joins.within))
    | inr some ↦ let parts = or_parts ((is_far j.old_start || is_far j.old_end) || is_far j.new_start) (is_far j.new_end) (sym (ap (λ (x : Bool). not x && (((is_far j.old_start || is_far j.old_end) || is_far j.new_start) || is_far j.new_end)) some) ∙ no_far) in
        sym (joins.new_end ∙ near_capped (traverse j.new_start (extent j.new_text)) (sym (far_capped (traverse j.new_start (extent j.new_text))) ∙ (ap is_far (sym joins.new_end) ∙ parts.1)))
  ]

  moved_is : is_far_joint j ≡ false → map (moved_hunk joins.from (traverse j.new_start (extent j.new_text))) (drop j.stop hs) ≡ map (moved_hunk j.from j.new_end) (drop j.stop hs)
  moved_is no_far = ap (λ (x : Point). map (moved_hunk joins.from x) (drop j.stop hs)) (end_is no_far)
      ∙ (sym (moved_capped joins.from j.new_end (drop j.stop hs) (near_drop j.stop hs near)) ∙ ap (λ (x : Point). map (moved_hunk x j.new_end) (drop j.stop hs)) (sym joins.from_is))

  -- whether a coordinate passes the greatest one
  pub far_is : any_far (take j.first hs ++ q) ≡ (is_far_joint j || any_far (map (moved_hunk j.from j.new_end) (drop j.stop hs)))
  far_is = any_far-append (take j.first hs) q ∙ (ap (λ (x : Bool). x || any_far q) (near_take j.first hs near)
      ∙ (ap any_far joins.is ∙ (any_far-append (change_at joins.start j.new_start j.old_text j.new_text) (map (moved_hunk joins.from (traverse j.new_start (extent j.new_text))) (drop j.stop hs))
      ∙ (ap (λ (x : Bool). x || any_far (map (moved_hunk joins.from (traverse j.new_start (extent j.new_text))) (drop j.stop hs))) far_joint ∙ by_joint (is_far_joint j) refl))))
    where
      by_joint : (e : Bool) → e ≡ is_far_joint j → (e || any_far (map (moved_hunk joins.from (traverse j.new_start (extent j.new_text))) (drop j.stop hs))) ≡ (e || any_far (map (moved_hunk j.from j.new_end) (drop j.stop hs)))
      by_joint true e = refl
      by_joint false e = ap any_far (moved_is (sym e))

  -- how many changes there are
  pub count_is : j.first ≤ length hs → length (take j.first hs ++ q) ≡ j.first + length (joint_change j) + (length hs - j.stop)
  unfolding h
  count_is within = length-append (take j.first hs) q ∙ omega (
    arith,
    length-take-le j.first hs within,
    ap length joins.is,
    length-append (change_at joins.start j.new_start j.old_text j.new_text) (map (moved_hunk joins.from (traverse j.new_start (extent j.new_text))) (drop j.stop hs)),
    length-map (drop j.stop hs) (moved_hunk joins.from (traverse j.new_start (extent j.new_text))),
    length-drop j.stop hs,
    length_one (is_empty_joint j) h (hunk_with j.old_start j.old_end j.new_start j.new_end j.old_text j.new_text),
  )

  -- where none does, the changes are those that were counted
  pub joint_is : any_far (take j.first hs ++ q) ≡ false → q ≡ joint_list j hs
  joint_is within = joins.is ∙ (ap (λ (x : List Hunk). x ++ map (moved_hunk joins.from (traverse j.new_start (extent j.new_text))) (drop j.stop hs)) (change_is (is_empty_joint j) refl) ∙ ap (λ (x : List Hunk). joint_change j ++ x) (moved_is no_far))
    where
      no_far : is_far_joint j ≡ false
      no_far = (or_parts (is_far_joint j) (any_far (map (moved_hunk j.from j.new_end) (drop j.stop hs))) (sym far_is ∙ within)).0

      change_is : (e : Bool) → e ≡ is_empty_joint j
          → cond e [] (hunk_with joins.start (traverse joins.start (extent j.old_text)) j.new_start (traverse j.new_start (extent j.new_text)) j.old_text j.new_text ∷ []) ≡ cond e [] (hunk_with j.old_start j.old_end j.new_start j.new_end j.old_text j.new_text ∷ [])
      change_is true e = refl
      change_is false e =
          let all = sym (ap (λ (x : Bool). not x && (((is_far j.old_start || is_far j.old_end) || is_far j.new_start) || is_far j.new_end)) (sym e)) ∙ no_far in
          let p1 = or_parts ((is_far j.old_start || is_far j.old_end) || is_far j.new_start) (is_far j.new_end) all in
          let p2 = or_parts (is_far j.old_start || is_far j.old_end) (is_far j.new_start) p1.0 in
          let p3 = or_parts (is_far j.old_start) (is_far j.old_end) p2.0 in
          let exact : (p r : Point) → r ≡ capped p → is_far r ≡ false → p ≡ r = λ p r r_is no. sym (r_is ∙ near_capped p (sym (far_capped p) ∙ (ap is_far (sym r_is) ∙ no))) in
          ap (λ (x : Point). hunk_with x (traverse joins.start (extent j.old_text)) j.new_start (traverse j.new_start (extent j.new_text)) j.old_text j.new_text ∷ []) (exact joins.start j.old_start joins.old_start p3.0)
          ∙ (ap (λ (x : Point). hunk_with j.old_start x j.new_start (traverse j.new_start (extent j.new_text)) j.old_text j.new_text ∷ []) (exact (traverse joins.start (extent j.old_text)) j.old_end joins.old_end p3.1)
          ∙ ap (λ (x : Point). hunk_with j.old_start j.old_end j.new_start x j.old_text j.new_text ∷ []) (end_is no_far))

-- the limits, by what the code counts
module _ (cs : List Change) (q : List Hunk) (j : Joint) (is_patch : IsPatch (hunks_of cs)) (joins : Joins (hunks_of cs) q j) (low : j.first ≤ j.stop) (high : j.stop ≤ length cs) (far : Bool)
    (far_as : far ≡ (is_far_joint j || any_far (map (moved_hunk j.from j.new_end) (hunks_of (drop j.stop cs))))) (n : ℕ) (n_is : n ≡ j.first + length (joint_change j) + (length cs - j.stop)) where
  far_counted : any_far (take j.first (hunks_of cs) ++ q) ≡ far
  far_counted = far_is (hunks_of cs) q j (near_patch (hunks_of cs) is_patch) joins ∙ (ap (λ (hs : List Hunk). is_far_joint j || any_far (map (moved_hunk j.from j.new_end) hs)) (drop-map hunk_of j.stop cs) ∙ sym far_as)

  count_counted : length (take j.first (hunks_of cs) ++ q) ≡ n
  count_counted = count_is (hunks_of cs) q j (near_patch (hunks_of cs) is_patch) joins (omega (arith, low, high, length-map cs hunk_of)) ∙ (ap (λ (k : ℕ). j.first + length (joint_change j) + (k - j.stop)) (length-map cs hunk_of) ∙ sym n_is)

  pub is_too_far : far ≡ true → Refuses (take j.first (hunks_of cs) ++ q) refusal.TooFar
  is_too_far e = far_counted ∙ e

  pub is_too_many : far ≡ false → 2 ^ 24 < n → Refuses (take j.first (hunks_of cs) ++ q) refusal.TooMany
  is_too_many e many = (far_counted ∙ e, omega (arith, many, count_counted))

  pub is_within : far ≡ false → n ≤ 2 ^ 24 → KeepsLimits (take j.first (hunks_of cs) ++ q)
  is_within e few = (far_counted ∙ e, omega (arith, few, count_counted))

-- one change more is moved: cs0 are the changes before, cs those with some moved
module _ (cs0 cs : List Change) (at : ℕ) (c : Change) (from to : Point) (within : at < length cs) (is : c ≡ get_or cs at c) (behind : drop at cs ≡ drop at cs0) where
  pub behind_next : drop (at + 1) cs ≡ drop (at + 1) cs0
  behind_next = sym (drop-drop 1 at cs) ∙ (ap (drop 1) behind ∙ drop-drop 1 at cs0)

  pub still_behind : hunks_of (drop at cs0) ≡ hunk_of c ∷ hunks_of (drop (at + 1) cs0)
  still_behind = ap hunks_of (sym behind) ∙ (hunks_next cs at c within is ∙ ap (λ (xs : List Change). hunk_of c ∷ hunks_of xs) behind_next)

  pub may_move : All IsOrdered (map (moved_hunk from to) (hunks_of (drop at cs0))) → any_far (map (moved_hunk from to) (hunks_of (drop at cs0))) ≡ false
      → (is_far (traverse to (traversal c.new_range.start from)) ≡ false) × (is_far (traverse to (traversal c.new_range.end from)) ≡ false)
      × (point_le (traverse to (traversal c.new_range.start from)) (traverse to (traversal c.new_range.end from)) ≡ true)
  may_move ordered near =
      let h : Hunk = moved_hunk from to (hunk_of c) in
      let here = or_parts (reaches_far h) (any_far (map (moved_hunk from to) (hunks_of (drop (at + 1) cs0)))) (sym (ap (λ (hs : List Hunk). any_far (map (moved_hunk from to) hs)) still_behind) ∙ near) in
      let ends = or_parts ((is_far h.old_start || is_far h.old_end) || is_far h.new_start) (is_far h.new_end) here.0 in
      let starts = or_parts (is_far h.old_start || is_far h.old_end) (is_far h.new_start) ends.0 in
      (starts.1, ends.1, (All-head IsOrdered h (map (moved_hunk from to) (hunks_of (drop (at + 1) cs0))) (subst (λ (hs : List Hunk). All IsOrdered (map (moved_hunk from to) hs)) still_behind ordered)).1)

  pub ordered_next : All IsOrdered (map (moved_hunk from to) (hunks_of (drop at cs0))) → All IsOrdered (map (moved_hunk from to) (hunks_of (drop (at + 1) cs0)))
  ordered_next ordered = All-tail IsOrdered (moved_hunk from to (hunk_of c)) (map (moved_hunk from to) (hunks_of (drop (at + 1) cs0))) (subst (λ (hs : List Hunk). All IsOrdered (map (moved_hunk from to) hs)) still_behind ordered)

  pub near_moved : any_far (map (moved_hunk from to) (hunks_of (drop at cs0))) ≡ false → any_far (map (moved_hunk from to) (hunks_of (drop (at + 1) cs0))) ≡ false
  near_moved near = (or_parts (reaches_far (moved_hunk from to (hunk_of c))) (any_far (map (moved_hunk from to) (hunks_of (drop (at + 1) cs0)))) (sym (ap (λ (hs : List Hunk). any_far (map (moved_hunk from to) hs)) still_behind) ∙ near)).1

  pub moved_next : (m : Change) → hunk_of m ≡ moved_hunk from to (hunk_of c)
      → hunks_of (take (at + 1) (set cs at m)) ++ map (moved_hunk from to) (hunks_of (drop (at + 1) cs0)) ≡ hunks_of (take at cs) ++ map (moved_hunk from to) (hunks_of (drop at cs0))
  moved_next m m_is = ap (λ (xs : List Change). hunks_of xs ++ map (moved_hunk from to) (hunks_of (drop (at + 1) cs0))) (take_more_set cs at m within)
      ∙ (ap (λ (hs : List Hunk). hs ++ map (moved_hunk from to) (hunks_of (drop (at + 1) cs0))) (map-append hunk_of (take at cs) (m ∷ []))
      ∙ (append_assoc (hunks_of (take at cs)) (hunk_of m ∷ []) (map (moved_hunk from to) (hunks_of (drop (at + 1) cs0)))
      ∙ ap (λ (hs : List Hunk). hunks_of (take at cs) ++ hs) (ap (λ (h : Hunk). h ∷ map (moved_hunk from to) (hunks_of (drop (at + 1) cs0))) m_is ∙ ap (map (moved_hunk from to)) (sym still_behind))))

pub all_left : {X : Type 0} (P : X → Type 0) (xs ys : List X) → All P (xs ++ ys) → All P xs
all_left P [] ys all = All-nil P
all_left P (x ∷ xs) ys all = All-cons P x xs (All-head P x (xs ++ ys) all) (all_left P xs ys (All-tail P x (xs ++ ys) all))

pub all_right : {X : Type 0} (P : X → Type 0) (xs ys : List X) → All P (xs ++ ys) → All P ys
all_right P [] ys all = all
all_right P (x ∷ xs) ys all = all_right P xs ys (All-tail P x (xs ++ ys) all)

-- the joint in its place
pub run_replaced : (cs items : List Change) (first stop : ℕ) (change : List Change) (js : List Hunk) → items ≡ take first cs ++ (change ++ drop stop cs) → hunks_of change ≡ js
    → hunks_of items ≡ take first (hunks_of cs) ++ (js ++ drop stop (hunks_of cs))
run_replaced cs items first stop change js items_is js_is = ap hunks_of items_is ∙ (map-append hunk_of (take first cs) (change ++ drop stop cs)
    ∙ (ap (λ (hs : List Hunk). hs ++ hunks_of (change ++ drop stop cs)) (sym (take-map hunk_of first cs)) ∙ ap (λ (hs : List Hunk). take first (hunks_of cs) ++ hs)
    (map-append hunk_of change (drop stop cs) ∙ (ap (λ (hs : List Hunk). hs ++ hunks_of (drop stop cs)) js_is ∙ ap (λ (hs : List Hunk). js ++ hs) (sym (drop-map hunk_of stop cs))))))

pub joint_ordered : (j : Joint) → is_empty_joint j ≡ false → All IsOrdered (joint_change j) → (point_le j.old_start j.old_end ≡ true) × (point_le j.new_start j.new_end ≡ true)
joint_ordered j some all = All-head IsOrdered (hunk_with j.old_start j.old_end j.new_start j.new_end j.old_text j.new_text) []
    (subst (λ (e : Bool). All IsOrdered (cond e [] (hunk_with j.old_start j.old_end j.new_start j.new_end j.old_text j.new_text ∷ []))) some all)

-- the changes behind the joint, and those up to it
module _ (items cs : List Change) (first n : ℕ) (js hs : List Hunk) (placed : hunks_of items ≡ take first (hunks_of cs) ++ (js ++ hs)) (within : first ≤ length cs) (n_is : n ≡ first + length js) where
  seam : length (take first (hunks_of cs) ++ js) ≡ n
  seam = length-append (take first (hunks_of cs)) js ∙ omega (arith, n_is, length-take-le first (hunks_of cs) (omega (arith, within, length-map cs hunk_of)))

  whole_is : hunks_of items ≡ (take first (hunks_of cs) ++ js) ++ hs
  whole_is = placed ∙ sym (append_assoc (take first (hunks_of cs)) js hs)

  pub behind_joint : hunks_of (drop n items) ≡ hs
  behind_joint = sym (drop-map hunk_of n items) ∙ (ap (drop n) whole_is ∙ drop_at (take first (hunks_of cs) ++ js) hs n seam)

  pub up_to_joint : take n (hunks_of items) ≡ take first (hunks_of cs) ++ js
  up_to_joint = ap (take n) whole_is ∙ take_at (take first (hunks_of cs) ++ js) hs n seam

  pub joint_within : n ≤ length items
  joint_within = omega (arith, seam, ap length whole_is, length-append (take first (hunks_of cs) ++ js) hs, length-map items hunk_of)

-- what stands where no limit is passed
module _ (cs : List Change) (q s : List Hunk) (j : Joint) (is_patch : IsPatch (hunks_of cs)) (s_is : s ≡ take j.first (hunks_of cs) ++ q) (joins : Joins (hunks_of cs) q j) (within : any_far s ≡ false) where
  all_near : any_far (take j.first (hunks_of cs) ++ q) ≡ false
  all_near = ap any_far (sym s_is) ∙ within

  pub put_is : s ≡ take j.first (hunks_of cs) ++ joint_list j (hunks_of cs)
  put_is = s_is ∙ ap (λ (hs : List Hunk). take j.first (hunks_of cs) ++ hs) (joint_is (hunks_of cs) q j (near_patch (hunks_of cs) is_patch) joins all_near)

  pub may_put : All IsOrdered s → (j.first ≤ j.stop) × (j.stop ≤ length cs) × All IsOrdered (joint_list j (hunks_of cs)) × (any_far (joint_list j (hunks_of cs)) ≡ false)
  may_put ordered = (
    joins.low,
    omega (arith, joins.high, length-map cs hunk_of),
    all_right IsOrdered (take j.first (hunks_of cs)) (joint_list j (hunks_of cs)) (subst (All IsOrdered) put_is ordered),
    (or_parts (any_far (take j.first (hunks_of cs))) (any_far (joint_list j (hunks_of cs))) (sym (any_far-append (take j.first (hunks_of cs)) (joint_list j (hunks_of cs))) ∙ (ap any_far (sym put_is) ∙ within))).1,
  )

-- the joint, then the moved changes behind it
pub put_whole : (items new cs : List Change) (first n : ℕ) (js hs : List Hunk) (m : Hunk → Hunk) → hunks_of items ≡ take first (hunks_of cs) ++ (js ++ hs) → first ≤ length cs → n ≡ first + length js
    → hunks_of new ≡ take n (hunks_of items) ++ map m (hunks_of (drop n items)) → hunks_of new ≡ take first (hunks_of cs) ++ (js ++ map m hs)
put_whole items new cs first n js hs m placed within n_is new_is = new_is ∙ (ap (λ (xs : List Hunk). xs ++ map m (hunks_of (drop n items))) (up_to_joint items cs first n js hs placed within n_is)
    ∙ (ap (λ (xs : List Hunk). (take first (hunks_of cs) ++ js) ++ map m xs) (behind_joint items cs first n js hs placed within n_is) ∙ append_assoc (take first (hunks_of cs)) js (map m hs)))

-- the joint that was found, where the changes are read as the lists xs and ys
abbrev pub IsFound : Point → List ℕ → List ℕ → Joint → List Change → Type 0
IsFound start deleted inserted j xs = (q : List Hunk) × (spliced (hunks_of xs) start deleted inserted ≡ take j.first (hunks_of xs) ++ q) × Joins (hunks_of xs) q j

pub record IsPlaceable (cs : List Change) (s : List Hunk) (j : Joint) : Type 0 where
  pub may : (j.first ≤ j.stop) × (j.stop ≤ length cs) × All IsOrdered (joint_list j (hunks_of cs)) × (any_far (joint_list j (hunks_of cs)) ≡ false)
  pub is : s ≡ take j.first (hunks_of cs) ++ joint_list j (hunks_of cs)
  pub within : KeepsLimits s

module _ (cs xs ys : List Change) (start : Point) (deleted inserted : List ℕ) (j : Joint) (r : Option PatchRefusal) (xs_is : xs ≡ cs) (ys_is : ys ≡ cs) (found : IsFound start deleted inserted j xs)
    (tested : (q : List Hunk) → Joins (hunks_of ys) q j → MatchOption r (KeepsLimits (take j.first (hunks_of ys) ++ q)) (Refuses (take j.first (hunks_of ys) ++ q))) where
  found_here : IsFound start deleted inserted j cs
  found_here = subst (IsFound start deleted inserted j) xs_is found

  tested_here : MatchOption r (KeepsLimits (spliced (hunks_of cs) start deleted inserted)) (Refuses (spliced (hunks_of cs) start deleted inserted))
  tested_here = subst (λ (s : List Hunk). MatchOption r (KeepsLimits s) (Refuses s)) (sym found_here.1)
      (subst (λ (zs : List Change). Joins (hunks_of zs) found_here.0 j → MatchOption r (KeepsLimits (take j.first (hunks_of zs) ++ found_here.0)) (Refuses (take j.first (hunks_of zs) ++ found_here.0))) ys_is (tested found_here.0) found_here.2)

  pub placeable : r ≡ None → IsPatch (hunks_of cs) → All IsOrdered (spliced (hunks_of cs) start deleted inserted) → IsPlaceable cs (spliced (hunks_of cs) start deleted inserted) j
  placeable is is_patch ordered =
      let within : KeepsLimits (spliced (hunks_of cs) start deleted inserted) = subst (λ (o : Option PatchRefusal). MatchOption o (KeepsLimits (spliced (hunks_of cs) start deleted inserted)) (Refuses (spliced (hunks_of cs) start deleted inserted))) is tested_here in record {
        may = may_put cs found_here.0 (spliced (hunks_of cs) start deleted inserted) j is_patch found_here.1 found_here.2 within.0 ordered;
        is = put_is cs found_here.0 (spliced (hunks_of cs) start deleted inserted) j is_patch found_here.1 found_here.2 within.0;
        within = within;
      }
