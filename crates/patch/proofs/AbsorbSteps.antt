-- The changes that replaced units absorb, change by change of a list.
use Rattle.std.proofs.Common.{◌≡◌, ℕ, ◌+◌, ◌-◌, ◌<◌, ◌≤◌, List, [], ◌∷◌, length, take, drop, get_or, Option, Some, None, sym, ap, ◌∙◌, arith, length-drop}
use Rattle.std.specs.Prelude.{MatchOption, slice_index_or}
use Rattle.std.proofs.lemmas.List.{drop_more, take_all, get_or_read}
use Rattle.points.specs.declared.point.Point.{Point}
use Rattle.points.specs.Point.{traversal}
use Rattle.points.specs.Place.{offset_of}
use Rattle.points.proofs.OffsetLemmas.{offset_of-some}
use Rattle.patch.specs.Hunk.{hunk_of, hunks_of}
use Rattle.patch.specs.Spliced.{absorption_made, absorption_step, absorption}
use Rattle.patch.specs.declared.change.Change.{Change}

pub slice_rest : {X : Type 0} (xs : List X) (n : ℕ) → take (length xs - n) (drop n xs) ≡ drop n xs
slice_rest xs n = take_all (length xs - n) (drop n xs) (omega (arith, length-drop n xs))

pub hunks_next : (cs : List Change) (at : ℕ) (c : Change) → at < length cs → c ≡ get_or cs at c → hunks_of (drop at cs) ≡ hunk_of c ∷ hunks_of (drop (at + 1) cs)
hunks_next cs at c within is = ap hunks_of (drop_more cs at c within) ∙ ap (λ (x : Change). hunk_of x ∷ hunks_of (drop (at + 1) cs)) (sym is)

-- whether the next change is reached
pub kept_is : (cs : List Change) (at : ℕ) (c : Change) (place way : Point) (deleted left : List ℕ) (passed : ℕ) (r : Option ℕ) → at < length cs → c ≡ get_or cs at c → left ≡ drop passed deleted → passed ≤ length deleted
    → way ≡ traversal c.new_range.start place → r ≡ offset_of left way
    → MatchOption r (absorption place (drop passed deleted) (hunks_of (drop at cs)) ≡ absorption_made (drop passed deleted) [] (hunks_of (drop at cs)))
    (λ kept. (at < length cs) × (passed + kept ≤ length deleted) × ((d : Change) → offset_of (drop passed deleted) (traversal (slice_index_or cs at d).new_range.start place) ≡ Some kept))
kept_is cs at c place way deleted left passed r within is left_is passed_in way_is r_is = answer r found
  where
    found : r ≡ offset_of (drop passed deleted) (traversal c.new_range.start place)
    found = r_is ∙ (ap (λ (xs : List ℕ). offset_of xs way) left_is ∙ ap (offset_of (drop passed deleted)) way_is)

    answer : (r : Option ℕ) → r ≡ offset_of (drop passed deleted) (traversal c.new_range.start place)
        → MatchOption r (absorption place (drop passed deleted) (hunks_of (drop at cs)) ≡ absorption_made (drop passed deleted) [] (hunks_of (drop at cs)))
        (λ kept. (at < length cs) × (passed + kept ≤ length deleted) × ((d : Change) → offset_of (drop passed deleted) (traversal (slice_index_or cs at d).new_range.start place) ≡ Some kept))
    answer None e = ap (absorption place (drop passed deleted)) (hunks_next cs at c within is)
        ∙ (ap (λ (o : Option ℕ). absorption_step o (drop passed deleted) (hunk_of c) (hunks_of (drop (at + 1) cs)) (λ k. absorption c.new_range.end (drop (length c.new_text) (drop k (drop passed deleted))) (hunks_of (drop (at + 1) cs)))) (sym e)
        ∙ ap (absorption_made (drop passed deleted) []) (sym (hunks_next cs at c within is)))
    answer (Some kept) e = (
      within,
      omega (arith, (offset_of-some (drop passed deleted) (traversal c.new_range.start place) kept (sym e)).0, length-drop passed deleted),
      λ d. ap (λ (x : Change). offset_of (drop passed deleted) (traversal x.new_range.start place)) (sym (get_or_read cs at c within is d)) ∙ sym e,
    )
