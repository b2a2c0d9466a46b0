-- Where a point goes, by the change that was looked up for it.
use Rattle.std.proofs.Common.{◌≡◌, ◌∙◌, ℕ, List, Option, Some, None, option_map, option_and_then, sym, ap}
use Rattle.std.specs.List.{slice_get}
use Rattle.points.specs.declared.point.Point.{Point}
use Rattle.points.specs.Distance.{near}
use Rattle.patch.specs.Hunk.{Hunk, hunk_seen}
use Rattle.patch.specs.LookUp.{moved_over, moved_to_new, moved_to_old, to_new, to_old, change_for_old, change_for_new}
use Rattle.patch.specs.declared.change.ChangeView.{ChangeView}

module _ (p : List Hunk) (point : Point) (found : Option ℕ) (change : Option ChangeView) (seen : option_map hunk_seen change ≡ option_and_then (slice_get p) found) where
  found_is : (at : Option ℕ) → found ≡ at → (r : Option ChangeView) → change ≡ r → option_map hunk_seen r ≡ option_and_then (slice_get p) at
  found_is at at_is r is = sym (ap (option_map hunk_seen) is) ∙ (seen ∙ ap (option_and_then (slice_get p)) at_is)

  pub to_new_none : found ≡ change_for_old p point → change ≡ None → near point ≡ to_new p point
  to_new_none at_is is = ap (λ (h : Option Hunk). near (moved_to_new h point)) (found_is (change_for_old p point) at_is None is)

  pub to_new_some : (h : ChangeView) → found ≡ change_for_old p point → change ≡ Some h
      → near (moved_over h.old_range.start h.old_range.end h.new_range.start h.new_range.end point) ≡ to_new p point
  to_new_some h at_is is = ap (λ (h : Option Hunk). near (moved_to_new h point)) (found_is (change_for_old p point) at_is (Some h) is)

  pub to_old_none : found ≡ change_for_new p point → change ≡ None → near point ≡ to_old p point
  to_old_none at_is is = ap (λ (h : Option Hunk). near (moved_to_old h point)) (found_is (change_for_new p point) at_is None is)

  pub to_old_some : (h : ChangeView) → found ≡ change_for_new p point → change ≡ Some h
      → near (moved_over h.new_range.start h.new_range.end h.old_range.start h.old_range.end point) ≡ to_old p point
  to_old_some h at_is is = ap (λ (h : Option Hunk). near (moved_to_old h point)) (found_is (change_for_new p point) at_is (Some h) is)
