-- A list whose first marks are moved.
use Rattle.std.proofs.Common.{◌≡◌, ◌∙◌, ap, sym, ℕ, ◌+◌, ◌-◌, ◌<◌, ◌≤◌, List, ◌++◌, map, take, drop, length, slice_index_or, subst, arith}
use Rattle.std.specs.List.{All}
use Rattle.std.proofs.lemmas.List.{length-map, length-take-le, get_or-map, get_or-append_right, get_or-drop, map_more, take_all, drop_all, append-nil}
use Rattle.std.proofs.lemmas.List.Elements.{All-same, All-push}
use Rattle.points.specs.declared.mark.Mark.{Mark}
use Rattle.points.specs.declared.mark.Splice.{Splice}
use Rattle.points.specs.Marks.{moved}
use Rattle.points.specs.MarkList.{MarkIsWithin, all_moved}

-- the mark at index i isn't moved yet
pub not_yet_moved : (c : Splice) (ms now : List Mark) (i : ℕ) (d : Mark) → i < length ms → now ≡ map (moved c) (take i ms) ++ drop i ms
    → slice_index_or now i d ≡ slice_index_or ms i d
not_yet_moved c ms now i d within is = ap (λ (l : List Mark). slice_index_or l i d) is
    ∙ get_or-append_right (map (moved c) (take i ms)) (drop i ms) i i d (length-map (take i ms) (moved c) ∙ length-take-le i ms (grind arith)) (grind arith)
    ∙ get_or-drop i ms (i - i) d ∙ ap (λ (k : ℕ). slice_index_or ms k d) (grind arith)

-- one mark of a list all of whose moved marks are within a limit
pub within_at : (limit : ℕ) (c : Splice) (ms : List Mark) (i : ℕ) (d : Mark) → i < length ms → All (MarkIsWithin limit) (all_moved c ms)
    → MarkIsWithin limit (moved c (slice_index_or ms i d))
within_at limit c ms i d within all = subst (λ (m : Mark). MarkIsWithin limit m) (get_or-map (moved c) ms i d d within)
    (all i d (subst (λ (n : ℕ). i < n) (sym (length-map ms (moved c))) within))

pub moved_within : (limit : ℕ) (c : Splice) (ms now : List Mark) (i : ℕ) (d : Mark) → i < length ms → now ≡ map (moved c) (take i ms) ++ drop i ms
    → All (MarkIsWithin limit) (all_moved c ms) → MarkIsWithin limit (moved c (slice_index_or now i d))
moved_within limit c ms now i d within is all = subst (λ (m : Mark). MarkIsWithin limit (moved c m)) (sym (not_yet_moved c ms now i d within is))
    (within_at limit c ms i d within all)

-- one moved mark more is within the limit
pub within_more : (limit : ℕ) (c : Splice) (ms : List Mark) (i : ℕ) (d : Mark) → i < length ms → All (MarkIsWithin limit) (all_moved c (take i ms))
    → MarkIsWithin limit (moved c (slice_index_or ms i d)) → All (MarkIsWithin limit) (all_moved c (take (i + 1) ms))
within_more limit c ms i d within all at = All-same (MarkIsWithin limit) _ _ (map_more (moved c) ms i d within)
    (All-push (MarkIsWithin limit) (map (moved c) (take i ms)) (moved c (slice_index_or ms i d)) all at)

-- a list all of whose marks are moved
pub moved_whole : (c : Splice) (ms now : List Mark) (i : ℕ) → length ms ≤ i → now ≡ map (moved c) (take i ms) ++ drop i ms → now ≡ all_moved c ms
moved_whole c ms now i whole is = is ∙ ap (λ (l : List Mark). map (moved c) l ++ drop i ms) (take_all i ms whole)
    ∙ ap (λ (l : List Mark). map (moved c) ms ++ l) (drop_all i ms whole) ∙ append-nil (map (moved c) ms)
