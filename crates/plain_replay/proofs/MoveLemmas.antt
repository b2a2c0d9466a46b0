-- One mark of a list all of whose moved marks are within a limit.
use Rattle.std.proofs.Common.{◌≡◌, refl, sym, subst, ℕ, ◌<◌, List, length, slice_index_or}
use Rattle.std.specs.List.{All}
use Rattle.std.proofs.lemmas.List.{length-map, get_or-map}
use Rattle.points.specs.declared.mark.Mark.{Mark}
use Rattle.points.specs.declared.mark.Splice.{Splice}
use Rattle.points.specs.declared.mark.HitCounts.{HitCounts}
use Rattle.points.specs.Marks.{moved}
use Rattle.points.specs.MarkList.{MarkIsWithin, all_moved}

pub within_at : (limit : ℕ) (c : Splice) (ms : List Mark) (i : ℕ) (d : Mark) → i < length ms → All (MarkIsWithin limit) (all_moved c ms)
    → MarkIsWithin limit (moved c (slice_index_or ms i d))
within_at limit c ms i d within all = subst (λ (m : Mark). MarkIsWithin limit m) (get_or-map (moved c) ms i d d within)
    (all i d (subst (λ (n : ℕ). i < n) (sym (length-map ms (moved c))) within))

abbrev pub counts_by : ℕ → ℕ → ℕ → ℕ → HitCounts
counts_by a b c d = record { touch = a; inside = b; overlap = c; surround = d }

pub same_counts : (a b c d p q r s : ℕ) → a ≡ p → b ≡ q → c ≡ r → d ≡ s → counts_by a b c d ≡ counts_by p q r s
same_counts a b c d p q r s touch inside overlap surround = rw (touch, inside, overlap, surround) refl
