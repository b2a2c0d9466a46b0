-- The splice of a change, by its start and two extents.
use Rattle.std.proofs.Common.{◌≡◌, true, refl, sym, ap, ◌∙◌, subst}
use Rattle.points.specs.declared.point.Point.{Point}
use Rattle.points.specs.declared.mark.Splice.{Splice}
use Rattle.points.specs.Point.{point_le, traversal}
use Rattle.points.specs.Marks.{splice_of}
use Rattle.points.proofs.PointLemmas.{traverse-traversal}
use Rattle.patch.specs.declared.change.Change as code
use Rattle.followers.specs.Following.{splice_by}

splice_between : (start old_end new_end : Point) → point_le start old_end ≡ true → point_le start new_end ≡ true
    → splice_of start (traversal old_end start) (traversal new_end start) ≡ record { start = start; old_end = old_end; new_end = new_end }
splice_between start old_end new_end old new = rw (traverse-traversal old_end start old, traverse-traversal new_end start new) refl

pub splice_of_change : (c : code.Change) (old_extent new_extent : Point) → c.new_range.start ≡ c.old_range.start
    → old_extent ≡ traversal c.old_range.end c.old_range.start → new_extent ≡ traversal c.new_range.end c.old_range.start
    → splice_of c.old_range.start old_extent new_extent ≡ splice_by c
splice_of_change c old_extent new_extent same old new =
    let behind : point_le c.old_range.start c.new_range.end ≡ true = subst (λ (p : Point). point_le p c.new_range.end ≡ true) same c.new_range.ordered in
    rw (old, new) (splice_between c.old_range.start c.old_range.end c.new_range.end c.old_range.ordered behind)
