use Rattle.std.proofs.Common.{◌≤◌, ◌∙◌, ℕ, Option, unwrap_or, length, sym, ap, subst}
use Rattle.points.specs.declared.point.Point.{Point}
use Rattle.points.specs.Point.{traversal}
use Rattle.points.specs.Place.{offset_of}
use Rattle.patch_algebra.proofs.MergeSteps.{within_text}
use Rattle.patch_algebra.proofs.middle.Middle.cut_at.Goals as goal

pub split_at-requires : goal.split_at-requires
split_at-requires c = subst (λ (n : ℕ). n ≤ length c.args.self.now.new_text.now)
    (sym (c.unwrap_or-at.ensures ∙ (ap (λ (o : Option ℕ). unwrap_or o 0) c.offset_of.ensures ∙ ap (λ (p : Point). unwrap_or (offset_of c.args.self.now.new_text.now p) 0) c.traversal.ensures)))
    (within_text c.args.self.now.new_text.now (traversal c.args.to c.args.self.now.start))
