use Rattle.std.proofs.Common.{◌≡◌, ℕ, suc, ◌-◌, ◌<◌, ◌∙◌, take, sym, ap, arith}
use Rattle.points.specs.declared.point.Point.{Point}
use Rattle.points.specs.Point.{origin, traverse, traversal}
use Rattle.points.specs.Distance.{capped}
use Rattle.patch.specs.Hunk.{hunks_of}
use Rattle.patch.specs.Joints.{last_old_end, last_new_end}
use Rattle.patch.proofs.JointLemmas.{last_old, last_new}
use Rattle.patch.proofs.joint.old_place.Goals as goal

pub returns : goal.returns
returns c = let cs = c.args.changes.now in let x = c.index-changes-first.result in let n : suc (c.args.first - 1) ≡ c.args.first = omega arith in
    let within : c.args.first - 1 < Rattle.std.proofs.Common.length cs = omega arith in
    let old_end : x.old_range.end ≡ last_old_end origin (take c.args.first (hunks_of cs)) = sym (last_old origin (c.args.first - 1) cs x within c.index-changes-first.is) ∙ ap (λ (k : ℕ). last_old_end origin (take k (hunks_of cs))) n in
    let new_end : x.new_range.end ≡ last_new_end origin (take c.args.first (hunks_of cs)) = sym (last_new origin (c.args.first - 1) cs x within c.index-changes-first.is) ∙ ap (λ (k : ℕ). last_new_end origin (take k (hunks_of cs))) n in
    c.traverse_capped-2.ensures ∙ (ap (λ (w : Point). capped (traverse x.old_range.end w)) c.traversal-2.ensures ∙ (ap (λ (p : Point). capped (traverse p (traversal c.args.start x.new_range.end))) old_end
    ∙ ap (λ (p : Point). capped (traverse (last_old_end origin (take c.args.first (hunks_of cs))) (traversal c.args.start p))) new_end))
