use Rattle.std.proofs.Common.{◌∙◌, ◌++◌, ℕ, List, [], take, drop, ap}
use Rattle.points.specs.Point.{origin, traverse, traversal}
use Rattle.patch.specs.Hunk.{hunks_of}
use Rattle.patch.specs.Joints.{last_old_end, last_new_end}
use Rattle.patch.specs.Spliced.{absorption}
use Rattle.patch.proofs.JointLemmas.{joins_of, if_ok, if_ok_both}
use Rattle.patch.proofs.joint.joint_before.Goals as goal

pub returns-clause-joins : goal.returns-clause-joins
returns-clause-joins c = let hs = hunks_of c.args.changes.now in let found = c.in_ok-found.found in let e = c.in_ok-found.ensures in
    if_ok c.joint_of.result _ _ (λ joint facts. joins_of c.args.changes.now c.args.first found.stop
    (traverse (last_old_end origin (take c.args.first hs)) (traversal c.args.start (last_new_end origin (take c.args.first hs)))) c.args.start c.old_place.result [] c.args.deleted.now c.args.inserted.now found.old_text found.post.now
    (absorption c.args.start c.args.deleted.now (hunks_of (drop c.args.first c.args.changes.now))) joint (e.old_text ∙ ap (λ (xs : List ℕ). xs ++ (absorption c.args.start c.args.deleted.now (hunks_of (drop c.args.first c.args.changes.now))).mid) c.new.ensures, e.post, e.rest)
    e.stop.0 e.stop.1 facts.0 facts.1.0 facts.1.1.0 c.joint_of.ensures.within.1 c.old_place.ensures facts.1.1.1.0 facts.1.1.1.1.0 facts.1.1.1.1.1)
    (if_ok_both c.joint_of.result _ _ c.joint_of.ensures.list (if_ok_both c.joint_of.result _ _ c.joint_of.ensures.texts (if_ok_both c.joint_of.result _ _ c.joint_of.ensures.starts (if_ok_both c.joint_of.result _ _ c.joint_of.ensures.old_end (if_ok_both c.joint_of.result _ _ c.joint_of.ensures.new_end c.joint_of.ensures.from)))))
