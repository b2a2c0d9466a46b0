use Rattle.std.proofs.Common.{◌++◌, ◌+◌, List, refl, get_or, drop, sym, subst}
use Rattle.std.proofs.lemmas.List.{get_or_read}
use Rattle.patch.specs.Hunk.{Hunk, hunk_of, hunks_of}
use Rattle.patch.specs.Spliced.{absorption, spliced_in}
use Rattle.patch.specs.Joints.{Joins}
use Rattle.patch.specs.declared.change.Change.{Change}
use Rattle.patch.proofs.JointLemmas.{joins_of, one_change_in, if_ok, if_ok_both}
use Rattle.patch.proofs.joint.joint_in.Goals as goal

pub returns-clause-joins : goal.returns-clause-joins
returns-clause-joins c = let cs = c.args.changes.now in let x = c.index-changes-first.result in let found = c.in_ok-found.found in let e = c.in_ok-found.ensures in let pre = c.units_before-before.result.now in
    if_ok c.joint_of.result _ _ (λ joint facts d. subst (λ (y : Change). Joins (hunks_of cs) (spliced_in c.args.start c.args.deleted.now c.args.inserted.now (hunk_of y) (hunks_of (drop (c.args.first + 1) cs))) joint)
    (get_or_read cs c.args.first x c.requires c.index-changes-first.is d)
    (subst (λ (q : List Hunk). Joins (hunks_of cs) q joint) (one_change_in cs c.args.first x c.requires c.index-changes-first.is c.args.start c.args.deleted.now c.args.inserted.now pre c.units_before-before.ensures.units)
    (joins_of cs c.args.first found.stop x.old_range.start x.new_range.start x.old_range.start pre c.args.deleted.now c.args.inserted.now found.old_text found.post.now
    (absorption (get_or cs c.args.first x).new_range.start (pre ++ c.args.deleted.now) (hunks_of (drop c.args.first cs))) joint (e.absorbed x pre refl)
    e.stop.0 e.stop.1 facts.0 facts.1.0 facts.1.1.0 c.joint_of.ensures.within.1 (sym c.joint_of.ensures.within.0) facts.1.1.1.0 facts.1.1.1.1.0 facts.1.1.1.1.1)))
    (if_ok_both c.joint_of.result _ _ c.joint_of.ensures.list (if_ok_both c.joint_of.result _ _ c.joint_of.ensures.texts (if_ok_both c.joint_of.result _ _ c.joint_of.ensures.starts (if_ok_both c.joint_of.result _ _ c.joint_of.ensures.old_end (if_ok_both c.joint_of.result _ _ c.joint_of.ensures.new_end c.joint_of.ensures.from)))))
