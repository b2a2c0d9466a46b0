use Rattle.std.proofs.Common.{[], ◌∷◌, ap, sym, ◌∙◌}
use Rattle.std.proofs.lemmas.Bool.{cond-true, cond-false}
use Rattle.patch.specs.Hunk.{Hunk}
use Rattle.patch.specs.Joints.{is_empty_joint}
use Rattle.patch.proofs.JointLemmas.{if_ok}
use Rattle.patch.proofs.SpliceSteps.{run_replaced, joint_ordered}
use Rattle.patch.proofs.splice.set_in.Goals as goal

pub returns-then-is_empty_joint-clause-ok : goal.returns-then-is_empty_joint-clause-ok
returns-then-is_empty_joint-clause-ok c = run_replaced c.args.changes.now.items c.remove_run.new.changes.items c.args.joint.first c.args.joint.stop [] _ c.remove_run.ensures
    (sym (cond-true (is_empty_joint c.args.joint) [] _ (sym c.is_empty_joint.ensures ∙ c.if-is_empty_joint.true)))

pub change_of-requires : goal.change_of-requires
change_of-requires c = joint_ordered c.args.joint (sym c.is_empty_joint.ensures ∙ c.if-is_empty_joint.false) c.requires.2

pub returns-clause-ok : goal.returns-clause-ok
returns-clause-ok c = if_ok c.replace_run.result _ _ (λ _ placed. run_replaced c.args.changes.now.items c.replace_run.new.changes.items c.args.joint.first c.args.joint.stop (c.change_of.result ∷ []) _ placed
    (ap (λ (h : Hunk). h ∷ []) c.change_of.ensures ∙ sym (cond-false (is_empty_joint c.args.joint) [] _ (sym c.is_empty_joint.ensures ∙ c.if-is_empty_joint.false)))) c.replace_run.ensures.ok
