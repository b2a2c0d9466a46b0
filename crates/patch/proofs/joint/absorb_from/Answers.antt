use Rattle.std.proofs.Common.{◌≤◌, length, drop, sym, ap, subst, arith}
use Rattle.patch.specs.Hunk.{hunks_of}
use Rattle.patch.specs.declared.change.Change.{Change}
use Rattle.patch.proofs.JointLemmas.{absorbed_first, absorbed_later, if_ok, if_ok_both}
use Rattle.patch.proofs.joint.absorb_from.Goals as goal

pub returns-then-deleted-behind-clause-absorbed : goal.returns-then-deleted-behind-clause-absorbed
returns-then-deleted-behind-clause-absorbed c = λ d pre size. let x = c.index-changes-at.result in
    let before_in : c.args.before ≤ length x.new_text = subst (λ (y : Change). c.args.before ≤ length y.new_text) (sym c.index-changes-at.is) (c.requires.1 x) in
    absorbed_first c.args.changes.now c.args.at x c.requires.0 c.index-changes-at.is c.as_slice-new_text.result.now c.as_slice-new_text.ensures c.args.before c.args.deleted.now (omega (arith, before_in, ap length c.as_slice-new_text.ensures)) d pre size
    c.if-deleted-behind.true c.in_ok-old_text.old_text c.in_ok-old_text.ensures

pub returns-clause-absorbed : goal.returns-clause-absorbed
returns-clause-absorbed c = if_ok c.absorb.result _ _ (λ found facts d pre size. let x = c.index-changes-at.result in
    let before_in : c.args.before ≤ length x.new_text = subst (λ (y : Change). c.args.before ≤ length y.new_text) (sym c.index-changes-at.is) (c.requires.1 x) in
    absorbed_later c.args.changes.now c.args.at x c.requires.0 c.index-changes-at.is c.as_slice-new_text.result.now c.as_slice-new_text.ensures c.args.before c.args.deleted.now (omega (arith, before_in, ap length c.as_slice-new_text.ensures)) d pre size
    c.if-deleted-behind.false c.in_ok-old_text.old_text found.old_text found.post.now (hunks_of (drop found.stop c.args.changes.now)) c.in_ok-old_text.ensures facts.0 facts.1.0 facts.1.1)
    (if_ok_both c.absorb.result _ _ c.absorb.ensures.old_text (if_ok_both c.absorb.result _ _ c.absorb.ensures.post c.absorb.ensures.rest))
