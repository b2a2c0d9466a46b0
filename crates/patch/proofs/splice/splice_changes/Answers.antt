use Rattle.std.proofs.Common.{◌∙◌, sym}
use Rattle.patch.proofs.SpliceSteps.{placeable}
use Rattle.patch.proofs.splice.splice_changes.Goals as goal

pub put-requires : goal.put-requires
put-requires c = (placeable c.args.changes.now.items c.as_slice.result.now c.as_slice-2.result.now c.args.start c.args.deleted.now c.args.inserted.now c.in_ok-joint.joint c.refusal_of.result
    c.as_slice.ensures.value c.as_slice-2.ensures.value c.in_ok-joint.ensures c.refusal_of.ensures c.in_default.is c.requires.0 c.requires.1).may

pub returns-clause-ok : goal.returns-clause-ok
returns-clause-ok c = c.in_ok-put.ensures.ok ∙ sym (placeable c.args.changes.now.items c.as_slice.result.now c.as_slice-2.result.now c.args.start c.args.deleted.now c.args.inserted.now c.in_ok-joint.joint c.refusal_of.result
    c.as_slice.ensures.value c.as_slice-2.ensures.value c.in_ok-joint.ensures c.refusal_of.ensures c.in_default.is c.requires.0 c.requires.1).is
