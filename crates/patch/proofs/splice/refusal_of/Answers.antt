use Rattle.std.proofs.Common.{◌+◌, ◌-◌, ℕ, length, refl, ap, arith}
use Rattle.patch.proofs.SpliceSteps.{is_too_far, is_too_many, is_within}
use Rattle.patch.proofs.splice.refusal_of.Goals as goal

pub returns-then-passes_far : goal.returns-then-passes_far
returns-then-passes_far c = λ q joins. is_too_far c.args.changes.now q c.args.joint.now c.requires.0 joins c.requires.1 c.requires.2 c.passes_far.result c.passes_far.ensures _ refl c.if-passes_far.true

pub returns-then-joint-joint_count-gt-MAX_CHANGES : goal.returns-then-joint-joint_count-gt-MAX_CHANGES
returns-then-joint-joint_count-gt-MAX_CHANGES c = λ q joins. let j = c.args.joint.now in let n : ℕ = j.first + c.joint_count.result + (length c.args.changes.now - j.stop) in
    is_too_many c.args.changes.now q j c.requires.0 joins c.requires.1 c.requires.2 c.passes_far.result c.passes_far.ensures n (ap (λ (k : ℕ). j.first + k + (length c.args.changes.now - j.stop)) c.joint_count.ensures) c.if-passes_far.false
    (omega (arith, c.if-joint-joint_count-gt-MAX_CHANGES.true))

pub returns : goal.returns
returns c = λ q joins. let j = c.args.joint.now in let n : ℕ = j.first + c.joint_count.result + (length c.args.changes.now - j.stop) in
    is_within c.args.changes.now q j c.requires.0 joins c.requires.1 c.requires.2 c.passes_far.result c.passes_far.ensures n (ap (λ (k : ℕ). j.first + k + (length c.args.changes.now - j.stop)) c.joint_count.ensures) c.if-passes_far.false
    (omega (arith, c.if-joint-joint_count-gt-MAX_CHANGES.false))
