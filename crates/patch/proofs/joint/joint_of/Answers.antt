use Rattle.patch.proofs.JointLemmas.{led_three}
use Rattle.patch.proofs.joint.joint_of.Goals as goal

pub returns-clause-from : goal.returns-clause-from
returns-clause-from c = led_three c.args.starts.new c.led_by-3.result c.led_by-4.result c.led_by-5.result c.args.before.now c.args.deleted.now c.args.found.post.now c.led_by-3.ensures.value c.led_by-4.ensures.from c.led_by-5.ensures.from
