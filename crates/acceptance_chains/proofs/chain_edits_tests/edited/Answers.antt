use Rattle.std.proofs.Common.{arith}
use Rattle.chains.specs.Layered.{whole_text}
use Rattle.chains.proofs.ChangeLemmas.{can_replace}
use Rattle.acceptance_chains.proofs.chain_edits_tests.edited.Goals as goal

pub edited-requires-clause-change : goal.edited-requires-clause-change
edited-requires-clause-change c = can_replace (whole_text c.args.chain.now) c.args.from c.args.to c.spot_at-start.result c.spot_at-end.result c.in_ok-put.put c.spot_at-start.ensures c.spot_at-end.ensures (omega arith) (omega arith) (omega arith)
