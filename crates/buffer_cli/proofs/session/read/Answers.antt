use Rattle.buffer_cli.proofs.RunLemmas.{whole_found}
use Rattle.buffer_cli.proofs.session.read.Goals as goal

pub answer_reads-requires-clause-whole : goal.answer_reads-requires-clause-whole
answer_reads-requires-clause-whole g c κs within = whole_found c.args.number c.args.snapshots.now c.in-Some.snapshot.now.text c.requires.whole c.in-Some.ensures
