use Rattle.buffer_cli.proofs.HitLemmas.{literal_done}
use Rattle.buffer_cli.proofs.reads.find.Goals as goal

pub returns-in-Ok : goal.returns-in-Ok
returns-in-Ok c = literal_done c.args.snapshot.now.text c.args.limit c.args.needle.now c.reader.result.now.text c.in-Ok.found c.to_answer.result c.requires.whole c.reader.ensures c.in-Ok.ensures.found c.to_answer.ensures
