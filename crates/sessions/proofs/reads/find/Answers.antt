use Rattle.sessions.proofs.ReadLemmas.{literal_done}
use Rattle.sessions.proofs.reads.find.Goals as goal

pub returns : goal.returns
returns c = literal_done c.args.reader.now.text c.args.limit c.args.needle.now c.in_ok-found.found c.to_answer.result c.requires.whole c.in_ok-found.ensures c.to_answer.ensures
