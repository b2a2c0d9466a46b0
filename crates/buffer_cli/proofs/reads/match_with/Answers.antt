use Rattle.buffer_cli.proofs.HitLemmas.{pattern_done}
use Rattle.buffer_cli.proofs.reads.match_with.Goals as goal

pub returns : goal.returns
returns g c = pattern_done c.args.snapshot.now.text c.args.limit (g.M.Matcher.tells c.args.matcher) c.reader.result.now.text c.in_ok-found.found c.to_answer.result c.reader.ensures c.in_ok-found.ensures.finds c.to_answer.ensures
