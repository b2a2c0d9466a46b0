use Rattle.outer.proofs.HitLemmas.{hits-leftmost}
use Rattle.outer.proofs.laws.hits_are_leftmost.Goals as goal

pub returns : goal.returns
returns c = hits-leftmost c.args.text.now c.args.needle.now c.requires
