use Rattle.chains.specs.Layered.{whole_text}
use Rattle.chains.proofs.LineLemmas.{clipped_here}
use Rattle.chains.proofs.chain.Chain.clipped_in.Goals as goal

pub returns : goal.returns
returns c = clipped_here (whole_text c.args.self.now) c.args.point c.args.line.start c.clipped_column-column.result c.requires.in_text c.requires.start c.clipped_column-column.ensures
