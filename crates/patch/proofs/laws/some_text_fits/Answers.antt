use Rattle.patch.proofs.FillLemmas.{some_fits}
use Rattle.patch.proofs.laws.some_text_fits.Goals as goal

pub returns : goal.returns
returns c = some_fits c.args.patch.now.changes c.as_slice-kept.ensures.kept
