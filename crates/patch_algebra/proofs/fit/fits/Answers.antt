use Rattle.patch_algebra.proofs.FitLemmas.{fits_from}
use Rattle.patch_algebra.proofs.fit.fits.Goals as goal

pub returns : goal.returns
returns c = fits_from c.args.patch.now.changes c.args.text.now c.first_misfit.result c.is_none.result c.is_none.ensures c.first_misfit.ensures
