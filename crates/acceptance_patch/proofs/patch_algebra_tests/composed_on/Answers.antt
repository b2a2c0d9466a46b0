use Rattle.std.proofs.Common.{List, ℕ, subst}
use Rattle.patch.specs.Fit.{Fits}
use Rattle.acceptance_patch.proofs.patch_algebra_tests.composed_on.Goals as goal

pub compose-requires : goal.compose-requires
compose-requires c = (
  c.args.text.now,
  record {
    first = c.in_ok-between.ensures.fits;
    second = subst (λ (t : List ℕ). Fits c.args.second.now.changes t) c.in_ok-between.ensures.made (c.fits.ensures.0 c.if-fits.true);
  },
)
