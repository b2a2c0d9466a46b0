use Rattle.std.proofs.Common.{List, ℕ, subst}
use Rattle.patch.specs.Fit.{Fits}
use Rattle.tour.proofs.main.Goals as goal

pub compose-requires : goal.compose-requires
compose-requires c = (
  c.in_ok-text.text,
  record {
    first = c.in_ok-one.ensures.fits;
    second = subst (λ (t : List ℕ). Fits c.in_ok-two.two.changes t) c.in_ok-one.ensures.same c.in_ok-two.ensures.fits;
  },
)
