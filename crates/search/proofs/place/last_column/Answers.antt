use Rattle.std.proofs.Common.{ℕ, ap, arith, not}
use Rattle.std.proofs.lemmas.List.Sums.{suffix_len_is}
use Rattle.points.specs.Text.{is_lf}
use Rattle.search.proofs.place.last_column.Goals as goal

pub returns-then-bytes-at-eq10-clause-value : goal.returns-then-bytes-at-eq10-clause-value
returns-then-bytes-at-eq10-clause-value c = omega (
  arith,
  suffix_len_is (λ (u : ℕ). not (is_lf u)) c.args.bytes.now c.loop-at.at 0 c.loop-at.invariant.within
      c.loop-at.invariant.behind (λ some. ap (λ (u : ℕ). not (is_lf u)) c.if-bytes-at-eq10.true),
)

pub returns-clause-value : goal.returns-clause-value
returns-clause-value c = omega (
  arith,
  suffix_len_is (λ (u : ℕ). not (is_lf u)) c.args.bytes.now 0 0 (omega arith)
      (λ k from below. c.loop-at.invariant.behind k (omega (arith, c.loop-at-test.false)) below) (λ some. absurd (omega (arith, some))),
)
