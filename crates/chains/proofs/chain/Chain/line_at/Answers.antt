use Rattle.std.proofs.Common.{◌≡◌, ◌≤◌, arith, ap}
use Rattle.points.specs.Place.{row_start}
use Rattle.points.proofs.ExtentLemmas.{feeds}
use Rattle.chains.specs.declared.spot.Spot.{Spot}
use Rattle.chains.specs.Layered.{whole_text}
use Rattle.chains.proofs.LineLemmas.{row_point, starts_at, line_within}
use Rattle.chains.proofs.chain.Chain.line_at.Goals as goal

in_text : (c : goal.After-line_end-end) → c.args.row ≤ feeds (whole_text c.args.self.now)
in_text c = omega (arith, ap (λ (x : Spot). x.point.row) c.end.ensures.value)

start : (c : goal.After-line_end-end) → c.spot_of-start.result.offset ≡ row_start (whole_text c.args.self.now) c.args.row
start c = starts_at (whole_text c.args.self.now) c.args.row c.spot_of-start.result (in_text c) c.spot_of-start.ensures

pub spot_of-start-requires : goal.spot_of-start-requires
spot_of-start-requires c = row_point (whole_text c.args.self.now) c.args.row (omega (arith, ap (λ (x : Spot). x.point.row) c.end.ensures.value))

pub line_end-end-requires-clause-start : goal.line_end-end-requires-clause-start
line_end-end-requires-clause-start c = starts_at (whole_text c.args.self.now) c.args.row c.spot_of-start.result (omega (arith, ap (λ (x : Spot). x.point.row) c.end.ensures.value)) c.spot_of-start.ensures

pub overflow_sub-result : goal.overflow_sub-result
overflow_sub-result c = omega (arith, c.line_end-end.ensures, start c)

pub invariant_of-result : goal.invariant_of-result
invariant_of-result c = record {
  short = omega (arith, c.line_end-end.ensures, start c, line_within (whole_text c.args.self.now) c.args.row (in_text c), ap (λ (x : Spot). x.offset) c.end.ensures.value);
}

pub returns : goal.returns
returns c =
    let first : c.spot_of-start.result.offset ≡ row_start (whole_text c.args.self.now) c.args.row = starts_at (whole_text c.args.self.now) c.args.row c.spot_of-start.result (omega (arith, ap (λ (x : Spot). x.point.row) c.end.ensures.value)) c.spot_of-start.ensures in
    record { in_text = omega (arith, ap (λ (x : Spot). x.point.row) c.end.ensures.value); start = first; len = omega (arith, c.line_end-end.ensures, first) }
