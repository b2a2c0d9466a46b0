use Rattle.std.proofs.Common.{◌≡◌, ◌+◌, ◌-◌, ◌<◌, length, ap, arith}
use Rattle.points.specs.Place.{row_of, row_start}
use Rattle.points.proofs.ExtentLemmas.{feeds}
use Rattle.points.proofs.RowLemmas.{row_is}
use Rattle.chains.specs.declared.spot.Spot.{Spot}
use Rattle.chains.specs.Layered.{whole_text}
use Rattle.chains.proofs.LineLemmas.{row_point, next_at, line_ends_text, cr_ends, none_ends, other_ends}
use Rattle.chains.proofs.chain.Chain.line_end.Goals.{else-start-feed-via-then-start-feed+else-unit-eq-CARRIAGE_RETURN, else-start-feed-via-else-start-feed}
use Rattle.chains.proofs.chain.Chain.line_end.Goals as goal

pub returns-then-row-end : goal.returns-then-row-end
returns-then-row-end c = line_ends_text (whole_text c.args.self.now) c.end-end.result c.args.row c.end-end.ensures.value c.if-row-end.true

pub spot_of-feed-requires : goal.spot_of-feed-requires
spot_of-feed-requires c = row_point (whole_text c.args.self.now) (c.args.row + 1) (omega (arith, ap (λ (x : Spot). x.point.row) c.end-end.ensures.value))

pub overflow_sub-feed : goal.overflow_sub-feed
overflow_sub-feed c = omega (arith, next_at (whole_text c.args.self.now) c.args.row c.spot_of-feed.result (omega (arith, ap (λ (x : Spot). x.point.row) c.end-end.ensures.value)) c.spot_of-feed.ensures)

pub unit-requires : goal.unit-requires
unit-requires c = omega (arith, next_at (whole_text c.args.self.now) c.args.row c.spot_of-feed.result (omega (arith, ap (λ (x : Spot). x.point.row) c.end-end.ensures.value)) c.spot_of-feed.ensures, (row_is (whole_text c.args.self.now) c.args.row c.requires.in_text).within)

pub returns-then-unit-eq-CARRIAGE_RETURN : goal.returns-then-unit-eq-CARRIAGE_RETURN
returns-then-unit-eq-CARRIAGE_RETURN c =
    let t = whole_text c.args.self.now in
    let before : c.args.row < feeds (whole_text c.args.self.now) = omega (arith, ap (λ (x : Spot). x.point.row) c.end-end.ensures.value) in
    let feed : c.spot_of-feed.result.offset - 1 ≡ row_start (whole_text c.args.self.now) c.args.row + length (row_of (whole_text c.args.self.now) c.args.row) = omega (arith, next_at t c.args.row c.spot_of-feed.result before c.spot_of-feed.ensures) in
    cr_ends t c.args.row (c.spot_of-feed.result.offset - 1) c.unit.result before feed (omega (arith, c.requires.start)) c.unit.ensures c.if-unit-eq-CARRIAGE_RETURN.true

pub returns-else-start-feed : goal.returns-else-start-feed
returns-else-start-feed c =
    let t = whole_text c.args.self.now in
    let before : c.args.row < feeds (whole_text c.args.self.now) = omega (arith, ap (λ (x : Spot). x.point.row) c.end-end.ensures.value) in
    let feed : c.spot_of-feed.result.offset - 1 ≡ row_start (whole_text c.args.self.now) c.args.row + length (row_of (whole_text c.args.self.now) c.args.row) = omega (arith, next_at t c.args.row c.spot_of-feed.result before c.spot_of-feed.ensures) in
    elim c.else-start-feed.branch [
      | else-start-feed-via-then-start-feed+else-unit-eq-CARRIAGE_RETURN w ↦ other_ends t c.args.row (c.spot_of-feed.result.offset - 1) w.unit.result before feed (omega (arith, c.requires.start, w.if-start-feed.true)) w.unit.ensures w.if-unit-eq-CARRIAGE_RETURN.false
      | else-start-feed-via-else-start-feed w ↦ none_ends t c.args.row (c.spot_of-feed.result.offset - 1) feed (omega (arith, c.requires.start, w.if-start-feed.false))
    ]
