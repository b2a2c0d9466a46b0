use Rattle.std.proofs.Common.{◌≡◌, ℕ, ◌+◌, length, min, false, true, sym, ap, ◌∙◌, arith}
use Rattle.points.specs.Place.{line_of, splits_pair}
use Rattle.chains.specs.Layered.{whole_text}
use Rattle.chains.proofs.LineLemmas.{line_within, splits_in, splits_first, splits_last, column_by}
use Rattle.chains.proofs.chain.Chain.clipped_column.Goals.{else-column-gt0-via-then-column-gt0+then-column-line+else-splits_pair, else-column-gt0-via-then-column-gt0+else-column-line, else-column-gt0-via-else-column-gt0}
use Rattle.chains.proofs.chain.Chain.clipped_column.Goals as goal

pub splits_pair-requires-clause-within : goal.splits_pair-requires-clause-within
splits_pair-requires-clause-within c = omega (arith, line_within (whole_text c.args.self.now) c.args.point.row c.requires.in_text)

pub returns-then-splits_pair : goal.returns-then-splits_pair
returns-then-splits_pair c =
    let t = whole_text c.args.self.now in
    let line = line_of (whole_text c.args.self.now) c.args.point.row in
    let column : c.min-column.result ≡ min c.args.point.column (length (line_of (whole_text c.args.self.now) c.args.point.row)) = c.min-column.ensures ∙ ap (min c.args.point.column) c.requires.len in
    sym (column_by line c.args.point.column c.min-column.result true column
    (splits_in t c.args.point.row c.min-column.result c.requires.in_text (omega arith) (omega (arith, c.requires.len)) ∙ (ap (λ (k : ℕ). splits_pair t (k + c.min-column.result)) (sym c.requires.start) ∙ (sym c.splits_pair.ensures ∙ c.if-splits_pair.true))))

pub returns-else-column-gt0 : goal.returns-else-column-gt0
returns-else-column-gt0 c =
    let t = whole_text c.args.self.now in
    let line = line_of (whole_text c.args.self.now) c.args.point.row in
    let column : c.min-column.result ≡ min c.args.point.column (length (line_of (whole_text c.args.self.now) c.args.point.row)) = c.min-column.ensures ∙ ap (min c.args.point.column) c.requires.len in
    let apart : splits_pair (line_of (whole_text c.args.self.now) c.args.point.row) c.min-column.result ≡ false = elim c.else-column-gt0.branch [
      | else-column-gt0-via-then-column-gt0+then-column-line+else-splits_pair w ↦ splits_in t c.args.point.row c.min-column.result c.requires.in_text (omega (arith, w.if-column-gt0.true)) (omega (arith, c.requires.len, w.if-column-line.true))
          ∙ (ap (λ (k : ℕ). splits_pair t (k + c.min-column.result)) (sym c.requires.start) ∙ (sym w.splits_pair.ensures ∙ w.if-splits_pair.false))
      | else-column-gt0-via-then-column-gt0+else-column-line w ↦ splits_last line c.min-column.result (omega (arith, c.requires.len, w.if-column-line.false))
      | else-column-gt0-via-else-column-gt0 w ↦ splits_first line c.min-column.result (omega (arith, w.if-column-gt0.false))
    ] in
    sym (column_by line c.args.point.column c.min-column.result false column apart)
