use Rattle.std.proofs.Common.{◌≡◌, ℕ, ◌+◌, ◌%◌, List, refl, ◌∙◌}
use Rattle.points.specs.declared.range.Range.{Range}
use Rattle.machine.specs.declared.command.Command.TheVariants as command
use Rattle.generator.specs.Generator.{next_state, letters, in_row, drawn_edit}
use Rattle.generator.proofs.Ranges.{is_in_row}
use Rattle.generator.proofs.block.edit.Goals as goal

-- an edit of what was drawn
edit_of : (x1 x2 x3 x4 x5 row column k letter times : ℕ) (text : List ℕ) (r : Range)
    → row ≡ x1 % 64 → column ≡ x2 % 16 → k ≡ x3 % 4 → letter ≡ x4 % 26 → times ≡ x5 % 3
    → r.start ≡ record { row = row; column = column } → r.end ≡ record { row = row; column = column + k }
    → text ≡ letters letter (1 + times)
    → command.Edit r text ≡ command.Edit (in_row (x1 % 64) (x2 % 16) (x3 % 4)) (letters (x4 % 26) (1 + x5 % 3))
edit_of x1 x2 x3 x4 x5 row column k letter times text r a b c d e first last is =
    let same : r ≡ in_row row column k = is_in_row r row column k first last in
    rw (same, is, a, b, c, d, e) refl

-- the states between the draws
edit_from : (x s1 s2 s3 s4 row column k letter times : ℕ) (text : List ℕ) (r : Range)
    → s1 ≡ next_state x → s2 ≡ next_state s1 → s3 ≡ next_state s2 → s4 ≡ next_state s3
    → row ≡ next_state x % 64 → column ≡ next_state s1 % 16 → k ≡ next_state s2 % 4 → letter ≡ next_state s3 % 26 → times ≡ next_state s4 % 3
    → r.start ≡ record { row = row; column = column } → r.end ≡ record { row = row; column = column + k }
    → text ≡ letters letter (1 + times)
    → command.Edit r text ≡ drawn_edit x
edit_from x s1 s2 s3 s4 row column k letter times text r e1 e2 e3 e4 a b c d e first last is =
    edit_of (next_state x) (next_state s1) (next_state s2) (next_state s3) (next_state s4) row column k letter times text r a b c d e first last is
    ∙ rw (e4, e3, e2, e1) refl

pub returns-clause-edit : goal.returns-clause-edit
returns-clause-edit c =
    edit_from c.args.drawing.now.state c.draw-row.new.self.state c.draw-column.new.self.state c.draw-units.new.self.state c.draw-letter.new.self.state
    c.draw-row.result c.draw-column.result c.draw-units.result c.draw-letter.result c.draw-times.result c.in_ok-text.text c.new.result
    c.draw-row.ensures.state c.draw-column.ensures.state c.draw-units.ensures.state c.draw-letter.ensures.state
    c.draw-row.ensures.drawn c.draw-column.ensures.drawn c.draw-units.ensures.drawn c.draw-letter.ensures.drawn c.draw-times.ensures.drawn
    c.new.ensures.start c.new.ensures.end c.in_ok-text.ensures
