use Rattle.std.proofs.Common.{◌≡◌, ℕ, List, length, refl, ap, ◌∙◌}
use Rattle.points.specs.Place.{clipped_offset}
use Rattle.machine.specs.Machine.{between}
use Rattle.answers.proofs.AnswerLemmas.{span_long}
use Rattle.answers.proofs.answering.read_text.Goals as goal

pub returns-clause-units : goal.returns-clause-units
returns-clause-units c =
    let t : List ℕ = c.args.reader.now.text in
    let i : ℕ = clipped_offset t c.args.range.start in
    let j : ℕ = clipped_offset t c.args.range.end in
    let units : c.units.new.into ≡ between t i j = c.in_ok-units.ensures.ok ∙ rw c.new-units.ensures refl in
    c.len.ensures ∙ (ap length units ∙ span_long t c.args.range.start c.args.range.end c.args.range.ordered)
