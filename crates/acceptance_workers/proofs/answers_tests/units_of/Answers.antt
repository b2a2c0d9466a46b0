use Rattle.std.proofs.Common.{ℕ, ◌<◌, List, ◌++◌, ap, ◌∙◌, arith, slice_range}
use Rattle.std.proofs.lemmas.List.Sums.{count_by-le-length}
use Rattle.points.specs.declared.point.Point.{Point}
use Rattle.points.specs.Text.{is_lf}
use Rattle.points.specs.Place.{extent, clipped_offset}
use Rattle.codecs.proofs.Sending.{whole_range}
use Rattle.acceptance_workers.proofs.answers_tests.units_of.Goals as goal

pub returns-in-Ok : goal.returns-in-Ok
returns-in-Ok c =
    let text = c.args.reader.now.text in
    let first : Point = record { row = 0; column = 0 } in
    let past : Point = record { row = 4294967295; column = 0 } in
    let from = c.new.result.start in
    let to = c.new.result.end in
    let below : (extent text).row < 4294967295 = omega (arith, count_by-le-length is_lf text, c.len.ensures.value, c.len.ensures.short) in
    let none = ap (λ (xs : List ℕ). xs ++ slice_range text (clipped_offset text from) (clipped_offset text to)) c.new-units.ensures in
    let starts = ap (λ (p : Point). slice_range text (clipped_offset text p) (clipped_offset text to)) c.new.ensures.start in
    let ends = ap (λ (p : Point). slice_range text (clipped_offset text first) (clipped_offset text p)) c.new.ensures.end in
    c.in-Ok.ensures.ok ∙ (none ∙ (starts ∙ (ends ∙ whole_range text past below)))
