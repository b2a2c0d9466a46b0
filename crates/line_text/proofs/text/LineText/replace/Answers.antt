use Rattle.std.proofs.Common.{◌≡◌, sym, subst, rules}
use Rattle.points.specs.Text.{IsWellFormed, replaced, utf16_of}
use Rattle.points.specs.Place.{clipped_offset}
use Rattle.points.proofs.WellFormedLemmas.{well_formed-utf16_of}
use Rattle.points.proofs.EndingLemmas.{well_formed_edit}
use Rattle.line_text.proofs.text.LineText.replace.Goals as goal

pub returns-clause-well_formed : goal.returns-clause-well_formed
returns-clause-well_formed c = λ old. subst IsWellFormed (sym edited) (well_formed_edit c.args.self.now c.args.range.start c.args.range.end (utf16_of c.args.text.now) old (well_formed-utf16_of c.args.text.now c.utf8.text))
  where
    edited : c.replace_units.new.units.items ≡ replaced c.args.self.now (clipped_offset c.args.self.now c.args.range.start) (clipped_offset c.args.self.now c.args.range.end) (utf16_of c.args.text.now)
    edited = search rules
