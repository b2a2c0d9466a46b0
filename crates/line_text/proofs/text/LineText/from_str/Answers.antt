use Rattle.std.proofs.Common.{◌≡◌, sym, subst, rules}
use Rattle.points.specs.Text.{IsWellFormed, utf16_of}
use Rattle.points.proofs.WellFormedLemmas.{well_formed-utf16_of}
use Rattle.line_text.proofs.text.LineText.from_str.Goals as goal

pub returns-clause-well_formed : goal.returns-clause-well_formed
returns-clause-well_formed c = subst IsWellFormed (sym made) (well_formed-utf16_of c.args.text.now c.utf8.text)
  where
    made : c.replace_units.new.units.items ≡ utf16_of c.args.text.now
    made = search rules
