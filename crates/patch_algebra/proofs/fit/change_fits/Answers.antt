use Rattle.std.proofs.Common.{◌∙◌, sym}
use Rattle.std.specs.Cmp.Lexicographic.{told_text}
use Rattle.patch.specs.Hunk.{hunk_seen}
use Rattle.patch_algebra.proofs.FitLemmas.{no_start, no_end, crossed, fits_not, fits_if_equal, end_within}
use Rattle.patch_algebra.proofs.fit.change_fits.Goals as goal

pub returns-in_default : goal.returns-in_default
returns-in_default c = fits_not c.args.text.now (hunk_seen c.args.change) (no_start c.args.text.now (hunk_seen c.args.change) (sym c.offset_of.ensures ∙ c.in_default.is))

pub returns-in_default-offset_of : goal.returns-in_default-offset_of
returns-in_default-offset_of c = fits_not c.args.text.now (hunk_seen c.args.change) (no_end c.args.text.now (hunk_seen c.args.change) (sym c.offset_of-2.ensures ∙ c.in_default-offset_of.is))

pub returns-then-to-from : goal.returns-then-to-from
returns-then-to-from c = fits_not c.args.text.now (hunk_seen c.args.change) (crossed c.args.text.now (hunk_seen c.args.change) c.in-Some.from c.in-Some-offset_of.to (sym c.offset_of.ensures ∙ c.in-Some.is) (sym c.offset_of-2.ensures ∙ c.in-Some-offset_of.is) c.if-to-from.true)

pub slice-requires-clause-within : goal.slice-requires-clause-within
slice-requires-clause-within c = end_within c.args.text.now c.args.change.old_range.end c.in-Some-offset_of.to (sym c.offset_of-2.ensures ∙ c.in-Some-offset_of.is)

pub returns : goal.returns
returns c = fits_if_equal c.args.text.now (hunk_seen c.args.change) c.in-Some.from c.in-Some-offset_of.to c.slice.result.now c.eq.result (sym c.offset_of.ensures ∙ c.in-Some.is) (sym c.offset_of-2.ensures ∙ c.in-Some-offset_of.is) c.if-to-from.false c.slice.ensures
    (told_text c.slice.result.now c.args.change.old_text.now c.eq.result c.eq.ensures)
