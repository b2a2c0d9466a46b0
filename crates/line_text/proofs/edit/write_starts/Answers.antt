use Rattle.std.proofs.Common.{◌+◌, ◌∙◌, ℕ, List, set, sym, subst, arith}
use Rattle.line_text.proofs.EditLemmas.{IsWritten, written_lf, written_other}
use Rattle.line_text.proofs.edit.write_starts.Goals as goal
use Rattle.line_text.proofs.edit.write_starts.Goals.{then-unit-eq-LINE_FEED, else-unit-eq-LINE_FEED}

pub loop-unit-preserved : goal.loop-unit-preserved
loop-unit-preserved c =
    let base = c.args.base in let units = c.args.units.now in let i = c.loop-unit.unit-index in
    elim c.if-unit-eq-LINE_FEED.branch [
      | then-unit-eq-LINE_FEED w ↦ record {
        offset = omega (arith, c.loop-unit.invariant.offset);
        written = subst (λ (into : List ℕ). IsWritten base units (i + 1) into c.if-unit-eq-LINE_FEED.at) (sym w.into-is)
            (subst (λ (at : ℕ). IsWritten base units (i + 1) (set c.loop-unit.into c.loop-unit.at (c.loop-unit.behind + 1)) at) (sym w.at-is)
            (written_lf base units i c.loop-unit.into c.loop-unit.at (c.loop-unit.behind + 1) (omega arith) w.if-unit-eq-LINE_FEED.true (omega (arith, c.loop-unit.invariant.offset)) (c.loop-unit.invariant.same_length ∙ c.requires.fits) c.loop-unit.invariant.written));
        same_length = c.if-unit-eq-LINE_FEED.auto.into ∙ c.loop-unit.invariant.same_length;
      }
      | else-unit-eq-LINE_FEED w ↦ record {
        offset = omega (arith, c.loop-unit.invariant.offset);
        written = subst (λ (into : List ℕ). IsWritten base units (i + 1) into c.if-unit-eq-LINE_FEED.at) (sym w.into-is)
            (subst (λ (at : ℕ). IsWritten base units (i + 1) c.loop-unit.into at) (sym w.at-is)
            (written_other base units i c.loop-unit.into c.loop-unit.at (omega arith) w.if-unit-eq-LINE_FEED.false c.loop-unit.invariant.written));
        same_length = c.if-unit-eq-LINE_FEED.auto.into ∙ c.loop-unit.invariant.same_length;
      }
    ]
