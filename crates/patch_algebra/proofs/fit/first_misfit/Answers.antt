use Rattle.std.proofs.Common.{rules}
use Rattle.std.proofs.lemmas.Iterator.{IsFirst-from_position}
use Rattle.std.proofs.lemmas.Iterator.Consumers.{YieldsList-from_first}
use Rattle.patch.specs.Hunk.{Hunk, hunk_seen}
use Rattle.patch.specs.Fit.{HunkFits}
use Rattle.patch_algebra.proofs.FitLemmas.{first_is}
use Rattle.patch_algebra.proofs.fit.first_misfit.Goals as goal

pub returns : goal.returns
returns c = first_is c.args.patch.now.changes c.args.text.now c.position.result
    (IsFirst-from_position _ _ c.position.result (λ (h : Hunk). HunkFits c.args.text.now h → ⊥) (λ (h : Hunk). HunkFits c.args.text.now h) c.position.ensures.ran
    (YieldsList-from_first hunk_seen (λ rest. rest) c.args.patch.now.changes c.changes.ensures) (λ x q called. search rules) (λ x q called. search rules))
