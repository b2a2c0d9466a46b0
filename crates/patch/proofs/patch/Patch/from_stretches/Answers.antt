use Rattle.std.proofs.Common.{◌∙◌, List, sym, ap, subst, arith}
use Rattle.patch.specs.Hunk.{Hunk, hunks_of}
use Rattle.patch.specs.ChangeList.{IsPatch}
use Rattle.patch.specs.Stretches.{parts_seen, any_far}
use Rattle.patch.specs.declared.change.Change.{Change}
use Rattle.patch.proofs.StretchLemmas.{is_laid, too_many_laid, patch_laid}
use Rattle.patch.proofs.patch.Patch.from_stretches.Goals as goal

pub returns-then-any_far-clause-err : goal.returns-then-any_far-clause-err
returns-then-any_far-clause-err c = sym (is_laid (hunks_of c.in_ok-changes.changes.items) (parts_seen c.args.stretches.now) c.in_ok-changes.ensures).far
    ∙ (ap (λ (cs : List Change). any_far (hunks_of cs)) (sym c.as_slice.ensures.value) ∙ (sym c.any_far.ensures ∙ c.if-any_far.true))

pub returns-then-len-gt-MAX_CHANGES-clause-err : goal.returns-then-len-gt-MAX_CHANGES-clause-err
returns-then-len-gt-MAX_CHANGES-clause-err c = (
  sym (is_laid (hunks_of c.in_ok-changes.changes.items) (parts_seen c.args.stretches.now) c.in_ok-changes.ensures).far
      ∙ (ap (λ (cs : List Change). any_far (hunks_of cs)) (sym c.as_slice.ensures.value) ∙ (sym c.any_far.ensures ∙ c.if-any_far.false)),
  too_many_laid c.in_ok-changes.changes.items (parts_seen c.args.stretches.now) c.in_ok-changes.ensures (omega (arith, c.in_ok-changes.changes.ok.0)),
)

pub invariant_of-result : goal.invariant_of-result
invariant_of-result c = (patch_laid c.in_ok-changes.changes.items (parts_seen c.args.stretches.now) c.in_ok-changes.ensures
    (ap (λ (cs : List Change). any_far (hunks_of cs)) (sym c.as_slice.ensures.value) ∙ (sym c.any_far.ensures ∙ c.if-any_far.false)) (omega (arith, c.in_ok-changes.changes.ok.0))).1

pub returns-clause-made : goal.returns-clause-made
returns-clause-made c = let made = patch_laid c.in_ok-changes.changes.items (parts_seen c.args.stretches.now) c.in_ok-changes.ensures
    (ap (λ (cs : List Change). any_far (hunks_of cs)) (sym c.as_slice.ensures.value) ∙ (sym c.any_far.ensures ∙ c.if-any_far.false)) (omega (arith, c.in_ok-changes.changes.ok.0)) in
    (made.0, subst (λ (hs : List Hunk). IsPatch hs) made.0 made.1)
