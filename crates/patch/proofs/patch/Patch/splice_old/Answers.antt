use Rattle.std.proofs.Common.{◌∙◌, sym, subst}
use Rattle.patch.specs.Hunk.{hunks_of}
use Rattle.patch.specs.ChangeList.{IsPatch}
use Rattle.patch.specs.Stretches.{parts_seen}
use Rattle.patch.specs.MovedOld.{moved_old}
use Rattle.patch.proofs.MovedLemmas.{is_moved, laid_moved, made_near, err_moved}
use Rattle.patch.proofs.patch.Patch.splice_old.Goals as goal

pub kept_stretches-requires-clause-patch : goal.kept_stretches-requires-clause-patch
kept_stretches-requires-clause-patch c = subst IsPatch (sym c.as_slice.ensures.changes) c.as_slice.ensures.kept

pub returns-in-Err-clause-err : goal.returns-in-Err-clause-err
returns-in-Err-clause-err c = let p = c.args.self.now.changes in let start = c.args.start in let o = c.args.old_end in let n = c.args.new_end in
    let moved = is_moved p start o n c.requires.from_start c.requires.to_start c.as_slice.ensures.kept in
    err_moved c.in-Err.refusal (parts_seen c.as_slice-2.result.now) (moved_old p start o n)
    (laid_moved p (hunks_of c.as_slice.result.now) start o n c.as_slice-2.result.now c.in_ok-kept.kept.items c.as_slice.ensures.changes moved c.as_slice-2.ensures.value c.in_ok-kept.ensures) moved.few c.in-Err.ensures.err

pub returns-in-Ok-clause-moved : goal.returns-in-Ok-clause-moved
returns-in-Ok-clause-moved c = let p = c.args.self.now.changes in let start = c.args.start in let o = c.args.old_end in let n = c.args.new_end in
    let moved = is_moved p start o n c.requires.from_start c.requires.to_start c.as_slice.ensures.kept in
    c.in-Ok.ensures.made.0 ∙ laid_moved p (hunks_of c.as_slice.result.now) start o n c.as_slice-2.result.now c.in_ok-kept.kept.items c.as_slice.ensures.changes moved c.as_slice-2.ensures.value c.in_ok-kept.ensures

pub returns-in-Ok-clause-reached : goal.returns-in-Ok-clause-reached
returns-in-Ok-clause-reached c = let p = c.args.self.now.changes in let start = c.args.start in let o = c.args.old_end in let n = c.args.new_end in
    let moved = is_moved p start o n c.requires.from_start c.requires.to_start c.as_slice.ensures.kept in
    made_near (moved_old p start o n) (parts_seen c.as_slice-2.result.now)
    (laid_moved p (hunks_of c.as_slice.result.now) start o n c.as_slice-2.result.now c.in_ok-kept.kept.items c.as_slice.ensures.changes moved c.as_slice-2.ensures.value c.in_ok-kept.ensures) c.in-Ok.ensures.made.1
