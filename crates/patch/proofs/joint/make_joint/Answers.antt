use Rattle.std.proofs.Common.{◌≡◌, ◌∙◌, ◌++◌, ◌+◌, ◌<◌, ℕ, List, true, false, length, take, drop, sym, ap, subst}
use Rattle.points.specs.declared.point.Point.{Point}
use Rattle.points.specs.Point.{origin, point_le}
use Rattle.patch.specs.Hunk.{Hunk, hunk_of, hunks_of}
use Rattle.patch.specs.Spliced.{spliced_in, spliced_before, spliced_from}
use Rattle.patch.specs.Joints.{last_old_end, last_new_end, Joins}
use Rattle.patch.specs.declared.change.Change.{Change}
use Rattle.patch.proofs.JointLemmas.{starts_in, starts_before, starts_last, if_ok, if_ok_both}
use Rattle.patch.proofs.joint.make_joint.Goals as goal
use Rattle.patch.proofs.joint.make_joint.Goals.{else-first-changes-via-then-first-changes+else-starts_by, else-first-changes-via-else-first-changes}

pub returns-then-starts_by : goal.returns-then-starts_by
returns-then-starts_by c = let cs = c.args.changes.now in let x = c.index-changes-first.result in let n = c.first_reaching-first.result in
    let start = c.args.start in let deleted = c.args.deleted.now in let inserted = c.args.inserted.now in
    let within : n < length cs = c.if-first-changes.true in
    let reaches : point_le start x.new_range.end ≡ true = subst (λ (y : Change). point_le start y.new_range.end ≡ true) (sym c.index-changes-first.is) (c.first_reaching-first.ensures.reaches within x) in
    if_ok c.joint_in.result _ _ (λ joint facts. (
      spliced_in start deleted inserted (hunk_of x) (hunks_of (drop (n + 1) cs)),
      c.first_reaching-first.ensures.value deleted inserted ∙ (ap (λ (q : List Hunk). take n (hunks_of cs) ++ q)
          (starts_in (last_old_end origin (take n (hunks_of cs))) (last_new_end origin (take n (hunks_of cs))) start deleted inserted cs n x within c.index-changes-first.is reaches (sym c.starts_by.ensures ∙ c.if-starts_by.true))
          ∙ ap (λ (k : ℕ). take k (hunks_of cs) ++ spliced_in start deleted inserted (hunk_of x) (hunks_of (drop (n + 1) cs))) (sym facts.0)),
      subst (λ (y : Change). Joins (hunks_of cs) (spliced_in start deleted inserted (hunk_of y) (hunks_of (drop (n + 1) cs))) joint) (sym c.index-changes-first.is) (facts.1 x),
    )) (if_ok_both c.joint_in.result _ _ c.joint_in.ensures.first c.joint_in.ensures.joins)

pub returns-else-first-changes : goal.returns-else-first-changes
returns-else-first-changes c = let cs = c.args.changes.now in let n = c.first_reaching-first.result in let start = c.args.start in let deleted = c.args.deleted.now in let inserted = c.args.inserted.now in
    let a : Point = last_old_end origin (take n (hunks_of cs)) in let b : Point = last_new_end origin (take n (hunks_of cs)) in
    let whole : spliced_from a b start deleted inserted (hunks_of (drop n cs)) ≡ spliced_before a b start deleted inserted (hunks_of (drop n cs)) = elim c.else-first-changes.branch [
      | else-first-changes-via-then-first-changes+else-starts_by w ↦ let x = w.index-changes-first.result in let within : n < length cs = w.if-first-changes.true in
          starts_before a b start deleted inserted cs n x within w.index-changes-first.is
          (subst (λ (y : Change). point_le start y.new_range.end ≡ true) (sym w.index-changes-first.is) (c.first_reaching-first.ensures.reaches within x)) (sym w.starts_by.ensures ∙ w.if-starts_by.false)
      | else-first-changes-via-else-first-changes w ↦ starts_last a b start deleted inserted cs n w.if-first-changes.false
    ] in
    if_ok c.joint_before.result _ _ (λ joint facts. (
      spliced_before a b start deleted inserted (hunks_of (drop n cs)),
      c.first_reaching-first.ensures.value deleted inserted ∙ (ap (λ (q : List Hunk). take n (hunks_of cs) ++ q) whole
          ∙ ap (λ (k : ℕ). take k (hunks_of cs) ++ spliced_before a b start deleted inserted (hunks_of (drop n cs))) (sym facts.0)),
      facts.1,
    )) (if_ok_both c.joint_before.result _ _ c.joint_before.ensures.first c.joint_before.ensures.joins)
