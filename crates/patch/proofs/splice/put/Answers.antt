use Rattle.std.proofs.Common.{◌≡◌, ◌+◌, ◌≤◌, List, length, drop, map, ap, sym, ◌∙◌, subst, arith}
use Rattle.std.specs.List.{All}
use Rattle.patch.specs.Hunk.{Hunk, hunks_of}
use Rattle.patch.specs.ChangeList.{IsOrdered}
use Rattle.patch.specs.Stretches.{any_far}
use Rattle.patch.specs.Spliced.{moved_hunk}
use Rattle.patch.specs.Joints.{joint_change}
use Rattle.patch.proofs.SpliceSteps.{any_far-append, all_left, all_right, or_parts, behind_joint, joint_within, put_whole}
use Rattle.patch.proofs.splice.put.Goals as goal

pub set_in-requires : goal.set_in-requires
set_in-requires c = (c.requires.0, c.requires.1, all_left IsOrdered _ _ c.requires.2)

pub move_behind-requires : goal.move_behind-requires
move_behind-requires c = let j = c.args.joint in let cs = c.args.changes.now.items in let items = c.set_in.new.changes.items in let n = j.first + c.joint_count.result in
    let hs : List Hunk = drop j.stop (hunks_of cs) in let moved : List Hunk = map (moved_hunk j.from j.new_end) hs in
    let within : j.first ≤ length cs = omega (arith, c.requires) in
    let behind : hunks_of (drop n items) ≡ hs = behind_joint items cs j.first n (joint_change j) hs c.in_ok-set_in.ensures.ok within (ap (λ k. j.first + k) c.joint_count.ensures) in (
      joint_within items cs j.first n (joint_change j) hs c.in_ok-set_in.ensures.ok within (ap (λ k. j.first + k) c.joint_count.ensures),
      subst (λ (xs : List Hunk). All IsOrdered (map (moved_hunk j.from j.new_end) xs)) (sym behind) (all_right IsOrdered (joint_change j) moved c.requires.2),
      ap (λ (xs : List Hunk). any_far (map (moved_hunk j.from j.new_end) xs)) behind
          ∙ (or_parts (any_far (joint_change j)) (any_far moved) (sym (any_far-append (joint_change j) moved) ∙ c.requires.3)).1,
    )

pub returns-clause-ok : goal.returns-clause-ok
returns-clause-ok c = let j = c.args.joint in put_whole c.set_in.new.changes.items c.move_behind.new.changes.items c.args.changes.now.items j.first (j.first + c.joint_count.result) (joint_change j) (drop j.stop (hunks_of c.args.changes.now.items))
    (moved_hunk j.from j.new_end) c.in_ok-set_in.ensures.ok (omega (arith, c.requires)) (ap (λ k. j.first + k) c.joint_count.ensures) c.move_behind.ensures
