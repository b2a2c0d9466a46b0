use Rattle.std.proofs.Common.{◌≡◌, ◌||◌, ◌+◌, List, Bool, false, refl, drop, map, ◌∙◌, sym, ap, subst, arith}
use Rattle.std.proofs.lemmas.List.{drop-map}
use Rattle.points.specs.Point.{traverse, traversal}
use Rattle.points.specs.Distance.{is_far}
use Rattle.patch.specs.Hunk.{Hunk, hunk_of, hunks_of}
use Rattle.patch.specs.Stretches.{any_far}
use Rattle.patch.specs.Spliced.{moved_hunk}
use Rattle.patch.specs.declared.change.Change.{Change}
use Rattle.patch.proofs.SpliceSteps.{near_drop, near_next, far_step}
use Rattle.patch.proofs.splice.any_moved_far.Goals as goal

pub loop-at-init : goal.loop-at-init
loop-at-init c = record {
  near = subst (λ (hs : List Hunk). any_far hs ≡ false) (drop-map hunk_of c.args.first c.args.changes.now) (near_drop c.args.first (hunks_of c.args.changes.now) c.requires.1);
  same = refl;
}

pub loop-at-preserved : goal.loop-at-preserved
loop-at-preserved c = let cs = c.args.changes.now in let at = c.loop-at.at in let x = c.index-changes-at.result in let is = c.index-changes-at.is in record {
  near = near_next cs at x (omega arith) is c.loop-at.invariant.near;
  same = sym (far_step cs at x (omega arith) is c.args.from c.args.to c.loop-at.invariant.near
      ∙ ap (λ (b : Bool). b || any_far (map (moved_hunk c.args.from c.args.to) (hunks_of (drop (at + 1) cs))))
      (ap (λ (y : Change). is_far (traverse c.args.to (traversal y.new_range.start c.args.from)) || is_far (traverse c.args.to (traversal y.new_range.end c.args.from))) is ∙ (sym c.range_far.ensures ∙ c.if-range_far.false)))
      ∙ c.loop-at.invariant.same;
}
