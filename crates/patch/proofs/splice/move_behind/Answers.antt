use Rattle.std.proofs.Common.{◌≡◌, ◌<◌, ◌+◌, length, refl, ◌++◌, List, map, drop, ◌∙◌, sym, ap, arith}
use Rattle.std.proofs.lemmas.List.{take-map, length-set, drop-set-lt, get_or_read}
use Rattle.points.specs.declared.point.Point.{Point}
use Rattle.points.specs.Point.{traverse, traversal}
use Rattle.patch.specs.declared.change.Change.{Change}
use Rattle.patch.proofs.PatchPieces.{hunk_with}
use Rattle.patch.specs.Hunk.{Hunk, hunk_of, hunks_of}
use Rattle.patch.specs.Spliced.{moved_hunk}
use Rattle.patch.proofs.SpliceSteps.{behind_next, may_move, ordered_next, near_moved, moved_next}
use Rattle.patch.proofs.splice.move_behind.Goals as goal

pub loop-at-init : goal.loop-at-init
loop-at-init c = record {
  size = refl;
  behind = refl;
  ordered = c.requires.1;
  near = c.requires.2;
  whole = ap (λ (hs : List Hunk). hs ++ map (moved_hunk c.args.from c.args.to) (hunks_of (drop c.args.first c.args.changes.now.items))) (sym (take-map hunk_of c.args.first c.args.changes.now.items));
}

pub moved_range-requires : goal.moved_range-requires
moved_range-requires c = may_move c.args.changes.now.items c.loop-at.changes.items c.loop-at.at c.index.result.now c.args.from c.args.to (omega (arith, c.loop-at.invariant.size)) c.index.ensures c.loop-at.invariant.behind c.loop-at.invariant.ordered c.loop-at.invariant.near

pub loop-at-preserved : goal.loop-at-preserved
loop-at-preserved c = let cs0 = c.args.changes.now.items in let cs = c.loop-at.changes.items in let at = c.loop-at.at in let x = c.index_mut.result.now in let from = c.args.from in let to = c.args.to in let i = c.loop-at.invariant in
    let within : at < length cs = omega (arith, c.loop-at.invariant.size) in let is = c.index_mut.ensures.value in
    let same : c.index.result.now ≡ x = get_or_read cs at c.index.result.now within c.index.ensures x ∙ sym is in
    let m : Change = record { old_range = x.old_range; new_range = c.moved_range.result; old_text = x.old_text; new_text = x.new_text } in
    let m_is : hunk_of m ≡ moved_hunk from to (hunk_of x) =
    ap (λ (p : Point). hunk_with x.old_range.start x.old_range.end p c.moved_range.result.end x.old_text x.new_text) (c.moved_range.ensures.start ∙ ap (λ (y : Change). traverse to (traversal y.new_range.start from)) same)
    ∙ ap (λ (p : Point). hunk_with x.old_range.start x.old_range.end (traverse to (traversal x.new_range.start from)) p x.old_text x.new_text) (c.moved_range.ensures.end ∙ ap (λ (y : Change). traverse to (traversal y.new_range.end from)) same) in record {
      size = length-set cs at m ∙ i.size;
      behind = drop-set-lt (at + 1) cs at m (omega arith) ∙ behind_next cs0 cs at x from to within is i.behind;
      ordered = ordered_next cs0 cs at x from to within is i.behind i.ordered;
      near = near_moved cs0 cs at x from to within is i.behind i.near;
      whole = moved_next cs0 cs at x from to within is i.behind m m_is ∙ i.whole;
    }
