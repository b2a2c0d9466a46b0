use Rattle.std.proofs.Common.{◌≡◌, ◌∙◌, List, map, sym, ap, subst}
use Rattle.points.specs.Point.{origin}
use Rattle.patch.specs.Hunk.{Hunk, hunks_of, inverted}
use Rattle.patch.specs.ChangeList.{IsPatch}
use Rattle.patch.proofs.ListLemmas.{inverted_list, inverted_ordered}
use Rattle.patch.proofs.ShownPieces.{inverse_of}
use Rattle.patch.proofs.patch.Patch.invert.Goals as goal

sides : (c : goal.In_ok-changes) → hunks_of c.in_ok-changes.changes.items ≡ map inverted c.args.self.now.changes
sides c = c.in_ok-changes.ensures ∙ ap (map inverted) c.as_slice.ensures.changes

pub invariant_of-result : goal.invariant_of-result
invariant_of-result c = let hs : List Hunk = c.args.self.now.changes in subst IsPatch (sym (sides c)) (inverted_list 0 origin origin hs c.as_slice.ensures.kept.0, inverted_ordered hs c.as_slice.ensures.kept.1)

pub returns-clause-back : goal.returns-clause-back
returns-clause-back c = inverse_of c.args.self.now.changes (hunks_of c.in_ok-changes.changes.items) (sides c) c.as_slice.ensures.kept
