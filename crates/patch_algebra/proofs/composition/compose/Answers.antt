use Rattle.std.proofs.Common.{◌≡◌, ◌∙◌, map, refl, ap}
use Rattle.points.specs.Point.{origin}
use Rattle.patch.specs.Stretches.{parts_seen, laid}
use Rattle.patch_algebra.specs.Merging.{between, merged}
use Rattle.patch_algebra.proofs.MergeLemmas.{composed_laid, ok_composed, ok_in_turn, ok_within, err_composed}
use Rattle.patch_algebra.proofs.composition.compose.Goals as goal

made : (c : goal.After-drop-stretches) → parts_seen c.as_slice.result.now ≡ merged origin (map between c.args.first.now.changes) c.args.second.now.changes
made c = ap parts_seen c.as_slice.ensures.value ∙ c.in-Ok.ensures

pub returns-in-Err-clause-err : goal.returns-in-Err-clause-err
returns-in-Err-clause-err c = (laid (merged origin (map between c.args.first.now.changes) c.args.second.now.changes), composed_laid c.args.first.now.changes c.args.second.now.changes (merged origin (map between c.args.first.now.changes) c.args.second.now.changes) c.rules_are_kept.ensures c.rules_are_kept-2.ensures refl, tt)

pub returns-clause-made : goal.returns-clause-made
returns-clause-made c = ok_composed c.args.first.now.changes c.args.second.now.changes (parts_seen c.as_slice.result.now) c.rules_are_kept.ensures c.rules_are_kept-2.ensures (made c) c.from_stretches.result c.from_stretches.ensures.made

pub returns-clause-in_turn : goal.returns-clause-in_turn
returns-clause-in_turn c = ok_in_turn c.args.first.now.changes c.args.second.now.changes (parts_seen c.as_slice.result.now) c.rules_are_kept.ensures c.rules_are_kept-2.ensures (made c) c.from_stretches.result c.from_stretches.ensures.made

pub returns-clause-within : goal.returns-clause-within
returns-clause-within c = ok_within c.from_stretches.result (parts_seen c.as_slice.result.now) c.from_stretches.ensures.made

pub returns-clause-err : goal.returns-clause-err
returns-clause-err c = err_composed c.args.first.now.changes c.args.second.now.changes (parts_seen c.as_slice.result.now) c.rules_are_kept.ensures c.rules_are_kept-2.ensures (made c) c.from_stretches.result c.from_stretches.ensures.err
