use Rattle.std.proofs.Common.{◌++◌, List, map, slice_index_or, sym, ap, ◌∙◌, arith}
use Rattle.std.proofs.lemmas.List.{append-nil, take_all}
use Rattle.std.proofs.lemmas.Option.{slice_get-get_or}
use Rattle.chains.specs.declared.overlay.Cut.{Cut}
use Rattle.chains.specs.Moving.{moved_cut}
use Rattle.chains.proofs.StandParts.{blank}
use Rattle.chains.proofs.RestLemmas.{one_more_moved}
use Rattle.chains.proofs.moving.move_cuts.Goals as goal

pub loop-cut-init : goal.loop-cut-init
loop-cut-init c = sym (append-nil c.args.into.now.items)

pub moved-requires : goal.moved-requires
moved-requires c = c.requires c.loop-cut.cut-index (slice_index_or c.args.cuts.now c.loop-cut.cut-index blank) (slice_get-get_or c.args.cuts.now c.loop-cut.cut-index blank c.loop-cut-test.true)

pub loop-cut-preserved : goal.loop-cut-preserved
loop-cut-preserved c = one_more_moved c.args.by c.args.into.now.items c.loop-cut.into.items c.push.new.self.items c.args.cuts.now c.loop-cut.cut-index blank c.moved.result c.loop-cut-test.true c.loop-cut.invariant c.moved.ensures c.in_ok-push.ensures.items

pub returns : goal.returns
returns c = c.loop-cut.invariant ∙ ap (λ (cs : List Cut). c.args.into.now.items ++ map (moved_cut c.args.by) cs) (take_all c.loop-cut.cut-index c.args.cuts.now (omega (arith, c.loop-cut-test.false)))
