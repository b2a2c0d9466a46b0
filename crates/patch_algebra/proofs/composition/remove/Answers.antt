use Rattle.std.proofs.Common.{◌∙◌, ◌+◌, ◌++◌, ℕ, List, get_or, drop, ap, arith}
use Rattle.patch.specs.Stretches.{parts_seen}
use Rattle.patch_algebra.specs.Merging.{betweens_seen, removal, taken_out}
use Rattle.patch_algebra.proofs.MergeSteps.{parts_more, rest_more, no_middle, read_at}
use Rattle.patch_algebra.proofs.composition.remove.Goals as goal

pub loop-kept-preserved : goal.loop-kept-preserved
loop-kept-preserved c = record {
  within = omega (arith, c.in-Some.ensures);
  parts = λ end. ap (λ (xs : List ℕ). parts_seen c.push-in-Some.new.self.items ++ (removal end (get_or c.args.middles.now c.loop-kept.stop no_middle).end xs (betweens_seen (drop (c.loop-kept.stop + 1) c.args.middles.now))).parts) c.split_at-in-Some.ensures.back
      ∙ parts_more c.args.middles.now c.loop-kept.stop (get_or c.args.middles.now c.loop-kept.stop no_middle) c.loop-kept.place c.loop-kept.units.now c.split_at.result.1.now c.in-Some.kept c.in-Some.ensures.0 (read_at c.args.middles.now c.loop-kept.stop c.in-Some.ensures.0)
      (c.in-Some.ensures.2 no_middle) c.split_at.ensures.back c.if-behind-middle.false end c.loop-kept.stretches.items c.push.new.self.items c.push-in-Some.new.self.items c.taken_out.result c.taken_out-in-Some.result _
      (c.taken_out.ensures ∙ ap taken_out c.split_at.ensures.front) c.taken_out-in-Some.ensures c.in_ok-push.ensures.items c.in_ok-push-2.ensures.items (c.loop-kept.invariant.parts end);
  rest = λ end. ap (λ (xs : List ℕ). (removal end (get_or c.args.middles.now c.loop-kept.stop no_middle).end xs (betweens_seen (drop (c.loop-kept.stop + 1) c.args.middles.now))).rest) c.split_at-in-Some.ensures.back
      ∙ rest_more c.args.middles.now c.loop-kept.stop (get_or c.args.middles.now c.loop-kept.stop no_middle) c.loop-kept.place c.loop-kept.units.now c.split_at.result.1.now c.in-Some.kept c.in-Some.ensures.0 (read_at c.args.middles.now c.loop-kept.stop c.in-Some.ensures.0)
      (c.in-Some.ensures.2 no_middle) c.split_at.ensures.back c.if-behind-middle.false end _ (c.loop-kept.invariant.rest end);
}
